-- The first of a list, and the list without it.
use Rattle.std.specs.Prelude.{◌≡◌, List, [], ◌∷◌, Some, None, Option}

abbrev pub rest : {X : Type 0} → List X → List X
rest [] = []
rest (x ∷ xs) = xs

-- a question about a list tells its first, or none exactly when it is empty
abbrev pub Leads : {X : Type 0} → List X → Option X → Type 0
Leads xs None = xs ≡ []
Leads xs (Some x) = xs ≡ x ∷ rest xs

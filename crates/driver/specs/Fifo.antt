-- A list of items with a fixed capacity, and what its calls do.
use Rattle.std.specs.Prelude.{◌≡◌, ℕ, ◌<◌, ◌≤◌, List, [], ◌∷◌, ◌++◌, length, Some, None, Ok, Err, Option, Result}
use Rattle.item.specs.declared.Item.{Item}
use Rattle.item.specs.declared.Refusal.{Refusal}
use Rattle.item.specs.Numbers.{number}

-- one more at the end; refused 8 exactly when it is full, and then nothing changes
abbrev pub Puts : {Q : Type 0} → (Q → List Item) → (Q → ℕ) → Q → Item → Result (Unit {0}) Refusal → Q → Type 0
Puts items room a x (Ok _) b = (length (items a) < room a) × (items b ≡ items a ++ (x ∷ [])) × (room b ≡ room a)
Puts items room a x (Err e) b = (number e ≡ 8) × (room a ≤ length (items a)) × (b ≡ a)

-- the first leaves, or none exactly when it is empty
abbrev pub Takes : {Q : Type 0} → (Q → List Item) → (Q → ℕ) → Q → Option Item → Q → Type 0
Takes items room a None b = (items a ≡ []) × (b ≡ a)
Takes items room a (Some x) b = (items a ≡ x ∷ items b) × (room b ≡ room a)

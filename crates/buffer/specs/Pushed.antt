-- What a push does to the bytes held: one more behind the others; refused 8 exactly where there are n, and then nothing changes.
use Rattle.std.specs.Prelude.{◌≡◌, ℕ, ◌<◌, List, [], ◌∷◌, ◌++◌, length, Ok, Err, Result}
use Rattle.item.specs.declared.Refusal.{Refusal}
use Rattle.item.specs.Numbers.{number}

abbrev pub Pushes : ℕ → List ℕ → ℕ → Result (Unit {0}) Refusal → List ℕ → Type 0
Pushes n bs b (Ok _) cs = (length bs < n) × (cs ≡ bs ++ (b ∷ []))
Pushes n bs b (Err e) cs = (number e ≡ 8) × (length bs ≡ n) × (cs ≡ bs)

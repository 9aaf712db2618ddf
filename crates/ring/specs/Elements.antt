-- What a ring holds, first to last, and what its calls do to that.
use Rattle.std.specs.Prelude.{◌≡◌, ℕ, ◌<◌, ◌≤◌, List, [], ◌∷◌, ◌++◌, length, Ok, Err, Result, cond}
use Rattle.item.specs.declared.Refusal.{Refusal}
use Rattle.item.specs.Numbers.{number}
use Rattle.ring.specs.declared.Ring.{Ring}
use Rattle.ring.specs.Span.{spanned}

-- how many places there are: all the memory, once laid out
abbrev pub capacity_of : {X : Type 0} → Ring X → ℕ
capacity_of r = cond r.laid (length r.cells.now) 0

-- what lies in the span, once laid out
abbrev pub elements : {X : Type 0} → Ring X → List X
elements r = cond r.laid (spanned r.span r.cells.now) []

-- as many places as before, in the memory that was handed over
pub record SameMemory {X : Type 0} (a b : Ring X) : Type 0 where
  pub long : length b.cells.now ≡ length a.cells.now
  pub same : b.cells.ghost_name ≡ a.cells.ghost_name

-- memory for 1 to 1,024 places
abbrev pub Fits : {X : Type 0} → Ring X → Type 0
Fits r = (0 < length r.cells.now) × (length r.cells.now ≤ 1024)

-- laid out: as many places as there is memory for, which is 1 to 1,024, and none taken; refused 12 exactly otherwise
abbrev pub LaysOut : {X : Type 0} → Ring X → Result (Unit {0}) Refusal → Ring X → Type 0
LaysOut a (Ok _) b = (0 < length a.cells.now) × (length a.cells.now ≤ 1024) × (capacity_of b ≡ length a.cells.now) × (elements b ≡ []) × (b.cells.now ≡ a.cells.now)
LaysOut a (Err e) b = (number e ≡ 12) × (0 < length a.cells.now → length a.cells.now ≤ 1024 → ⊥) × (b ≡ a)

-- one more at the end; refused 8 exactly when every place is taken
abbrev pub Puts : {X : Type 0} → Ring X → X → Result (Unit {0}) Refusal → Ring X → Type 0
Puts a x (Ok _) b = (length (elements a) < capacity_of a) × (elements b ≡ elements a ++ (x ∷ [])) × (capacity_of b ≡ capacity_of a)
Puts a x (Err e) b = (number e ≡ 8) × (length (elements a) ≡ capacity_of a) × (b ≡ a)

-- the first leaves; refused 9 exactly when there is none
abbrev pub Takes : {X : Type 0} → Ring X → Result X Refusal → Ring X → Type 0
Takes a (Ok x) b = (elements a ≡ x ∷ elements b) × (capacity_of b ≡ capacity_of a)
Takes a (Err e) b = (number e ≡ 9) × (elements a ≡ []) × (b ≡ a)

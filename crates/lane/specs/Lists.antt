-- Whole lists through a lane.
use Rattle.std.specs.Prelude.{◌≡◌, ℕ, ◌≤◌, List, [], ◌∷◌, ◌++◌, map, length}
use Rattle.item.specs.declared.Item.{Item}
use Rattle.item.specs.declared.Item.TheVariants.{Byte, End}
use Rattle.lane.specs.Rule.{Held, Rule}

-- a list stepped from a state: the ready lists, joined
abbrev pub stepped : {S : Type 0} → Rule S → S → List Item → List Item
stepped rule s [] = []
stepped rule s (x ∷ xs) = (rule.does s x).ready ++ stepped rule (rule.does s x).state xs

-- the state after it
abbrev pub after : {S : Type 0} → Rule S → S → List Item → S
after rule s [] = s
after rule s (x ∷ xs) = after rule (rule.does s x).state xs

-- a list, behind it what is ready at a lane, and behind that what it makes of another list
abbrev pub onto : {S : Type 0} → List Item → Rule S → Held S → List Item → List Item
onto out rule h xs = (out ++ h.ready) ++ stepped rule h.state xs

-- what comes out of a lane for a list
abbrev pub emits : {S : Type 0} → Rule S → Held S → List Item → List Item
emits rule h xs = onto [] rule h xs

-- a list stepped through a lane, from its first state
abbrev pub through : {S : Type 0} → Rule S → List Item → List Item
through rule xs = stepped rule rule.first xs

-- a record: its bytes, then END
abbrev pub record_of : List ℕ → List Item
record_of bs = map Byte bs ++ (End ∷ [])

-- what one lane makes of a record of up to `most` bytes, the other turns back into that record
abbrev pub Undoes : {S T : Type 0} → ℕ → Rule S → Rule T → Type 0
Undoes most up down = (bs : List ℕ) → length bs ≤ most → through up (through down (record_of bs)) ≡ record_of bs

-- What a lane means: a state and a list of ready items, and a rule for what each item does.
use Rattle.std.specs.Prelude.{◌≡◌, List, [], ◌∷◌, Some, None, Ok, Err, Option, Result, ◌≢◌}
use Rattle.item.specs.declared.Item.{Item}
use Rattle.item.specs.declared.Refusal.{Refusal}
use Rattle.item.specs.Numbers.{number}

-- what a lane holds
pub record Held (S : Type 0) : Type 0 where
  pub state : S
  pub ready : List Item

abbrev pub holding : {S : Type 0} → S → List Item → Held S
holding s xs = record { state = s; ready = xs }

-- the first state, and what an item does in a state
pub record Rule (S : Type 0) : Type 0 where
  pub first : S
  pub does : S → Item → Held S

-- just started: the first state, nothing ready
abbrev pub started : {S : Type 0} → Rule S → Held S
started rule = holding rule.first []

-- the rule of a lane with one state: what is ready is what the item gives
abbrev pub each : (Item → List Item) → Rule (Unit {0})
each gives = record { first = tt; does = λ s x. holding tt (gives x) }

-- a step sets state and ready list from the state and the item alone;
-- it is refused 8 exactly when items are ready, and then changes nothing
abbrev pub Steps : {S L : Type 0} → Rule S → (L → Held S) → L → Item → Result (Unit {0}) Refusal → L → Type 0
Steps rule holds a x (Ok _) b = ((holds a).ready ≡ []) × (holds b ≡ rule.does (holds a).state x)
Steps rule holds a x (Err e) b = (number e ≡ 8) × ((holds a).ready ≢ []) × (b ≡ a)

-- a take gives the first ready item, which leaves the list, and changes nothing else;
-- it gives none exactly when the list is empty
abbrev pub Takes : {S L : Type 0} → (L → Held S) → L → Option Item → L → Type 0
Takes holds a None b = ((holds a).ready ≡ []) × (b ≡ a)
Takes holds a (Some x) b = holds a ≡ holding (holds b).state (x ∷ (holds b).ready)

-- What a lane that also replies means: each step sets two lists, one that goes on and one that goes back.
use Rattle.std.specs.Prelude.{◌≡◌, List, [], ◌∷◌, Some, None, Ok, Err, Option, Result, ◌≢◌}
use Rattle.item.specs.declared.Item.{Item}
use Rattle.item.specs.declared.Refusal.{Refusal}
use Rattle.item.specs.Numbers.{number}
use Rattle.lane.specs.Rule.{Held, holding, Rule}

pub record Both (S : Type 0) : Type 0 where
  pub state : S
  pub ready : List Item
  pub reply : List Item

abbrev pub both : {S : Type 0} → S → List Item → List Item → Both S
both s xs ys = record { state = s; ready = xs; reply = ys }

pub record ReplyRule (S : Type 0) : Type 0 where
  pub first : S
  pub does : S → Item → Both S

abbrev pub begun : {S : Type 0} → ReplyRule S → Both S
begun rule = both rule.first [] []

-- the two lanes in it: the one whose ready list goes on, and the one whose ready list goes back
abbrev pub ahead : {S : Type 0} → Both S → Held S
ahead h = holding h.state h.ready

abbrev pub behind : {S : Type 0} → Both S → Held S
behind h = holding h.state h.reply

abbrev pub onward : {S : Type 0} → ReplyRule S → Rule S
onward rule = record { first = rule.first; does = λ s x. ahead (rule.does s x) }

abbrev pub back : {S : Type 0} → ReplyRule S → Rule S
back rule = record { first = rule.first; does = λ s x. behind (rule.does s x) }

-- a rule with no replies
abbrev pub silent : {S : Type 0} → Rule S → ReplyRule S
silent rule = record { first = rule.first; does = λ s x. both (rule.does s x).state (rule.does s x).ready [] }

-- a step is refused 8 exactly when either list has an item, and then changes nothing
abbrev pub Replies : {S L : Type 0} → ReplyRule S → (L → Both S) → L → Item → Result (Unit {0}) Refusal → L → Type 0
Replies rule holds a x (Ok _) b = ((holds a).ready ≡ []) × ((holds a).reply ≡ []) × (holds b ≡ rule.does (holds a).state x)
Replies rule holds a x (Err e) b = (number e ≡ 8) × ((holds a).ready ≡ [] → (holds a).reply ≢ []) × (b ≡ a)

-- each list has its take
abbrev pub TakesReady : {S L : Type 0} → (L → Both S) → L → Option Item → L → Type 0
TakesReady holds a None b = ((holds a).ready ≡ []) × (b ≡ a)
TakesReady holds a (Some x) b = holds a ≡ both (holds b).state (x ∷ (holds b).ready) (holds b).reply

abbrev pub TakesReply : {S L : Type 0} → (L → Both S) → L → Option Item → L → Type 0
TakesReply holds a None b = ((holds a).reply ≡ []) × (b ≡ a)
TakesReply holds a (Some x) b = holds a ≡ both (holds b).state (holds b).ready (x ∷ (holds b).reply)

-- What a line discipline means: an up lane that replies (the reply is the echo), and a down lane.
use Rattle.std.specs.Prelude.{◌≡◌, List, [], ◌∷◌, Some, None, Ok, Err, Option, Result, ◌≢◌}
use Rattle.item.specs.declared.Item.{Item}
use Rattle.item.specs.declared.Band.TheVariants.{Records, Echo}
use Rattle.item.specs.declared.Way.{Way}
use Rattle.item.specs.declared.Way.TheVariants.{Up, Down}
use Rattle.item.specs.declared.Refusal.{Refusal}
use Rattle.item.specs.Numbers.{number}
use Rattle.item.specs.First.{rest}
use Rattle.lane.specs.Rule.{Held, Rule, started}
use Rattle.lane.specs.Reply.{Both, both, ReplyRule, begun}
use Rattle.level.specs.Module.{shorter}

pub record TopRules : Type 1 where
  pub UpState : Type 0
  pub DownState : Type 0
  pub up : ReplyRule UpState
  pub down : Rule DownState

-- what the two lanes hold
pub record Top (r : TopRules) : Type 0 where
  pub up : Both r.UpState
  pub down : Held r.DownState

abbrev pub top_started : (r : TopRules) → Top r
top_started r = record { up = begun r.up; down = started r.down }

-- the three lists, by the way that their items go
abbrev pub top_ready : {r : TopRules} → Way → Top r → List Item
top_ready Up v = v.up.ready
top_ready (Down Records) v = v.down.ready
top_ready (Down Echo) v = v.up.reply

abbrev pub top_take : {r : TopRules} → Way → Top r → Top r
top_take Up v = record { up = both v.up.state (rest v.up.ready) v.up.reply; down = v.down }
top_take (Down Records) v = record { up = v.up; down = shorter v.down }
top_take (Down Echo) v = record { up = both v.up.state v.up.ready (rest v.up.reply); down = v.down }

-- an up step is refused 8 exactly when the up list or the echo list has an item, and then changes nothing
abbrev pub StepsUp : {D : Type 0} (r : TopRules) → (D → Top r) → D → Item → Result (Unit {0}) Refusal → D → Type 0
StepsUp r top a x (Ok _) b = ((top a).up.ready ≡ []) × ((top a).up.reply ≡ []) × (top b ≡ record { up = r.up.does (top a).up.state x; down = (top a).down })
StepsUp r top a x (Err e) b = (number e ≡ 8) × ((top a).up.ready ≡ [] → (top a).up.reply ≢ []) × (b ≡ a)

-- a down step likewise by its one list
abbrev pub StepsDown : {D : Type 0} (r : TopRules) → (D → Top r) → D → Item → Result (Unit {0}) Refusal → D → Type 0
StepsDown r top a x (Ok _) b = ((top a).down.ready ≡ []) × (top b ≡ record { up = (top a).up; down = r.down.does (top a).down.state x })
StepsDown r top a x (Err e) b = (number e ≡ 8) × ((top a).down.ready ≢ []) × (b ≡ a)

-- a take gives the first item of the list that goes that way, or none exactly when there is none
abbrev pub TakesWay : {D : Type 0} {r : TopRules} → (D → Top r) → Way → D → Option Item → D → Type 0
TakesWay top w a None b = (top_ready w (top a) ≡ []) × (b ≡ a)
TakesWay top w a (Some x) b = (top_ready w (top a) ≡ x ∷ top_ready w (top b)) × (top b ≡ top_take w (top a))

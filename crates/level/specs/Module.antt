-- What a module means: three lanes, each with a rule of its own.
use Rattle.std.specs.Prelude.{◌≡◌, List, [], ◌∷◌, Some, None, Ok, Err, Option, Result, ◌≢◌}
use Rattle.item.specs.declared.Item.{Item}
use Rattle.item.specs.declared.Band.TheVariants.{Records, Echo}
use Rattle.item.specs.declared.Way.{Way}
use Rattle.item.specs.declared.Way.TheVariants.{Up, Down}
use Rattle.item.specs.declared.Refusal.{Refusal}
use Rattle.item.specs.Numbers.{number}
use Rattle.item.specs.First.{rest}
use Rattle.lane.specs.Rule.{Held, holding, Rule, started}

-- the lanes' types of state, and their rules
pub record Rules : Type 1 where
  pub UpState : Type 0
  pub DownState : Type 0
  pub EchoState : Type 0
  pub up : Rule UpState
  pub down : Rule DownState
  pub echo : Rule EchoState

-- what the lanes hold
pub record Level (r : Rules) : Type 0 where
  pub up : Held r.UpState
  pub down : Held r.DownState
  pub echo : Held r.EchoState

-- every lane just started
abbrev pub level_started : (r : Rules) → Level r
level_started r = record { up = started r.up; down = started r.down; echo = started r.echo }

-- the ready list of a lane
abbrev pub ready : {r : Rules} → Way → Level r → List Item
ready Up v = v.up.ready
ready (Down Records) v = v.down.ready
ready (Down Echo) v = v.echo.ready

-- one lane stepped, or relieved of its first ready item; the others as they were
abbrev pub step_lane : (r : Rules) → Way → Item → Level r → Level r
step_lane r Up x v = record { up = r.up.does v.up.state x; down = v.down; echo = v.echo }
step_lane r (Down Records) x v = record { up = v.up; down = r.down.does v.down.state x; echo = v.echo }
step_lane r (Down Echo) x v = record { up = v.up; down = v.down; echo = r.echo.does v.echo.state x }

abbrev pub shorter : {S : Type 0} → Held S → Held S
shorter h = holding h.state (rest h.ready)

abbrev pub take_lane : {r : Rules} → Way → Level r → Level r
take_lane Up v = record { up = shorter v.up; down = v.down; echo = v.echo }
take_lane (Down Records) v = record { up = v.up; down = shorter v.down; echo = v.echo }
take_lane (Down Echo) v = record { up = v.up; down = v.down; echo = shorter v.echo }

-- a step is refused 8 exactly when its lane has ready items, and then changes nothing
abbrev pub StepsAt : {M : Type 0} (r : Rules) → (M → Level r) → Way → M → Item → Result (Unit {0}) Refusal → M → Type 0
StepsAt r level w a x (Ok _) b = (ready w (level a) ≡ []) × (level b ≡ step_lane r w x (level a))
StepsAt r level w a x (Err e) b = (number e ≡ 8) × (ready w (level a) ≢ []) × (b ≡ a)

-- a take gives the lane's first ready item, or none exactly when there is none
abbrev pub TakesAt : {M : Type 0} {r : Rules} → (M → Level r) → Way → M → Option Item → M → Type 0
TakesAt level w a None b = (ready w (level a) ≡ []) × (b ≡ a)
TakesAt level w a (Some x) b = (ready w (level a) ≡ x ∷ ready w (level b)) × (level b ≡ take_lane w (level a))

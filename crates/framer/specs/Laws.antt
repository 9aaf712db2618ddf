-- What is proved of the framer's rules together.
use Rattle.lane.specs.Lists.{Undoes}
use Rattle.framer.specs.Frame.{down_rule, echo_rule, up_rule}

-- what is sent down for a record of up to 1,024 bytes, the other side turns back into that record
abbrev pub RoundTrip : Type 0
RoundTrip = Undoes 1024 up_rule down_rule

-- and so on both lanes that run down
pub record RoundTrips : Type 0 where
  pub records : RoundTrip
  pub echo : Undoes 1024 up_rule echo_rule

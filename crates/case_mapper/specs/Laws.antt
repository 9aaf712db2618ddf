-- What is proved of the mapper's rules together: a record of any length comes back.
use Rattle.std.specs.Prelude.{ℕ}
use Rattle.lane.specs.Lists.{Undoes}
use Rattle.case_mapper.specs.Case.{up_rule, down_rule, echo_rule}

pub record RoundTrips : Type 0 where
  pub records : (most : ℕ) → Undoes most up_rule down_rule
  pub echo : (most : ℕ) → Undoes most up_rule echo_rule

-- What the lanes hold.
use Rattle.std.specs.Prelude.{ℕ, List}
use Rattle.lane.specs.Few.{items}
use Rattle.lane.specs.Rule.{Held, holding}
use Rattle.lane.specs.declared.machine.MachineLane.{MachineLane}
use Rattle.lane.specs.Reply.{Both, both}
use Rattle.disciplines.specs.declared.canonical.CanonicalDown.{CanonicalDown}
use Rattle.disciplines.specs.declared.canonical.CanonicalUp.{CanonicalUp}

-- the line held, what goes on, and the echo
abbrev pub up_held : CanonicalUp → Both (List ℕ)
up_held c = both c.line.held c.line.ready (items c.echo)

-- the down lane has no state
abbrev pub down_held : MachineLane CanonicalDown → Held (Unit {0})
down_held d = holding tt (items d.ready)

-- What the framer's structs hold.
use Rattle.std.specs.Prelude.{ℕ, List, Option}
use Rattle.lane.specs.Few.{items}
use Rattle.lane.specs.Rule.{Held, holding}
use Rattle.lane.specs.declared.machine.MachineLane.{MachineLane}
use Rattle.framer.specs.declared.down.FrameDown.{FrameDown}
use Rattle.framer.specs.declared.up.At.{At}
use Rattle.framer.specs.declared.up.At.TheVariants.{Hunting, Inside, Escaped}
use Rattle.framer.specs.declared.up.FrameUp.{FrameUp}
use Rattle.framer.specs.Frame.{Place, hunting, body, escaped}

abbrev pub down_held : MachineLane FrameDown → Held (Option ℕ)
down_held l = holding l.machine.sum (items l.ready)

abbrev pub place : At → List ℕ → Place
place Hunting bs = hunting
place Inside bs = body bs
place Escaped bs = escaped bs

abbrev pub up_held : FrameUp → Held Place
up_held l = holding (place l.at l.body.held) l.body.ready

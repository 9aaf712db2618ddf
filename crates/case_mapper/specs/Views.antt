-- What the mapper's lanes hold.
use Rattle.std.specs.Prelude.{Bool}
use Rattle.lane.specs.Few.{items}
use Rattle.lane.specs.Rule.{Held, holding}
use Rattle.lane.specs.declared.machine.MachineLane.{MachineLane}
use Rattle.case_mapper.specs.declared.down.CaseDown.{CaseDown}
use Rattle.case_mapper.specs.declared.up.CaseUp.{CaseUp}

abbrev pub down_held : MachineLane CaseDown → Held (Unit {0})
down_held l = holding tt (items l.ready)

abbrev pub up_held : MachineLane CaseUp → Held Bool
up_held l = holding l.machine.held (items l.ready)

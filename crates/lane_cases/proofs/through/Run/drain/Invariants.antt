use Rattle.std.proofs.Common.{length}
use Rattle.lane_cases.proofs.through.Run.drain.Given as goal

abbrev pub decreases-loop-item : goal.decreases-loop-item
decreases-loop-item g l = length (g.S.Steps.waits l.way l.self.lanes)

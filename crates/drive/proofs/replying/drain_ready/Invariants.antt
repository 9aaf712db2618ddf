use Rattle.std.proofs.Common.{◌≡◌, ◌++◌, length, vec_items}
use Rattle.drive.proofs.replying.drain_ready.Given as goal

abbrev pub invariant-loop-x : goal.invariant-loop-x
invariant-loop-x g l =
    (vec_items l.out ++ (g.L.ReplyLane.holds l.lane).ready ≡ vec_items l.initial.out ++ (g.L.ReplyLane.holds l.initial.lane).ready)
    × ((g.L.ReplyLane.holds l.lane).state ≡ (g.L.ReplyLane.holds l.initial.lane).state)
    × ((g.L.ReplyLane.holds l.lane).reply ≡ (g.L.ReplyLane.holds l.initial.lane).reply)

abbrev pub decreases-loop-x : goal.decreases-loop-x
decreases-loop-x g l = length (g.L.ReplyLane.holds l.lane).ready

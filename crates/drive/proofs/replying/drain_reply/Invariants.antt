use Rattle.std.proofs.Common.{◌≡◌, ◌++◌, length, vec_items}
use Rattle.drive.proofs.replying.drain_reply.Given as goal

abbrev pub invariant-loop-x : goal.invariant-loop-x
invariant-loop-x g l =
    (vec_items l.replies ++ (g.L.ReplyLane.holds l.lane).reply ≡ vec_items l.initial.replies ++ (g.L.ReplyLane.holds l.initial.lane).reply)
    × ((g.L.ReplyLane.holds l.lane).state ≡ (g.L.ReplyLane.holds l.initial.lane).state)
    × ((g.L.ReplyLane.holds l.lane).ready ≡ (g.L.ReplyLane.holds l.initial.lane).ready)

abbrev pub decreases-loop-x : goal.decreases-loop-x
decreases-loop-x g l = length (g.L.ReplyLane.holds l.lane).reply

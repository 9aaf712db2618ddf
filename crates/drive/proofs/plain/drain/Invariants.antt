use Rattle.std.proofs.Common.{◌≡◌, ◌++◌, length, vec_items}
use Rattle.drive.proofs.plain.drain.Given as goal

abbrev pub invariant-loop-x : goal.invariant-loop-x
invariant-loop-x g l =
    (vec_items l.out ++ (g.L.Lane.holds l.lane).ready ≡ vec_items l.initial.out ++ (g.L.Lane.holds l.initial.lane).ready)
    × ((g.L.Lane.holds l.lane).state ≡ (g.L.Lane.holds l.initial.lane).state)

abbrev pub decreases-loop-x : goal.decreases-loop-x
decreases-loop-x g l = length (g.L.Lane.holds l.lane).ready

use Rattle.std.proofs.Common.{◌+◌, length, vec_items}
use Rattle.wire.proofs.Going.{Gone}
use Rattle.wire.proofs.send_all.Given as goal

abbrev pub invariant-loop-sent : goal.invariant-loop-sent
invariant-loop-sent g l = Gone (g.D.Driver.line l.initial.driver) (vec_items l.initial.out) (vec_items l.out) (g.D.Driver.line l.driver)

abbrev pub decreases-loop-sent : goal.decreases-loop-sent
decreases-loop-sent g l = length (g.D.Driver.line l.driver).records + length (g.D.Driver.line l.driver).echo

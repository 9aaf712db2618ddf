use Rattle.std.proofs.Common.{◌≡◌, ◌++◌, length, vec_items}
use Rattle.driver.specs.Line.{with_waiting}
use Rattle.wire.proofs.fetch_all.Given as goal

abbrev pub invariant-loop-x : goal.invariant-loop-x
invariant-loop-x g l =
    (vec_items l.out ++ (g.D.Driver.line l.driver).waiting ≡ vec_items l.initial.out ++ (g.D.Driver.line l.initial.driver).waiting)
    × (g.D.Driver.line l.driver ≡ with_waiting (g.D.Driver.line l.initial.driver) (g.D.Driver.line l.driver).waiting)

abbrev pub decreases-loop-x : goal.decreases-loop-x
decreases-loop-x g l = length (g.D.Driver.line l.driver).waiting

use Rattle.std.proofs.Common.{◌≡◌, [], ◌++◌, take, vec_items}
use Rattle.lane.specs.Rule.{holding}
use Rattle.lane.specs.Lists.{stepped, after}
use Rattle.drive.proofs.plain.pass_each.Given as goal

abbrev pub invariant-loop-x : goal.invariant-loop-x
invariant-loop-x g l =
    (vec_items l.out ≡ vec_items l.initial.out ++ stepped g.L.Lane.rule (g.L.Lane.holds l.initial.lane).state (take l.x-index l.given))
    × (g.L.Lane.holds l.lane ≡ holding (after g.L.Lane.rule (g.L.Lane.holds l.initial.lane).state (take l.x-index l.given)) [])

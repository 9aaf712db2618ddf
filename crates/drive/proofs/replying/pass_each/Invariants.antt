use Rattle.std.proofs.Common.{◌≡◌, [], ◌++◌, take, vec_items}
use Rattle.lane.specs.Reply.{both, onward, back}
use Rattle.lane.specs.Lists.{stepped, after}
use Rattle.drive.proofs.replying.pass_each.Given as goal

abbrev pub invariant-loop-x : goal.invariant-loop-x
invariant-loop-x g l =
    (vec_items l.out ≡ vec_items l.initial.out ++ stepped (onward g.L.ReplyLane.rule) (g.L.ReplyLane.holds l.initial.lane).state (take l.x-index l.given))
    × (vec_items l.replies ≡ vec_items l.initial.replies ++ stepped (back g.L.ReplyLane.rule) (g.L.ReplyLane.holds l.initial.lane).state (take l.x-index l.given))
    × (g.L.ReplyLane.holds l.lane ≡ both (after (onward g.L.ReplyLane.rule) (g.L.ReplyLane.holds l.initial.lane).state (take l.x-index l.given)) [] [])

use Rattle.std.proofs.Common.{[], take, ap, ◌∙◌}
use Rattle.item.specs.declared.Item.TheVariants.{Byte}
use Rattle.lane.specs.Reply.{both, onward, back}
use Rattle.drive.proofs.Turns.{turn_gives, turn_after, same_states}
use Rattle.drive.proofs.replying.pass_each.Goals as goal

pub loop-x-preserved : goal.loop-x-preserved
loop-x-preserved g c =
    let rule = g.L.ReplyLane.rule in
    let xs = c.args.given.now in
    let i = c.loop-x.x-index in
    let one = c.in_ok-pass_one.ensures in
    let now = c.loop-x.invariant in
    let state = ap (λ h. h.state) now.2 in (
      turn_gives (onward rule) _ _ xs i (Byte 0) _ _ _ _ c.loop-x-test.true now.0 (ap (λ h. h.ready) now.2) state one.gives,
      turn_gives (back rule) _ _ xs i (Byte 0) _ _ _ _ c.loop-x-test.true now.1 (ap (λ h. h.reply) now.2) (state ∙ same_states rule (g.L.ReplyLane.holds c.args.lane.now).state (take i xs)) one.replies,
      one.leaves ∙ ap (λ s. both s [] []) (turn_after (onward rule) _ _ xs i (Byte 0) c.loop-x-test.true state),
    )

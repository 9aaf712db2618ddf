use Rattle.std.proofs.Common.{[], ap, ◌∙◌}
use Rattle.item.specs.declared.Item.TheVariants.{Byte}
use Rattle.lane.specs.Rule.{holding}
use Rattle.drive.proofs.Turns.{turn_gives, turn_after}
use Rattle.drive.proofs.plain.pass_each.Goals as goal

pub loop-x-preserved : goal.loop-x-preserved
loop-x-preserved g c =
    let rule = g.L.Lane.rule in
    let xs = c.args.given.now in
    let i = c.loop-x.x-index in
    let one = c.in_ok-pass_one.ensures in
    let now = c.loop-x.invariant in
    let state = ap (λ h. h.state) now.1 in (
      turn_gives rule _ _ xs i (Byte 0) _ _ _ _ c.loop-x-test.true now.0 (ap (λ h. h.ready) now.1) state one.gives,
      one.leaves ∙ ap (λ s. holding s []) (turn_after rule _ _ xs i (Byte 0) c.loop-x-test.true state),
    )

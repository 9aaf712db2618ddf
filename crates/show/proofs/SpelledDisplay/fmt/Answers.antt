use Rattle.std.proofs.Common.{rules}
use Rattle.std.proofs.Output.{has_written_append, has_written_of_eq}
use Rattle.item.specs.declared.Item.TheVariants.{Byte}
use Rattle.show.proofs.Spelling.{spelled_more}
use Rattle.show.proofs.SpelledDisplay.fmt.Goals as goal

pub loop-item-preserved : goal.loop-item-preserved
loop-item-preserved g c plain =
    has_written_of_eq _ _ _ _ _ (spelled_more g.S.DisplayStyle.writes c.args.self.now.items.now c.loop-item.item-index (Byte 0) c.loop-item-test.true)
    (has_written_append _ _ _ _ _ _ (c.loop-item.invariant plain) (search rules))

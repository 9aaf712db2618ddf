use Rattle.std.proofs.Common.{length}
use Rattle.line_terminal.proofs.terminal.Terminal.type_items.Given as goal

abbrev pub decreases-loop-rest : goal.decreases-loop-rest
decreases-loop-rest g l = length l.rest

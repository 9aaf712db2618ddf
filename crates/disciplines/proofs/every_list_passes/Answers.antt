use Rattle.disciplines.proofs.Bounds.{raw_passes}
use Rattle.disciplines.proofs.every_list_passes.Goals as goal

pub returns : goal.returns
returns c = record { passes = raw_passes }

use Rattle.std.proofs.Common.{◌≡◌, take}
use Rattle.framer.specs.Frame.{xor_of}
use Rattle.framer.proofs.up.check.Given as goal

abbrev pub invariant-loop-b : goal.invariant-loop-b
invariant-loop-b l = l.sum ≡ xor_of (take l.b-index l.s)

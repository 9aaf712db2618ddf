use Rattle.std.proofs.Common.{◌≡◌, ◌++◌, take}
use Rattle.driver.specs.Line.{band, with_band}
use Rattle.wire.proofs.offer_all.Given as goal

abbrev pub invariant-loop-taken : goal.invariant-loop-taken
invariant-loop-taken g l =
    g.D.Driver.line l.driver ≡ with_band (g.D.Driver.line l.initial.driver) l.to (band (g.D.Driver.line l.initial.driver) l.to ++ take l.taken l.items)

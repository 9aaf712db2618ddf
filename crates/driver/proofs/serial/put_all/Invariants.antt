use Rattle.std.proofs.Common.{◌≡◌, ◌++◌, take}
use Rattle.driver.proofs.serial.put_all.Given as goal

abbrev pub invariant-loop-x : goal.invariant-loop-x
invariant-loop-x g l =
    (g.Q.Fifo.items l.list ≡ g.Q.Fifo.items l.initial.list ++ take l.x-index l.items)
    × (g.Q.Fifo.room l.list ≡ g.Q.Fifo.room l.initial.list)

-- What a spool means: the bytes that it holds, and the items that are ready.
use Rattle.std.specs.Prelude.{ℕ, List, [], ◌++◌, map, drop, Some, None, Option}
use Rattle.item.specs.declared.Item.{Item}
use Rattle.item.specs.declared.Item.TheVariants.{Byte}
use Rattle.lane.specs.declared.few.Few.{Few}
use Rattle.lane.specs.Few.{items}

pub record Spooled : Type 0 where
  pub held : List ℕ
  pub ready : List Item

abbrev pub holding : List ℕ → List Item → Spooled
holding bs xs = record { held = bs; ready = xs }

-- bytes that are not given out are held; bytes that are given out, from a place on, stand in front of the few items
abbrev pub spooled : List ℕ → Option ℕ → Few → Spooled
spooled bs None few = holding bs (items few)
spooled bs (Some from) few = holding [] (map Byte (drop from bs) ++ items few)

-- the bytes that are left to be given out
abbrev pub left : List ℕ → Option ℕ → List ℕ
left bs None = []
left bs (Some from) = drop from bs

-- A NOTE has a number from 1 on (that it is at most 255 is part of its type).
use Rattle.std.specs.Prelude.{◌<◌, List, [], ◌∷◌}
use Rattle.item.specs.declared.Item.{Item}
use Rattle.item.specs.declared.Item.TheVariants.{Byte, End, Note}
use Rattle.lane.specs.Rule.{Rule}
use Rattle.lane.specs.Reply.{onward, back}
use Rattle.lane.specs.Lists.{through}
use Rattle.case_mapper.specs.Case as mapper
use Rattle.framer.specs.Frame as framer
use Rattle.disciplines.specs.Canonical as canonical

abbrev pub Proper : Item → Type 0
Proper (Byte b) = Unit {0}
Proper End = Unit {0}
Proper (Note k) = 0 < k

abbrev pub AllProper : List Item → Type 0
AllProper [] = Unit {0}
AllProper (x ∷ xs) = Proper x × AllProper xs

-- proper items are stepped into proper items
abbrev pub Keeps : {S : Type 0} → Rule S → Type 0
Keeps rule = (xs : List Item) → AllProper xs → AllProper (through rule xs)

pub record NotesKept : Type 0 where
  pub mapper_up : Keeps mapper.up_rule
  pub mapper_down : Keeps mapper.down_rule
  pub framer_up : Keeps framer.up_rule
  pub framer_down : Keeps framer.down_rule
  pub canonical_up : Keeps (onward canonical.up_rule)
  pub canonical_echo : Keeps (back canonical.up_rule)
  pub canonical_down : Keeps canonical.down_rule

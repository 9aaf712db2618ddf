-- Raw discipline passes every item and echoes nothing.
use Rattle.std.specs.Prelude.{◌≡◌, List, []}
use Rattle.item.specs.declared.Item.{Item}
use Rattle.lane.specs.Rule.{Rule}
use Rattle.lane.specs.Lists.{through}
use Rattle.lane.specs.Reply.{ReplyRule, silent, onward, back}
use Rattle.lane.specs.Pass.{passes}

abbrev pub raw_up : ReplyRule (Unit {0})
raw_up = silent passes

abbrev pub raw_down : Rule (Unit {0})
raw_down = passes

-- Every list goes through as it is, both ways, and nothing comes back.
abbrev pub RawPasses : Type 0
RawPasses = (xs : List Item) → (through (onward raw_up) xs ≡ xs) × (through (back raw_up) xs ≡ []) × (through raw_down xs ≡ xs)

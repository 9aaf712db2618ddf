-- The line to the scaler: the raw discipline over the framer, at both ends just started.
use Rattle.std.specs.Prelude.{◌≡◌, ℕ, ◌≤◌, List, length}
use Rattle.item.specs.declared.Item.{Item}
use Rattle.lane.specs.Reply.{onward}
use Rattle.lane.specs.Lists.{through, record_of}
use Rattle.framer.specs.Frame as framer
use Rattle.disciplines.specs.Raw as raw

abbrev pub sent : List Item → List Item
sent xs = through framer.down_rule (through raw.raw_down xs)

abbrev pub read : List Item → List Item
read xs = through (onward raw.raw_up) (through framer.up_rule xs)

-- a record of up to 1,024 bytes that is sent is read as it was
abbrev pub ComesBack : Type 0
ComesBack = (bs : List ℕ) → length bs ≤ 1024 → read (sent (record_of bs)) ≡ record_of bs

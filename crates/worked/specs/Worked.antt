-- Worked lists. `bytes` is a list of bytes as items, `record_of` is that and END.
use Rattle.std.specs.Prelude.{◌≡◌, List, [], ◌∷◌, ◌++◌, map, ℕ}
use Rattle.item.specs.declared.Item.{Item}
use Rattle.item.specs.declared.Item.TheVariants.{Byte, End, Note}
use Rattle.lane.specs.Lists.{through, record_of}
use Rattle.lane.specs.Reply.{onward, back}
use Rattle.case_mapper.specs.Case as mapper
use Rattle.framer.specs.Frame as framer
use Rattle.disciplines.specs.Canonical as canonical

abbrev pub bytes : List ℕ → List Item
bytes bs = map Byte bs

-- canonical over the case mapper
abbrev pub typed : List Item → List Item
typed xs = through (onward canonical.up_rule) (through mapper.up_rule xs)

abbrev pub shown : List Item → List Item
shown xs = through mapper.echo_rule (through (back canonical.up_rule) (through mapper.up_rule xs))

pub record Worked : Type 0 where
  -- the framer down: an empty record; a check byte that is escaped; both bytes escaped
  pub frame_empty : through framer.down_rule (End ∷ []) ≡ record_of (2 ∷ 0 ∷ 3 ∷ [])
  pub frame_check : through framer.down_rule (record_of (65 ∷ 66 ∷ [])) ≡ record_of (2 ∷ 65 ∷ 66 ∷ 16 ∷ 67 ∷ 3 ∷ [])
  pub frame_both : through framer.down_rule (record_of (2 ∷ [])) ≡ record_of (2 ∷ 16 ∷ 66 ∷ 16 ∷ 66 ∷ 3 ∷ [])
  -- the framer up: a byte before the frame is dropped; a frame that begins again
  pub read_frame : through framer.up_rule (bytes (9 ∷ 2 ∷ 65 ∷ 65 ∷ 3 ∷ [])) ≡ record_of (65 ∷ [])
  pub begun_again : through framer.up_rule (bytes (2 ∷ 65 ∷ 2 ∷ 0 ∷ 3 ∷ [])) ≡ Note 12 ∷ End ∷ []
  -- the case mapper down
  pub mapped : through mapper.down_rule (bytes (97 ∷ 65 ∷ 123 ∷ 92 ∷ [])) ≡ bytes (65 ∷ 92 ∷ 65 ∷ 92 ∷ 40 ∷ 92 ∷ 92 ∷ [])
  -- the canonical discipline: a byte erased before the line ends, and its echo
  pub line : through (onward canonical.up_rule) (bytes (98 ∷ 8 ∷ 13 ∷ [])) ≡ record_of (10 ∷ [])
  pub echo : through (back canonical.up_rule) (bytes (98 ∷ 8 ∷ 13 ∷ [])) ≡ record_of (98 ∷ []) ++ (record_of (8 ∷ 32 ∷ 8 ∷ []) ++ record_of (13 ∷ 10 ∷ []))
  -- canonical over the case mapper: what is read, and what is shown
  pub read : typed (bytes (72 ∷ 73 ∷ 13 ∷ [])) ≡ record_of (104 ∷ 105 ∷ 10 ∷ [])
  pub screen : shown (bytes (72 ∷ 73 ∷ 13 ∷ [])) ≡ record_of (72 ∷ []) ++ (record_of (73 ∷ []) ++ record_of (13 ∷ 10 ∷ []))

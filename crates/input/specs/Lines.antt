-- The typed bytes, line by line.
use Rattle.std.specs.Prelude.{◌≡◌, ℕ, ◌+◌, ◌-◌, ◌<◌, Bool, true, false, Option, None, Some, cond, ◌&&◌, ◌||◌, List, [], ◌∷◌, ◌++◌, map, length, ◌==◌, nat_lt, slice_index}
use Rattle.std.specs.Borrow.{Bor}
use Rattle.input.specs.declared.Lines.{Lines}
use Rattle.item.specs.declared.Item.{Item}
use Rattle.item.specs.declared.Item.TheVariants.{Byte, End}

-- 10 and 13 end a line; the discipline that edits lines has a rule of its own that agrees
abbrev pub ends : ℕ → Bool
ends b = b == 10 || b == 13

-- is there a last byte that ends a line
abbrev pub ended : List ℕ → Bool
ended bs = nat_lt 0 (length bs) && ends (slice_index bs (length bs - 1))

-- a line as it is typed: its bytes, and END where no byte ends it
abbrev pub line_of : List ℕ → List Item
line_of bs = map Byte bs ++ cond (ended bs) [] (End ∷ [])

-- the bytes that an iterator over lines has left
abbrev pub left : Lines → List ℕ
left s = s.rest.now

-- a line at the head of what is left: it has a byte, only its last byte may end it, and that does where more follows
pub record IsFirstLine (line more : List ℕ) : Type 0 where
  pub some : 0 < length line
  pub before : (k : ℕ) → k + 1 < length line → ends (slice_index line k) ≡ false
  pub last : 0 < length more → ends (slice_index line (length line - 1)) ≡ true

-- the first line of what is left, or none exactly when nothing is left
abbrev pub GivesLine : Lines → Option (Bor (List ℕ)) → Lines → Type 0
GivesLine s None t = (left s ≡ []) × (left t ≡ [])
GivesLine s (Some line) t = (left s ≡ line.now ++ left t) × IsFirstLine line.now (left t)

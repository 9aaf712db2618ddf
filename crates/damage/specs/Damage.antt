-- Damage to a list of items.
use Rattle.std.specs.Prelude.{ℕ, ◌+◌, List, [], ◌∷◌, ◌++◌, take, drop, bit_xor, slice_index_or}
use Rattle.item.specs.declared.Item.{Item}
use Rattle.item.specs.declared.Item.TheVariants.{Byte, End, Note}

-- the lowest bit of a byte turned over
abbrev pub flip : Item → Item
flip (Byte b) = Byte (bit_xor b 1)
flip End = End
flip (Note k) = Note k

-- the item at a place flipped
abbrev pub flipped_at : ℕ → List Item → List Item
flipped_at i xs = (take i xs ++ (flip (slice_index_or xs i (Byte 0)) ∷ [])) ++ drop (i + 1) xs

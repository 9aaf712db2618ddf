-- What a list in its own record holds, first to last: its cells are used as a ring's are.
use Rattle.std.specs.Prelude.{ℕ, cond, List, length, take, nat_le}
use Rattle.item.specs.declared.Item.{Item}
use Rattle.ring.specs.Span.{spanned}
use Rattle.fifo.specs.declared.inline.Inline.{Inline}

-- how many places n cells make: all of them, if they are not too many
abbrev pub places : ℕ → ℕ → ℕ
places most n = cond (nat_le n most) n 0

abbrev pub room_in : {n : ℕ} → Inline n → ℕ
room_in q = places 4096 (length q.cells)

-- the cells that are places
abbrev pub places_in : {n : ℕ} → Inline n → List Item
places_in q = take (room_in q) q.cells

abbrev pub items_in : {n : ℕ} → Inline n → List Item
items_in q = spanned q.span (places_in q)

-- Items as text, as the bytes of that text.
use Rattle.std.specs.Prelude.{ℕ, cond, ◌&&◌, List, [], ◌∷◌, ◌++◌, codes, decimal, ◌==◌, nat_le}
use Rattle.std.specs.List.{flat_map}
use Rattle.show.specs.declared.Spelled.{Spelled}
use Rattle.item.specs.declared.Item.{Item}
use Rattle.item.specs.declared.Item.TheVariants.{Byte, End, Note}

-- a byte from 32 to 126 is shown as itself, another by its number
abbrev pub byte_text : ℕ → List ℕ
byte_text b = cond (nat_le 32 b && nat_le b 126) (b ∷ []) (codes "<" ++ (decimal b ++ codes ">"))

abbrev pub meaning_of : ℕ → List ℕ
meaning_of k =
    cond (k == 11) (codes "the check byte does not fit")
    (cond (k == 12) (codes "a frame was broken off")
    (cond (k == 13) (codes "a frame was too long") (codes "from the line")))

-- everything shows
abbrev pub item_text : Item → List ℕ
item_text (Byte b) = byte_text b
item_text End = codes "<END>"
item_text (Note k) = codes "<NOTE " ++ (decimal k ++ (codes ": " ++ (meaning_of k ++ codes ">")))

-- the ends of records do not show
abbrev pub screen_text : Item → List ℕ
screen_text (Byte b) = byte_text b
screen_text End = []
screen_text (Note k) = item_text (Note k)

-- bytes show as numbers, and nothing else shows
abbrev pub number_text : Item → List ℕ
number_text (Byte b) = codes " " ++ decimal b
number_text End = []
number_text (Note k) = []

-- one item after the other
abbrev pub spelled : (Item → List ℕ) → List Item → List ℕ
spelled shows xs = flat_map shows xs

-- the items that are spelled
abbrev pub items_of : {S : Type 0} → Spelled S → List Item
items_of s = s.items.now

-- The case mapper: what each lane gives for an item.
use Rattle.std.specs.Prelude.{ℕ, ◌+◌, ◌-◌, Bool, true, false, cond, ◌&&◌, List, [], ◌∷◌, Some, None, codes, Option, ◌==◌, nat_le}
use Rattle.item.specs.declared.Item.{Item}
use Rattle.item.specs.declared.Item.TheVariants.{Byte, End, Note}
use Rattle.lane.specs.Rule.{Rule, holding, each}

abbrev pub small : ℕ → Bool
small c = nat_le 97 c && nat_le c 122

abbrev pub capital : ℕ → Bool
capital c = nat_le 65 c && nat_le c 90

abbrev pub backslash : ℕ
backslash = 92

-- the six characters that the terminal lacks, and the signs that stand for them, in the same order
abbrev pub lacking : List ℕ
lacking = codes "`|~{}\\"

abbrev pub signs : List ℕ
signs = codes "'!^()\\"

-- what stands in the second list where c stands in the first
abbrev pub partner : List ℕ → List ℕ → ℕ → Option ℕ
partner [] ys c = None
partner (x ∷ xs) [] c = None
partner (x ∷ xs) (y ∷ ys) c = cond (c == x) (Some y) (partner xs ys c)

-- Down and echo. A character that the terminal lacks becomes \ and its sign; all else passes.
abbrev pub signed : Option ℕ → ℕ → List Item
signed (Some s) c = Byte backslash ∷ Byte s ∷ []
signed None c = Byte c ∷ []

-- A small letter becomes its capital. A capital becomes \ and itself.
abbrev pub byte_down : ℕ → List Item
byte_down c = cond (small c) (Byte (c - 32) ∷ []) (cond (capital c) (Byte backslash ∷ Byte c ∷ []) (signed (partner lacking signs c) c))

abbrev pub gives_down : Item → List Item
gives_down (Byte c) = byte_down c
gives_down End = End ∷ []
gives_down (Note k) = Note k ∷ []

abbrev pub down_rule : Rule (Unit {0})
down_rule = each gives_down

abbrev pub echo_rule : Rule (Unit {0})
echo_rule = down_rule

-- Up; the state is whether a \ is held. A \ is held. Capitals become small, all else passes.
abbrev pub byte_up : ℕ → List Item
byte_up c = cond (c == backslash) [] (cond (capital c) (Byte (c + 32) ∷ []) (Byte c ∷ []))

-- After \ a sign gives back its character, and all else gives \ and the item;
abbrev pub unsigned : Option ℕ → ℕ → List Item
unsigned (Some p) c = Byte p ∷ []
unsigned None c = Byte backslash ∷ Byte c ∷ []

-- a letter of either case gives its capital.
abbrev pub byte_after : ℕ → List Item
byte_after c = cond (small c) (Byte (c - 32) ∷ []) (cond (capital c) (Byte c ∷ []) (unsigned (partner signs lacking c) c))

abbrev pub gives_up : Bool → Item → List Item
gives_up false (Byte c) = byte_up c
gives_up false End = End ∷ []
gives_up false (Note k) = Note k ∷ []
gives_up true (Byte c) = byte_after c
gives_up true End = Byte backslash ∷ End ∷ []
gives_up true (Note k) = Byte backslash ∷ Note k ∷ []

abbrev pub holds_after : Bool → Item → Bool
holds_after false (Byte c) = c == backslash
holds_after false End = false
holds_after false (Note k) = false
holds_after true x = false

abbrev pub up_rule : Rule Bool
up_rule = record { first = false; does = λ s x. holding (holds_after s x) (gives_up s x) }

-- What the framer's lanes give for an item.
use Rattle.std.specs.Prelude.{ℕ, ◌-◌, Bool, cond, ◌&&◌, ◌||◌, List, [], ◌∷◌, ◌++◌, length, take, Some, None, fold, Option, ◌==◌, bit_xor, nat_lt}
use Rattle.item.specs.declared.Item.{Item}
use Rattle.item.specs.declared.Item.TheVariants.{Byte, End, Note}
use Rattle.lane.specs.Rule.{Rule, Held, holding}
use Rattle.lane.specs.Lists.{record_of}

-- the exclusive or of some bytes
abbrev pub xor_of : List ℕ → ℕ
xor_of bs = fold bit_xor 0 bs

-- Down and echo lanes (same rule). The state is the exclusive or of the payload bytes of a record begun, or none.

-- The first item of a record (byte or END) is preceded by byte 2.
abbrev pub opening : Option ℕ → List Item
opening None = Byte 2 ∷ []
opening (Some c) = []

-- END is preceded by the check byte, the exclusive or of the payload bytes, and 3.
abbrev pub check_of : Option ℕ → ℕ
check_of None = 0
check_of (Some c) = c

-- A payload or check byte 2, 3 or 16 is sent as 16 and the byte exclusive-or 64.
abbrev pub special : ℕ → Bool
special b = b == 2 || (b == 3 || b == 16)

abbrev pub sent : ℕ → List Item
sent b = cond (special b) (Byte 16 ∷ Byte (bit_xor b 64) ∷ []) (Byte b ∷ [])

-- NOTE passes and begins nothing.
abbrev pub gives_down : Option ℕ → Item → List Item
gives_down s (Byte b) = opening s ++ sent b
gives_down s End = opening s ++ (sent (check_of s) ++ (Byte 3 ∷ End ∷ []))
gives_down s (Note k) = Note k ∷ []

abbrev pub next_down : Option ℕ → Item → Option ℕ
next_down s (Byte b) = Some (bit_xor (check_of s) b)
next_down s End = None
next_down s (Note k) = s

abbrev pub down_rule : Rule (Option ℕ)
down_rule = record { first = None; does = λ s x. holding (next_down s x) (gives_down s x) }

abbrev pub echo_rule : Rule (Option ℕ)
echo_rule = down_rule

-- Up lane: what a byte does depends on the state: hunting, body or escaped. The last two hold the body so far.
pub data Place : Type 0 where
  hunting : Place
  body : List ℕ → Place
  escaped : List ℕ → Place

abbrev pub note : ℕ → List Item
note k = Note k ∷ []

-- Hunting: 2 begins an empty body. Other bytes are dropped.
abbrev pub in_hunting : ℕ → Held Place
in_hunting b = cond (b == 2) (holding (body []) []) (holding hunting [])

-- A body byte beyond 1,025 gives NOTE 13, then hunting.
abbrev pub joined : List ℕ → ℕ → Held Place
joined bs b = cond (nat_lt (length bs) 1025) (holding (body (bs ++ (b ∷ []))) []) (holding hunting (note 13))

-- Body: 2 gives NOTE 12 and begins again.
-- 3 ends it: a body of at least one byte, whose exclusive or is 0, gives all but its last byte and END,
-- and another gives NOTE 11; then hunting.
-- 16 escapes, others join.
abbrev pub whole : List ℕ → Bool
whole bs = nat_lt 0 (length bs) && xor_of bs == 0

abbrev pub payload : List ℕ → List Item
payload bs = record_of (take (length bs - 1) bs)

abbrev pub ending : List ℕ → List Item
ending bs = cond (whole bs) (payload bs) (note 11)

abbrev pub in_body : List ℕ → ℕ → Held Place
in_body bs b =
    cond (b == 2) (holding (body []) (note 12))
    (cond (b == 3) (holding hunting (ending bs))
    (cond (b == 16) (holding (escaped bs) []) (joined bs b)))

-- Escaped: 66, 67 and 80 stand for 2, 3 and 16, then body. 2 gives NOTE 12 and begins again.
-- Other bytes give NOTE 12, then hunting.
abbrev pub in_escaped : List ℕ → ℕ → Held Place
in_escaped bs b =
    cond (b == 66) (joined bs 2)
    (cond (b == 67) (joined bs 3)
    (cond (b == 80) (joined bs 16)
    (cond (b == 2) (holding (body []) (note 12)) (holding hunting (note 12)))))

-- END does nothing. NOTE passes; outside hunting NOTE 12 precedes it and hunting follows.
abbrev pub up : Place → Item → Held Place
up hunting (Byte b) = in_hunting b
up (body bs) (Byte b) = in_body bs b
up (escaped bs) (Byte b) = in_escaped bs b
up p End = holding p []
up hunting (Note k) = holding hunting (note k)
up (body bs) (Note k) = holding hunting (Note 12 ∷ Note k ∷ [])
up (escaped bs) (Note k) = holding hunting (Note 12 ∷ Note k ∷ [])

abbrev pub up_rule : Rule Place
up_rule = record { first = hunting; does = up }

-- The canonical discipline.
use Rattle.std.specs.Prelude.{ℕ, ◌-◌, ◌≤◌, Bool, cond, ◌||◌, List, [], ◌∷◌, ◌++◌, map, length, take, ◌==◌, nat_lt}
use Rattle.item.specs.declared.Item.{Item}
use Rattle.item.specs.declared.Item.TheVariants.{Byte, End, Note}
use Rattle.lane.specs.Rule.{Rule, each}
use Rattle.lane.specs.Lists.{after}
use Rattle.lane.specs.Reply.{Both, both, ReplyRule, onward}

-- Canonical discipline, up. It holds a line of at most 255 bytes. Byte 13 counts as 10.
abbrev pub ends : ℕ → Bool
ends b = b == 10 || b == 13

-- 10 gives the line, 10, END; echo is 13, 10, END.
abbrev pub ended : List ℕ → Both (List ℕ)
ended l = both [] (map Byte l ++ (Byte 10 ∷ End ∷ [])) (Byte 13 ∷ Byte 10 ∷ End ∷ [])

-- 8 drops the last byte held; echo is 8, 32, 8, END. On an empty line it does nothing.
abbrev pub erased : List ℕ → Both (List ℕ)
erased l = cond (length l == 0) (both l [] []) (both (take (length l - 1) l) [] (Byte 8 ∷ Byte 32 ∷ Byte 8 ∷ End ∷ []))

-- Every other byte is held and echoed with END. With 255 held it is dropped; echo is 7, END.
abbrev pub echo_of : ℕ → List Item
echo_of b = Byte b ∷ End ∷ []

abbrev pub added : List ℕ → ℕ → Both (List ℕ)
added l b = cond (nat_lt (length l) 255) (both (l ++ (b ∷ [])) [] (echo_of b)) (both l [] (Byte 7 ∷ End ∷ []))

-- END gives the line and END, or nothing on an empty line. NOTE passes and the line stays.
abbrev pub flushed : List ℕ → Both (List ℕ)
flushed l = cond (length l == 0) (both l [] []) (both [] (map Byte l ++ (End ∷ [])) [])

abbrev pub typed : List ℕ → Item → Both (List ℕ)
typed l (Byte b) = cond (ends b) (ended l) (cond (b == 8) (erased l) (added l b))
typed l End = flushed l
typed l (Note k) = both l (Note k ∷ []) []

-- The state is the line held.
abbrev pub up_rule : ReplyRule (List ℕ)
up_rule = record { first = []; does = typed }

-- Canonical, down. 10 becomes 13, 10. All else passes.
abbrev pub spelled : Item → List Item
spelled (Byte b) = cond (b == 10) (Byte 13 ∷ Byte 10 ∷ []) (Byte b ∷ [])
spelled End = End ∷ []
spelled (Note k) = Note k ∷ []

abbrev pub down_rule : Rule (Unit {0})
down_rule = each spelled

-- Whatever comes, the line held has at most 255 bytes.
abbrev pub LineBounded : Type 0
LineBounded = (xs : List Item) → length (after (onward up_rule) up_rule.first xs) ≤ 255

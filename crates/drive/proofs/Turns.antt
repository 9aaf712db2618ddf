-- One item more, of a list that is stepped item by item.
use Rattle.std.proofs.Common.{◌≡◌, ℕ, ◌+◌, ◌<◌, List, [], ◌∷◌, ◌++◌, length, get_or, take, sym, refl, ap, ◌∙◌, append_assoc, append-nil}
use Rattle.std.proofs.lemmas.List.{take_more}
use Rattle.item.specs.declared.Item.{Item}
use Rattle.lane.specs.Rule.{Rule}
use Rattle.lane.specs.Reply.{ReplyRule, onward, back}
use Rattle.lane.specs.Lists.{stepped, after}
use Rattle.lane.proofs.Joined.{stepped_join, after_join}

-- the lists that the first i items and the next one give
pub gives_more : {S : Type 0} (rule : Rule S) (s : S) (xs : List Item) (i : ℕ) (d : Item) (base : List Item) → i < length xs →
    ((base ++ stepped rule s (take i xs)) ++ []) ++ (rule.does (after rule s (take i xs)) (get_or xs i d)).ready ≡ base ++ stepped rule s (take (i + 1) xs)
gives_more rule s xs i d base h =
    let more = (rule.does (after rule s (take i xs)) (get_or xs i d)).ready in
    ap (λ (o : List Item). o ++ more) (append-nil (base ++ stepped rule s (take i xs)))
    ∙ append_assoc base (stepped rule s (take i xs)) more
    ∙ ap (λ (o : List Item). base ++ (stepped rule s (take i xs) ++ o)) (sym (append-nil more))
    ∙ ap (λ (o : List Item). base ++ o) (sym (stepped_join rule s (take i xs) (get_or xs i d ∷ [])))
    ∙ ap (λ (o : List Item). base ++ stepped rule s o) (sym (take_more xs i d h))

pub after_more : {S : Type 0} (rule : Rule S) (s : S) (xs : List Item) (i : ℕ) (d : Item) → i < length xs →
    (rule.does (after rule s (take i xs)) (get_or xs i d)).state ≡ after rule s (take (i + 1) xs)
after_more rule s xs i d h =
    sym (after_join rule s (take i xs) (get_or xs i d ∷ [])) ∙ ap (λ (o : List Item). after rule s o) (sym (take_more xs i d h))

-- a turn of the loop: what has come out, and what the lane holds, after one item more
pub turn_gives : {S : Type 0} (rule : Rule S) (s t : S) (xs : List Item) (i : ℕ) (d : Item) (base out out' ready : List Item) → i < length xs →
    out ≡ base ++ stepped rule s (take i xs) → ready ≡ [] → t ≡ after rule s (take i xs) → out' ≡ (out ++ ready) ++ (rule.does t (get_or xs i d)).ready →
    out' ≡ base ++ stepped rule s (take (i + 1) xs)
turn_gives rule s t xs i d base out out' ready h u r v p = let e = gives_more rule s xs i d base h in cc

pub turn_after : {S : Type 0} (rule : Rule S) (s t : S) (xs : List Item) (i : ℕ) (d : Item) → i < length xs →
    t ≡ after rule s (take i xs) → (rule.does t (get_or xs i d)).state ≡ after rule s (take (i + 1) xs)
turn_after rule s t xs i d h v = let e = after_more rule s xs i d h in cc

-- both rules of a lane that replies go through the same states
pub same_states : {S : Type 0} (rule : ReplyRule S) (s : S) (xs : List Item) → after (onward rule) s xs ≡ after (back rule) s xs
same_states rule s [] = refl
same_states rule s (x ∷ xs) = same_states rule (rule.does s x).state xs

-- Laws of what lies in a span of places.
use Rattle.std.proofs.Common.{◌≡◌, ℕ, suc, ◌+◌, ◌-◌, ◌<◌, ◌≤◌, min, List, [], ◌∷◌, ◌++◌, length, get_or, take, drop, set, refl, sym, ap, subst, ◌∙◌, ⊎_elim, append_assoc, append-nil, arith}
use Rattle.std.proofs.lemmas.Bool.Decides.{nat_tests}
use Rattle.std.proofs.lemmas.Bool.{cases_lt}
use lib.Seq.{take-set-lt}
use Rattle.std.proofs.lemmas.List.{length-set, length-append, length-take, length-drop, drop-set-add, drop-set-lt, take-set-le, set-append_left, set-append_right, take_more_set, drop_more, take_more, take-append-le, drop_all, take_all}
use Rattle.ring.specs.Span.{held, within, place_of, count_of, spanned}
use Rattle.item.specs.First.{rest}
use Rattle.ring.specs.declared.span.Span.{Span}

-- the cells from h on, then those before
abbrev turned : {X : Type 0} → ℕ → List X → List X
turned h xs = drop h xs ++ take h xs

-- a write at the end, with no wrap
pub held_put : {X : Type 0} (xs : List X) (h n : ℕ) (x : X) → h ≤ length xs → n < length xs - h → held (set xs (h + n) x) h (n + 1) ≡ held xs h n ++ x ∷ []
held_put xs h n x l m =
    let e : turned h (set xs (h + n) x) ≡ set (turned h xs) n x =
    let lt : n < length (drop h xs) = simp length-drop (omega arith) in
    let le : h ≤ h + n = omega arith in
    rw (drop-set-add, take-set-le, ← set-append_left)
    in
    let k : n < length (turned h xs) = simp (length-append, length-take, length-drop) (omega arith) in
    ap (take (n + 1)) e ∙ take_more_set (turned h xs) n x k

-- a write at the end, past the last cell
pub held_put_low : {X : Type 0} (xs : List X) (h n : ℕ) (x : X) → h ≤ length xs → length xs - h ≤ n → n < length xs → held (set xs (n - (length xs - h)) x) h (n + 1) ≡ held xs h n ++ x ∷ []
held_put_low xs h n x l m b =
    let at : ℕ = n - (length xs - h) in
    let e : turned h (set xs at x) ≡ set (turned h xs) n x =
    let d : drop h (set xs at x) ≡ drop h xs = drop-set-lt h xs at x (omega arith) in
    let t : take h (set xs at x) ≡ set (take h xs) at x = take-set-lt h xs at x (omega arith) in
    let s : set (turned h xs) n x ≡ drop h xs ++ set (take h xs) at x = set-append_right (drop h xs) (take h xs) (length xs - h) n x (length-drop h xs) m in
    cc
    in
    let k : n < length (turned h xs) = simp (length-append, length-take, length-drop) (omega arith) in
    ap (take (n + 1)) e ∙ take_more_set (turned h xs) n x k

-- the first leaves, with no wrap
pub held_take : {X : Type 0} (xs : List X) (h n : ℕ) (d : X) → h < length xs → 0 < n → n ≤ length xs → held xs h n ≡ get_or xs h d ∷ held xs (h + 1) (n - 1)
held_take {X = X} xs h n d l p q =
    let a : turned h xs ≡ get_or xs h d ∷ (drop (h + 1) xs ++ take h xs) = ap (λ (ys : List X). ys ++ take h xs) (drop_more xs h d l) in
    let b : turned (h + 1) xs ≡ (drop (h + 1) xs ++ take h xs) ++ get_or xs h d ∷ [] =
    rw (take_more xs h d, ← append_assoc)
    in
    let k : n - 1 ≤ length (drop (h + 1) xs ++ take h xs) = simp (length-append, length-take, length-drop) (omega arith) in
    let f : take (n - 1) (turned (h + 1) xs) ≡ take (n - 1) (drop (h + 1) xs ++ take h xs) = ap (take (n - 1)) b ∙ take-append-le _ _ _ k in
    let s : n ≡ suc (n - 1) = omega arith in
    ap (λ (m : ℕ). take m (turned h xs)) s ∙ ap (take (suc (n - 1))) a ∙ ap (λ (ys : List X). get_or xs h d ∷ ys) (sym f)

-- turned by all of its length is as not turned
pub held_round : {X : Type 0} (xs : List X) (h n : ℕ) → h ≡ length xs → held xs h n ≡ held xs 0 n
held_round xs h n e =
    let a : drop h xs ≡ [] = drop_all h xs (omega arith) in
    let b : take h xs ≡ xs = take_all h xs (omega arith) in
    let z : xs ++ [] ≡ xs = append-nil xs in
    ap (take n) (cc)

-- within bounds nothing changes
pub held_within : {X : Type 0} (xs : List X) (h n : ℕ) → h < length xs → n ≤ length xs → spanned record { head = h; len = n } xs ≡ held xs h n
held_within xs h n l m =
    let a : within h (length xs) ≡ h = grind (arith, nat_tests) in
    let b : min n (length xs) ≡ n = omega arith in
    cc

-- there are as many elements as are counted
pub length_spanned : {X : Type 0} (s : Span) (xs : List X) → length (spanned s xs) ≡ count_of s (length xs)
length_spanned s xs = simp (length-take, length-append, length-drop) (grind (arith, nat_tests))

-- the elements, from where they are found to begin
pub found : {X : Type 0} (s : Span) (xs : List X) (h n : ℕ) → h ≡ place_of s (length xs) → n ≡ length (spanned s xs) → held xs h n ≡ spanned s xs
found s xs h n p q = let e = length_spanned s xs in cc

-- one more at the end
pub one_more : {X : Type 0} (s : Span) (xs : List X) (h n at : ℕ) (x : X) → h ≡ place_of s (length xs) → n ≡ length (spanned s xs) → n < length xs →
    (n < length xs - h → at ≡ h + n) → (length xs - h ≤ n → at ≡ n - (length xs - h)) →
    spanned record { head = h; len = n + 1 } (set xs at x) ≡ spanned s xs ++ x ∷ []
one_more {X} s xs h n at x p q m f t =
    let l : h < length xs = grind (arith, nat_tests) in
    let long = length-set xs at x in
    let Ends : ℕ → Type 0 = λ k. held (set xs k x) h (n + 1) ≡ held xs h n ++ x ∷ [] in
    let put : Ends at =
    ⊎_elim
    (λ a. subst Ends (sym (f a)) (held_put xs h n x (omega arith) a))
    (λ b. subst Ends (sym (t b)) (held_put_low xs h n x (omega arith) b m))
    (cases_lt n (length xs - h))
    in
    held_within (set xs at x) h (n + 1) (omega arith) (omega arith) ∙ put ∙ ap (λ (ys : List X). ys ++ x ∷ []) (found s xs h n p q)

-- the first leaves
pub one_less : {X : Type 0} (s : Span) (xs : List X) (h n k : ℕ) (x : X) → h ≡ place_of s (length xs) → n ≡ length (spanned s xs) → spanned s xs ≡ x ∷ rest (spanned s xs) →
    (1 < length xs - h → k ≡ h + 1) → (length xs - h ≤ 1 → k ≡ 1 - (length xs - h)) →
    spanned s xs ≡ x ∷ spanned record { head = k; len = n - 1 } xs
one_less {X} s xs h n k x p q first f t =
    let long = ap length first in
    let e = length_spanned s xs in
    let l : h < length xs = grind (arith, nat_tests) in
    let Next : ℕ → Type 0 = λ j. (held xs (h + 1) (n - 1) ≡ held xs j (n - 1)) × (j < length xs) in
    let next : Next k =
    ⊎_elim
    (λ a. subst Next (sym (f a)) (refl, omega arith))
    (λ b. let z : k ≡ 0 = omega (arith, t b) in subst Next (sym z) (held_round xs (h + 1) (n - 1) (omega arith), omega arith))
    (cases_lt 1 (length xs - h))
    in
    let a : held xs h n ≡ get_or xs h x ∷ held xs (h + 1) (n - 1) = held_take xs h n x l (omega arith) (omega arith) in
    let w : spanned record { head = k; len = n - 1 } xs ≡ held xs k (n - 1) = held_within xs k (n - 1) next.1 (omega arith) in
    let b : spanned s xs ≡ get_or xs h x ∷ spanned record { head = k; len = n - 1 } xs = cc (found s xs h n p q, next.0) in
    first ∙ ap (λ (ys : List X). x ∷ ys) (ap rest b)

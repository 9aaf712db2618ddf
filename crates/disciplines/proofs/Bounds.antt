-- The line held stays within its bound, and the raw discipline passes every list.
use Rattle.std.proofs.Common.{◌≡◌, ℕ, ◌-◌, ◌≤◌, eqb, ltb, List, [], ◌∷◌, length, refl, ap, arith, length-take}
use Rattle.std.proofs.lemmas.List.{length_push}
use Rattle.std.proofs.lemmas.Bool.{cond_both, ltb-true}
use Rattle.item.specs.declared.Item.{Item}
use Rattle.item.specs.declared.Item.TheVariants.{Byte, End, Note}
use Rattle.lane.specs.Lists.{after, stepped}
use Rattle.lane.specs.Reply.{Both, onward, back}
use Rattle.disciplines.specs.Canonical.{ends, erased, added, flushed, typed, up_rule, LineBounded}
use Rattle.disciplines.specs.Raw.{raw_up, raw_down, RawPasses}

abbrev Short : Both (List ℕ) → Type 0
Short h = length h.state ≤ 255

erased_short : (l : List ℕ) → length l ≤ 255 → Short (erased l)
erased_short l h = let k = length-take (length l - 1) l in cond_both (eqb (length l) 0) _ _ Short (λ _. h) (λ _. omega arith)

added_short : (l : List ℕ) (b : ℕ) → length l ≤ 255 → Short (added l b)
added_short l b h = let k = length_push l b in cond_both (ltb (length l) 255) _ _ Short (λ t. omega (arith, ltb-true _ _ t)) (λ _. h)

flushed_short : (l : List ℕ) → length l ≤ 255 → Short (flushed l)
flushed_short l h = cond_both (eqb (length l) 0) _ _ Short (λ _. h) (λ _. omega arith)

typed_short : (l : List ℕ) (x : Item) → length l ≤ 255 → Short (typed l x)
typed_short l (Byte b) h = cond_both (ends b) _ _ Short (λ _. omega arith) (λ _. cond_both (eqb b 8) _ _ Short (λ _. erased_short l h) (λ _. added_short l b h))
typed_short l End h = flushed_short l h
typed_short l (Note k) h = h

after_short : (xs : List Item) (l : List ℕ) → length l ≤ 255 → length (after (onward up_rule) l xs) ≤ 255
after_short [] l h = h
after_short (x ∷ xs) l h = after_short xs (typed l x).state (typed_short l x h)

pub line_bounded : LineBounded
line_bounded xs = after_short xs [] (omega arith)

all_on : (xs : List Item) → stepped (onward raw_up) tt xs ≡ xs
all_on [] = refl
all_on (x ∷ xs) = ap (λ (q : List Item). x ∷ q) (all_on xs)

none_back : (xs : List Item) → stepped (back raw_up) tt xs ≡ []
none_back [] = refl
none_back (x ∷ xs) = none_back xs

all_down : (xs : List Item) → stepped raw_down tt xs ≡ xs
all_down [] = refl
all_down (x ∷ xs) = ap (λ (q : List Item). x ∷ q) (all_down xs)

pub raw_passes : RawPasses
raw_passes xs = (all_on xs, none_back xs, all_down xs)

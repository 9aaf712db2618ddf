-- What lies in a span of places, first to last, and what its calls do to that.
use Rattle.std.specs.Prelude.{◌≡◌, ℕ, ◌<◌, min, cond, List, [], ◌∷◌, ◌++◌, length, take, drop, Ok, Err, Result, Some, None, Option, nat_lt}
use Rattle.item.specs.declared.Refusal.{Refusal}
use Rattle.item.specs.Numbers.{number}
use Rattle.ring.specs.declared.span.Span.{Span}

-- the cells from `h` on, then those before: the first n of them
abbrev pub held : {X : Type 0} → List X → ℕ → ℕ → List X
held xs h n = take n (drop h xs ++ take h xs)

-- a place among c cells; past the end counts as the first
abbrev pub within : ℕ → ℕ → ℕ
within h c = cond (nat_lt h c) h 0

-- where the elements begin among c places, and how many they are
abbrev pub place_of : Span → ℕ → ℕ
place_of s c = within s.head c

abbrev pub count_of : Span → ℕ → ℕ
count_of s c = min s.len c

-- the elements that lie in a span of the places xs
abbrev pub spanned : {X : Type 0} → Span → List X → List X
spanned s xs = held xs (place_of s (length xs)) (count_of s (length xs))

-- one more at the end; refused 8 exactly when every place is taken
abbrev pub SpanPuts : {X : Type 0} → Span → List X → X → Result (Unit {0}) Refusal → Span → List X → Type 0
SpanPuts a xs x (Ok _) b ys = (length (spanned a xs) < length xs) × (spanned b ys ≡ spanned a xs ++ (x ∷ []))
SpanPuts a xs x (Err e) b ys = (number e ≡ 8) × (length (spanned a xs) ≡ length xs) × (b ≡ a) × (ys ≡ xs)

-- the first leaves, or none exactly when there is none
abbrev pub SpanTakes : {X : Type 0} → Span → List X → Option X → Span → Type 0
SpanTakes a xs (Some x) b = spanned a xs ≡ x ∷ spanned b xs
SpanTakes a xs None b = (spanned a xs ≡ []) × (b ≡ a)

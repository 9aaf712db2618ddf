-- The round trip: the reading side undoes what the sending side does to a record.
use Rattle.std.proofs.Common.{◌≡◌, ℕ, ◌+◌, ◌-◌, ◌<◌, ◌≤◌, true, false, eqb, ltb, List, [], ◌∷◌, ◌++◌, length, take, Some, sym, ap, ◌∙◌, subst, inl, inr, append_assoc, append-nil, arith, length-append, lt-ltb, eq-eqb}
use lib.Bits.{bit_xor, xor_self}
use Rattle.std.proofs.lemmas.List.{take_at}
use Rattle.std.proofs.lemmas.List.Sums.{fold_push}
use Rattle.std.proofs.lemmas.Bool.{cases_Bool, eqb-true}
use Rattle.item.specs.declared.Item.{Item}
use Rattle.item.specs.declared.Item.TheVariants.{Byte, End}
use Rattle.lane.specs.Lists.{stepped, record_of}
use Rattle.framer.specs.Frame.{xor_of, sent, down_rule, body, ending, up_rule}
use Rattle.framer.specs.Laws.{RoundTrip, RoundTrips}

abbrev reads : ℕ → List ℕ → List Item → Type 0
reads b acc rest = stepped up_rule (body acc) (sent b ++ rest) ≡ stepped up_rule (body (acc ++ (b ∷ []))) rest

reads_2 : (acc : List ℕ) (rest : List Item) → ltb (length acc) 1025 ≡ true → reads 2 acc rest
reads_2 acc rest test = rw test

reads_3 : (acc : List ℕ) (rest : List Item) → ltb (length acc) 1025 ≡ true → reads 3 acc rest
reads_3 acc rest test = rw test

reads_16 : (acc : List ℕ) (rest : List Item) → ltb (length acc) 1025 ≡ true → reads 16 acc rest
reads_16 acc rest test = rw test

reads_plain : (b : ℕ) (acc : List ℕ) (rest : List Item) → ltb (length acc) 1025 ≡ true → eqb b 2 ≡ false → eqb b 3 ≡ false → eqb b 16 ≡ false → reads b acc rest
reads_plain b acc rest test p q r = simp (p, q, r, test)

-- a byte that was sent joins the body
reads_sent : (b : ℕ) (acc : List ℕ) (rest : List Item) → length acc < 1025 → reads b acc rest
reads_sent b acc rest h =
    let test : ltb (length acc) 1025 ≡ true = lt-ltb _ _ h in
    elim (cases_Bool (eqb b 2)) [
      | inl p ↦ subst (λ (n : ℕ). reads n acc rest) (sym (eqb-true b 2 p)) (reads_2 acc rest test)
      | inr p ↦ elim (cases_Bool (eqb b 3)) [
        | inl q ↦ subst (λ (n : ℕ). reads n acc rest) (sym (eqb-true b 3 q)) (reads_3 acc rest test)
        | inr q ↦ elim (cases_Bool (eqb b 16)) [
          | inl r ↦ subst (λ (n : ℕ). reads n acc rest) (sym (eqb-true b 16 r)) (reads_16 acc rest test)
          | inr r ↦ reads_plain b acc rest test p q r
        ]
      ]
    ]

-- a body behind its own check byte ends as a record
ends : (acc : List ℕ) → ending (acc ++ (xor_of acc ∷ [])) ≡ record_of acc
ends acc =
    let n : length (acc ++ (xor_of acc ∷ [])) ≡ length acc + 1 = length-append acc (xor_of acc ∷ []) in
    let some : ltb 0 (length (acc ++ (xor_of acc ∷ []))) ≡ true = lt-ltb _ _ (omega arith) in
    let x : xor_of (acc ++ (xor_of acc ∷ [])) ≡ 0 = fold_push bit_xor 0 acc (xor_of acc) ∙ xor_self (xor_of acc) in
    let zeroed : eqb (xor_of (acc ++ (xor_of acc ∷ []))) 0 ≡ true = eq-eqb _ _ x in
    let l : length acc ≡ length (acc ++ (xor_of acc ∷ [])) - 1 = omega arith in
    let front : take (length (acc ++ (xor_of acc ∷ [])) - 1) (acc ++ (xor_of acc ∷ [])) ≡ acc = take_at acc (xor_of acc ∷ []) _ l in
    rw (some, zeroed, front)

-- from a body on
from_body : (bs acc : List ℕ) → length acc + length bs ≤ 1024 → stepped up_rule (body acc) (stepped down_rule (Some (xor_of acc)) (record_of bs)) ≡ record_of (acc ++ bs)
from_body [] acc h =
    ap (stepped up_rule (body acc)) (append-nil (sent (xor_of acc) ++ (Byte 3 ∷ End ∷ [])))
    ∙ reads_sent (xor_of acc) acc (Byte 3 ∷ End ∷ []) (omega arith) ∙ append-nil (ending (acc ++ (xor_of acc ∷ []))) ∙ ends acc ∙ ap record_of (sym (append-nil acc))
from_body (b ∷ bs) acc h =
    let n : length (acc ++ (b ∷ [])) ≡ length acc + 1 = length-append acc (b ∷ []) in
    reads_sent b acc _ (omega arith)
    ∙ ap (λ (x : ℕ). stepped up_rule (body (acc ++ (b ∷ []))) (stepped down_rule (Some x) (record_of bs))) (sym (fold_push bit_xor 0 acc b))
    ∙ from_body bs (acc ++ (b ∷ [])) (omega arith)
    ∙ ap record_of (append_assoc acc (b ∷ []) bs)

pub round_trip : RoundTrip
round_trip [] h = from_body [] [] h
round_trip (b ∷ bs) h = from_body (b ∷ bs) [] (omega arith)

pub round_trips : RoundTrips
round_trips = record { records = round_trip; echo = round_trip }

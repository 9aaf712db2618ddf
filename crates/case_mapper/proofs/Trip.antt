-- The round trip: each byte is read back from what is sent for it.
use Rattle.std.proofs.Common.{◌≡◌, ℕ, ◌+◌, ◌-◌, ◌≤◌, true, false, eqb, leb, List, [], ◌∷◌, ◌++◌, sym, refl, ap, ◌∙◌, subst, inl, inr, arith}
use Rattle.std.proofs.lemmas.Bool.{cases_Bool, eqb-true, leb-true, le-leb, ne_eqb, and_parts, and_from}
use Rattle.item.specs.declared.Item.{Item}
use Rattle.item.specs.declared.Item.TheVariants.{Byte}
use Rattle.lane.specs.Lists.{stepped, through, record_of, Undoes}
use Rattle.case_mapper.specs.Case.{small, capital, byte_down, down_rule, up_rule}
use Rattle.case_mapper.specs.Laws.{RoundTrips}

abbrev Reads : List Item → ℕ → Type 0
Reads rest c = stepped up_rule false (byte_down c ++ rest) ≡ Byte c ∷ stepped up_rule false rest

reads_small : (c : ℕ) (rest : List Item) → small c ≡ true → Reads rest c
reads_small c rest s =
    let p = and_parts (leb 97 c) (leb c 122) s in
    let lo : 97 ≤ c = leb-true 97 c p.0 in
    let hi : c ≤ 122 = leb-true c 122 p.1 in
    let nb : eqb (c - 32) 92 ≡ false = ne_eqb _ _ (λ e. omega arith) in
    let big : capital (c - 32) ≡ true = and_from _ _ (le-leb 65 (c - 32) (omega arith)) (le-leb (c - 32) 90 (omega arith)) in
    let back : (c - 32) + 32 ≡ c = omega arith in
    simp (s, nb, big, back)

reads_capital : (c : ℕ) (rest : List Item) → small c ≡ false → capital c ≡ true → Reads rest c
reads_capital c rest s b = simp (s, b)

reads_plain : (c : ℕ) (rest : List Item) → small c ≡ false → capital c ≡ false → eqb c 96 ≡ false → eqb c 124 ≡ false → eqb c 126 ≡ false → eqb c 123 ≡ false → eqb c 125 ≡ false → eqb c 92 ≡ false → Reads rest c
reads_plain c rest s b n1 n2 n3 n4 n5 n6 = simp (s, b, n1, n2, n3, n4, n5, n6)

-- one of the six characters, or none
split : (P : ℕ → Type 0) (c k : ℕ) → P k → (eqb c k ≡ false → P c) → P c
split P c k yes! no! = elim (cases_Bool (eqb c k)) [ inl e ↦ subst P (sym (eqb-true c k e)) yes! | inr e ↦ no! e ]

reads : (c : ℕ) (rest : List Item) → Reads rest c
reads c rest =
    elim (cases_Bool (small c)) [
      | inl s ↦ reads_small c rest s
      | inr s ↦ elim (cases_Bool (capital c)) [
        | inl b ↦ reads_capital c rest s b
        | inr b ↦
            split (Reads rest) c 96 refl (λ n1. split (Reads rest) c 124 refl (λ n2. split (Reads rest) c 126 refl (λ n3.
            split (Reads rest) c 123 refl (λ n4. split (Reads rest) c 125 refl (λ n5. split (Reads rest) c 92 refl (λ n6.
            reads_plain c rest s b n1 n2 n3 n4 n5 n6))))))
      ]
    ]

undoes : (most : ℕ) → Undoes most up_rule down_rule
undoes most [] h = refl
undoes most (c ∷ bs) h = reads c (through down_rule (record_of bs)) ∙ ap (λ (r : List Item). Byte c ∷ r) (undoes most bs (omega arith))

pub round_trips : RoundTrips
round_trips = record { records = undoes; echo = undoes }

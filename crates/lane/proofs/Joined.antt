-- A list that is stepped in two parts.
use Rattle.std.proofs.Common.{◌≡◌, List, [], ◌∷◌, ◌++◌, sym, refl, ap, ◌∙◌, append_assoc}
use Rattle.item.specs.declared.Item.{Item}
use Rattle.lane.specs.Rule.{Rule}
use Rattle.lane.specs.Lists.{stepped, after}

pub stepped_join : {S : Type 0} (rule : Rule S) (s : S) (xs ys : List Item) → stepped rule s (xs ++ ys) ≡ stepped rule s xs ++ stepped rule (after rule s xs) ys
stepped_join rule s [] ys = refl
stepped_join rule s (x ∷ xs) ys =
    ap (λ (r : List Item). (rule.does s x).ready ++ r) (stepped_join rule (rule.does s x).state xs ys)
    ∙ sym (append_assoc (rule.does s x).ready (stepped rule (rule.does s x).state xs) _)

pub after_join : {S : Type 0} (rule : Rule S) (s : S) (xs ys : List Item) → after rule s (xs ++ ys) ≡ after rule (after rule s xs) ys
after_join rule s [] ys = refl
after_join rule s (x ∷ xs) ys = after_join rule (rule.does s x).state xs ys

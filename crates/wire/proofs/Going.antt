-- One item more of a list over a driver.
use Rattle.std.proofs.Common.{◌≡◌, List, [], ◌∷◌, ◌++◌, sym, ap, ◌∙◌, append_assoc, append-nil}
use Rattle.item.specs.declared.Item.{Item}
use Rattle.item.specs.declared.Band.{Band}
use Rattle.driver.specs.Line.{Line}
use Rattle.driver.specs.Calls.{Sent}
use Rattle.wire.specs.Order.{Goes, none, more}

-- what went out so far
pub record Gone (l : Line) (before after : List (Band × Item)) (m : Line) : Type 0 where
  pub went : List (Band × Item)
  pub goes : Goes l went m
  pub listed : after ≡ before ++ went

pub nothing_yet : (l : Line) (out : List (Band × Item)) → Gone l out out l
nothing_yet l out = record { went = []; goes = none; listed = sym (append-nil out) }

pub one_more : (l : Line) (before out out' : List (Band × Item)) (m n : Line) (w : Band) (x : Item) → Gone l before out m → Sent m w x n → out' ≡ out ++ ((w, x) ∷ []) → Gone l before out' n
one_more l before out out' m n w x g s e =
    record {
      went = g.went ++ ((w, x) ∷ []);
      goes = more g.went m w x n g.goes s;
      listed = e ∙ ap (λ (o : List (Band × Item)). o ++ ((w, x) ∷ [])) g.listed ∙ append_assoc before g.went ((w, x) ∷ []);
    }

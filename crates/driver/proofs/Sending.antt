-- Why nothing is sent: what is known of the first item of the band chosen.
use Rattle.std.proofs.Common.{◌≡◌, ◌≤◌, true, length, Option, Some, None, sym, subst}
use Rattle.item.specs.declared.Item.{Item}
use Rattle.item.specs.declared.Band.{Band}
use Rattle.item.specs.declared.Refusal.{Refusal}
use Rattle.item.specs.Numbers.{number}
use Rattle.item.specs.First.{Leads}
use Rattle.driver.specs.Line.{Line, band, chosen, returns}
use Rattle.driver.specs.Calls.{Unsent, nothing, no_room}

-- the first of a band is the first of the band chosen
module _ (line : Line) (w : Band) (first : Option Item) (chose : w ≡ chosen line) (leads : Leads (band line w) first) where
  banded : Leads (band line (chosen line)) first
  banded = subst (λ (b : Band). Leads (band line b) first) chose leads

  pub empty : first ≡ None → Unsent line 9
  empty e = nothing (subst (Leads (band line (chosen line))) e banded)

  pub stuck : (x : Item) (e : Refusal) → first ≡ Some x → number e ≡ 8 → line.loops ≡ true → returns x ≡ true → line.waiting_room ≤ length line.waiting → Unsent line (number e)
  stuck x e f k loop comes full =
      subst (Unsent line) (sym k)
      (no_room (record { loops = loop; item = x; more = _; first = subst (Leads (band line (chosen line))) f banded; comes_back = comes; full = full }))

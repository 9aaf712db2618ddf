-- Writing the flipped item over the item at its place is the definition's list.
use Rattle.std.proofs.Common.{◌≡◌, ℕ, ◌<◌, List, length, get_or, set, arith}
use Rattle.std.proofs.lemmas.Grind.{common_steps}
use Rattle.std.proofs.lemmas.List.{set_split}
use Rattle.item.specs.declared.Item.{Item}
use Rattle.damage.specs.Damage.{flip, flipped_at}

pub set_flipped : (xs : List Item) (i : ℕ) (x : Item) → i < length xs → x ≡ get_or xs i x → set xs i (flip x) ≡ flipped_at i xs
set_flipped xs i x h e = grind (arith, common_steps, set_split xs i (flip x) h)

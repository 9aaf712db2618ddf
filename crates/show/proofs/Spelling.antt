-- One item more is spelled.
use Rattle.std.proofs.Common.{◌≡◌, ℕ, ◌+◌, ◌<◌, List, [], ◌∷◌, ◌++◌, length, get_or, take, append-nil}
use Rattle.std.proofs.lemmas.Grind.{flat_map-append}
use Rattle.std.proofs.lemmas.List.{take_more}
use Rattle.item.specs.declared.Item.{Item}
use Rattle.show.specs.Shown.{spelled}

pub spelled_more : (shows : Item → List ℕ) (xs : List Item) (i : ℕ) (d : Item) → i < length xs → spelled shows (take i xs) ++ shows (get_or xs i d) ≡ spelled shows (take (i + 1) xs)
spelled_more f xs i d h =
    let more = take_more xs i d h in
    let join = flat_map-append f (take i xs) (get_or xs i d ∷ []) in
    let one : spelled f (get_or xs i d ∷ []) ≡ f (get_or xs i d) = append-nil (f (get_or xs i d)) in
    cc

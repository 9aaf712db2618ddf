-- Whole lists over a driver.
use Rattle.std.specs.Prelude.{◌≡◌, ℕ, ◌-◌, ◌<◌, ◌≤◌, List, [], ◌∷◌, ◌++◌, length, take}
use Rattle.item.specs.declared.Item.{Item}
use Rattle.item.specs.declared.Band.{Band}
use Rattle.driver.specs.Line.{Line, band, band_room, with_band}
use Rattle.driver.specs.Calls.{Sent, Unsent}

-- how many more can wait
abbrev pub free : Line → ℕ
free l = l.waiting_room - length l.waiting

-- the first n items are on the band, and that is all of them unless the band is full
pub record OffersAll (l : Line) (w : Band) (xs : List Item) (n : ℕ) (m : Line) : Type 0 where
  pub some : n ≤ length xs
  pub left : m ≡ with_band l w (band l w ++ take n xs)
  pub full : n < length xs → band_room m w ≤ length (band m w)

-- items go out one after another, each as a send says
pub data Goes (l : Line) : List (Band × Item) → Line → Type 0 where
  none : Goes l [] l
  more : (xs : List (Band × Item)) (m : Line) (w : Band) (x : Item) (n : Line) → Goes l xs m → Sent m w x n → Goes l (xs ++ ((w, x) ∷ [])) n

-- all that can go out does, in order, and is listed; then a send is refused
pub record SendsAll (l : Line) (before after : List (Band × Item)) (m : Line) : Type 0 where
  pub went : List (Band × Item)
  pub goes : Goes l went m
  pub listed : after ≡ before ++ went
  pub why : ℕ
  pub stops : Unsent m why

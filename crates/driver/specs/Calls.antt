-- What the calls of a driver do to its line, and when they refuse. A refused call changes nothing.
use Rattle.std.specs.Prelude.{◌≡◌, ℕ, ◌+◌, ◌<◌, ◌≤◌, true, List, [], ◌∷◌, ◌++◌, length, Some, None, Ok, Err, Option, Result}
use Rattle.item.specs.declared.Item.{Item}
use Rattle.item.specs.declared.Band.{Band}
use Rattle.item.specs.declared.Refusal.{Refusal}
use Rattle.item.specs.Numbers.{number}
use Rattle.driver.specs.Line.{Line, band, band_room, with_waiting, with_band, with_begun, chosen, begun_after, returns, after_sent}

-- items arrive behind the waiting ones, all or none; refused 8 exactly when they would pass the capacity
abbrev pub Arrives : {D : Type 0} → (D → Line) → D → List Item → Result (Unit {0}) Refusal → D → Type 0
Arrives line a xs (Ok _) b = (length (line a).waiting + length xs ≤ (line a).waiting_room) × (line b ≡ with_waiting (line a) ((line a).waiting ++ xs))
Arrives line a xs (Err e) b = (number e ≡ 8) × ((line a).waiting_room < length (line a).waiting + length xs) × (b ≡ a)

-- the first waiting item leaves, or none exactly when nothing waits
abbrev pub Fetches : {D : Type 0} → (D → Line) → D → Option Item → D → Type 0
Fetches line a None b = ((line a).waiting ≡ []) × (b ≡ a)
Fetches line a (Some x) b = ((line a).waiting ≡ x ∷ (line b).waiting) × (line b ≡ with_waiting (line a) (line b).waiting)

-- one more item on a band; refused 8 exactly when the band is at capacity
abbrev pub Offers : {D : Type 0} → (D → Line) → D → Band → Item → Result (Unit {0}) Refusal → D → Type 0
Offers line a w x (Ok _) b = (length (band (line a) w) < band_room (line a) w) × (line b ≡ with_band (line a) w (band (line a) w ++ (x ∷ [])))
Offers line a w x (Err e) b = (number e ≡ 8) × (band_room (line a) w ≤ length (band (line a) w)) × (b ≡ a)

-- one item is sent: the first of the band chosen
pub record Sent (l : Line) (w : Band) (x : Item) (m : Line) : Type 0 where
  pub chose : w ≡ chosen l
  pub first : band l w ≡ x ∷ band m w
  pub room : l.loops ≡ true → returns x ≡ true → length l.waiting < l.waiting_room
  pub left : m ≡ with_waiting (with_begun (with_band l w (band m w)) (begun_after l.begun w x)) (after_sent l.loops l.waiting x)

-- refused 9 exactly when that band is empty, 8 exactly when its first item would come back to a full waiting list
pub record WouldNotFit (l : Line) : Type 0 where
  pub loops : l.loops ≡ true
  pub item : Item
  pub more : List Item
  pub first : band l (chosen l) ≡ item ∷ more
  pub comes_back : returns item ≡ true
  pub full : l.waiting_room ≤ length l.waiting

pub data Unsent (l : Line) : ℕ → Type 0 where
  nothing : band l (chosen l) ≡ [] → Unsent l 9
  no_room : WouldNotFit l → Unsent l 8

abbrev pub Sends : {D : Type 0} → (D → Line) → D → Result (Band × Item) Refusal → D → Type 0
Sends line a (Ok r) b = Sent (line a) r.0 r.1 (line b)
Sends line a (Err e) b = Unsent (line a) (number e) × (b ≡ a)

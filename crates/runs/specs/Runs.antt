-- Series of driver calls, and what holds of them whatever they are.
use Rattle.std.specs.Prelude.{◌≡◌, ℕ, Bool, true, false, List, [], ◌∷◌, ◌++◌, Some, None, Ok, Err}
use Rattle.item.specs.declared.Item.{Item}
use Rattle.item.specs.declared.Item.TheVariants.{Byte, End, Note}
use Rattle.item.specs.declared.Band.{Band}
use Rattle.item.specs.declared.Band.TheVariants.{Records, Echo}
use Rattle.item.specs.declared.Refusal.{Refusal}
use Rattle.driver.specs.Line.{Line, band, emptied}
use Rattle.driver.specs.Calls.{Arrives, Fetches, Offers, Sends}

-- what a call did: items arrived, one was fetched, one was offered to a band, one of a band was sent; or nothing changed
pub data Event : Type 0 where
  arrived : List Item → Event
  fetched : Item → Event
  offered : Band → Item → Event
  sent : Band → Item → Event
  unchanged : Event

-- one call of a driver, by what its interface promises of it
pub data Call {D : Type 0} (line : D → Line) (a : D) : Event → D → Type 0 where
  arrives : (xs : List Item) (b : D) → Arrives line a xs (Ok tt) b → Call line a (arrived xs) b
  arrives_not : (xs : List Item) (e : Refusal) (b : D) → Arrives line a xs (Err e) b → Call line a unchanged b
  fetches : (x : Item) (b : D) → Fetches line a (Some x) b → Call line a (fetched x) b
  fetches_none : (b : D) → Fetches line a None b → Call line a unchanged b
  offers : (w : Band) (x : Item) (b : D) → Offers line a w x (Ok tt) b → Call line a (offered w x) b
  offers_not : (w : Band) (x : Item) (e : Refusal) (b : D) → Offers line a w x (Err e) b → Call line a unchanged b
  sends : (w : Band) (x : Item) (b : D) → Sends line a (Ok (w, x)) b → Call line a (sent w x) b
  sends_not : (e : Refusal) (b : D) → Sends line a (Err e) b → Call line a unchanged b

-- a series of calls, one after the other
pub data Run {D : Type 0} (line : D → Line) : D → List Event → D → Type 0 where
  none : (a : D) → Run line a [] a
  then : (a : D) (e : Event) (m : D) (es : List Event) (b : D) → Call line a e m → Run line m es b → Run line a (e ∷ es) b

-- an item if it is of that band
abbrev pub of : Band → Band → Item → List Item
of Records Records x = x ∷ []
of Records Echo x = []
of Echo Records x = []
of Echo Echo x = x ∷ []

-- what was offered to a band, and what of it was sent
abbrev pub offered_to : Band → List Event → List Item
offered_to w [] = []
offered_to w (arrived xs ∷ es) = offered_to w es
offered_to w (fetched x ∷ es) = offered_to w es
offered_to w (offered v x ∷ es) = of w v x ++ offered_to w es
offered_to w (sent v x ∷ es) = offered_to w es
offered_to w (unchanged ∷ es) = offered_to w es

abbrev pub sent_from : Band → List Event → List Item
sent_from w [] = []
sent_from w (arrived xs ∷ es) = sent_from w es
sent_from w (fetched x ∷ es) = sent_from w es
sent_from w (offered v x ∷ es) = sent_from w es
sent_from w (sent v x ∷ es) = of w v x ++ sent_from w es
sent_from w (unchanged ∷ es) = sent_from w es

-- what comes back of a sent item: on a loop a byte or a NOTE
abbrev pub back : Bool → Item → List Item
back false x = []
back true (Byte b) = Byte b ∷ []
back true End = []
back true (Note k) = Note k ∷ []

-- what arrived, with what came back on a loop, and what was fetched
abbrev pub arrived_in : Bool → List Event → List Item
arrived_in loops [] = []
arrived_in loops (arrived xs ∷ es) = xs ++ arrived_in loops es
arrived_in loops (fetched x ∷ es) = arrived_in loops es
arrived_in loops (offered v x ∷ es) = arrived_in loops es
arrived_in loops (sent v x ∷ es) = back loops x ++ arrived_in loops es
arrived_in loops (unchanged ∷ es) = arrived_in loops es

abbrev pub fetched_in : List Event → List Item
fetched_in [] = []
fetched_in (arrived xs ∷ es) = fetched_in es
fetched_in (fetched x ∷ es) = x ∷ fetched_in es
fetched_in (offered v x ∷ es) = fetched_in es
fetched_in (sent v x ∷ es) = fetched_in es
fetched_in (unchanged ∷ es) = fetched_in es

-- all that went out on the line, in order
abbrev pub on_line : List Event → List (Band × Item)
on_line [] = []
on_line (arrived xs ∷ es) = on_line es
on_line (fetched x ∷ es) = on_line es
on_line (offered v x ∷ es) = on_line es
on_line (sent v x ∷ es) = (v, x) ∷ on_line es
on_line (unchanged ∷ es) = on_line es

-- no END among some items
abbrev pub NoEnd : List (Band × Item) → Type 0
NoEnd [] = Unit {0}
NoEnd ((v, Byte b) ∷ s) = NoEnd s
NoEnd ((v, End) ∷ s) = ⊥
NoEnd ((v, Note k) ∷ s) = NoEnd s

-- records do not mix: after a byte of a band, only items of that band go out up to an END
abbrev pub Unmixed : List (Band × Item) → Type 0
Unmixed s = (before between after : List (Band × Item)) (w v : Band) (c : ℕ) (x : Item) →
    s ≡ before ++ ((w, Byte c) ∷ (between ++ ((v, x) ∷ after))) → NoEnd between → v ≡ w

-- the driver has just been started
abbrev pub IsStarted : Line → Type 0
IsStarted l = l ≡ emptied l

-- what holds after a series of calls from the start on
pub record Kept (a b : Line) (es : List Event) : Type 0 where
  -- what was offered to a band is what was sent from it, and then what it still holds
  pub bands : (w : Band) → offered_to w es ≡ sent_from w es ++ band b w
  -- what arrived is what was fetched, and then what still waits
  pub waiting : arrived_in a.loops es ≡ fetched_in es ++ b.waiting
  pub unmixed : Unmixed (on_line es)

abbrev pub InOrder : {D : Type 0} → (D → Line) → Type 0
InOrder {D} line = (a b : D) (es : List Event) → IsStarted (line a) → Run line a es b → Kept (line a) (line b) es

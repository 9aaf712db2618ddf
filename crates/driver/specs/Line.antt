-- What a driver means: a waiting list, the outgoing bands, the band of a record begun or none, capacities, and whether it
-- loops.
use Rattle.std.specs.Prelude.{ℕ, Bool, true, false, List, [], ◌∷◌, ◌++◌, Some, None, Option}
use Rattle.item.specs.declared.Item.{Item}
use Rattle.item.specs.declared.Item.TheVariants.{Byte, End, Note}
use Rattle.item.specs.declared.Band.{Band}
use Rattle.item.specs.declared.Band.TheVariants.{Records, Echo}

pub record Line : Type 0 where
  pub waiting : List Item
  pub records : List Item
  pub echo : List Item
  pub begun : Option Band
  pub waiting_room : ℕ
  pub records_room : ℕ
  pub echo_room : ℕ
  pub loops : Bool

-- a band's list, and how many it can hold
abbrev pub band : Line → Band → List Item
band l Records = l.records
band l Echo = l.echo

abbrev pub band_room : Line → Band → ℕ
band_room l Records = l.records_room
band_room l Echo = l.echo_room

-- a line with one part changed
abbrev pub with_waiting : Line → List Item → Line
with_waiting l xs = record { waiting = xs; records = l.records; echo = l.echo; begun = l.begun; waiting_room = l.waiting_room; records_room = l.records_room; echo_room = l.echo_room; loops = l.loops }

abbrev pub with_band : Line → Band → List Item → Line
with_band l Records xs = record { waiting = l.waiting; records = xs; echo = l.echo; begun = l.begun; waiting_room = l.waiting_room; records_room = l.records_room; echo_room = l.echo_room; loops = l.loops }
with_band l Echo xs = record { waiting = l.waiting; records = l.records; echo = xs; begun = l.begun; waiting_room = l.waiting_room; records_room = l.records_room; echo_room = l.echo_room; loops = l.loops }

abbrev pub with_begun : Line → Option Band → Line
with_begun l b = record { waiting = l.waiting; records = l.records; echo = l.echo; begun = b; waiting_room = l.waiting_room; records_room = l.records_room; echo_room = l.echo_room; loops = l.loops }

-- started: all is empty, and no record is begun
abbrev pub emptied : Line → Line
emptied l = record { waiting = []; records = []; echo = []; begun = None; waiting_room = l.waiting_room; records_room = l.records_room; echo_room = l.echo_room; loops = l.loops }

-- the band that is sent from: that of the record begun; with none begun the echo, if it has an item, else the records
abbrev pub echo_first : List Item → Band
echo_first [] = Records
echo_first (x ∷ xs) = Echo

abbrev pub chosen_from : Option Band → List Item → Band
chosen_from (Some b) echo = b
chosen_from None echo = echo_first echo

abbrev pub chosen : Line → Band
chosen l = chosen_from l.begun l.echo

-- a byte begins a record, END ends it, NOTE does neither
abbrev pub begun_after : Option Band → Band → Item → Option Band
begun_after was b (Byte _) = Some b
begun_after was b End = None
begun_after was b (Note _) = was

-- does a sent item come back on a loop
abbrev pub returns : Item → Bool
returns (Byte _) = true
returns End = false
returns (Note _) = true

-- the waiting list once an item is sent: on a loop a byte or a NOTE comes back
abbrev pub after_sent : Bool → List Item → Item → List Item
after_sent false xs x = xs
after_sent true xs (Byte b) = xs ++ (Byte b ∷ [])
after_sent true xs End = xs
after_sent true xs (Note k) = xs ++ (Note k ∷ [])

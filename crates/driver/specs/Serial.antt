-- The line of a driver that keeps its three lists in lists of items.
use Rattle.std.specs.Prelude.{◌≡◌, ℕ, ◌<◌, ◌≤◌, Bool, true, List, length, Ok, Err, Result}
use Rattle.item.specs.declared.Item.{Item}
use Rattle.item.specs.declared.Refusal.{Refusal}
use Rattle.item.specs.Numbers.{number}
use Rattle.driver.specs.Line.{Line, with_waiting, returns, after_sent}
use Rattle.driver.specs.declared.serial.Serial.{Serial}

abbrev pub serial_line : {Q : Type 0} {n : ℕ} → (Q → List Item) → (Q → ℕ) → Bool → Serial Q n → Line
serial_line items room loops s = record { waiting = items s.waiting; records = items s.records; echo = items s.echo; begun = s.begun; waiting_room = room s.waiting; records_room = room s.records; echo_room = room s.echo; loops = loops }

-- a sent item comes back where it must, or does not fit
abbrev pub ComesBack : {D : Type 0} → (D → Line) → D → Item → Result (Unit {0}) Refusal → D → Type 0
ComesBack line a x (Ok _) b = ((line a).loops ≡ true → returns x ≡ true → length (line a).waiting < (line a).waiting_room) × (line b ≡ with_waiting (line a) (after_sent (line a).loops (line a).waiting x))
ComesBack line a x (Err e) b = (number e ≡ 8) × ((line a).loops ≡ true) × (returns x ≡ true) × ((line a).waiting_room ≤ length (line a).waiting) × (b ≡ a)

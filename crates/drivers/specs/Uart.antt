-- A UART and the memory that its rings lie in.
use Rattle.std.specs.Prelude.{◌≡◌, ℕ, false, List, [], length, None, Ok, Err, Result}
use Rattle.item.specs.declared.Item.{Item}
use Rattle.item.specs.declared.Refusal.{Refusal}
use Rattle.item.specs.Numbers.{number}
use Rattle.ring.specs.declared.Ring.{Ring}
use Rattle.ring.specs.Elements as ring
use Rattle.driver.specs.Line.{Line}
use Rattle.driver.specs.declared.serial.Serial.{Serial}
use Rattle.driver.specs.Serial.{serial_line}

abbrev pub Uart : Type 0
Uart = Serial (Ring Item) 0

abbrev pub uart_line : Uart → Line
uart_line u = serial_line ring.elements ring.capacity_of false u

-- nothing in any list, no record begun, and so many places in each
abbrev pub fresh : ℕ → ℕ → ℕ → Line
fresh w r e = record { waiting = []; records = []; echo = []; begun = None; waiting_room = w; records_room = r; echo_room = e; loops = false }

abbrev pub no_places : Line
no_places = fresh 0 0 0

-- what lies in the memory of the three rings
pub record Memory (u : Uart) (ws rs es : List Item) : Type 0 where
  pub waiting : u.waiting.cells.now ≡ ws
  pub records : u.records.cells.now ≡ rs
  pub echo : u.echo.cells.now ≡ es

-- each ring keeps the memory that was handed over for it
pub record SameMemory (a b : Uart) : Type 0 where
  pub waiting : ring.SameMemory a.waiting b.waiting
  pub records : ring.SameMemory a.records b.records
  pub echo : ring.SameMemory a.echo b.echo

-- memory for 1 to 1,024 places in each
abbrev pub Fits : Uart → Type 0
Fits u = ring.Fits u.waiting × ring.Fits u.records × ring.Fits u.echo

abbrev pub laid : Uart → Line
laid u = fresh (length u.waiting.cells.now) (length u.records.cells.now) (length u.echo.cells.now)

-- laid out: as many places as there is memory for, none of them taken, and the memory as it was; refused 12 exactly where
-- one of the three does not fit
abbrev pub LaysOut : Uart → Result (Unit {0}) Refusal → Uart → Type 0
LaysOut a (Ok _) b = Fits a × (uart_line b ≡ laid a) × Memory b a.waiting.cells.now a.records.cells.now a.echo.cells.now
LaysOut a (Err e) b = (number e ≡ 12) × (Fits a → ⊥) × (b ≡ a)

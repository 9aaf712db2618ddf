-- A loop driver: 64 places in each list.
use Rattle.std.specs.Prelude.{true, [], None}
use Rattle.driver.specs.Line.{Line}
use Rattle.fifo.specs.declared.inline.Inline.{Inline}
use Rattle.fifo.specs.Inline.{items_in, room_in}
use Rattle.driver.specs.declared.serial.Serial.{Serial}
use Rattle.driver.specs.Serial.{serial_line}

abbrev pub looping_line : Serial (Inline 64) 1 → Line
looping_line d = serial_line items_in room_in true d

abbrev pub just_made : Line
just_made = record { waiting = []; records = []; echo = []; begun = None; waiting_room = 64; records_room = 64; echo_room = 64; loops = true }

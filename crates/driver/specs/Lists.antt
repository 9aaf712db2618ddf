-- The lists of the bands in a driver that keeps its three lists in lists of items.
use Rattle.std.specs.Prelude.{ℕ}
use Rattle.item.specs.declared.Band.{Band}
use Rattle.item.specs.declared.Band.TheVariants.{Records, Echo}
use Rattle.driver.specs.declared.serial.Serial.{Serial}

abbrev pub list_of : {Q : Type 0} {n : ℕ} → Serial Q n → Band → Q
list_of s Records = s.records
list_of s Echo = s.echo

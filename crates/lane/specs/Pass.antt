-- The lane that passes every item as it is: no state, and the item itself is ready.
use Rattle.std.specs.Prelude.{List, [], ◌∷◌}
use Rattle.item.specs.declared.Item.{Item}
use Rattle.lane.specs.Rule.{Rule, each}

abbrev pub itself : Item → List Item
itself x = x ∷ []

abbrev pub passes : Rule (Unit {0})
passes = each itself

-- A short list of items, as the list that it stands for.
use Rattle.std.specs.Prelude.{List, [], ◌∷◌}
use Rattle.item.specs.declared.Item.{Item}
use Rattle.lane.specs.declared.few.Few.{Few}
use Rattle.lane.specs.declared.few.Few.TheVariants.{Zero, One, Two, Three, Four}

abbrev pub items : Few → List Item
items Zero = []
items (One a) = a ∷ []
items (Two a b) = a ∷ b ∷ []
items (Three a b c) = a ∷ b ∷ c ∷ []
items (Four a b c d) = a ∷ b ∷ c ∷ d ∷ []

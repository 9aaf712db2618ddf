-- The terminal: what is typed goes up through the mapper and the discipline, and the echo down through the mapper.
use Rattle.std.specs.Prelude.{◌≡◌, List, []}
use Rattle.item.specs.declared.Item.{Item}
use Rattle.lane.specs.Rule.{holding, started}
use Rattle.lane.specs.Reply.{both, begun, onward, back, ahead, behind}
use Rattle.lane.specs.Lists.{onto, emits, after}
use Rattle.case_mapper.specs.Case as mapper
use Rattle.case_mapper.specs.Views as mapper_lane
use Rattle.disciplines.specs.Canonical as canonical
use Rattle.disciplines.specs.Views as canonical_lane
use Rattle.bench.specs.declared.desk.Desk.{Desk}

-- every lane just started
pub record Started (d : Desk) : Type 0 where
  pub up : mapper_lane.up_held d.mapper.up ≡ started mapper.up_rule
  pub down : mapper_lane.down_held d.mapper.down ≡ started mapper.down_rule
  pub echo : mapper_lane.down_held d.mapper.echo ≡ started mapper.echo_rule
  pub line : canonical_lane.up_held d.discipline.up ≡ begun canonical.up_rule
  pub records : canonical_lane.down_held d.discipline.down ≡ started canonical.down_rule

-- what the mapper hands up to the discipline
abbrev pub handed_up : Desk → List Item → List Item
handed_up d xs = emits mapper.up_rule (mapper_lane.up_held d.mapper.up) xs

-- what the discipline echoes
abbrev pub echoed : Desk → List Item → List Item
echoed d xs = emits (back canonical.up_rule) (behind (canonical_lane.up_held d.discipline.up)) (handed_up d xs)

-- what the reader has, and what the screen shows, once some items are typed
abbrev pub reader_has : Desk → List Item → List Item → List Item
reader_has d xs out = onto out (onward canonical.up_rule) (ahead (canonical_lane.up_held d.discipline.up)) (handed_up d xs)

abbrev pub screen_shows : Desk → List Item → List Item → List Item
screen_shows d xs out = onto out mapper.echo_rule (mapper_lane.down_held d.mapper.echo) (echoed d xs)

-- the terminal after them: nothing is ready on the lanes that they went through, which are in the states after what they
-- were given, and the lanes for records that go down are as they were
pub record Typed (d : Desk) (xs : List Item) (e : Desk) : Type 0 where
  pub up : mapper_lane.up_held e.mapper.up ≡ holding (after mapper.up_rule (mapper_lane.up_held d.mapper.up).state xs) []
  pub line : canonical_lane.up_held e.discipline.up ≡ both (after (onward canonical.up_rule) (canonical_lane.up_held d.discipline.up).state (handed_up d xs)) [] []
  pub echo : mapper_lane.down_held e.mapper.echo ≡ holding (after mapper.echo_rule (mapper_lane.down_held d.mapper.echo).state (echoed d xs)) []
  pub down : e.mapper.down ≡ d.mapper.down
  pub records : e.discipline.down ≡ d.discipline.down

-- what the discipline hands down to the mapper, and what goes out, once a record is posted
abbrev pub handed_down : Desk → List Item → List Item
handed_down d xs = emits canonical.down_rule (canonical_lane.down_held d.discipline.down) xs

abbrev pub goes_out : Desk → List Item → List Item → List Item
goes_out d xs out = onto out mapper.down_rule (mapper_lane.down_held d.mapper.down) (handed_down d xs)

-- the terminal after it: the lanes for records are in the states after what they were given, and the others are as they were
pub record Posted (d : Desk) (xs : List Item) (e : Desk) : Type 0 where
  pub records : canonical_lane.down_held e.discipline.down ≡ holding (after canonical.down_rule (canonical_lane.down_held d.discipline.down).state xs) []
  pub down : mapper_lane.down_held e.mapper.down ≡ holding (after mapper.down_rule (mapper_lane.down_held d.mapper.down).state (handed_down d xs)) []
  pub up : e.mapper.up ≡ d.mapper.up
  pub line : e.discipline.up ≡ d.discipline.up
  pub echo : e.mapper.echo ≡ d.mapper.echo

-- A record that was sent is read back.
use Rattle.std.proofs.Common.{List, ap, ◌∙◌}
use Rattle.item.specs.declared.Item.{Item}
use Rattle.lane.specs.Lists.{record_of, through}
use Rattle.framer.specs.Frame.{up_rule, down_rule}
use Rattle.framer.proofs.Trip.{round_trip}
use Rattle.disciplines.proofs.Bounds.{raw_passes}
use Rattle.bench.specs.Scaler.{sent, ComesBack}

pub comes_back : ComesBack
comes_back bs h =
    (raw_passes (through up_rule (sent (record_of bs)))).0
    ∙ ap (λ (xs : List Item). through up_rule (through down_rule xs)) (raw_passes (record_of bs)).2
    ∙ round_trip bs h

use Rattle.std.proofs.Common.{◌≡◌, take, string_bytes}
use Rattle.show.specs.Shown.{spelled}
use Rattle.show.proofs.spell.Given as goal

abbrev pub invariant-loop-item : goal.invariant-loop-item
invariant-loop-item g l = string_bytes l.text ≡ spelled g.S.Style.shows (take l.item-index l.items)

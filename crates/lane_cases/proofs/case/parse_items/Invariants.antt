use Rattle.std.proofs.Common.{◌≤◌, vec_len}
use Rattle.lane_cases.proofs.case.parse_items.Given as goal

abbrev pub invariant-loop : goal.invariant-loop
invariant-loop l = (l.first ≤ l.behind) × (l.behind ≤ vec_len l.items)

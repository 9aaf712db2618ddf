use Rattle.std.proofs.Common.{◌≤◌, vec_len}
use Rattle.lane_cases.proofs.case.push_group.Given as goal

abbrev pub invariant-loop-word : goal.invariant-loop-word
invariant-loop-word l = vec_len l.initial.items ≤ vec_len l.items

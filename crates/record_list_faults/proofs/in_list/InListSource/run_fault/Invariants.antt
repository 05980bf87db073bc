use Rattle.std.proofs.Common.{◌≡◌, ◌-◌, ◌≤◌, Ok, replicate}
use Rattle.record_list_faults.specs.ListAnswers.{list_answer}
use Rattle.record_list_faults.proofs.in_list.InListSource.run_fault.Given as goal

-- the source is behind all but those that are left
abbrev pub invariant-loop-left : goal.invariant-loop-left
invariant-loop-left g l = record { few : l.left ≤ l.count; so_far : Ok l.source ≡ list_answer l.self (replicate (l.count - l.left) g.F.BodyField.field) }

abbrev pub decreases-loop-left : goal.decreases-loop-left
decreases-loop-left g l = l.left

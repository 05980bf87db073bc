-- Row i starts at `at`, the rows before it meet the direction, and `late` is the first of them that fails the step.
use Rattle.std.proofs.Common.{◌≡◌, true}
use Rattle.refusal.specs.Places.{Throughout}
use Rattle.judge_sums.specs.Places.{row_place}
use Rattle.judge_conditions.specs.Remembered.{first_failing}
use Rattle.judge_exclusion.proofs.ExcludedLaws.{stays_at, meets_at}
use Rattle.judge_exclusion.proofs.exclusion.Given as goal

abbrev pub invariant-loop-i : goal.invariant-loop-i
invariant-loop-i l =
    record {
      reached : l.at ≡ row_place l.rows.start l.rows.n l.i;
      stayed : Throughout l.i (λ k. stays_at l.rows l.certificate k ≡ true);
      remembered : l.late ≡ first_failing l.i (meets_at l.rows l.certificate);
    }

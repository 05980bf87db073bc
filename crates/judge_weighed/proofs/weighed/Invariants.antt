-- The columns before j hold over A, and `late` is the first of them that fails over A'.
use Rattle.std.proofs.Common.{◌≡◌, true}
use Rattle.refusal.specs.Places.{Throughout}
use Rattle.judge_conditions.specs.Remembered.{first_failing}
use Rattle.judge_weighed.specs.WeightedHeld.{weighted_of, now_at, next_at}
use Rattle.judge_weighed.proofs.weighed.Given as goal

abbrev pub invariant-loop-j : goal.invariant-loop-j
invariant-loop-j l =
    let w = weighted_of l.rows l.certificate l.held in
    record {
      held_over : Throughout l.j (λ i. now_at w i ≡ true);
      remembered : l.late ≡ first_failing l.j (next_at w);
    }

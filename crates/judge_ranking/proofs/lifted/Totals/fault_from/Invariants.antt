-- The first condition holds at the columns before j; `second` and `third` are the first of them that fail the other two.
use Rattle.std.proofs.Common.{◌≡◌, true}
use Rattle.refusal.specs.Places.{Throughout}
use Rattle.judge_conditions.specs.Remembered.{first_failing}
use Rattle.judge_ranking.specs.LiftedTotals.{condition_holds}
use Rattle.judge_ranking.proofs.lifted.Totals.fault_from.Given as goal

abbrev pub invariant-loop-j : goal.invariant-loop-j
invariant-loop-j l =
    record {
      first_held : Throughout l.j (λ k. condition_holds 21 l.self k ≡ true);
      second_is : l.second ≡ first_failing l.j (condition_holds 22 l.self);
      third_is : l.third ≡ first_failing l.j (condition_holds 23 l.self);
    }

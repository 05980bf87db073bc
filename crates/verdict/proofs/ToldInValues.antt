-- What a refusal by a condition means, in values: for all n, m, rows and certificate values within the limits, stated part by part, and a
-- rank list with room, judging the bytes that are written for them tells a condition's number and place if and only if that condition
-- is the first to fail of those values, there (`RankingFails`, `ExclusionFails` and `LassoFails` of crate `theory`). So a solver's
-- maintainer can read a refusal beside the rows and the multipliers that were handed in.
use mathlib.Core.Path.{◌≡◌}
use mathlib.Core.Logic.{◌↔◌}
use Prim.Native.Nat.{ℕ, ◌+◌, ◌*◌, ◌≤◌, ◌<◌}
use mathlib.Core.Bool.{false≢true}
use mathlib.Core.List.{List}
use lib.IntN.{ℤ, pos}
use lib.ListN.{length}
use Rattle.whole.specs.Rows.{Row}
use Rattle.record.specs.Contents.{RankingIn, ExclusionIn, LassoIn}
use Rattle.record.specs.Layouts.{has_rank}
use Rattle.theory.specs.Fails.{RankingFails, ExclusionFails, LassoFails}
use Rattle.theory.specs.Lassos.{Lasso}
use Rattle.theory.specs.Loops.{over}
use Rattle.verdict.specs.Contents.{parts}
use Rattle.verdict.specs.Judging.{judges, judge_of}
use Rattle.verdict.specs.Stages.{refusal_of}
use Rattle.verdict.proofs.InValues.{LoopGiven, written, ranking_writer, exclusion_writer, lasso_writer}
use Rattle.verdict.proofs.InValues.{ranking_written, exclusion_written, lasso_written}
use Rattle.verdict.proofs.ToldExactly.{told_exactly_judging}

module _ (n m : ℕ) (rs : List Row) (room room' : List ℕ) (lent : List ℤ) (g : LoopGiven n m rs room)
    (number place : ℕ) (high : 20 < number) where
  pub ranking_told_in_values : (Y Z : List ℤ) → RankingIn m Y Z → 4 + (2 + 4 * m) ≤ length room' → n ≤ length lent
      → (judges (written n m rs room (ranking_writer n m Y Z room') room' lent) ≡ refusal_of 2 number place)
      ↔ RankingFails (over n rs) (record { Y = Y; Z = Z }) number place
  unfolding judge_of
  ranking_told_in_values Y Z h fits there =
      let (p, kind_is, values_are) = ranking_written n m rs room room' lent g Y Z h fits in
      let exactly = told_exactly_judging _ number place high in (
        λ x. rw (p.loop_is, values_are) at (rw kind_is at (exactly.0 x).fails),
        λ x.
            exactly.1 (record {
              both_sound = p.both_sound;
              room = λ e. rw p.variables_are there;
              fails = rw kind_is (rw (p.loop_is, values_are) x);
            }),
      )

  pub exclusion_told_in_values : (q : ℕ) (U V' W' : List ℤ) → ExclusionIn n (pos q) U V' W' → 4 + (4 + 12 * n) ≤ length room'
      → (judges (written n m rs room (exclusion_writer n m q U V' W' room') room' lent) ≡ refusal_of 2 number place)
      ↔ ExclusionFails (over n rs) (record { q = q; U = U; «V» = V'; W = W' }) number place
  unfolding has_rank
  exclusion_told_in_values q U V' W' h fits =
      let (p, kind_is, values_are) = exclusion_written n m rs room room' lent g q U V' W' h fits in
      let exactly = told_exactly_judging _ number place high in (
        λ x. rw (p.loop_is, values_are) at (rw kind_is at (exactly.0 x).fails),
        λ x.
            exactly.1 (record {
              both_sound = p.both_sound;
              room = λ e. absurd (false≢true (rw kind_is at e));
              fails = rw kind_is (rw (p.loop_is, values_are) x);
            }),
      )

  pub lasso_told_in_values : (c : Lasso) → LassoIn n m (parts c)
      → 4 + (18 + 2 * n + length c.stem * (4 * n + 6) + 6 * m) ≤ length room' → n ≤ length lent
      → (judges (written n m rs room (lasso_writer n m c room') room' lent) ≡ refusal_of 2 number place)
      ↔ LassoFails (over n rs) c number place
  unfolding judge_of
  lasso_told_in_values c h fits there =
      let (p, kind_is, values_are) = lasso_written n m rs room room' lent g c h fits in
      let exactly = told_exactly_judging _ number place high in (
        λ x. rw (p.loop_is, values_are) at (rw kind_is at (exactly.0 x).fails),
        λ x.
            exactly.1 (record {
              both_sound = p.both_sound;
              room = λ e. rw p.variables_are there;
              fails = rw kind_is (rw (p.loop_is, values_are) x);
            }),
      )

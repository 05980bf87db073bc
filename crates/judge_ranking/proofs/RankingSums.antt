-- The totals of a ranking's rows, in lists of any length: they are small enough to be asked, and what is told of them is told of the ranking.
use Rattle.std.specs.Prelude.{Result}
use Prim.Native.Nat.{ℕ, ◌+◌, ◌*◌, ◌≤◌}
use mathlib.Core.Path.{◌≡◌, ◌∙◌}
use mathlib.Core.List.{List}
use native.Mathlib.Omega.{arith}
use lib.IntN.{ℤ, neg_ℤ}
use mir.Syntax.{w64}
use mir.Val.{of_z, to_z}
use mir.Facts.{to_z-of_z}
use Rattle.refusal.specs.declared.Fault.{Fault}
use Rattle.whole.specs.Sums.{tabulate}
use Rattle.judge_sums.specs.declared.rows.Rows.{Rows}
use Rattle.judge_sums.specs.declared.Besides.{Besides}
use Rattle.judge_sums.specs.Places.{BesideOf, TotalsOf, most_right}
use Rattle.judge_sums.specs.Running.{CanGrow}
use Rattle.judge_conditions.specs.LoopHeld.{loop_held, loop_of}
use Rattle.judge_conditions.proofs.Totals.{can_grow, grown_fits, right_is}
use Rattle.judge_ranking.specs.RankedBy.{next_in_sums, totals_told, ranked_of, rank_put, RankingBy}
use Rattle.judge_ranking.specs.RankingHeld.{ranking_held}
use Rattle.judge_ranking.specs.declared.Ranked.{Ranked}
use Rattle.judge_ranking.proofs.RankedLaws.{ranked_by}
use Rattle.judge_ranking.proofs.RankingTotals.{totalled, lift_passed}

-- a number as it is passed on
abbrev passed : ℤ → ℤ
passed z = to_z w64 (of_z w64 z)

-- the totals of right sides are small
right_grows : {multipliers : List ℕ} {place : ℕ} {bytes : List ℕ} {start n m : ℕ} {lift right : ℤ} → m ≤ 64
    → BesideOf multipliers place bytes start n m lift right → CanGrow right
right_grows {m = m} {right = right} few h = can_grow m most_right _ right (omega (arith, few)) (omega arith) h.right_sum

-- what the totals under both lists of multipliers tell is told of the ranking
module _ (rows : Rows) (certificate : List ℕ) (ys zs : List ℤ) (beside : Besides) (few : rows.count ≤ 64)
    (under_y : TotalsOf certificate 6 rows.bytes.now rows.start rows.n rows.count ys beside.y.lift beside.y.right)
    (under_z : TotalsOf certificate (6 + 2 * rows.count) rows.bytes.now rows.start rows.n rows.count zs beside.z.lift beside.z.right) where
  abbrev ylift : ℤ
  ylift = passed beside.y.lift

  abbrev zlift : ℤ
  zlift = passed beside.z.lift

  abbrev yb : ℤ
  yb = passed beside.y.right

  abbrev zb : ℤ
  zb = passed beside.z.right

  pub ranks : (r : Result Ranked Fault) (before after : List ℤ)
      → (r ≡ ranked_of (totals_told ys ylift zs zlift rows.n zb) (neg_ℤ yb) (neg_ℤ zb))
      × (after ≡ rank_put (totals_told ys ylift zs zlift rows.n zb) (tabulate rows.n (next_in_sums zs zlift rows.n)) before)
      → RankingBy r (loop_of rows) (ranking_held certificate 6 rows.count) before after
  unfolding loop_held ranking_held
  ranks r before after told =
      let small : rows.count ≤ 65 = omega arith in
      let lift_y = lift_passed rows.count _ small under_y.beside.lift_sum in
      let lift_z = lift_passed rows.count _ small under_z.beside.lift_sum in
      let right_y = right_is certificate 6 rows.bytes.now rows.start rows.n rows.count beside.y.right under_y.beside.right_sum in
      let right_z = right_is certificate (6 + 2 * rows.count) rows.bytes.now rows.start rows.n rows.count beside.z.right under_z.beside.right_sum in
      ranked_by (loop_of rows) (ranking_held certificate 6 rows.count) ys ylift zs zlift
      (totalled rows certificate 6 ys ylift zs zlift small under_y.columns lift_y under_z.columns lift_z)
      yb zb r before after
      (to_z-of_z (grown_fits (right_grows few under_y.beside)) ∙ right_y) (to_z-of_z (grown_fits (right_grows few under_z.beside)) ∙ right_z)
      told.0 told.1

-- The lifted totals of a ranking's columns, less the lifts, are the sums of the theory.
use Prim.Native.Nat.{ℕ, ◌+◌, ◌*◌, ◌≤◌}
use mathlib.Core.List.{List}
use native.Mathlib.Omega.{arith}
use lib.IntN.{ℤ, pos}
use lib.ListN.{replicate, get_or-replicate}
use mir.Syntax.{w64}
use mir.Val.{of_z, to_z}
use mir.Facts.{to_z-of_z}
use Rattle.judge_sums.specs.Places.{lift_term, SumsOf, AllNone, most_entry}
use Rattle.judge_sums.specs.Running.{SumOf}
use Rattle.judge_sums.specs.declared.rows.Rows.{Rows}
use Rattle.judge_sums.proofs.LiftLaws.{column_in}
use Rattle.judge_conditions.specs.LoopHeld.{loop_held, loop_of}
use Rattle.judge_conditions.proofs.Totals.{now_is, next_is, modest_fits, lift_modest}
use Rattle.judge_ranking.specs.RankedBy.{Totalled}
use Rattle.judge_ranking.specs.RankingHeld.{ranking_held}

-- the lifted totals of a ranking record's rows, less the lifts
pub totalled : (rows : Rows) (certificate : List ℕ) (place : ℕ) (ys : List ℤ) (ylift : ℤ) (zs : List ℤ) (zlift : ℤ) → rows.count ≤ 65
    → let z_place = place + 2 * rows.count in
    SumsOf certificate place rows.bytes.now rows.start rows.n rows.count ys → SumOf rows.count most_entry (lift_term certificate place) ylift
    → SumsOf certificate z_place rows.bytes.now rows.start rows.n rows.count zs → SumOf rows.count most_entry (lift_term certificate z_place) zlift
    → Totalled ys ylift zs zlift (loop_of rows) (ranking_held certificate place rows.count)
unfolding loop_held ranking_held
totalled rows certificate place ys ylift zs zlift few y y-lift z z-lift j below =
    let bytes = rows.bytes.now in
    let start = rows.start in
    let n = rows.n in
    let m = rows.count in
    let z_place = place + 2 * m in
    let under_y = column_in certificate place bytes start n m j ys ylift y y-lift below in
    let under_z = column_in certificate z_place bytes start n m j zs zlift z z-lift below in (
      now_is certificate place bytes start n j m _ _ few under_y below,
      next_is certificate place bytes start n j m _ _ few under_y below,
      now_is certificate z_place bytes start n j m _ _ few under_z below,
      next_is certificate z_place bytes start n j m _ _ few under_z below,
    )

-- the lifts as they are passed on
pub lift_passed : (count : ℕ) (term : ℕ → ℤ) {lift : ℤ} → count ≤ 65 → SumOf count most_entry term lift → SumOf count most_entry term (to_z w64 (of_z w64 lift))
lift_passed count term {lift} few h = rw (to_z-of_z {w = w64} {z = lift} (modest_fits (lift_modest count term lift few h))) h

-- a list of zeros to start from
pub zeros : {long : ℕ} (width : ℕ) → width ≤ long → AllNone width (replicate long (pos 0))
zeros {long = long} width wide k below = get_or-replicate long k (pos 0) (pos 0) (omega arith)

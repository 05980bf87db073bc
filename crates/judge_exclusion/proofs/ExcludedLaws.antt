-- Exclusions row by row: the left sides that crate `judge_along` gives are those of the theory, and a walk over the rows tells what their
-- order of tests does.
use Rattle.std.specs.Prelude.{Option, Some, None}
use mathlib.Core.Path.{◌≡◌, sym, ap, ap₂, ◌∙◌}
use Prim.Native.Nat.{ℕ, ◌+◌, ◌*◌, ◌<◌}
use mathlib.Core.Bool.{Bool, true, false}
use mathlib.Core.List.{List, []}
use lib.IntN.{ℤ, pos, ◌*ℤ◌}
use lib.Signed.{le_z}
use mir.Syntax.{w64}
use mir.Val.{of_z, to_z}
use mir.Facts.{to_z-of_z}
use Rattle.refusal.specs.Tests.{Told, done, refused, ◌then◌}
use Rattle.refusal.specs.Places.{Throughout, told_each}
use Rattle.refusal.proofs.PlaceLaws.{before_all, before_first, told_same, told_none, told_at}
use Rattle.whole.proofs.Tables.{length_tabulate, tabulate_at}
use Rattle.whole.specs.Rows.{Row}
use Rattle.endian.specs.Numbers.{little_at}
use Rattle.judge_sums.specs.Lists.{row_from, rows_from}
use Rattle.judge_sums.specs.Places.{right_at, row_place}
use Rattle.judge_sums.specs.Running.{CanGrow}
use Rattle.judge_sums.specs.declared.rows.Rows.{Rows}
use Rattle.judge_along.specs.AlongRows.{direction_of, step_of}
use Rattle.judge_along.proofs.AlongLists.{direction_dot, step_dot}
use Rattle.theory.specs.Conditions.{exclusion_told}
use Rattle.theory.proofs.InOrder.{exclusion_in_order}
use Rattle.judge_conditions.specs.LoopHeld.{loop_held, loop_of}
use Rattle.judge_conditions.specs.Remembered.{first_failing}
use Rattle.judge_conditions.proofs.RememberedLaws.{told_nothing, told_remembered}
use Rattle.judge_conditions.proofs.Totals.{grown_fits}
use Rattle.judge_exclusion.specs.ExclusionHeld.{stays, meets, exclusion_held}

-- ---- one row

module _ (rows : List ℕ) (row n : ℕ) (certificate : List ℕ) where
  pub stays_so : (direction : ℤ) → direction ≡ direction_of rows row n certificate 8 → CanGrow direction
      → le_z (to_z w64 (of_z w64 direction)) (pos 0) ≡ stays (exclusion_held certificate n) (row_from rows n row)
  unfolding exclusion_held row_from
  stays_so direction is grows = rw (to_z-of_z (grown_fits grows)) (ap (λ z. le_z z (pos 0)) (is ∙ direction_dot rows row n certificate 8))

  pub meets_so : (step right : ℤ) → step ≡ step_of rows row n certificate 8 → CanGrow step
      → right ≡ pos (little_at 2 certificate 6) *ℤ right_at rows (row + 4 * n) → CanGrow right
      → le_z (to_z w64 (of_z w64 step)) (to_z w64 (of_z w64 right)) ≡ meets (exclusion_held certificate n) (row_from rows n row)
  unfolding exclusion_held row_from
  meets_so step right is grows right_is right_grows =
      rw (to_z-of_z (grown_fits grows), to_z-of_z (grown_fits right_grows)) (ap₂ le_z (is ∙ step_dot rows row n certificate 8) right_is)

-- ---- all rows

module _ (rows : Rows) (certificate : List ℕ) where
  -- the tests of row i
  abbrev pub stays_at : ℕ → Bool
  stays_at i = stays (exclusion_held certificate rows.n) (row_from rows.bytes.now rows.n (row_place rows.start rows.n i))

  abbrev pub meets_at : ℕ → Bool
  meets_at i = meets (exclusion_held certificate rows.n) (row_from rows.bytes.now rows.n (row_place rows.start rows.n i))

  -- what the theory tells
  abbrev told : Told
  told = exclusion_told (loop_of rows) (exclusion_held certificate rows.n)

  -- its tests are those
  in_order : told ≡ (told_each 31 rows.count stays_at then told_each 32 rows.count meets_at)
  unfolding loop_held rows_from
  in_order =
      let row = λ (i : ℕ). row_from rows.bytes.now rows.n (row_place rows.start rows.n i) in
      let none : Row = record { now = []; next = []; right = pos 0 } in
      exclusion_in_order (loop_of rows) (exclusion_held certificate rows.n)
      ∙ rw length_tabulate
      (ap₂ (λ (s t : Told). s then t)
      (told_same 31 rows.count _ _ (λ i below. rw (tabulate_at rows.count row i none below)))
      (told_same 32 rows.count _ _ (λ i below. rw (tabulate_at rows.count row i none below))))

  -- a walk that ended at row i by the direction
  pub direction_told : (i : ℕ) → i < rows.count → stays_at i ≡ false → Throughout i (λ k. stays_at k ≡ true) → told ≡ refused 31 i
  unfolding ◌then◌
  direction_told i below fails before =
      in_order ∙ rw (told_at 31 rows.count stays_at i (sym (before_first rows.count stays_at i below fails before)) below)

  -- one that went to the end
  module _ (all : Throughout rows.count (λ k. stays_at k ≡ true)) (late : Option ℕ) (is : late ≡ first_failing rows.count meets_at) where
    pub step_told : (place : ℕ) → late ≡ Some place → told ≡ refused 32 place
    unfolding ◌then◌
    step_told place found =
        in_order ∙ rw (told_none 31 rows.count stays_at (before_all rows.count stays_at all)) (told_remembered rows.count meets_at 32 place (sym found ∙ is))

    pub none_told : late ≡ None → told ≡ done
    unfolding ◌then◌
    none_told found = in_order ∙ rw (told_none 31 rows.count stays_at (before_all rows.count stays_at all)) (told_nothing rows.count meets_at 32 (sym found ∙ is))

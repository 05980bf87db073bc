-- Sound records hold, by places, the loop and the settling of crate `verdict_settling`; so what the conditions' code tells of the places it
-- tells of the records.
use Rattle.std.specs.Prelude.{Result}
use mathlib.Core.Path.{◌≡◌, sym}
use Prim.Native.Nat.{ℕ, suc}
use mathlib.Core.List.{List}
use native.Mathlib.Numerals.{add-one}
use native.Mathlib.Omega.{arith}
use lib.IntN.{ℤ}
use Rattle.refusal.specs.declared.Fault.{Fault}
use Rattle.record_settling.specs.SettlingRecords.{g_place, t_place, E-place, Y-place, Z-place}
use Rattle.record_settling.proofs.SettlingSound.{SettlingSound}
use Rattle.theory_settling.specs.Settlings.{longer}
use Rattle.verdict_settling.specs.AnswersByKind.{pair_of}
use Rattle.verdict_settling.specs.SettlingContents.{settling_in}
use Rattle.verdict_settling.specs.SettlingJudging.{variables_of, rows_for, loop_of, settling_of, conditions_told}
use Rattle.judge_conditions.specs.LoopHeld.{loop_held}
use Rattle.judge_held.proofs.NumbersHeld.{multipliers_are, entries_are, start_is}
use Rattle.judge_ranking.specs.RankedBy.{RankedBy}
use Rattle.judge_ranking.specs.RankingHeld.{ranking_held}
use Rattle.judge_ranking.specs.declared.Ranked.{Ranked}
use Rattle.judge.specs.SoundPairs.{first_row, LoopSound}
use Rattle.judge.proofs.SoundContents as Sound
use Rattle.judge.proofs.SoundSizes.{n_few, m_few}
use Rattle.judge_settling.specs.SettlingBy.{SettlingBy}
use Rattle.judge_settling.specs.SettlingHeld.{SettlingIn, settling_held}

-- the settling by places
pub settling_is : (bytes : List ℕ) (n m : ℕ) → settling_in n m bytes ≡ settling_held bytes n m
unfolding settling_in settling_held ranking_held
settling_is bytes n m =
    rw (
      entries_are n bytes g_place,
      start_is bytes (t_place n),
      multipliers_are m bytes (E-place n),
      multipliers_are (suc m) bytes (Y-place n m),
      multipliers_are (suc m) bytes (Z-place n m),
      add-one m,
    )

module _ (loopbytes certificate : List ℕ) (n m : ℕ) (l : LoopSound loopbytes n m) where
  -- n and m of the loop, the loop and the settling
  pub variables_are : variables_of (pair_of loopbytes certificate) ≡ n
  unfolding variables_of
  variables_are = sym l.n_is

  pub rows_are : rows_for (pair_of loopbytes certificate) ≡ m
  unfolding rows_for
  rows_are = sym l.m_is

  pub loop_is : loop_of (pair_of loopbytes certificate) ≡ loop_held loopbytes first_row n m
  unfolding loop_of
  loop_is = Sound.loop_of loopbytes n m l

  pub settling_held_is : settling_of (pair_of loopbytes certificate) ≡ settling_held certificate n m
  unfolding settling_of
  settling_held_is = rw (variables_are, rows_are) (settling_is certificate n m)

  -- it lies within the bytes
  pub settling_there : SettlingSound n m certificate → SettlingIn certificate n m
  settling_there c =
      record { n_few = n_few loopbytes n m l; m_few = m_few loopbytes n m l; inside = omega (arith, c.long) }

  -- what is told of the places is told of the records
  pub settling_told : (r : Result Ranked Fault) (before after : List ℤ)
      → SettlingBy r (loop_held loopbytes first_row n m) (settling_held certificate n m) before after
      → (let p = pair_of loopbytes certificate in
      RankedBy r (conditions_told p) (longer (loop_of p) (settling_of p)) (settling_of p).ranking before after)
  settling_told r before after by = rw (loop_is, settling_held_is) by

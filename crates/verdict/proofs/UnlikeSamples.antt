-- Samples beside those of 01, on the records' own bytes: S10 with k and k2 apart, and for each kind a record in which no two numbers of one form are alike, with
-- its rank, start, fall and bound. Bytes and lists of rows are two renderings of each sample: `held_as_rows` says that they agree, so what the theory pins
-- of its samples (a step of the stem, an invariant) is pinned of the bytes.
use mathlib.Core.Path.{◌≡◌, refl}
use Prim.Native.Nat.{ℕ, ◌≤◌}
use mathlib.Core.List.{List, [], ◌∷◌}
use native.Mathlib.Omega.{arith}
use lib.IntN.{ℤ, pos}
use lib.ListN.{length, replicate}
use Rattle.record.specs.Contents.{rows_values, row_values, ranking_values, lasso_values}
use Rattle.record.specs.Layouts.{ranking, exclusion, lasso}
use Rattle.record.specs.Ranges.{either_way, variables, rows, entries, right_sides, multipliers, ◌to◌}
use Rattle.record.specs.Samples as Records
use Rattle.theory.specs.Loops.{Run}
use Rattle.theory.specs.Samples as Rows
use Rattle.record.specs.Writers.{writer}
use Rattle.theory.specs.Table as Theory
use Rattle.theory.proofs.Decisions.{ranking_decided}
use Rattle.theory.proofs.Pins.{S10-stem-step}
use Rattle.whole.specs.Sums.{Each}
use Rattle.verdict.specs.Stages.{shows}
use Rattle.verdict.specs.Computing.{computing}
use Rattle.verdict.specs.Contents.{loop_in, ranking_in, exclusion_in, lasso_in}
use Rattle.verdict.specs.Judging.{judges, judge_of}
use Rattle.verdict.specs.Pairs.{Pair, pair_kind}
use Rattle.verdict.specs.Samples.{−, loop_bytes, lasso_bytes, P, with_stem, S1, S10, S10-parts, S10-scaled, unlike_loop, unlike_ranking, excluded_loop, unlike_exclusion, lasso_loop, unlike_lasso}
use Rattle.verdict.specs.declared.Grade.TheVariants.{Whole}
use Rattle.verdict.specs.declared.Outcome.TheVariants.{Ranking, Exclusion, Lasso}
use Rattle.verdict.proofs.Demands.{lasso_ends}
use Rattle.verdict.proofs.InValues.{bytes_in, loop_writer, LoopGiven, ranking_in_values}
use Rattle.verdict.proofs.SampleSheet.{fails, Line, judged, bounded_at, Holds}

unfoldable pub unlike_lines : List Line
unlike_lines =
    -- k 2, T (2), k2 1 is accepted; k 1, T (2), k2 2 is not
    judged with_stem (S10-scaled 2 2 1) 3 (shows (Lasso (pos 0) (pos 1))) (pos 1 ∷ pos 0 ∷ pos 77 ∷ [])
    ∷ judged with_stem (S10-scaled 1 2 2) 3 (fails 42 1) (pos 77 ∷ pos 77 ∷ pos 77 ∷ [])
    ∷ judged unlike_loop unlike_ranking 3 (shows (Ranking (pos 14) (pos 9))) (pos 23 ∷ − 39 ∷ pos 77 ∷ [])
    ∷ bounded_at unlike_loop unlike_ranking (pos 9 ∷ pos 4 ∷ []) (record { verdict = shows (Ranking (pos 14) (pos 9)); bound = 5 })
    ∷ judged excluded_loop unlike_exclusion 3 (shows (Exclusion Whole)) (pos 77 ∷ pos 77 ∷ pos 77 ∷ [])
    ∷ judged lasso_loop unlike_lasso 3 (shows (Lasso (pos 73) (pos 33))) (− 6 ∷ − 22 ∷ pos 77 ∷ [])
    ∷ bounded_at lasso_loop unlike_lasso (− 10 ∷ − 10 ∷ []) (record { verdict = shows (Lasso (pos 73) (pos 33)); bound = 7 })
    ∷ []

pub unlike_samples : Each Holds unlike_lines
unfolding computing unlike_lines Each with_stem S10-scaled S10-parts unlike_loop unlike_ranking excluded_loop unlike_exclusion lasso_loop unlike_lasso Records.unlike_loop Records.unlike_ranking Records.unlike_exclusion Records.unlike_lasso loop_bytes lasso_bytes rows_values row_values lasso_values
unlike_samples = ((refl, refl), ((refl, refl), ((refl, refl), (refl, ((refl, refl), ((refl, refl), (refl, tt)))))))

-- ---- bytes and rows

-- the two records of a sample
abbrev pair : List ℕ → List ℕ → Pair
pair l c = (judge_of l c []).records

pub held_as_rows :
    (pair_kind (pair P S1) ≡ ranking)
    × (loop_in (pair P S1).loop_is ≡ Rows.P)
    × (ranking_in (pair P S1).certificate_is ≡ Rows.S1)
    × (pair_kind (pair with_stem S10) ≡ lasso)
    × (loop_in (pair with_stem S10).loop_is ≡ Rows.S10-loop)
    × (lasso_in (pair with_stem S10).certificate_is ≡ Rows.S10)
    × (loop_in (pair unlike_loop unlike_ranking).loop_is ≡ Rows.unlike_loop)
    × (ranking_in (pair unlike_loop unlike_ranking).certificate_is ≡ Rows.unlike_ranking)
    × (pair_kind (pair excluded_loop unlike_exclusion) ≡ exclusion)
    × (loop_in (pair excluded_loop unlike_exclusion).loop_is ≡ Rows.excluded_loop)
    × (exclusion_in (pair excluded_loop unlike_exclusion).certificate_is ≡ Rows.unlike_exclusion)
    × (loop_in (pair lasso_loop unlike_lasso).loop_is ≡ Rows.lasso_loop)
    × (lasso_in (pair lasso_loop unlike_lasso).certificate_is ≡ Rows.unlike_lasso)
unfolding computing P S1 with_stem S10 unlike_loop unlike_ranking excluded_loop unlike_exclusion lasso_loop unlike_lasso Records.P Records.S1 Records.S10 Records.unlike_loop Records.unlike_ranking Records.unlike_exclusion Records.unlike_lasso Rows.P Rows.S1 Rows.S10-loop Rows.S10 Rows.unlike_loop Rows.unlike_ranking Rows.excluded_loop Rows.unlike_exclusion Rows.lasso_loop Rows.unlike_lasso loop_bytes rows_values row_values
held_as_rows = (refl, refl, refl, refl, refl, refl, refl, refl, refl, refl, refl, refl, refl)

-- demand 3 of S10's bytes: after the stem's step to (5, 1) no run has more than 6 steps
pub S10-ends : (ys : List (List ℤ)) → Run Rows.S10-loop (pos 5 ∷ pos 1 ∷ []) ys → length ys ≤ 6
unfolding computing with_stem S10 Records.S10 Rows.S10-loop Rows.S10 loop_bytes rows_values row_values
S10-ends ys run = (lasso_ends with_stem S10 (pos 0 ∷ pos 0 ∷ []) refl refl).steps_after_stem _ _ ys S10-stem-step run

-- ---- the statements in values reach these samples: what they ask of a loop and of a certificate is met, so they accept

loop_given : LoopGiven 2 3 (Rows.unlike_loop).rows (replicate 46 0)
unfolding Rows.unlike_loop variables rows entries right_sides ◌to◌ either_way Each
loop_given = record { counts_in = search; rows_in = search; fits = omega arith }

pub ranking_reached :
    (judges (judge_of
    (bytes_in (loop_writer 2 3 (Rows.unlike_loop).rows (replicate 46 0)) (replicate 46 0))
    (bytes_in (writer 2 2 3 (ranking_values (Rows.unlike_ranking).Y (Rows.unlike_ranking).Z) (replicate 18 0)) (replicate 18 0))
    (pos 0 ∷ pos 0 ∷ []))).number
    ≡ 0
unfolding Theory.computing multipliers ◌to◌ Each
ranking_reached =
    (ranking_in_values 2 3 (Rows.unlike_loop).rows (Rows.unlike_ranking).Y (Rows.unlike_ranking).Z (replicate 46 0) (replicate 18 0) (pos 0 ∷ pos 0 ∷ [])
    loop_given (search) (omega arith) (omega arith)).1 ((ranking_decided Rows.unlike_loop Rows.unlike_ranking).0 refl)

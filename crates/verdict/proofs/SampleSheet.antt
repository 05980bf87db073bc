-- 01, "Sample sheet": S1 to S14 in one table under one statement, `sample_sheet`, about the definitions on the records' own bytes. A line is a
-- verdict of judging with the rank list afterwards (lent with n + 1 places that hold 77), an answer of bound, or one for every state.
use mathlib.Core.Path.{◌≡◌, refl, ap}
use Prim.Native.Nat.{ℕ}
use mathlib.Core.Bool.{true}
use mathlib.Core.List.{List, [], ◌∷◌}
use lib.IntN.{ℤ, pos, zero-*ℤ}
use lib.ListN.{replicate}
use Rattle.record.specs.Ranges.{state_entries, within}
use Rattle.theory.specs.Rankings.{bound}
use Rattle.whole.specs.Sums.{dot, Each}
use Rattle.verdict.specs.Bounding.{given_state, bounding, bounds, bound_of}
use Rattle.verdict.specs.StateTests.{before_outside, state_tests}
use Rattle.verdict.specs.Computing.{computing}
use Rattle.verdict.specs.Judging.{judges, rank_after, judge_of}
use Rattle.verdict.specs.Samples.{−, loop_bytes, ranking_bytes, exclusion_bytes, P, ends_without_rank, halves, with_stem, no_rows, no_steps, by_two, S1, S2, S3, S7, S8, S9, S10, S11, S12-ranking, S12-exclusion, S13, S14, second_of_P}
use Rattle.verdict.specs.declared.Bounded.{Bounded}
use Rattle.verdict.specs.declared.Grade.TheVariants.{Whole, Fractions}
use Rattle.verdict.specs.declared.Outcome.TheVariants.{Nothing, Ranking, Exclusion, Lasso}
use Rattle.verdict.specs.declared.Verdict.{Verdict}
use Rattle.record.specs.Contents.{rows_values, row_values, ranking_values, exclusion_values}
use Rattle.record.specs.Samples as Records
use Rattle.refusal.proofs.TestLaws.{passes_done}
use Rattle.verdict.specs.Stages.{agreed, said, shows}
use Rattle.verdict.proofs.StatesInRange.{before_inside}
use Rattle.verdict.proofs.StageLaws.{agrees_said}
use borrow.Author.Tests.{eq-eqb}

-- a failed condition or invariant: number and place
abbrev pub fails : ℕ → ℕ → Verdict
fails number place = record { number = number; place = place; about = 2; outcome = Nothing }

pub data Line : Type 0 where
  -- loop, certificate, places of the rank list, the verdict, the list afterwards
  judged : List ℕ → List ℕ → ℕ → Verdict → List ℤ → Line
  -- loop, certificate, state, the answer
  bounded_at : List ℕ → List ℕ → List ℤ → Bounded → Line
  -- loop, certificate, the answer at every state of one entry in range
  bounded_everywhere : List ℕ → List ℕ → Bounded → Line

abbrev pub Holds : Line → Type 0
Holds (judged l c places verdict rank) =
    (judges (judge_of l c (replicate places (pos 77))) ≡ verdict) × (rank_after (judge_of l c (replicate places (pos 77))) (replicate places (pos 77)) ≡ rank)
Holds (bounded_at l c state answer) = bounds (bound_of l c state) ≡ answer
Holds (bounded_everywhere l c answer) = (x : ℤ) → within state_entries x ≡ true → bounds (bound_of l c (x ∷ [])) ≡ answer

unfoldable pub sheet : List Line
sheet =
    judged P S1 3 (shows (Ranking (pos 2) (pos 1))) (pos 1 ∷ − 1 ∷ pos 77 ∷ [])
    ∷ judged P S2 3 (shows (Ranking (pos 4) (pos 2))) (pos 2 ∷ − 2 ∷ pos 77 ∷ [])
    ∷ judged P S3 3 (fails 24 0) (pos 77 ∷ pos 77 ∷ pos 77 ∷ [])
    ∷ judged P second_of_P 3 (fails 22 1) (pos 77 ∷ pos 77 ∷ pos 77 ∷ [])
    ∷ bounded_at P S1 (pos 5 ∷ pos 1 ∷ []) (record { verdict = shows (Ranking (pos 2) (pos 1)); bound = 3 })
    ∷ bounded_at P S1 (pos 3 ∷ pos 1 ∷ []) (record { verdict = shows (Ranking (pos 2) (pos 1)); bound = 1 })
    ∷ bounded_at P S1 (pos 2 ∷ pos 1 ∷ []) (record { verdict = shows (Ranking (pos 2) (pos 1)); bound = 0 })
    ∷ judged ends_without_rank S7 2 (shows (Exclusion Whole)) (pos 77 ∷ pos 77 ∷ [])
    ∷ judged ends_without_rank S8 2 (shows (Exclusion Whole)) (pos 77 ∷ pos 77 ∷ [])
    ∷ judged halves S9 2 (shows (Exclusion Fractions)) (pos 77 ∷ pos 77 ∷ [])
    ∷ judged with_stem S10 3 (shows (Lasso (pos 0) (pos 1))) (pos 1 ∷ pos 0 ∷ pos 77 ∷ [])
    ∷ bounded_at with_stem S10 (pos 5 ∷ pos 1 ∷ []) (record { verdict = shows (Lasso (pos 0) (pos 1)); bound = 6 })
    ∷ bounded_at with_stem S10 (pos 5 ∷ pos 0 ∷ []) (record { verdict = fails 11 0; bound = 0 })
    ∷ judged with_stem S11 3 (shows (Exclusion Whole)) (pos 77 ∷ pos 77 ∷ pos 77 ∷ [])
    ∷ judged no_rows S12-ranking 2 (fails 24 0) (pos 77 ∷ pos 77 ∷ [])
    ∷ judged no_rows S12-exclusion 2 (shows (Exclusion Whole)) (pos 77 ∷ pos 77 ∷ [])
    ∷ judged no_steps S13 2 (shows (Ranking (pos 0) (pos 1))) (pos 0 ∷ pos 77 ∷ [])
    ∷ bounded_everywhere no_steps S13 (record { verdict = shows (Ranking (pos 0) (pos 1)); bound = 1 })
    ∷ judged by_two S14 2 (shows (Ranking (pos 0) (pos 2))) (pos 1 ∷ pos 77 ∷ [])
    ∷ bounded_at by_two S14 (− 1 ∷ []) (record { verdict = shows (Ranking (pos 0) (pos 2)); bound = 0 })
    ∷ bounded_at by_two S14 (pos 0 ∷ []) (record { verdict = shows (Ranking (pos 0) (pos 2)); bound = 1 })
    ∷ bounded_at by_two S14 (pos 1 ∷ []) (record { verdict = shows (Ranking (pos 0) (pos 2)); bound = 1 })
    ∷ bounded_at by_two S14 (pos 2 ∷ []) (record { verdict = shows (Ranking (pos 0) (pos 2)); bound = 2 })
    ∷ []

-- a rank of 0 is level: the bound is 1 whatever the state is
level : (x : ℤ) → bound (pos 0 ∷ []) (pos 0) (pos 1) (x ∷ []) ≡ 1
unfolding bound dot
level x = rw (zero-*ℤ x)

-- S13 at every state
S13-everywhere : (x : ℤ) → within state_entries x ≡ true → bounds (bound_of no_steps S13 (x ∷ [])) ≡ record { verdict = shows (Ranking (pos 0) (pos 1)); bound = 1 }
unfolding computing no_steps S13 loop_bytes ranking_bytes rows_values row_values ranking_values
S13-everywhere x h =
    let b = bound_of no_steps S13 (x ∷ []) in
    let inside : before_outside (x ∷ []) ≡ 1 = before_inside x [] h in
    let agreed_on : said bounding b ≡ agreed = agrees_said bounding b (refl, (refl, (passes_done state_tests (given_state b) (refl, (eq-eqb (before_outside (x ∷ [])) 1 inside, tt)), (refl, (refl, tt))))) in
    rw agreed_on (ap (λ (k : ℕ). record { verdict = shows (Ranking (pos 0) (pos 1)); bound = k }) (level x))

-- every line of the sheet holds
pub sample_sheet : Each Holds sheet
unfolding computing sheet Each P ends_without_rank halves with_stem no_rows no_steps by_two S1 S2 S3 S7 S8 S9 S10 S11 S12-ranking S12-exclusion S13 S14 second_of_P Records.P Records.S1 Records.S7 Records.S10 loop_bytes ranking_bytes exclusion_bytes rows_values row_values ranking_values exclusion_values
sample_sheet =
    ((refl, refl), ((refl, refl), ((refl, refl), ((refl, refl), (refl, (refl, (refl, ((refl, refl), ((refl, refl), ((refl, refl), ((refl, refl), (refl, (refl, ((refl, refl), ((refl, refl), ((refl, refl), ((refl, refl), (S13-everywhere, ((refl, refl), (refl, (refl, (refl, (refl, tt)))))))))))))))))))))))

-- 02, Q-8: what judging and the bound call answer of a certificate of kind 8, on every pair of byte strings, every list and every state.
-- "Judging fills the rank list; the bound call tells that count". The order is that of 01: loop, certificate, then 7 in judging, 10 and 9
-- in a bound call, then the conditions; 11 is never told.
use Rattle.std.specs.Prelude.{ℕ, List, [], ◌∷◌, leb, ℤ}
use Rattle.record.specs.Readers.{counts_read, sound}
use Rattle.record_paths.specs.PathFields.{bytes_alone}
use Rattle.record_settling.specs.SettlingRecords.{sound_settling}
use Rattle.refusal.specs.Tests.{Told, Test, ◌at◌unless◌, first}
use Rattle.theory.specs.Loops.{Loop}
use Rattle.theory.specs.Rankings.{rank, start, fall}
use Rattle.theory_settling.specs.SettlingConditions.{settling_told}
use Rattle.theory_settling.specs.Settlings.{Settling, longer, settling_bound}
use Rattle.verdict.specs.Bounding.{bounded}
use Rattle.verdict.specs.Contents.{loop_in}
use Rattle.verdict.specs.Judging.{ranks}
use Rattle.verdict.specs.Pairs.{loop_record}
use Rattle.verdict.specs.Stages.{Stage, ◌says◌, said, verdict_of}
use Rattle.verdict.specs.StateTests.{state_tests}
use Rattle.verdict.specs.declared.Bounded.{Bounded}
use Rattle.verdict.specs.declared.Outcome.{Outcome}
use Rattle.verdict.specs.declared.Outcome.TheVariants as Outcomes
use Rattle.verdict.specs.declared.Verdict.{Verdict}
use Rattle.verdict_settling.specs.SettlingContents.{settling_in}

-- the bytes of the two records
pub record SettlingPair : Type 0 where
  pub loopbytes : List ℕ
  pub certificate : List ℕ

-- n and m of the loop, the loop, and the settling
unfoldable pub variables_of : SettlingPair → ℕ
variables_of p = (counts_read (loop_record p.loopbytes)).n

unfoldable pub rows_for : SettlingPair → ℕ
rows_for p = (counts_read (loop_record p.loopbytes)).m

unfoldable pub loop_of : SettlingPair → Loop
loop_of p = loop_in (loop_record p.loopbytes)

unfoldable pub settling_of : SettlingPair → Settling
settling_of p = settling_in (variables_of p) (rows_for p) p.certificate

-- what the tests of the two records tell, and those of the conditions
abbrev pub loop_told : SettlingPair → Told
loop_told p = first sound (loop_record p.loopbytes)

abbrev pub certificate_told : SettlingPair → Told
certificate_told p = first (sound_settling (variables_of p) (rows_for p)) (bytes_alone p.certificate)

abbrev pub conditions_told : SettlingPair → Told
conditions_told p = settling_told (loop_of p) (settling_of p)

-- what is shown where they hold: start and fall over the loop with the added row, and the rank
unfoldable pub settling_outcome : SettlingPair → Outcome
settling_outcome p =
    let l = longer (loop_of p) (settling_of p) in
    Outcomes.Settling (start l (settling_of p).ranking) (fall l (settling_of p).ranking)

unfoldable pub settling_rank : SettlingPair → List ℤ
settling_rank p = rank (longer (loop_of p) (settling_of p)) (settling_of p).ranking

-- ---- judging, with a rank list of so many places

pub record SettlingJudging : Type 0 where
  pub records : SettlingPair
  pub room : ℕ

unfoldable pub rank_room : List (Test SettlingJudging)
rank_room = (7 at (λ j. variables_of j.records) unless λ j. leb (variables_of j.records) j.room) ∷ []

unfoldable pub settling_judging : List (Stage SettlingJudging)
settling_judging =
    (1 says λ j. loop_told j.records)
    ∷ (2 says λ j. certificate_told j.records)
    ∷ (0 says λ j. first rank_room j)
    ∷ (2 says λ j. conditions_told j.records)
    ∷ []

unfoldable pub settling_judges : SettlingJudging → Verdict
settling_judges j = verdict_of (said settling_judging j) (settling_outcome j.records)

unfoldable pub settling_rank_after : SettlingJudging → List ℤ → List ℤ
settling_rank_after j lent = ranks (said settling_judging j) (settling_rank j.records) lent

-- ---- bound, at a state

pub record SettlingBounding : Type 0 where
  pub records : SettlingPair
  pub state : List ℤ

unfoldable pub settling_bounding : List (Stage SettlingBounding)
settling_bounding =
    (1 says λ b. loop_told b.records)
    ∷ (2 says λ b. certificate_told b.records)
    ∷ (0 says λ b. first state_tests (record { n = variables_of b.records; state = b.state }))
    ∷ (2 says λ b. conditions_told b.records)
    ∷ []

unfoldable pub settling_bounds : SettlingBounding → Bounded
settling_bounds b =
    bounded (said settling_bounding b) (settling_outcome b.records) (settling_bound (settling_of b.records) b.state)

-- The ways through the judge of a certificate for a sound loop of rows, one for each return: what its frame or the number of its kind tells, and that the answers are
-- then those of the definition.
use mathlib.Core.Path.{◌≡◌, sym, ◌∙◌}
use Prim.Native.Nat.{ℕ, ◌<◌}
use mathlib.Core.Bool.{true, false}
use mathlib.Core.List.{List, []}
use native.Mathlib.Omega.{arith}
use lib.IntN.{ℤ}
use Rattle.endian.specs.Numbers.{little_at}
use Rattle.record.specs.Readers.{framing, loop_reader}
use Rattle.record.proofs.KindLaws.{unwanted_kind}
use Rattle.record_check.proofs.FrameWays.{stopped, right}
use Rattle.refusal.specs.declared.Fault.{Fault}
use Rattle.refusal.specs.Faults.{result_of}
use Rattle.refusal.specs.Tests.{first}
use Rattle.verdict.specs.Judging.{judge_of}
use Rattle.verdict.specs.Stages.{refusal_of}
use Rattle.verdict.specs.declared.Verdict.{Verdict}
use Rattle.verdict_paths.specs.JudgingByLoop.{of_paths}
use Rattle.verdict_paths.proofs.PathDemands.{kind_1_by_rows}
use Rattle.verdict_short.specs.ShortJudging.{of_short, judged_or_short, ranked_or_short}
use Rattle.verdict_short.proofs.KindNumbers.{seven, eight, none_of_them}
use Rattle.judge.specs.SoundPairs.{LoopSound, Judged}
use Rattle.judge.proofs.ByKind.{all_kinds}
use Rattle.judge.proofs.Framing.{frame_told, well_framed, unwanted_told}
use Rattle.judge.proofs.JudgingWays as Rows
use Rattle.judge_by_kind.specs.PastFrames.{Past}
use Rattle.judge_by_kind.specs.SettlingShown.{SettlingJudged}
use Rattle.judge_by_kind.proofs.AnswerWays.{Answers, as_short, as_settling, as_others, unframed}

-- the loop is of rows
of_rows : {loopbytes : List ℕ} {n m : ℕ} → LoopSound loopbytes n m → of_paths loopbytes ≡ false
of_rows {loopbytes} sound_loop = kind_1_by_rows loopbytes sound_loop.told

-- the frame refuses alike whatever the kind
pub by_frame : (loopbytes certificate : List ℕ) (lent : List ℤ) {n m : ℕ} → LoopSound loopbytes n m
    → (f : Fault) → stopped f ≡ result_of (first framing (loop_reader certificate [])) tt
    → (v : Verdict) → v ≡ refusal_of 2 f.number f.place → Answers loopbytes certificate lent v lent
by_frame loopbytes certificate lent sound_loop f is v v_is =
    let by = unframed loopbytes certificate lent (of_rows sound_loop) sound_loop.told _ _ (frame_told certificate f is) in
    (v_is ∙ by.0, by.1)

-- ---- past the frame, where the number of the kind is read

pub past_frame : {certificate : List ℕ} {number : ℕ} → right ≡ result_of (first framing (loop_reader certificate [])) tt → number ≡ little_at 2 certificate 4
    → Past certificate number
past_frame {certificate} is number_is = record { frame_right = well_framed certificate is; number_is = number_is }

module _ {certificate : List ℕ} {number : ℕ} (past : Past certificate number) where
  pub is_seven : number ≡ 7 → of_short certificate ≡ true
  is_seven is = seven certificate (sym past.number_is ∙ is)

  pub numbered_as : (k : ℕ) → number ≡ k → little_at 2 certificate 4 ≡ k
  numbered_as k is = sym past.number_is ∙ is

module _ {loopbytes certificate : List ℕ} {n m number : ℕ} (sound_loop : LoopSound loopbytes n m) (past : Past certificate number) where
  module _ (lent : List ℤ) where
    by_others : (number ≡ 7 → ⊥) → (number ≡ 8 → ⊥) → (v : Verdict) (after : List ℤ) → Judged loopbytes certificate lent v after → Answers loopbytes certificate lent v after
    by_others no_seven no-eight v after judged =
        let no = none_of_them certificate (λ e. no_seven (past.number_is ∙ e)) (λ e. no-eight (past.number_is ∙ e)) in
        let by = as_others loopbytes certificate lent (of_rows sound_loop) no.0 no.1 in
        (judged.0 ∙ by.0, judged.1 ∙ by.1)

    -- a kind of the base
    pub by_base : (k : ℕ) → number ≡ k → k < 7 → (v : Verdict) (after : List ℤ) → Judged loopbytes certificate lent v after → Answers loopbytes certificate lent v after
    by_base k is below = by_others (λ e. omega (arith, e, is)) (λ e. omega (arith, e, is))

    pub by_seven : number ≡ 7 → (v : Verdict) (after : List ℤ)
        → (v ≡ judged_or_short loopbytes certificate lent) × (after ≡ ranked_or_short loopbytes certificate lent) → Answers loopbytes certificate lent v after
    by_seven is v after judged =
        let by = as_short loopbytes certificate lent (of_rows sound_loop) (is_seven past is) in
        (judged.0 ∙ by.0, judged.1 ∙ by.1)

    pub by_eight : number ≡ 8 → (v : Verdict) (after : List ℤ) → SettlingJudged loopbytes certificate lent v after → Answers loopbytes certificate lent v after
    by_eight is = as_settling loopbytes certificate lent (of_rows sound_loop) (eight certificate (sym past.number_is ∙ is))

    -- a number that no kind has
    pub by_none : (number ≡ 2 → ⊥) → (number ≡ 3 → ⊥) → (number ≡ 4 → ⊥) → (number ≡ 7 → ⊥) → (number ≡ 8 → ⊥)
        → (v : Verdict) → v ≡ refusal_of 2 4 4 → Answers loopbytes certificate lent v lent
    unfolding judge_of
    by_none no-two no-three no-four no_seven no-eight v v_is =
        let j = judge_of loopbytes certificate lent in
        let is = past.number_is in
        let none = unwanted_kind all_kinds (little_at 2 certificate 4) (λ e. absurd (no-two (is ∙ e))) (λ e. absurd (no-three (is ∙ e))) (λ e. absurd (no-four (is ∙ e))) in
        let unwanted = unwanted_told loopbytes n m sound_loop certificate past.frame_right all_kinds none in
        let as_row = Rows.refused_so j lent 2 4 4 (Rows.at_certificate j sound_loop.told 4 4 unwanted) in
        by_others no_seven no-eight v lent (v_is ∙ as_row.0, as_row.1)

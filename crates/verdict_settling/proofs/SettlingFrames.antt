-- The choice by bytes 4 and 5 of the certificate loses nothing: a certificate whose L does not fit its bytes, among them every one of fewer
-- than 6 bytes, is refused alike whether it is taken for a settling or not, in judging and in bound, whatever the loop. So whoever looks at the
-- kind first and whoever tests the length first answer the same.
use mathlib.Core.Path.{◌≡◌, refl, sym, ◌∙◌}
use Prim.Native.Nat.{ℕ, ◌+◌, ◌<◌}
use mathlib.Core.List.{List}
use native.Mathlib.Omega.{arith}
use lib.IntN.{ℤ}
use lib.ListN.{length, drop}
use borrow.Author.Tests.{leb-true}
use Rattle.endian.specs.Numbers.{little_at}
use Rattle.refusal.specs.Tests.{refused, first}
use Rattle.refusal.proofs.TestLaws.{either, first_told, done_passes}
use Rattle.record.specs.Readers.{stated_length, framing, sound}
use Rattle.record_paths.specs.PathFields.{bytes_alone}
use Rattle.record_settling.specs.SettlingRecords.{sound_settling}
use Rattle.verdict.specs.Bounding.{bounding, bounded, bounds, bound_of}
use Rattle.verdict.specs.Judging.{judging, judges, ranks, rank_after, judge_of}
use Rattle.verdict.specs.Pairs.{loop_record, certificate_record}
use Rattle.verdict.specs.Stages.{Said, refusal, said, verdict_of}
use Rattle.verdict.proofs.StageLaws.{by_told, stage_done, stage_refused}
use Rattle.verdict_paths.specs.JudgingByLoop.{judged, rank_judged}
use Rattle.verdict_paths.proofs.PathDemands.{by_rows}
use Rattle.verdict_settling.specs.AnswersByKind.{of_settling, settles, judging_of, bounding_of}
use Rattle.verdict_settling.specs.AnswersByKind.{judged_by_kind, rank_by_kind, bounded_by_kind}
use Rattle.verdict_settling.specs.SettlingJudging.{variables_of, rows_for, settling_judging, settling_judges, settling_rank_after}
use Rattle.verdict_settling.specs.SettlingJudging.{settling_bounding, settling_bounds}
use Rattle.verdict_settling.proofs.SettlingBridges.{settles_says, judged_settling, judged_as_before, bounded_settling, bounded_as_before}

-- a record is unframed: its L does not fit its bytes
pub record Unframed (bytes : List ℕ) : Type 0 where
  pub number : ℕ
  pub place : ℕ
  pub told : first framing (bytes_alone bytes) ≡ refused number place

-- as every one of fewer than 6 bytes is, for L is 2 at least
pub short_unframed : (bytes : List ℕ) → length bytes < 6 → Unframed bytes
unfolding bytes_alone stated_length
short_unframed bytes short =
    by_told (first framing (bytes_alone bytes))
    (λ e.
    let h = done_passes framing (bytes_alone bytes) e in
    absurd (omega (arith, leb-true 2 (little_at 4 bytes 0) h.1.0, leb-true (4 + little_at 4 bytes 0) (length bytes) h.1.1.0)))
    (λ k p e. record { number = k; place = p; told = e })

-- two orders that refuse alike
record Alike (s t : Said) : Type 0 where
  about : ℕ
  number : ℕ
  place : ℕ
  one : s ≡ refusal about number place
  other : t ≡ refusal about number place

module _ (loopbytes certificate : List ℕ) (u : Unframed certificate) where
  -- ---- judging

  alike_in_judging : (lent : List ℤ)
      → Alike (said settling_judging (judging_of loopbytes certificate lent)) (said judging (judge_of loopbytes certificate lent))
  unfolding settling_judging judging judge_of sound sound_settling certificate_record bytes_alone stated_length first
  alike_in_judging lent =
      let j = judging_of loopbytes certificate lent in
      let i = judge_of loopbytes certificate lent in
      let tests = sound_settling (variables_of j.records) (rows_for j.records) in
      let settling_told = first_told framing (drop 4 tests) (bytes_alone certificate) u.number u.place u.told in
      let other_told = first_told framing (drop 4 sound) i.records.certificate_is u.number u.place u.told in
      by_told (first sound (loop_record loopbytes))
      (λ e.
      record {
        about = 2;
        number = u.number;
        place = u.place;
        one = stage_done 1 _ _ j e ∙ stage_refused 2 _ _ j _ _ settling_told;
        other = stage_done 1 _ _ i e ∙ stage_refused 2 _ _ i _ _ other_told;
      })
      (λ k p e. record { about = 1; number = k; place = p; one = stage_refused 1 _ _ j k p e; other = stage_refused 1 _ _ i k p e })

  pub frame_either_way : (lent : List ℤ)
      → (settling_judges (judging_of loopbytes certificate lent) ≡ judges (judge_of loopbytes certificate lent))
      × (settling_rank_after (judging_of loopbytes certificate lent) lent ≡ rank_after (judge_of loopbytes certificate lent) lent)
  unfolding settling_judges judges settling_rank_after rank_after verdict_of ranks
  frame_either_way lent = let a = alike_in_judging lent in rw (a.one, a.other) (refl, refl)

  -- ---- bound

  alike_in_bound : (state : List ℤ)
      → Alike (said settling_bounding (bounding_of loopbytes certificate state)) (said bounding (bound_of loopbytes certificate state))
  unfolding settling_bounding bounding bound_of sound sound_settling certificate_record bytes_alone stated_length first
  alike_in_bound state =
      let j = bounding_of loopbytes certificate state in
      let i = bound_of loopbytes certificate state in
      let tests = sound_settling (variables_of j.records) (rows_for j.records) in
      let settling_told = first_told framing (drop 4 tests) (bytes_alone certificate) u.number u.place u.told in
      let other_told = first_told framing (drop 4 sound) i.records.certificate_is u.number u.place u.told in
      by_told (first sound (loop_record loopbytes))
      (λ e.
      record {
        about = 2;
        number = u.number;
        place = u.place;
        one = stage_done 1 _ _ j e ∙ stage_refused 2 _ _ j _ _ settling_told;
        other = stage_done 1 _ _ i e ∙ stage_refused 2 _ _ i _ _ other_told;
      })
      (λ k p e. record { about = 1; number = k; place = p; one = stage_refused 1 _ _ j k p e; other = stage_refused 1 _ _ i k p e })

  pub frame_either_way_bound : (state : List ℤ)
      → settling_bounds (bounding_of loopbytes certificate state) ≡ bounds (bound_of loopbytes certificate state)
  unfolding settling_bounds bounds bounded verdict_of
  frame_either_way_bound state = let a = alike_in_bound state in rw (a.one, a.other)

  -- ---- so each call answers as if no kind had come

  pub unframed_judged : (lent : List ℤ)
      → (judged_by_kind loopbytes certificate lent ≡ judged loopbytes certificate lent)
      × (rank_by_kind loopbytes certificate lent ≡ rank_judged loopbytes certificate lent)
  unframed_judged lent =
      either (settles loopbytes certificate)
      (λ e.
      let taken = judged_settling loopbytes certificate lent e in
      let alike = frame_either_way lent in
      let rows = by_rows loopbytes certificate lent (settles_says loopbytes certificate e).0 in
      (taken.0 ∙ (alike.0 ∙ sym rows.0), taken.1 ∙ (alike.1 ∙ sym rows.1)))
      (λ e. judged_as_before loopbytes certificate lent e)

  pub unframed_bounded : (state : List ℤ) → bounded_by_kind loopbytes certificate state ≡ bounds (bound_of loopbytes certificate state)
  unframed_bounded state =
      either (of_settling certificate)
      (λ e. bounded_settling loopbytes certificate state e ∙ frame_either_way_bound state)
      (λ e. bounded_as_before loopbytes certificate state e)

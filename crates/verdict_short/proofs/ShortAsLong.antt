-- A short ranking is judged as the kind 2 record that it stands for (`short_as_long`): number, place, record, outcome, list and bound agree for every sound loop,
-- every list and state, and every record of kind 7 that is sound for the loop's n and m. A refused loop gives both the same refusal, and a malformed short record
-- is refused as its order says. Every other certificate is judged as before.
use mathlib.Core.Path.{◌≡◌, refl, sym, ◌∙◌}
use Prim.Native.Nat.{ℕ}
use mathlib.Core.Bool.{true, false}
use mathlib.Core.List.{List}
use lib.IntN.{ℤ}
use lib.ListN.{drop}
use Rattle.record.specs.Readers.{framing, stated_length, sound}
use Rattle.record_paths.specs.PathFields.{bytes_alone}
use Rattle.record_short.specs.ShortRecords.{sound_short}
use Rattle.refusal.specs.Tests.{done, refused, first}
use Rattle.refusal.proofs.TestLaws.{either, first_told}
use Rattle.verdict.specs.Bounding.{bounding, bounded, bounds, bound_of}
use Rattle.verdict.specs.Judging.{judging, judges, ranks, rank_after, judge_of}
use Rattle.verdict.specs.Pairs.{loop_record, certificate_record}
use Rattle.verdict.specs.Stages.{agreed, refusal, said, refusal_of, verdict_of}
use Rattle.verdict.proofs.StageLaws.{by_told, stage_done, stage_refused, agrees_said}
use Rattle.verdict_short.specs.ShortJudging.{ShortPair, variables_of, rows_for, long_of, short_records, short_judged, short_ranked, short_bounded}
use Rattle.verdict_short.specs.ShortJudging.{of_short, short_pair, judged_or_short, ranked_or_short, bounded_or_short}

-- ---- by the certificate's kind

module _ (loopbytes certificate : List ℕ) where
  abbrev p : ShortPair
  p = short_pair loopbytes certificate

  module _ (short : of_short certificate ≡ true) (lent : List ℤ) where
    pub by_short : (judged_or_short loopbytes certificate lent ≡ short_judged (said short_records p) p lent)
        × (ranked_or_short loopbytes certificate lent ≡ short_ranked (said short_records p) p lent)
        × (bounded_or_short loopbytes certificate lent ≡ short_bounded (said short_records p) p lent)
    unfolding judged_or_short ranked_or_short bounded_or_short
    by_short = rw short (refl, refl, refl)

  module _ (long : of_short certificate ≡ false) (lent : List ℤ) where
    -- every other certificate is judged as before
    pub by_long : (judged_or_short loopbytes certificate lent ≡ judges (judge_of loopbytes certificate lent))
        × (ranked_or_short loopbytes certificate lent ≡ rank_after (judge_of loopbytes certificate lent) lent)
        × (bounded_or_short loopbytes certificate lent ≡ bounds (bound_of loopbytes certificate lent))
    unfolding judged_or_short ranked_or_short bounded_or_short
    by_long = rw long (refl, refl, refl)

  -- ---- a sound pair

  module _ (loop_sound : first sound (loop_record loopbytes) ≡ done)
      (short_sound : first (sound_short (variables_of p) (rows_for p)) (bytes_alone certificate) ≡ done) (short : of_short certificate ≡ true) (lent : List ℤ) where
    all_agreed : said short_records p ≡ agreed
    unfolding short_records
    all_agreed = agrees_said _ p (loop_sound, (short_sound, tt))

    pub short_as_long : (judged_or_short loopbytes certificate lent ≡ judges (judge_of loopbytes (long_of p) lent))
        × (ranked_or_short loopbytes certificate lent ≡ rank_after (judge_of loopbytes (long_of p) lent) lent)
        × (bounded_or_short loopbytes certificate lent ≡ bounds (bound_of loopbytes (long_of p) lent))
    unfolding short_judged short_ranked short_bounded
    short_as_long = let by = by_short short lent in rw all_agreed at by

  -- ---- refusals

  -- a short record that is malformed
  pub short_refused : first sound (loop_record loopbytes) ≡ done → of_short certificate ≡ true → (number place : ℕ)
      → first (sound_short (variables_of p) (rows_for p)) (bytes_alone certificate) ≡ refused number place → (lent : List ℤ)
      → (judged_or_short loopbytes certificate lent ≡ refusal_of 2 number place) × (ranked_or_short loopbytes certificate lent ≡ lent)
      × (bounded_or_short loopbytes certificate lent ≡ record { verdict = refusal_of 2 number place; bound = 0 })
  unfolding short_judged short_ranked short_bounded short_records
  short_refused loop_sound short number place told lent =
      let is : said short_records p ≡ refusal 2 number place = stage_done 1 _ _ p loop_sound ∙ stage_refused 2 _ _ p number place told in
      let by = by_short short lent in
      rw is at by

  -- a refused loop, whatever the certificate
  pub loop_refused_alike : (number place : ℕ) → first sound (loop_record loopbytes) ≡ refused number place → (lent : List ℤ)
      → (judged_or_short loopbytes certificate lent ≡ refusal_of 1 number place) × (ranked_or_short loopbytes certificate lent ≡ lent)
      × (bounded_or_short loopbytes certificate lent ≡ record { verdict = refusal_of 1 number place; bound = 0 })
  unfolding
      short_judged short_ranked short_bounded short_records judges rank_after bounds bounded verdict_of ranks judging bounding judge_of
      bound_of
  loop_refused_alike number place told lent =
      either (of_short certificate)
      (λ e. short_way e)
      (λ e. long_way e)
    where
      short_way : of_short certificate ≡ true
          → (judged_or_short loopbytes certificate lent ≡ refusal_of 1 number place) × (ranked_or_short loopbytes certificate lent ≡ lent)
          × (bounded_or_short loopbytes certificate lent ≡ record { verdict = refusal_of 1 number place; bound = 0 })
      short_way e =
          let is : said short_records p ≡ refusal 1 number place = stage_refused 1 _ _ p number place told in
          let by = by_short e lent in
          rw is at by

      long_way : of_short certificate ≡ false
          → (judged_or_short loopbytes certificate lent ≡ refusal_of 1 number place) × (ranked_or_short loopbytes certificate lent ≡ lent)
          × (bounded_or_short loopbytes certificate lent ≡ record { verdict = refusal_of 1 number place; bound = 0 })
      long_way e =
          let j = judge_of loopbytes certificate lent in
          let b = bound_of loopbytes certificate lent in
          let judged : said judging j ≡ refusal 1 number place = stage_refused 1 _ _ j number place told in
          let bounded_so : said bounding b ≡ refusal 1 number place = stage_refused 1 _ _ b number place told in
          rw (judged, bounded_so) at (by_long e lent)

-- ---- the choice by bytes 4 and 5 loses nothing: a certificate whose L does not fit its bytes is refused alike, taken for a short ranking or not

module _ (loopbytes certificate : List ℕ) (number place : ℕ) (unframed : first framing (bytes_alone certificate) ≡ refused number place) (lent : List ℤ) where
  abbrev Alike : Type 0
  Alike = (judged_or_short loopbytes certificate lent ≡ judges (judge_of loopbytes certificate lent))
      × (ranked_or_short loopbytes certificate lent ≡ rank_after (judge_of loopbytes certificate lent) lent)
      × (bounded_or_short loopbytes certificate lent ≡ bounds (bound_of loopbytes certificate lent))

  -- as a record of the kinds before
  long_refused : first sound (loop_record loopbytes) ≡ done
      → (judges (judge_of loopbytes certificate lent) ≡ refusal_of 2 number place) × (rank_after (judge_of loopbytes certificate lent) lent ≡ lent)
      × (bounds (bound_of loopbytes certificate lent) ≡ record { verdict = refusal_of 2 number place; bound = 0 })
  unfolding judges rank_after bounds bounded verdict_of ranks judging bounding judge_of bound_of sound certificate_record bytes_alone stated_length first
  long_refused loop_sound =
      let j = judge_of loopbytes certificate lent in
      let b = bound_of loopbytes certificate lent in
      let told_j = first_told framing (drop 4 sound) j.records.certificate_is number place unframed in
      let told_b = first_told framing (drop 4 sound) b.records.certificate_is number place unframed in
      let judged : said judging j ≡ refusal 2 number place = stage_done 1 _ _ j loop_sound ∙ stage_refused 2 _ _ j number place told_j in
      let bounded_so : said bounding b ≡ refusal 2 number place = stage_done 1 _ _ b loop_sound ∙ stage_refused 2 _ _ b number place told_b in
      rw (judged, bounded_so) (refl, refl, refl)

  loop_refused_long : (k q : ℕ) → first sound (loop_record loopbytes) ≡ refused k q
      → (judges (judge_of loopbytes certificate lent) ≡ refusal_of 1 k q) × (rank_after (judge_of loopbytes certificate lent) lent ≡ lent)
      × (bounds (bound_of loopbytes certificate lent) ≡ record { verdict = refusal_of 1 k q; bound = 0 })
  unfolding judges rank_after bounds bounded verdict_of ranks judging bounding judge_of bound_of
  loop_refused_long k q told =
      let j = judge_of loopbytes certificate lent in
      let b = bound_of loopbytes certificate lent in
      let judged : said judging j ≡ refusal 1 k q = stage_refused 1 _ _ j k q told in
      let bounded_so : said bounding b ≡ refusal 1 k q = stage_refused 1 _ _ b k q told in
      rw (judged, bounded_so) (refl, refl, refl)

  pub unframed_alike : Alike
  unfolding sound_short
  unframed_alike =
      either (of_short certificate)
      (λ short.
      by_told (first sound (loop_record loopbytes))
      (λ loop_sound.
      let tests = sound_short (variables_of (short_pair loopbytes certificate)) (rows_for (short_pair loopbytes certificate)) in
      let told = first_told framing (drop 4 tests) (bytes_alone certificate) number place unframed in
      let one = short_refused loopbytes certificate loop_sound short number place told lent in
      let other = long_refused loop_sound in
      (one.0 ∙ sym other.0, one.1 ∙ sym other.1, one.2 ∙ sym other.2))
      (λ k q refused_loop.
      let one = loop_refused_alike loopbytes certificate k q refused_loop lent in
      let other = loop_refused_long k q refused_loop in
      (one.0 ∙ sym other.0, one.1 ∙ sym other.1, one.2 ∙ sym other.2)))
      (λ long. by_long loopbytes certificate long lent)

-- The ways through the judge by the kinds of both records, one for each return: what is told of the records, and the verdict and the rank list that the definition
-- then has. A record whose frame is refused is refused so whatever kind its bytes 4 and 5 tell.
use mathlib.Core.Path.{◌≡◌, refl, sym, ◌∙◌}
use Prim.Native.Nat.{ℕ}
use mathlib.Core.Bool.{true, false}
use mathlib.Core.List.{List, []}
use lib.IntN.{ℤ}
use Rattle.record.specs.Readers.{framing, sound, loop_reader}
use Rattle.record_paths.specs.PathFields.{bytes_alone}
use Rattle.refusal.specs.Tests.{done, refused, first}
use Rattle.refusal.proofs.TestLaws.{either}
use Rattle.verdict.specs.Judging.{judges, rank_after, judge_of, certificates_judged}
use Rattle.verdict.specs.Pairs.{loop_record}
use Rattle.verdict.specs.Stages.{refusal_of}
use Rattle.verdict.specs.declared.Verdict.{Verdict}
use Rattle.verdict_paths.specs.JudgingByLoop.{of_paths, judged, rank_judged}
use Rattle.verdict_paths.specs.PathJudging.{path_judges}
use Rattle.verdict_paths.proofs.PathDemands.{by_paths, by_rows, frame_either_way}
use Rattle.verdict_settling.specs.AnswersByKind.{of_settling, settles, pair_of, judged_by_kind, rank_by_kind}
use Rattle.verdict_short.specs.Answers.{is_short, answered, rank_answered}
use Rattle.verdict_short.specs.ShortJudging.{of_short, judged_or_short, ranked_or_short}
use Rattle.verdict_short.proofs.KindNumbers.{eight_not_short, frame_alone}
use Rattle.verdict_short.proofs.ShortAsLong.{loop_refused_alike, unframed_alike}
use Rattle.judge.proofs.Framing.{loop_alike, certificate_alike}
use Rattle.judge.proofs.JudgingWays as Rows
use Rattle.judge_settling.proofs.SettlingEntered.{settling_alike}
use Rattle.judge_by_kind.specs.SettlingShown.{SettlingJudged}
use Rattle.judge_by_kind.proofs.SettlingWays as Settling

module _ (loopbytes certificate : List ℕ) (lent : List ℤ) where
  abbrev pub Answers : Verdict → List ℤ → Type 0
  Answers verdict after = (verdict ≡ answered loopbytes certificate lent) × (after ≡ rank_answered loopbytes certificate lent)

  answers_by : (verdict then : Verdict) (after last : List ℤ) → (verdict ≡ then) × (after ≡ last) → Answers then last → Answers verdict after
  answers_by verdict then after last same is = (same.0 ∙ is.0, same.1 ∙ is.1)

  -- ---- by the kinds

  by_kind : is_short loopbytes certificate ≡ false → Answers (judged_by_kind loopbytes certificate lent) (rank_by_kind loopbytes certificate lent)
  unfolding answered rank_answered
  by_kind e = rw e (refl, refl)

  by_loop : settles loopbytes certificate ≡ false → (judged loopbytes certificate lent ≡ judged_by_kind loopbytes certificate lent)
      × (rank_judged loopbytes certificate lent ≡ rank_by_kind loopbytes certificate lent)
  unfolding judged_by_kind rank_by_kind
  by_loop e = rw e (refl, refl)

  by_settling : settles loopbytes certificate ≡ true → SettlingJudged loopbytes certificate lent (judged_by_kind loopbytes certificate lent) (rank_by_kind loopbytes certificate lent)
  unfolding judged_by_kind rank_by_kind
  by_settling e = rw e (refl, refl)

  -- a loop of several paths
  pub as_paths : of_paths loopbytes ≡ true → Answers (path_judges (record { loopbytes = loopbytes; certificate = certificate })) lent
  unfolding is_short settles
  as_paths e =
      let by = by_paths loopbytes certificate lent e in
      let loop = by_loop (rw e) in
      answers_by _ _ _ _ (sym by.0 ∙ loop.0, sym by.1 ∙ loop.1) (by_kind (rw e))

  module _ (rows : of_paths loopbytes ≡ false) where
    -- a certificate of kind 7
    pub as_short : of_short certificate ≡ true → Answers (judged_or_short loopbytes certificate lent) (ranked_or_short loopbytes certificate lent)
    unfolding is_short answered rank_answered
    as_short e = rw (rows, e) (refl, refl)

    no_short : of_short certificate ≡ false → is_short loopbytes certificate ≡ false
    unfolding is_short
    no_short long = rw (rows, long)

    -- of kind 8
    pub as_settling : of_settling certificate ≡ true → (verdict : Verdict) (after : List ℤ) → SettlingJudged loopbytes certificate lent verdict after → Answers verdict after
    unfolding settles
    as_settling e verdict after is =
        let by = by_settling (rw (rows, e)) in
        answers_by _ _ _ _ (is.0 ∙ sym by.0, is.1 ∙ sym by.1) (by_kind (no_short (eight_not_short certificate e)))

    -- of any other
    pub as_others : of_short certificate ≡ false → of_settling certificate ≡ false
        → Answers (judges (judge_of loopbytes certificate lent)) (rank_after (judge_of loopbytes certificate lent) lent)
    unfolding settles
    as_others long none =
        let by = by_rows loopbytes certificate lent rows in
        let loop = by_loop (rw (rows, none)) in
        answers_by _ _ _ _ (sym by.0 ∙ loop.0, sym by.1 ∙ loop.1) (by_kind (no_short long))

    -- ---- a loop that is refused

    pub loop_refused : (k q : ℕ) → first sound (loop_record loopbytes) ≡ refused k q → Answers (refusal_of 1 k q) lent
    unfolding judge_of
    loop_refused k q told =
        let row = judge_of loopbytes certificate lent in
        either (of_short certificate)
        (λ is_seven.
        let by = loop_refused_alike loopbytes certificate k q told lent in
        answers_by _ _ _ _ (sym by.0, sym by.1) (as_short is_seven))
        (λ long.
        either (of_settling certificate)
        (λ is_eight. as_settling is_eight _ _ (Settling.at_loop loopbytes certificate lent k q told))
        (λ none. answers_by _ _ _ _ (Rows.refused_so row lent 1 k q (Rows.at_loop row k q told)) (as_others long none)))

    -- ---- a sound loop, and a certificate whose frame is refused

    pub unframed : first sound (loop_record loopbytes) ≡ done → (k q : ℕ) → first framing (loop_reader certificate []) ≡ refused k q → Answers (refusal_of 2 k q) lent
    unfolding judge_of
    unframed sound-loop k q told =
        let row = judge_of loopbytes certificate lent in
        let alone : first framing (bytes_alone certificate) ≡ refused k q = sym (frame_alone certificate) ∙ told in
        let as_row = Rows.refused_so row lent 2 k q (Rows.at_certificate row sound-loop k q (certificate_alike certificate k q told certificates_judged loopbytes)) in
        either (of_short certificate)
        (λ is_seven.
        let by = unframed_alike loopbytes certificate k q alone lent in
        answers_by _ _ _ _ (as_row.0 ∙ sym by.0, as_row.1 ∙ sym by.1) (as_short is_seven))
        (λ long.
        either (of_settling certificate)
        (λ is_eight. as_settling is_eight _ _ (Settling.at_certificate loopbytes certificate lent sound-loop k q (settling_alike certificate k q alone (pair_of loopbytes certificate) refl)))
        (λ none. answers_by _ _ _ _ as_row (as_others long none)))

  -- ---- a loop whose frame is refused

  pub loop_unframed : (k q : ℕ) → first framing (loop_reader loopbytes []) ≡ refused k q → Answers (refusal_of 1 k q) lent
  loop_unframed k q told =
      either (of_paths loopbytes)
      (λ paths.
      let by = frame_either_way loopbytes certificate lent k q (sym (frame_alone loopbytes) ∙ told) in
      answers_by _ _ _ _ (sym by.0, refl) (as_paths paths))
      (λ rows. loop_refused rows k q (loop_alike loopbytes k q told))

-- The ways through bound by the kinds of both records, one for each return: what is told of the records, and what the definition then answers. A record whose frame
-- is refused is refused so whatever kind its bytes 4 and 5 tell.
use mathlib.Core.Path.{◌≡◌, refl, sym, ◌∙◌}
use Prim.Native.Nat.{ℕ}
use mathlib.Core.Bool.{true, false}
use mathlib.Core.List.{List, []}
use lib.IntN.{ℤ}
use Rattle.record.specs.Readers.{framing, sound, loop_reader}
use Rattle.record_paths.specs.PathFields.{bytes_alone}
use Rattle.refusal.specs.Tests.{done, refused, first}
use Rattle.refusal.proofs.TestLaws.{either}
use Rattle.verdict.specs.Bounding.{bounds, bound_of, certificates_bounded}
use Rattle.verdict.specs.Pairs.{loop_record}
use Rattle.verdict_settling.specs.AnswersByKind.{of_settling, pair_of, bounding_of, bounded_by_kind}
use Rattle.verdict_settling.specs.SettlingJudging.{settling_bounds}
use Rattle.verdict_short.specs.Answers.{bounded_answered}
use Rattle.verdict_short.specs.ShortJudging.{of_short, bounded_or_short}
use Rattle.verdict_short.proofs.KindNumbers.{eight_not_short, frame_alone}
use Rattle.verdict_short.proofs.ShortAsLong.{loop_refused_alike, unframed_alike}
use Rattle.judge.proofs.Framing.{certificate_alike}
use Rattle.judge_bound.specs.BoundShown.{no_bound}
use Rattle.judge_bound.proofs.BoundingWays as Rows
use Rattle.judge_settling.proofs.SettlingEntered.{settling_alike}
use Rattle.bound_by_kind.proofs.BoundWays as Settling

module _ (loopbytes certificate : List ℕ) (state : List ℤ) where
  -- ---- by the certificate's kind

  pub as_short : of_short certificate ≡ true → bounded_or_short loopbytes certificate state ≡ bounded_answered loopbytes certificate state
  unfolding bounded_answered
  as_short e = rw e

  by_kind : of_short certificate ≡ false → bounded_by_kind loopbytes certificate state ≡ bounded_answered loopbytes certificate state
  unfolding bounded_answered
  by_kind e = rw e

  pub as_settling : of_settling certificate ≡ true
      → settling_bounds (bounding_of loopbytes certificate state) ≡ bounded_answered loopbytes certificate state
  as_settling e = Settling.as_settling loopbytes certificate state e ∙ by_kind (eight_not_short certificate e)

  pub as_others : of_short certificate ≡ false → of_settling certificate ≡ false
      → bounds (bound_of loopbytes certificate state) ≡ bounded_answered loopbytes certificate state
  as_others long none = Settling.as_others loopbytes certificate state none ∙ by_kind long

  -- ---- a loop that is refused

  pub loop_refused : (k q : ℕ) → first sound (loop_record loopbytes) ≡ refused k q → no_bound 1 k q ≡ bounded_answered loopbytes certificate state
  unfolding bound_of
  loop_refused k q told =
      let row = bound_of loopbytes certificate state in
      either (of_short certificate)
      (λ is_seven. sym (loop_refused_alike loopbytes certificate k q told state).2 ∙ as_short is_seven)
      (λ long.
      either (of_settling certificate)
      (λ is_eight. Settling.at_loop loopbytes certificate state k q told ∙ as_settling is_eight)
      (λ none. Rows.refused_so row 1 k q (Rows.at_loop row k q told) ∙ as_others long none))

  -- ---- a sound loop, and a certificate whose frame is refused

  pub unframed : first sound (loop_record loopbytes) ≡ done → (k q : ℕ) → first framing (loop_reader certificate []) ≡ refused k q
      → no_bound 2 k q ≡ bounded_answered loopbytes certificate state
  unfolding bound_of
  unframed sound-loop k q told =
      let row = bound_of loopbytes certificate state in
      let alone : first framing (bytes_alone certificate) ≡ refused k q = sym (frame_alone certificate) ∙ told in
      let as_row = Rows.refused_so row 2 k q (Rows.at_certificate row sound-loop k q (certificate_alike certificate k q told certificates_bounded loopbytes)) in
      either (of_short certificate)
      (λ is_seven. as_row ∙ sym (unframed_alike loopbytes certificate k q alone state).2 ∙ as_short is_seven)
      (λ long.
      either (of_settling certificate)
      (λ is_eight. Settling.at_certificate loopbytes certificate state sound-loop k q (settling_alike certificate k q alone (pair_of loopbytes certificate) refl) ∙ as_settling is_eight)
      (λ none. as_row ∙ as_others long none))

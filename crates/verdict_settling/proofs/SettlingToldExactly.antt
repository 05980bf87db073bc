-- What a refusal by a condition means, for whoever made the settling: 62 at column j, say, is told exactly when both records are sound, the rank list
-- has room, and of the rows and values that the bytes hold EA = k g in every column, and EA' is not -k g in column j and is so before it
-- (`SettlingFails` of crate `theory_settling`). The same of bound. And 8 is never told, whatever the kinds. Assumes nothing.
use mathlib.Core.Path.{◌≡◌, refl, sym, ap, ◌∙◌}
use mathlib.Core.Logic.{◌↔◌}
use Prim.Native.Nat.{ℕ, ◌≤◌, ◌<◌}
use mathlib.Core.Bool.{true}
use mathlib.Core.List.{List, []}
use native.Mathlib.Omega.{arith}
use lib.IntN.{ℤ}
use Rattle.refusal.proofs.TestLaws.{either}
use Rattle.record.specs.Readers.{sound}
use Rattle.record_paths.specs.PathFields.{bytes_alone, is_kind, is_long, fields_fit}
use Rattle.record_settling.specs.SettlingRecords.{sound_settling}
use Rattle.theory_settling.specs.SettlingFails.{SettlingFails}
use Rattle.theory_settling.proofs.SettlingDecisions.{told_exactly_settling}
use Rattle.verdict.specs.Bounding.{bounded}
use Rattle.verdict.specs.Pairs.{loop_record}
use Rattle.verdict.specs.Stages.{refusal, said, refusal_of, verdict_of}
use Rattle.verdict.specs.StateTests.{state_tests}
use Rattle.verdict.specs.declared.Bounded.{Bounded}
use Rattle.verdict.proofs.StageLaws.{stage_done, stage_refused, stage_passed, stage_tells, silent_said}
use Rattle.verdict.proofs.StatesInRange.{StateIn, state_fits}
use Rattle.verdict.proofs.ToldExactly.{above, said_so, bounded_verdict, never_8_bound}
use Rattle.verdict_paths.proofs.PathDemands.{said_refused}
use Rattle.verdict_paths.proofs.PathsToldExactly.{judged_never_8}
use Rattle.verdict_settling.specs.AnswersByKind.{of_settling, settles, judging_of, bounding_of, judged_by_kind, bounded_by_kind}
use Rattle.verdict_settling.specs.SettlingJudging.{variables_of, rows_for, loop_of, settling_of}
use Rattle.verdict_settling.specs.SettlingJudging.{SettlingJudging, rank_room, settling_judging, settling_judges}
use Rattle.verdict_settling.specs.SettlingJudging.{SettlingBounding, settling_bounding, settling_bounds}
use Rattle.verdict_settling.proofs.SettlingAccepted.{SettlingSound, state_given, rank_fits, settling_never_8, settling_never_8_bound}
use Rattle.verdict_settling.proofs.SettlingAccepted.{settling_never_11}
use Rattle.verdict_settling.proofs.SettlingBridges.{judged_settling, judged_as_before, bounded_settling, bounded_as_before}

-- what a refusal by a condition says of a judging, and of a bound call
pub record JudgingFails (j : SettlingJudging) (number place : ℕ) : Type 0 where
  pub both_sound : SettlingSound j.records
  pub room : variables_of j.records ≤ j.room
  pub fails : SettlingFails (loop_of j.records) (settling_of j.records) number place

pub record BoundingFails (b : SettlingBounding) (number place : ℕ) : Type 0 where
  pub both_sound : SettlingSound b.records
  pub state_in : StateIn (state_given b)
  pub fails : SettlingFails (loop_of b.records) (settling_of b.records) number place

-- ---- judging

module _ (j : SettlingJudging) (k p : ℕ) where
  fails_told : JudgingFails j k p → settling_judges j ≡ refusal_of 2 k p
  unfolding settling_judges settling_judging
  fails_told h =
      said_refused (said settling_judging j) _ 2 k p
      (stage_done 1 _ _ j h.both_sound.loop_sound
      ∙ (stage_done 2 _ _ j h.both_sound.certificate_sound
      ∙ (stage_done 0 _ _ j ((rank_fits j).1 h.room)
      ∙ stage_refused 2 _ _ j k p ((told_exactly_settling (loop_of j.records) (settling_of j.records) k p).1 h.fails))))

  -- and a number above 20 is told by nothing else
  told_fails : 20 < k → settling_judges j ≡ refusal_of 2 k p → JudgingFails j k p
  unfolding settling_judges settling_judging sound sound_settling is_kind is_long fields_fit rank_room
  told_fails high h =
      let tests = sound_settling (variables_of j.records) (rows_for j.records) in
      let is_said = said_so (said settling_judging j) _ 2 k p (omega arith) h in
      let at_loop = stage_passed 1 _ _ j 2 k p (above k sound (loop_record j.records.loopbytes) high refl) is_said in
      let at_certificate = stage_passed 2 _ _ j 2 k p (above k tests (bytes_alone j.records.certificate) high refl) at_loop.1 in
      let at_room = stage_passed 0 _ _ j 2 k p (above k rank_room j high refl) at_certificate.1 in
      let told = stage_tells 2 _ [] j 2 k p (silent_said k [] j (λ z. omega arith) tt) at_room.1 in
      record {
        both_sound = record { loop_sound = at_loop.0; certificate_sound = at_certificate.0 };
        room = (rank_fits j).0 at_room.0;
        fails = (told_exactly_settling (loop_of j.records) (settling_of j.records) k p).0 told;
      }

  pub told_exactly_settling_judging : 20 < k → (settling_judges j ≡ refusal_of 2 k p) ↔ JudgingFails j k p
  told_exactly_settling_judging high = (told_fails high, fails_told)

-- ---- bound

module _ (b : SettlingBounding) (k p : ℕ) where
  bound_fails_told : BoundingFails b k p → settling_bounds b ≡ record { verdict = refusal_of 2 k p; bound = 0 }
  unfolding settling_bounds settling_bounding bounded verdict_of
  bound_fails_told h =
      let is_said : said settling_bounding b ≡ refusal 2 k p
      = stage_done 1 _ _ b h.both_sound.loop_sound
      ∙ (stage_done 2 _ _ b h.both_sound.certificate_sound
      ∙ (stage_done 0 _ _ b ((state_fits (state_given b)).1 h.state_in)
      ∙ stage_refused 2 _ _ b k p ((told_exactly_settling (loop_of b.records) (settling_of b.records) k p).1 h.fails))) in
      rw is_said

  bound_told_fails : 20 < k → settling_bounds b ≡ record { verdict = refusal_of 2 k p; bound = 0 } → BoundingFails b k p
  unfolding settling_bounds settling_bounding sound sound_settling is_kind is_long fields_fit state_tests
  bound_told_fails high h =
      let tests = sound_settling (variables_of b.records) (rows_for b.records) in
      let verdict_told = sym (bounded_verdict (said settling_bounding b) _ _) ∙ ap (λ (a : Bounded). a.verdict) h in
      let is_said = said_so (said settling_bounding b) _ 2 k p (omega arith) verdict_told in
      let at_loop = stage_passed 1 _ _ b 2 k p (above k sound (loop_record b.records.loopbytes) high refl) is_said in
      let at_certificate = stage_passed 2 _ _ b 2 k p (above k tests (bytes_alone b.records.certificate) high refl) at_loop.1 in
      let at_state = stage_passed 0 _ _ b 2 k p (above k state_tests (state_given b) high refl) at_certificate.1 in
      let told = stage_tells 2 _ [] b 2 k p (silent_said k [] b (λ z. omega arith) tt) at_state.1 in
      record {
        both_sound = record { loop_sound = at_loop.0; certificate_sound = at_certificate.0 };
        state_in = (state_fits (state_given b)).0 at_state.0;
        fails = (told_exactly_settling (loop_of b.records) (settling_of b.records) k p).0 told;
      }

  pub told_exactly_settling_bounding : 20 < k → (settling_bounds b ≡ record { verdict = refusal_of 2 k p; bound = 0 }) ↔ BoundingFails b k p
  told_exactly_settling_bounding high = (bound_told_fails high, bound_fails_told)

-- ---- of the public calls' answers

module _ (loopbytes certificate : List ℕ) (lent : List ℤ) where
  pub told_exactly_settling_bytes : settles loopbytes certificate ≡ true → (number place : ℕ) → 20 < number
      → (judged_by_kind loopbytes certificate lent ≡ refusal_of 2 number place) ↔ JudgingFails (judging_of loopbytes certificate lent) number place
  told_exactly_settling_bytes e k p high =
      rw (judged_settling loopbytes certificate lent e).0 (told_exactly_settling_judging (judging_of loopbytes certificate lent) k p high)

  pub judged_by_kind_never_8 : (judged_by_kind loopbytes certificate lent).number ≡ 8 → ⊥
  judged_by_kind_never_8 h =
      either (settles loopbytes certificate)
      (λ e. settling_never_8 _ (rw (judged_settling loopbytes certificate lent e).0 at h))
      (λ e. judged_never_8 loopbytes certificate lent (rw (judged_as_before loopbytes certificate lent e).0 at h))

module _ (loopbytes certificate : List ℕ) (state : List ℤ) where
  pub told_exactly_settling_bytes_bound : of_settling certificate ≡ true → (number place : ℕ) → 20 < number
      → (bounded_by_kind loopbytes certificate state ≡ record { verdict = refusal_of 2 number place; bound = 0 })
      ↔ BoundingFails (bounding_of loopbytes certificate state) number place
  told_exactly_settling_bytes_bound e k p high =
      rw (bounded_settling loopbytes certificate state e) (told_exactly_settling_bounding (bounding_of loopbytes certificate state) k p high)

  pub bounded_by_kind_never_8 : (bounded_by_kind loopbytes certificate state).verdict.number ≡ 8 → ⊥
  bounded_by_kind_never_8 h =
      either (of_settling certificate)
      (λ e. settling_never_8_bound _ (rw (bounded_settling loopbytes certificate state e) at h))
      (λ e. never_8_bound _ (rw (bounded_as_before loopbytes certificate state e) at h))

  -- "11" is a lasso's: of a settling it is never told
  pub settling_bytes_never_11 : of_settling certificate ≡ true → (bounded_by_kind loopbytes certificate state).verdict.number ≡ 11 → ⊥
  settling_bytes_never_11 e h = settling_never_11 _ (rw (bounded_settling loopbytes certificate state e) at h)

-- What a refusal by a condition means, for whoever made the certificate: judging tells 22 at column j, say, exactly when both
-- records are sound, the rank list has room, and of the rows and values that the bytes hold YA' = 0, and (Y - Z)A is not 0 in column
-- j and is 0 before it (`ConditionFails`, and beneath it `RankingFails`, `ExclusionFails` and `LassoFails` of crate `theory`). The
-- same of bound. And 8 is never told. Assumes nothing.
use mathlib.Core.Path.{◌≡◌, refl, sym, ap, ◌∙◌}
use mathlib.Core.Logic.{◌↔◌}
use Prim.Native.Nat.{ℕ, ◌≤◌, ◌<◌}
use mathlib.Core.Bool.{Bool, true, ◌&&◌}
use mathlib.Core.List.{List, [], ◌∷◌}
use native.Mathlib.Omega.{arith}
use lib.Dec.{leb}
use borrow.Author.Tests.{leb-true}
use Rattle.record.specs.Layouts.{has_rank}
use Rattle.record.specs.Readers.{sound}
use Rattle.refusal.specs.Tests.{done, Test, ◌at◌unless◌, first, number}
use Rattle.refusal.proofs.TestLaws.{either, both_true, passed, failed, number_avoided}
use Rattle.verdict.specs.Bounding.{Bounding, given_state, invariant, bounding, bounded, bounds}
use Rattle.verdict.specs.Fails.{ConditionFails}
use Rattle.verdict.specs.Judging.{Judging, rank_room, judging, judges}
use Rattle.verdict.specs.Pairs.{pair_kind, variables_of}
use Rattle.verdict.specs.StateTests.{state_tests}
use Rattle.verdict.specs.Stages.{Said, agreed, refusal, ◌says◌, said, refusal_of, verdict_of}
use Rattle.verdict.specs.declared.Bounded.{Bounded}
use Rattle.verdict.specs.declared.Outcome.{Outcome}
use Rattle.verdict.specs.declared.Verdict.{Verdict}
use Rattle.verdict.proofs.Accepted.{BothSound, room_there, no_room_needed}
use Rattle.verdict.proofs.BoundAnswers.{number_bounded}
use Rattle.verdict.proofs.ClaimAnswers.{judged_fails, bounded_fails}
use Rattle.verdict.proofs.ConditionLaws.{claim_told_exactly, told_exactly_conditions, conditions_silent}
use Rattle.verdict.proofs.StatesInRange.{StateIn, state_fits}
use Rattle.verdict.proofs.StageLaws.{number_said, verdict_number, stage_passed, stage_tells, silent_said}

-- what a refusal of judging by a condition says of the call
pub record JudgingFails (j : Judging) (number place : ℕ) : Type 0 where
  pub both_sound : BothSound j.records
  -- room for the rank, of kinds 2 and 4
  pub room : has_rank (pair_kind j.records) ≡ true → variables_of j.records ≤ j.room
  pub fails : ConditionFails (pair_kind j.records) j.records number place

-- the same of bound, where there is a state and no rank list
pub record BoundingFails (b : Bounding) (number place : ℕ) : Type 0 where
  pub both_sound : BothSound b.records
  pub state_in : StateIn (given_state b)
  pub fails : ConditionFails (pair_kind b.records) b.records number place

-- ---- the other tests of judging and bound tell no number above 20

module _ {I : Type 0} where
  -- no test of the list tells more
  abbrev pub at_most : ℕ → List (Test I) → Bool
  at_most most [] = true
  at_most most ((k at p unless t) ∷ ts) = leb k most && at_most most ts

  number_at_most : (most : ℕ) (ts : List (Test I)) (i : I) → at_most most ts ≡ true → number (first ts i) ≤ most
  unfolding first number
  number_at_most most [] i ok = omega arith
  number_at_most most ((k at p unless t) ∷ ts) i ok =
      let parts = both_true (leb k most) (at_most most ts) ok in
      either (t i)
      (λ e. rw (passed k p t ts i e) (number_at_most most ts i parts.1))
      (λ e. rw (failed k p t ts i e) (leb-true k most parts.0))

  pub above : (k : ℕ) (ts : List (Test I)) (i : I) → 20 < k → at_most 20 ts ≡ true → number (first ts i) ≡ k → ⊥
  above k ts i high ok h = omega (arith, number_at_most 20 ts i ok)

-- ---- what an answer says of the stages

pub said_so : (s : Said) (o : Outcome) (a k p : ℕ) → 0 < k → verdict_of s o ≡ refusal_of a k p → s ≡ refusal a k p
unfolding verdict_of
said_so agreed o a k p some h = absurd (let z : 0 ≡ k = ap (λ (v : Verdict). v.number) h in omega arith)
said_so (refusal b n q) o a k p some h =
    rw (ap (λ (v : Verdict). v.about) h, ap (λ (v : Verdict). v.number) h, ap (λ (v : Verdict). v.place) h)

pub bounded_verdict : (s : Said) (o : Outcome) (m : ℕ) → (bounded s o m).verdict ≡ verdict_of s o
unfolding bounded
bounded_verdict agreed o m = refl
bounded_verdict (refusal a k p) o m = refl

-- ---- judging

-- room for the rank
room_passed : (j : Judging) → (has_rank (pair_kind j.records) ≡ true → variables_of j.records ≤ j.room) → first rank_room j ≡ done
room_passed j room = either (has_rank (pair_kind j.records)) (λ e. (room_there j e).1 (room e)) (no_room_needed j)

module _ (j : Judging) (k p : ℕ) (high : 20 < k) where
  fails_when_said : said judging j ≡ refusal 2 k p → JudgingFails j k p
  unfolding judging sound rank_room
  fails_when_said h =
      let at_loop = stage_passed 1 _ _ j 2 k p (above k sound j.records.loop_is high refl) h in
      let at_certificate = stage_passed 2 _ _ j 2 k p (above k sound j.records.certificate_is high refl) at_loop.1 in
      let at_room = stage_passed 0 _ _ j 2 k p (above k rank_room j high refl) at_certificate.1 in
      let told = stage_tells 2 _ [] j 2 k p (silent_said k [] j (λ z. omega arith) tt) at_room.1 in
      record {
        both_sound = record { loop_sound = at_loop.0; certificate_sound = at_certificate.0 };
        room = λ e. (room_there j e).0 at_room.0;
        fails = (told_exactly_conditions j.records k p).0 told;
      }

pub told_exactly_judging : (j : Judging) (number place : ℕ) → 20 < number
    → (judges j ≡ refusal_of 2 number place) ↔ JudgingFails j number place
unfolding judges
told_exactly_judging j k p high = (
  λ h. fails_when_said j k p high (said_so (said judging j) _ 2 k p (omega arith) h),
  λ h.
      let told = (claim_told_exactly (pair_kind j.records) j.records k p).1 h.fails in
      (judged_fails j [] _ h.both_sound refl (room_passed j h.room) k p told).0,
)

-- ---- bound

module _ (b : Bounding) (k p : ℕ) (high : 20 < k) where
  bound_fails_when_said : said bounding b ≡ refusal 2 k p → BoundingFails b k p
  unfolding bounding sound state_tests invariant
  bound_fails_when_said h =
      let at_loop = stage_passed 1 _ _ b 2 k p (above k sound b.records.loop_is high refl) h in
      let at_certificate = stage_passed 2 _ _ b 2 k p (above k sound b.records.certificate_is high refl) at_loop.1 in
      let at_state = stage_passed 0 _ _ b 2 k p (above k state_tests (given_state b) high refl) at_certificate.1 in
      let last = (2 says λ b. first invariant b) ∷ [] in
      let last_silent = silent_said k last b (λ z. omega arith) (above k invariant b high refl, λ e. tt) in
      let told = stage_tells 2 _ last b 2 k p last_silent at_state.1 in
      record {
        both_sound = record { loop_sound = at_loop.0; certificate_sound = at_certificate.0 };
        state_in = (state_fits (given_state b)).0 at_state.0;
        fails = (told_exactly_conditions b.records k p).0 told;
      }

pub told_exactly_bounding : (b : Bounding) (number place : ℕ) → 20 < number
    → (bounds b ≡ record { verdict = refusal_of 2 number place; bound = 0 }) ↔ BoundingFails b number place
unfolding bounds
told_exactly_bounding b k p high = (
  λ h.
      let verdict_told = sym (bounded_verdict (said bounding b) _ _) ∙ ap (λ (a : Bounded). a.verdict) h in
      bound_fails_when_said b k p high (said_so (said bounding b) _ 2 k p (omega arith) verdict_told),
  λ h.
      let told = (claim_told_exactly (pair_kind b.records) b.records k p).1 h.fails in
      bounded_fails b _ h.both_sound refl ((state_fits (given_state b)).1 h.state_in) k p told,
)

-- ---- 8 is never told

number_judged : (j : Judging) → number_said (said judging j) ≡ (judges j).number
unfolding judges
number_judged j = verdict_number (said judging j) _

pub never_8 : (j : Judging) → (judges j).number ≡ 8 → ⊥
unfolding judging sound rank_room
never_8 j h =
    silent_said 8 judging j (λ z. omega arith) (
      number_avoided 8 sound j.records.loop_is (λ z. omega arith) refl,
      λ loop_done. (
        number_avoided 8 sound j.records.certificate_is (λ z. omega arith) refl,
        λ certificate_done. (
          number_avoided 8 rank_room j (λ z. omega arith) refl,
          λ room_done. (conditions_silent j.records 8 (λ z. omega arith) (omega arith), λ told_done. tt),
        ),
      ),
    )
    (number_judged j ∙ h)

pub never_8_bound : (b : Bounding) → (bounds b).verdict.number ≡ 8 → ⊥
unfolding bounding sound state_tests invariant
never_8_bound b h =
    silent_said 8 bounding b (λ z. omega arith) (
      number_avoided 8 sound b.records.loop_is (λ z. omega arith) refl,
      λ loop_done. (
        number_avoided 8 sound b.records.certificate_is (λ z. omega arith) refl,
        λ certificate_done. (
          number_avoided 8 state_tests (given_state b) (λ z. omega arith) refl,
          λ state_done. (
            conditions_silent b.records 8 (λ z. omega arith) (omega arith),
            λ conditions_done. (number_avoided 8 invariant b (λ z. omega arith) refl, λ told_done. tt),
          ),
        ),
      ),
    )
    (number_bounded b ∙ h)

-- `settling_accepted_exactly_when`: a settling is accepted if and only if both records are sound, the rank list has room, and the conditions of 02,
-- Q-8, hold of the loop and the settling that the bytes hold. The same of bound, where there is a state and no rank list. And what is then answered,
-- and what a refusal leaves. Neither 8 nor, in bound, 11 is ever told. Assumes nothing.
use mathlib.Core.Path.{◌≡◌, refl, sym, ap, ◌∙◌}
use mathlib.Core.Logic.{◌↔◌}
use Prim.Native.Nat.{ℕ, ◌+◌, ◌≤◌, ◌<◌}
use mathlib.Core.Bool.{true}
use mathlib.Core.List.{List, ◌++◌}
use native.Mathlib.Omega.{arith}
use lib.IntN.{ℤ}
use lib.ListN.{drop}
use borrow.Author.Tests.{leb-true, le-leb}
use Rattle.refusal.specs.Tests.{done, first, number}
use Rattle.refusal.proofs.TestLaws.{passes_done, done_passes, zero_done, avoids, number_avoided}
use Rattle.record.specs.Readers.{sound}
use Rattle.record_paths.specs.PathFields.{bytes_alone, is_kind, is_long, fields_fit}
use Rattle.record_settling.specs.SettlingRecords.{sound_settling}
use Rattle.theory.specs.Loops.{Loop}
use Rattle.theory.specs.Rankings.{rank, start, fall}
use Rattle.theory_settling.specs.SettlingFails.{SettlingFails, fails_61, fails_62, fails_63, fails_ranked}
use Rattle.theory_settling.specs.Settlings.{Settling, SettlingHolds, longer, settling_bound}
use Rattle.theory_settling.proofs.SettlingDecisions.{settling_decided, told_exactly_settling}
use Rattle.theory_settling.proofs.SettlingInOrder.{settling_named}
use Rattle.verdict.specs.Bounding.{bounded}
use Rattle.verdict.specs.Contents.{loop_in}
use Rattle.verdict.specs.Judging.{ranks}
use Rattle.verdict.specs.Pairs.{loop_record}
use Rattle.verdict.specs.Stages.{said, shows, verdict_of}
use Rattle.verdict.specs.StateTests.{GivenState, state_tests}
use Rattle.verdict.specs.declared.Outcome.{Outcome}
use Rattle.verdict.specs.declared.Outcome.TheVariants as Outcomes
use Rattle.verdict.proofs.BoundAnswers.{bounded_number}
use Rattle.verdict.proofs.ConditionLaws.{ranking_told_lem}
use Rattle.verdict.proofs.RefusedCalls.{refused_said, refused_bounded}
use Rattle.verdict.proofs.StageLaws.{by_told, Agrees, agrees_said, said_agrees, number_said, verdict_number, Named, zero_agreed, silent_said}
use Rattle.verdict.proofs.StatesInRange.{StateIn, state_fits}
use Rattle.whole.proofs.Tables.{length_tabulate}
use Rattle.verdict_settling.specs.SettlingJudging.{SettlingPair, variables_of, rows_for, loop_of, settling_of}
use Rattle.verdict_settling.specs.SettlingJudging.{loop_told, certificate_told, conditions_told, settling_outcome, settling_rank}
use Rattle.verdict_settling.specs.SettlingJudging.{SettlingJudging, rank_room, settling_judging, settling_judges, settling_rank_after}
use Rattle.verdict_settling.specs.SettlingJudging.{SettlingBounding, settling_bounding, settling_bounds}

-- both records of a pair are sound
pub record SettlingSound (p : SettlingPair) : Type 0 where
  pub loop_sound : loop_told p ≡ done
  pub certificate_sound : certificate_told p ≡ done

-- the state, for the loop's n
abbrev pub state_given : SettlingBounding → GivenState
state_given b = record { n = variables_of b.records; state = b.state }

-- what an accepted judging is, and an accepted bound
pub record SettlingAccepted (j : SettlingJudging) : Type 0 where
  pub both_sound : SettlingSound j.records
  pub room : variables_of j.records ≤ j.room
  pub holds : SettlingHolds (loop_of j.records) (settling_of j.records)

pub record SettlingBounded (b : SettlingBounding) : Type 0 where
  pub both_sound : SettlingSound b.records
  pub state_in : StateIn (state_given b)
  pub holds : SettlingHolds (loop_of b.records) (settling_of b.records)

-- ---- the conditions tell 21 to 24 and 61 to 63

pub settling_numbered : (loop : Loop) (c : Settling) (k p : ℕ) → SettlingFails loop c k p → (20 < k) × (k ≤ 63)
settling_numbered loop c k p (fails_61 f) = (omega arith, omega arith)
settling_numbered loop c k p (fails_62 h f) = (omega arith, omega arith)
settling_numbered loop c k p (fails_63 h g f) = (omega arith, omega arith)
settling_numbered loop c k p (fails_ranked h f) =
    let t = ranking_told_lem (1 + loop.variables) (longer loop c) c.ranking k p (omega arith) (omega arith) f in
    (t.beyond_20, omega (arith, t.no_more))

module _ (p : SettlingPair) where
  pub conditions_silent : (k : ℕ) → (0 ≡ k → ⊥) → k ≤ 20 → number (conditions_told p) ≡ k → ⊥
  unfolding number
  conditions_silent k some low h =
      by_told (conditions_told p) (λ e. some (sym (ap number e) ∙ h))
      (λ n q e.
      let same : n ≡ k = sym (ap number e) ∙ h in
      omega (arith, (settling_numbered (loop_of p) (settling_of p) n q ((told_exactly_settling (loop_of p) (settling_of p) n q).0 e)).0))

  certificate_named : number (certificate_told p) ≡ 0 → certificate_told p ≡ done
  unfolding sound_settling is_kind is_long fields_fit
  certificate_named = zero_done (sound_settling (variables_of p) (rows_for p)) (bytes_alone p.certificate) refl

  loop_named : number (loop_told p) ≡ 0 → loop_told p ≡ done
  unfolding sound
  loop_named = zero_done sound (loop_record p.loopbytes) refl

-- ---- judging

judging_named : (j : SettlingJudging) → Named settling_judging j
unfolding settling_judging rank_room
judging_named j = (
  loop_named j.records,
  (
    certificate_named j.records,
    (zero_done rank_room j refl, (settling_named (loop_of j.records) (settling_of j.records), tt)),
  ),
)

-- 0 is told exactly when every stage is done
settling_agrees : (j : SettlingJudging) → ((settling_judges j).number ≡ 0) ↔ Agrees settling_judging j
unfolding settling_judges
settling_agrees j = (
  λ h. said_agrees settling_judging j (zero_agreed settling_judging j (judging_named j) (verdict_number (said settling_judging j) _ ∙ h)),
  λ h. sym (verdict_number (said settling_judging j) _) ∙ ap number_said (agrees_said settling_judging j h),
)

pub rank_fits : (j : SettlingJudging) → (first rank_room j ≡ done) ↔ (variables_of j.records ≤ j.room)
unfolding rank_room
rank_fits j = (λ h. leb-true _ _ (done_passes rank_room j h).0, λ h. passes_done rank_room j (le-leb _ _ h, tt))

pub settling_accepted_exactly_when : (j : SettlingJudging) → ((settling_judges j).number ≡ 0) ↔ SettlingAccepted j
unfolding settling_judging
settling_accepted_exactly_when j =
    let decided = settling_decided (loop_of j.records) (settling_of j.records) in (
      λ h.
          let a = (settling_agrees j).0 h in
          record {
            both_sound = record { loop_sound = a.0; certificate_sound = a.1.0 };
            room = (rank_fits j).0 a.1.1.0;
            holds = decided.0 a.1.1.1.0;
          },
      λ h.
          (settling_agrees j).1 (
            h.both_sound.loop_sound,
            (h.both_sound.certificate_sound, ((rank_fits j).1 h.room, (decided.1 h.holds, tt))),
          ),
    )

-- ---- bound

bounding_named : (b : SettlingBounding) → Named settling_bounding b
unfolding settling_bounding state_tests
bounding_named b = (
  loop_named b.records,
  (
    certificate_named b.records,
    (zero_done state_tests (state_given b) refl, (settling_named (loop_of b.records) (settling_of b.records), tt)),
  ),
)

bound_agrees : (b : SettlingBounding) → ((settling_bounds b).verdict.number ≡ 0) ↔ Agrees settling_bounding b
unfolding settling_bounds
bound_agrees b = (
  λ h. said_agrees settling_bounding b (zero_agreed settling_bounding b (bounding_named b) (bounded_number (said settling_bounding b) _ _ ∙ h)),
  λ h. sym (bounded_number (said settling_bounding b) _ _) ∙ ap number_said (agrees_said settling_bounding b h),
)

pub settling_bounded_exactly_when : (b : SettlingBounding) → ((settling_bounds b).verdict.number ≡ 0) ↔ SettlingBounded b
unfolding settling_bounding
settling_bounded_exactly_when b =
    let decided = settling_decided (loop_of b.records) (settling_of b.records) in (
      λ h.
          let a = (bound_agrees b).0 h in
          record {
            both_sound = record { loop_sound = a.0; certificate_sound = a.1.0 };
            state_in = (state_fits (state_given b)).0 a.1.1.0;
            holds = decided.0 a.1.1.1.0;
          },
      λ h.
          (bound_agrees b).1 (
            h.both_sound.loop_sound,
            (h.both_sound.certificate_sound, ((state_fits (state_given b)).1 h.state_in, (decided.1 h.holds, tt))),
          ),
    )

-- ---- what is answered: start and fall over the loop with the added row, the rank in front of the list and the rest as it was

-- what an accepted settling shows
abbrev pub shown : SettlingPair → Outcome
shown p =
    let l = longer (loop_of p) (settling_of p) in
    Outcomes.Settling (start l (settling_of p).ranking) (fall l (settling_of p).ranking)

pub record SettlingAnswers (j : SettlingJudging) (lent : List ℤ) : Type 0 where
  pub verdict_is : settling_judges j ≡ shows (shown j.records)
  pub list_is : (let p = j.records in
      settling_rank_after j lent ≡ rank (longer (loop_of p) (settling_of p)) (settling_of p).ranking ++ drop (variables_of p) lent)

pub settling_answers : (j : SettlingJudging) (lent : List ℤ) → (settling_judges j).number ≡ 0 → SettlingAnswers j lent
unfolding settling_judges settling_rank_after verdict_of ranks settling_outcome settling_rank variables_of loop_of loop_in rank
settling_answers j lent h =
    let agreed_is = agrees_said settling_judging j ((settling_agrees j).0 h) in
    record { verdict_is = rw agreed_is; list_is = rw (agreed_is, length_tabulate) }

-- the bound is t - g·x, or 0 if that is negative
pub settling_bound_is : (b : SettlingBounding) → (settling_bounds b).verdict.number ≡ 0
    → settling_bounds b ≡ record { verdict = shows (shown b.records); bound = settling_bound (settling_of b.records) b.state }
unfolding settling_bounds bounded verdict_of settling_outcome
settling_bound_is b h = rw (agrees_said settling_bounding b ((bound_agrees b).0 h))

-- a refusal shows nothing and leaves the list; a refused bound is 0
pub refused_settling : (j : SettlingJudging) (lent : List ℤ) → ((settling_judges j).number ≡ 0 → ⊥)
    → ((settling_judges j).outcome ≡ Outcomes.Nothing) × (settling_rank_after j lent ≡ lent)
unfolding settling_judges settling_rank_after
refused_settling j lent told = refused_said (said settling_judging j) _ _ lent told

pub refused_settling_bound : (b : SettlingBounding) → ((settling_bounds b).verdict.number ≡ 0 → ⊥)
    → ((settling_bounds b).verdict.outcome ≡ Outcomes.Nothing) × ((settling_bounds b).bound ≡ 0)
unfolding settling_bounds
refused_settling_bound b told = refused_bounded (said settling_bounding b) _ _ told

-- ---- numbers that are never told

abbrev avoided_by_records : ℕ → SettlingPair → Type 0
avoided_by_records k p = (avoids k sound ≡ true) × (avoids k (sound_settling (variables_of p) (rows_for p)) ≡ true)

judging_silent : (j : SettlingJudging) (k : ℕ) → (0 ≡ k → ⊥) → k ≤ 20 → avoided_by_records k j.records → avoids k rank_room ≡ true
    → (settling_judges j).number ≡ k → ⊥
unfolding settling_judging settling_judges
judging_silent j k some low none no_room h =
    silent_said k settling_judging j some (
      number_avoided k sound (loop_record j.records.loopbytes) some none.0,
      λ loop_done. (
        number_avoided k (sound_settling (variables_of j.records) (rows_for j.records)) (bytes_alone j.records.certificate) some none.1,
        λ certificate_done. (
          number_avoided k rank_room j some no_room,
          λ room_done. (conditions_silent j.records k some low, λ told_done. tt),
        ),
      ),
    )
    (verdict_number (said settling_judging j) _ ∙ h)

bound_silent : (b : SettlingBounding) (k : ℕ) → (0 ≡ k → ⊥) → k ≤ 20 → avoided_by_records k b.records → avoids k state_tests ≡ true
    → (settling_bounds b).verdict.number ≡ k → ⊥
unfolding settling_bounding settling_bounds
bound_silent b k some low none no-state h =
    silent_said k settling_bounding b some (
      number_avoided k sound (loop_record b.records.loopbytes) some none.0,
      λ loop_done. (
        number_avoided k (sound_settling (variables_of b.records) (rows_for b.records)) (bytes_alone b.records.certificate) some none.1,
        λ certificate_done. (
          number_avoided k state_tests (state_given b) some no-state,
          λ state_done. (conditions_silent b.records k some low, λ told_done. tt),
        ),
      ),
    )
    (bounded_number (said settling_bounding b) _ _ ∙ h)

-- a settling speaks of every state, so 11 is never told
pub settling_never_11 : (b : SettlingBounding) → (settling_bounds b).verdict.number ≡ 11 → ⊥
unfolding sound sound_settling is_kind is_long fields_fit state_tests
settling_never_11 b h = bound_silent b 11 (λ z. omega arith) (omega arith) (refl, refl) refl h

pub settling_never_8 : (j : SettlingJudging) → (settling_judges j).number ≡ 8 → ⊥
unfolding sound sound_settling is_kind is_long fields_fit rank_room
settling_never_8 j h = judging_silent j 8 (λ z. omega arith) (omega arith) (refl, refl) refl h

pub settling_never_8_bound : (b : SettlingBounding) → (settling_bounds b).verdict.number ≡ 8 → ⊥
unfolding sound sound_settling is_kind is_long fields_fit state_tests
settling_never_8_bound b h = bound_silent b 8 (λ z. omega arith) (omega arith) (refl, refl) refl h

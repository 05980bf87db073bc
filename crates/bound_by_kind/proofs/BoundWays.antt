-- The ways through a bound call by the certificate's kind, one for each return: what is told of the records and the state, and what the
-- definition then answers.
use Rattle.std.specs.Prelude.{Result, Ok, Err}
use mathlib.Core.Path.{◌≡◌, refl, sym, ap, ◌∙◌}
use Prim.Native.Nat.{ℕ}
use mathlib.Core.Bool.{true, false}
use mathlib.Core.List.{List}
use lib.IntN.{ℤ}
use lib.ListN.{length}
use Rattle.refusal.specs.declared.Fault.{Fault}
use Rattle.refusal.proofs.FaultLaws.{told_done, told_given, told_refused}
use Rattle.refusal.specs.Tests.{done, refused, first}
use Rattle.theory_settling.specs.Settlings.{longer, unsettled, settling_bound}
use Rattle.verdict.specs.Bounding.{bounded, bounds, bound_of}
use Rattle.verdict.specs.Stages.{agreed, refusal, said, shows, verdict_of}
use Rattle.verdict.specs.declared.Bounded.{Bounded}
use Rattle.verdict.specs.declared.Outcome.TheVariants.{Settling}
use Rattle.verdict.specs.StateTests.{state_tests}
use Rattle.verdict.proofs.StageLaws.{stage_done, stage_refused, agrees_said}
use Rattle.verdict_settling.specs.AnswersByKind.{of_settling, pair_of, bounding_of, bounded_by_kind}
use Rattle.verdict_settling.specs.SettlingJudging.{SettlingPair, SettlingBounding, variables_of, loop_of, settling_of, loop_told, certificate_told}
use Rattle.verdict_settling.specs.SettlingJudging.{conditions_told, settling_outcome, settling_bounding, settling_bounds}
use Rattle.judge_sums.specs.declared.rows.Rows.{Rows}
use Rattle.judge_conditions.specs.LoopHeld as LoopHeld
use Rattle.judge_ranking.specs.RankedBy.{RankedBy}
use Rattle.judge_ranking.specs.declared.Ranked.{Ranked}
use Rattle.judge.specs.declared.sound_loop.SoundLoop.{SoundLoop}
use Rattle.judge_bound.specs.BoundShown.{no_bound, StateFits}
use Rattle.judge_bound.proofs.BoundedKinds.{RowsOf}
use Rattle.judge_bound.proofs.FittingStates.{state_long}
use Rattle.judge_settling.specs.SettlingBy.{SettlingBy}
use Rattle.judge_settling.specs.SettlingHeld.{settling_held}
use Rattle.judge_settling.proofs.SettlingContentsHeld.{variables_are, settling_held_is, settling_told}
use Rattle.bound_by_kind.specs.SettlingBounded.{steps_held}

-- the bound by places is the settling's
steps_are : (certificate : List ℕ) (n m : ℕ) (state : List ℤ) → steps_held certificate n state ≡ settling_bound (settling_held certificate n m) state
unfolding steps_held settling_bound unsettled settling_held
steps_are certificate n m state = refl

module _ (loopbytes certificate : List ℕ) (state : List ℤ) where
  abbrev p : SettlingPair
  p = pair_of loopbytes certificate

  abbrev b : SettlingBounding
  b = bounding_of loopbytes certificate state

  refused_so : (about number place : ℕ) → said settling_bounding b ≡ refusal about number place → no_bound about number place ≡ settling_bounds b
  unfolding settling_bounds bounded verdict_of
  refused_so about number place h = rw h

  pub at_loop : (k q : ℕ) → loop_told p ≡ refused k q → no_bound 1 k q ≡ settling_bounds b
  unfolding settling_bounding
  at_loop k q h = refused_so 1 k q (stage_refused _ _ _ b k q h)

  module _ (loop_sound : loop_told p ≡ done) where
    pub at_certificate : (k q : ℕ) → certificate_told p ≡ refused k q → no_bound 2 k q ≡ settling_bounds b
    unfolding settling_bounding
    at_certificate k q h = refused_so 2 k q (stage_done _ _ _ b loop_sound ∙ stage_refused _ _ _ b k q h)

  -- ---- by the certificate's kind

  pub as_settling : of_settling certificate ≡ true → settling_bounds b ≡ bounded_by_kind loopbytes certificate state
  unfolding bounded_by_kind
  as_settling e = rw e

  pub as_others : of_settling certificate ≡ false → bounds (bound_of loopbytes certificate state) ≡ bounded_by_kind loopbytes certificate state
  unfolding bounded_by_kind
  as_others e = rw e

-- ---- a sound loop and a sound certificate

module _ (looped : SoundLoop) (certificate : List ℕ) (state : List ℤ) where
  abbrev pair : SettlingPair
  pair = p looped.bytes.now certificate state

  abbrev call : SettlingBounding
  call = b looped.bytes.now certificate state

  module _ (c : certificate_told pair ≡ done) where
    state_told : first state_tests (record { n = variables_of pair; state = state }) ≡ first state_tests (record { n = looped.n; state = state })
    state_told = rw (variables_are _ certificate _ _ looped.sound)

    -- a state that fails a test
    pub at_state : (k q : ℕ) → first state_tests (record { n = looped.n; state = state }) ≡ refused k q → no_bound 0 k q ≡ settling_bounds call
    unfolding settling_bounding
    at_state k q h =
        refused_so looped.bytes.now certificate state 0 k q
        (stage_done _ _ _ call looped.sound.told ∙ stage_done _ _ _ call c ∙ stage_refused _ _ _ call k q (state_told ∙ h))

    -- the conditions
    module _ (fits : StateFits state looped.n) (rows : Rows) (are : RowsOf looped rows) (answer : Result Ranked Fault) (before after : List ℤ)
        (by : SettlingBy answer (LoopHeld.loop_of rows) (settling_held certificate rows.n rows.count) before after) where
      by_records : RankedBy answer (conditions_told pair) (longer (loop_of pair) (settling_of pair)) (settling_of pair).ranking before after
      by_records = settling_told _ certificate _ _ looped.sound answer before after (rw (are.0, are.1, are.2, are.3) at by)

      steps_so : steps_held certificate (length state) state ≡ settling_bound (settling_of pair) state
      steps_so =
          ap (λ n. steps_held certificate n state) (state_long looped.n state fits)
          ∙ steps_are certificate looped.n looped.m state
          ∙ ap (λ c. settling_bound c state) (sym (settling_held_is _ certificate _ _ looped.sound))

      pub all_hold : (r : Ranked) → Ok r ≡ answer
          → ◌≡◌ {A = Bounded} (record { verdict = shows (Settling r.start r.fall); bound = steps_held certificate (length state) state }) (settling_bounds call)
      unfolding settling_bounding settling_bounds settling_outcome bounded verdict_of
      all_hold r so =
          let e = told_done (conditions_told pair) _ r (so ∙ by_records.shown) in
          let shown = told_given (conditions_told pair) _ r (so ∙ by_records.shown) in
          let all : said settling_bounding call ≡ agreed = agrees_said settling_bounding call (looped.sound.told, (c, (state_told ∙ fits, (e, tt)))) in
          rw (shown, all, steps_so)

      pub one_fails : (f : Fault) → Err f ≡ answer → no_bound 2 f.number f.place ≡ settling_bounds call
      unfolding settling_bounding
      one_fails f so =
          let e = told_refused (conditions_told pair) _ f (so ∙ by_records.shown) in
          refused_so looped.bytes.now certificate state 2 f.number f.place
          (stage_done _ _ _ call looped.sound.told ∙ stage_done _ _ _ call c ∙ stage_done _ _ _ call (state_told ∙ fits) ∙ stage_refused _ _ _ call f.number f.place e)

-- A certificate whose kind is known, in a bound call: what the check of its body and the tests of the state answer, the definition answers.
use Rattle.std.specs.Prelude.{Result, Err}
use mathlib.Core.Path.{◌≡◌, sym, ap, ◌∙◌}
use Prim.Native.Nat.{ℕ}
use mathlib.Core.Bool.{true, false}
use mathlib.Core.List.{List}
use lib.IntN.{ℤ}
use Rattle.record.specs.declared.Wanted.{Wanted}
use Rattle.record.specs.Layouts.{Kind}
use Rattle.refusal.specs.Faults.{result_of}
use Rattle.refusal.specs.Tests.{first}
use Rattle.refusal.specs.declared.Fault.{Fault}
use Rattle.refusal.proofs.FaultLaws.{told_refused}
use Rattle.record_check.specs.Checks.{Answers}
use Rattle.record_check.specs.declared.Checked.{Checked}
use Rattle.record_check.proofs.FrameWays.{stopped}
use Rattle.verdict.specs.Bounding.{Bounding, bounds, bound_of, certificates_bounded}
use Rattle.verdict.specs.Pairs.{variables_of}
use Rattle.verdict.specs.StateTests.{state_tests}
use Rattle.judge.specs.declared.sound_loop.SoundLoop.{SoundLoop}
use Rattle.judge.specs.SoundPairs.{CertificateSound}
use Rattle.judge.proofs.ByKind.{body_told}
use Rattle.judge_bound.specs.BoundShown.{no_bound}
use Rattle.judge_bound.proofs.BoundingWays.{refused_so, at_certificate, at_state}

-- the kinds that a bound is by
abbrev pub with_rank : Wanted
with_rank = record { ranking = true; exclusion = false; lasso = true }

module _ (looped : SoundLoop) (certificate : List ℕ) (state : List ℤ) where
  abbrev call : Bounding
  call = bound_of looped.bytes.now certificate state

  pub body_refused : (k : Kind) (answer : Result Checked Fault) → Answers k certificate looped.n looped.m answer → certificates_bounded k ≡ true → (f : Fault) → Err f ≡ answer
      → no_bound 2 f.number f.place ≡ bounds call
  unfolding bound_of
  body_refused k answer is known f so =
      refused_so call 2 f.number f.place
      (at_certificate call looped.sound.told _ _ (body_told _ _ _ looped.sound certificate k answer is with_rank known f so))

  pub state_refused : (k : Kind) → CertificateSound certificates_bounded looped.bytes.now certificate k
      → (f : Fault) → stopped f ≡ result_of (first state_tests (record { n = looped.n; state = state })) tt → no_bound 0 f.number f.place ≡ bounds call
  unfolding bound_of variables_of
  state_refused k c f is =
      let told = told_refused (first state_tests (record { n = looped.n; state = state })) tt f is in
      refused_so call 0 f.number f.place
      (at_state call looped.sound.told c.told _ _ (ap (λ n. first state_tests (record { n = n; state = state })) (sym looped.sound.n_is) ∙ told))

-- The ways through a bound call, one for each refusal: what is told of the records and the state, and what the definition then answers.
use mathlib.Core.Path.{◌≡◌, ◌∙◌}
use Prim.Native.Nat.{ℕ}
use Rattle.record.specs.Readers.{sound}
use Rattle.refusal.specs.Tests.{done, refused, first}
use Rattle.verdict.specs.Bounding.{Bounding, given_state, bounding, bounds, bounded}
use Rattle.verdict.specs.StateTests.{state_tests}
use Rattle.verdict.specs.Stages.{refusal, said, verdict_of}
use Rattle.verdict.proofs.StageLaws.{stage_done, stage_refused}
use Rattle.judge_bound.specs.BoundShown.{no_bound}

pub refused_so : (b : Bounding) (about number place : ℕ) → said bounding b ≡ refusal about number place → no_bound about number place ≡ bounds b
unfolding bounds bounded verdict_of
refused_so b about number place h = rw h

module _ (b : Bounding) where
  pub at_loop : (k p : ℕ) → first sound b.records.loop_is ≡ refused k p → said bounding b ≡ refusal 1 k p
  unfolding bounding
  at_loop k p h = stage_refused _ _ _ b k p h

  module _ (loop_sound : first sound b.records.loop_is ≡ done) where
    pub at_certificate : (k p : ℕ) → first sound b.records.certificate_is ≡ refused k p → said bounding b ≡ refusal 2 k p
    unfolding bounding
    at_certificate k p h = stage_done _ _ _ b loop_sound ∙ stage_refused _ _ _ b k p h

    module _ (certificate_sound : first sound b.records.certificate_is ≡ done) where
      -- a state that fails a test
      pub at_state : (k p : ℕ) → first state_tests (given_state b) ≡ refused k p → said bounding b ≡ refusal 0 k p
      unfolding bounding
      at_state k p h = stage_done _ _ _ b loop_sound ∙ stage_done _ _ _ b certificate_sound ∙ stage_refused _ _ _ b k p h

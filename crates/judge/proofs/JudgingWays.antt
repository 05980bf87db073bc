-- The ways through judging, one for each return: what is told of the records, and the verdict and the rank list that the definition then has.
use mathlib.Core.Path.{◌≡◌, ◌∙◌}
use Prim.Native.Nat.{ℕ, ◌<◌}
use mathlib.Core.Bool.{true}
use mathlib.Core.List.{List}
use lib.IntN.{ℤ}
use borrow.Author.Tests.{lt-leb}
use Rattle.record.specs.Layouts.{has_rank}
use Rattle.record.specs.Readers.{sound}
use Rattle.refusal.specs.Tests.{done, refused, first}
use Rattle.refusal.proofs.TestLaws.{failed}
use Rattle.verdict.specs.Judging.{Judging, rank_room, judging, judges, ranks, rank_after}
use Rattle.verdict.specs.Pairs.{pair_kind, variables_of}
use Rattle.verdict.specs.Stages.{refusal, said, refusal_of, verdict_of}
use Rattle.verdict.proofs.StageLaws.{stage_done, stage_refused}

-- a refusal that is said: its verdict, and the list as it was
pub refused_so : (j : Judging) (lent : List ℤ) (about number place : ℕ) → said judging j ≡ refusal about number place → (refusal_of about number place ≡ judges j) × (lent ≡ rank_after j lent)
unfolding judges rank_after verdict_of ranks
refused_so j lent about number place h = (rw h, rw h)

module _ (j : Judging) where
  pub at_loop : (k p : ℕ) → first sound j.records.loop_is ≡ refused k p → said judging j ≡ refusal 1 k p
  unfolding judging
  at_loop k p h = stage_refused _ _ _ j k p h

  module _ (loop_sound : first sound j.records.loop_is ≡ done) where
    pub at_certificate : (k p : ℕ) → first sound j.records.certificate_is ≡ refused k p → said judging j ≡ refusal 2 k p
    unfolding judging
    at_certificate k p h = stage_done _ _ _ j loop_sound ∙ stage_refused _ _ _ j k p h

    module _ (certificate_sound : first sound j.records.certificate_is ≡ done) where
      -- a rank list that is too short
      pub at_room : has_rank (pair_kind j.records) ≡ true → j.room < variables_of j.records → said judging j ≡ refusal 0 7 (variables_of j.records)
      unfolding judging rank_room
      at_room ranked short =
          stage_done _ _ _ j loop_sound ∙ stage_done _ _ _ j certificate_sound ∙
          stage_refused _ _ _ j 7 (variables_of j.records) (failed 7 _ _ _ j (rw ranked (lt-leb _ _ short)))

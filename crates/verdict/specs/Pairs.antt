-- The two records that a judge gets: when each is sound, and what the certificate claims, by its kind, of the loop that the bytes hold.
use Rattle.std.specs.Prelude.{ℕ, Bool, List, ℤ}
use Rattle.record.specs.Layouts.{Kind, loop, ranking, exclusion, lasso, other, is_loop}
use Rattle.record.specs.Readers.{Reader, kind, counts_read}
use Rattle.refusal.specs.Tests.{Told}
use Rattle.verdict.specs.Claims.{Claim, ranking_claim, exclusion_claim, lasso_claim, no_claim}
use Rattle.verdict.specs.Contents.{loop_in, ranking_in, exclusion_in, lasso_in}
use Rattle.verdict.specs.declared.Outcome.{Outcome}

-- ---- the two records

-- judging and bound are of loops of kind 1
abbrev pub loops_judged : Kind → Bool
loops_judged = is_loop

-- a judge's loop record, and its certificate record, which is read with the loop's n and m. No list is filled, so none is lent
unfoldable pub loop_record : List ℕ → Reader
loop_record bytes = record { bytes = bytes; wants = loops_judged; n = 0; m = 0; room = 0 }

unfoldable pub certificate_record : (Kind → Bool) → Reader → List ℕ → Reader
certificate_record wants l bytes = record { bytes = bytes; wants = wants; n = (counts_read l).n; m = (counts_read l).m; room = 0 }

-- a loop record and a certificate record for it
pub record Pair : Type 0 where
  pub loop_is : Reader
  pub certificate_is : Reader

-- of bytes, with the kinds that are wanted
abbrev pub pair_of : (Kind → Bool) → List ℕ → List ℕ → Pair
pair_of wants l c = record { loop_is = loop_record l; certificate_is = certificate_record wants (loop_record l) c }

-- the certificate's kind, and n
unfoldable pub pair_kind : Pair → Kind
pair_kind p = kind p.certificate_is

unfoldable pub variables_of : Pair → ℕ
variables_of p = (counts_read p.loop_is).n

-- ---- what the certificate claims of the loop that the bytes hold

unfoldable pub claim : Kind → Pair → Claim
claim loop p = no_claim
claim ranking p = ranking_claim (loop_in p.loop_is) (ranking_in p.certificate_is)
claim exclusion p = exclusion_claim (loop_in p.loop_is) (exclusion_in p.certificate_is)
claim lasso p = lasso_claim (loop_in p.loop_is) (lasso_in p.certificate_is)
claim other p = no_claim

-- what its conditions tell, what it shows where they hold, and its rank
unfoldable pub conditions : Pair → Told
conditions p = (claim (pair_kind p) p).told

unfoldable pub outcome_of : Kind → Pair → Outcome
outcome_of k p = (claim k p).outcome

unfoldable pub rank_of : Pair → List ℤ
rank_of p = (claim (pair_kind p) p).rank

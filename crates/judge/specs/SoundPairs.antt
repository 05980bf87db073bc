-- What the judge's functions are told of the records: that they are sound, with the loop's counts and the certificate's kind; and what
-- they tell of them.
use Rattle.std.specs.Prelude.{ℕ, Bool, true, cond, ◌≡◌, List, ℤ, Result, Ok, Err}
pub use Rattle.judge.specs.LoopSound.{LoopSound, first_row}
use Rattle.record.specs.Layouts.{Kind, loop, ranking, exclusion, lasso, other, kind_of, has_rank, is_lasso}
use Rattle.record.specs.Readers.{kind, counts_read, sound}
use Rattle.refusal.specs.Tests.{done, first}
use Rattle.refusal.specs.declared.Fault.{Fault}
use Rattle.verdict.specs.Judging.{judges, rank_after, judge_of}
use Rattle.theory.specs.Lassos.{longer}
use Rattle.theory.specs.Loops.{Loop}
use Rattle.theory.specs.Rankings as Rankings
use Rattle.verdict.specs.Contents.{loop_in, ranking_in, lasso_in}
use Rattle.verdict.specs.Pairs.{loop_record, certificate_record, Pair, pair_kind, conditions}
use Rattle.verdict.specs.Stages.{shows, refusal_of}
use Rattle.verdict.specs.declared.Outcome.{Outcome}
use Rattle.verdict.specs.declared.Outcome.TheVariants.{Nothing, Ranking, Lasso}
use Rattle.verdict.specs.declared.Verdict.{Verdict}
use Rattle.judge_ranking.specs.RankedBy.{RankedBy}
use Rattle.judge_ranking.specs.declared.Ranked.{Ranked}

-- a sound certificate record for it, of a kind among those that are wanted. This and the next are clauses and no types as `SoundLoop` is: each function
-- that takes them has a kind and a set of kinds of its own
pub record CertificateSound (wants : Kind → Bool) (loopbytes bytes : List ℕ) (k : Kind) : Type 0 where
  pub told : first sound (certificate_record wants (loop_record loopbytes) bytes) ≡ done
  pub kind_is : kind (certificate_record wants (loop_record loopbytes) bytes) ≡ k

-- one that has a rank, with its kind's number and its count of stem rows
pub record RankSound (wants : Kind → Bool) (loopbytes bytes : List ℕ) (number ms : ℕ) : Type 0 where
  pub as_kind : CertificateSound wants loopbytes bytes (kind_of number)
  pub ms_is : ms ≡ (counts_read (certificate_record wants (loop_record loopbytes) bytes)).ms
  pub ranks : has_rank (kind_of number) ≡ true

-- a sound lasso for it, with its count of stem rows
pub record LassoSound (wants : Kind → Bool) (loopbytes bytes : List ℕ) (ms : ℕ) : Type 0 where
  pub as_kind : CertificateSound wants loopbytes bytes lasso
  pub ms_is : ms ≡ (counts_read (certificate_record wants (loop_record loopbytes) bytes)).ms

-- the loop and the ranking that its rank, start and fall are of: kind 2's, or within kind 4 the loop with the added row
unfoldable pub ranked_loop : Pair → Loop
ranked_loop p = cond (is_lasso (pair_kind p)) (longer (loop_in p.loop_is) (lasso_in p.certificate_is)) (loop_in p.loop_is)

unfoldable pub ranking_of : Pair → Rankings.Ranking
ranking_of p = cond (is_lasso (pair_kind p)) (lasso_in p.certificate_is).ranking (ranking_in p.certificate_is)

unfoldable pub start_of : Pair → ℤ
start_of p = Rankings.start (ranked_loop p) (ranking_of p)

unfoldable pub fall_of : Pair → ℤ
fall_of p = Rankings.fall (ranked_loop p) (ranking_of p)

-- what its conditions tell; and where they hold start, fall and rank
abbrev pub RankedOf : Result Ranked Fault → Pair → List ℤ → List ℤ → Type 0
RankedOf r p before after = RankedBy r (conditions p) (ranked_loop p) (ranking_of p) before after

-- its outcome
unfoldable pub rank_outcome : Kind → ℤ → ℤ → Outcome
rank_outcome loop start fall = Nothing
rank_outcome ranking start fall = Ranking start fall
rank_outcome exclusion start fall = Nothing
rank_outcome lasso start fall = Lasso start fall
rank_outcome other start fall = Nothing

-- and its verdict, from what its conditions tell
unfoldable pub verdict_shown : Kind → Result Ranked Fault → Verdict
verdict_shown k (Ok r) = shows (rank_outcome k r.start r.fall)
verdict_shown k (Err f) = refusal_of 2 f.number f.place

-- a verdict and the rank list afterwards are those of judging
abbrev pub Judged : List ℕ → List ℕ → List ℤ → Verdict → List ℤ → Type 0
Judged loopbytes certificate lent verdict after =
    (verdict ≡ judges (judge_of loopbytes certificate lent)) × (after ≡ rank_after (judge_of loopbytes certificate lent) lent)

-- What a certificate of each kind claims of a loop: one definition per kind, of which judging and bound take all that they answer.
use Rattle.std.specs.Prelude.{ℕ, Bool, true, List, [], ℤ, pos, ◌+ℤ◌}
use Rattle.std.specs.Int.Signed.{le_z}
use Rattle.refusal.specs.Tests.{Told, done}
use Rattle.theory.specs.Conditions.{ranking_told, exclusion_told, lasso_told}
use Rattle.theory.specs.Exclusions as Exclusions
use Rattle.theory.specs.Lassos as Lassos
use Rattle.theory.specs.Loops.{Loop}
use Rattle.theory.specs.Rankings as Rankings
use Rattle.theory.specs.Rankings.{rank, start, fall, bound}
use Rattle.whole.specs.Sums.{dot}
use Rattle.verdict.specs.Outcomes.{grade_of}
use Rattle.verdict.specs.declared.Outcome.{Outcome}
use Rattle.verdict.specs.declared.Outcome.TheVariants.{Nothing, Ranking, Exclusion, Lasso}

pub record Claim : Type 0 where
  -- what its conditions tell
  pub told : Told
  -- what is shown where they hold
  pub outcome : Outcome
  -- what is put into the rank list; nothing for a kind without a rank
  pub rank : List ℤ
  -- the states that its bound is for, and the bound; 0 for a kind without one
  pub speaks_of : List ℤ → Bool
  pub bound : List ℤ → ℕ

-- r = ZA', from -Yb, down -Zb
unfoldable pub ranking_claim : Loop → Rankings.Ranking → Claim
ranking_claim l c =
    record {
      told = ranking_told l c;
      outcome = Ranking (start l c) (fall l c);
      rank = rank l c;
      speaks_of = λ x. true;
      bound = bound (rank l c) (start l c) (fall l c);
    }

-- a grade
unfoldable pub exclusion_claim : Loop → Exclusions.Exclusion → Claim
exclusion_claim l c =
    record { told = exclusion_told l c; outcome = Exclusion (grade_of c); rank = []; speaks_of = λ x. true; bound = λ x. 0 }

-- a ranking of the loop with the added row, for the states that meet the invariant s·x + s0 >= 0
unfoldable pub lasso_claim : Loop → Lassos.Lasso → Claim
lasso_claim l c =
    let longer = Lassos.longer l c in
    record {
      told = lasso_told l c;
      outcome = Lasso (start longer c.ranking) (fall longer c.ranking);
      rank = rank longer c.ranking;
      speaks_of = λ x. le_z (pos 0) (dot c.s x +ℤ c.s0);
      bound = bound (rank longer c.ranking) (start longer c.ranking) (fall longer c.ranking);
    }

-- of a kind that is no certificate's
unfoldable pub no_claim : Claim
no_claim = record { told = done; outcome = Nothing; rank = []; speaks_of = λ x. true; bound = λ x. 0 }

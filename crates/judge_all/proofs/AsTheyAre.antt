-- A row of verdicts holds them as they are: each is told in numbers, and these give it back.
use mathlib.Core.Path.{◌≡◌, refl, ap}
use Prim.Native.Nat.{ℕ}
use mathlib.Core.List.{List, [], ◌∷◌, map}
use lib.IntN.{ℤ}
use lib.ListN.{length}
use Rattle.record_parting.specs.Parting.{records}
use Rattle.verdict.specs.Stages.{said}
use Rattle.verdict.specs.declared.Verdict.{Verdict}
use Rattle.verdict_flat.specs.VerdictsBack.{verdict_back}
use Rattle.verdict_flat.proofs.VerdictsAgain.{back_again}
use Rattle.verdict_batch.specs.Batches.{batch_of, batching, filled, verdicts_in_turn, verdicts_after}
use Rattle.judge_rows.specs.VerdictRows.{put_for, filled_by}

each_again : (vs : List Verdict) → map (put_for verdict_back) vs ≡ vs
each_again [] = refl
each_again (v ∷ vs) = rw (back_again v, each_again vs)

pub verdicts_filled : (loopbytes bytes : List ℕ) (row : List Verdict) (ranks : List ℤ) → filled_by verdict_back loopbytes bytes row ranks ≡ verdicts_after loopbytes bytes row ranks
unfolding filled_by verdicts_after
verdicts_filled loopbytes bytes row ranks =
    ap (λ vs. filled (said batching (batch_of loopbytes bytes (length row) (length ranks))) vs row) (each_again (verdicts_in_turn loopbytes (records bytes) ranks))

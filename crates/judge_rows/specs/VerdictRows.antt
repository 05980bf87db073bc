-- A verdict as C gets it in a row: the fields of a single verdict in their order, each 64 bits wide.
use Rattle.std.specs.Prelude.{ℕ, ◌-◌, List, [], ◌∷◌, map, ℤ, pos, negsuc, length}
use Rattle.record_parting.specs.Parting.{records}
use Rattle.verdict.specs.Stages.{said}
use Rattle.verdict.specs.declared.Verdict.{Verdict}
use Rattle.verdict_flat.specs.FlatVerdicts.{flat_verdict}
use Rattle.verdict_flat.specs.declared.FlatVerdict.{FlatVerdict}
use Rattle.verdict_batch.specs.Batches.{batching, batch_of, verdicts_in_turn, filled}

-- a signed number as 64 bits: below 0, counted down from the largest, so that -1 is 18,446,744,073,709,551,615
unfoldable pub word : ℤ → ℕ
word (pos n) = n
word (negsuc n) = 18_446_744_073_709_551_615 - n

unfoldable pub row_of : FlatVerdict → List ℕ
row_of v =
    v.number ∷ v.place ∷ v.«record» ∷ v.outcome ∷ word v.start ∷ word v.fall ∷ v.grade ∷ []

abbrev pub verdict_row : Verdict → List ℕ
verdict_row v = row_of (flat_verdict v)

-- a caller's row after a batch, by what is put for a verdict of some numbers
abbrev pub put_for : {X : Type 0} → (FlatVerdict → X) → Verdict → X
put_for of v = of (flat_verdict v)

unfoldable pub filled_by : {X : Type 0} → (FlatVerdict → X) → List ℕ → List ℕ → List X → List ℤ → List X
filled_by of loopbytes bytes rows ranks =
    filled (said batching (batch_of loopbytes bytes (length rows) (length ranks)))
    (map (put_for of) (verdicts_in_turn loopbytes (records bytes) ranks)) rows

-- the rows of a batch afterwards
unfoldable pub rows_after : List ℕ → List ℕ → List (List ℕ) → List ℤ → List (List ℕ)
rows_after loopbytes bytes rows ranks =
    filled (said batching (batch_of loopbytes bytes (length rows) (length ranks)))
    (map verdict_row (verdicts_in_turn loopbytes (records bytes) ranks)) rows

-- What the parts of a check of kind 7 answer; the whole answers by `sound_short` of `record_short`.
use Rattle.std.specs.Prelude.{ℕ, ◌+◌, ◌*◌, Bool, cond, ◌&&◌, List, [], ◌∷◌, eqb}
use Rattle.refusal.specs.Places.{before_failing}
use Rattle.refusal.specs.Tests.{Told, ◌at◌unless◌, first}
use Rattle.record_fields.specs.Runs.{run_told}
use Rattle.record_short.specs.ShortRecords.{row_rises, has_weight, triples_fields}

-- where triple i stands, and whether it passes
abbrev pub triple_place : ℕ → ℕ
triple_place i = 8 + 6 * i

abbrev pub passes : ℕ → List ℕ → ℕ → Bool
passes m bytes i = row_rises m bytes i && has_weight bytes i

-- what is told of triple i
unfoldable pub triple_told : ℕ → List ℕ → ℕ → Told
triple_told m bytes = first ((15 at triple_place unless row_rises m bytes) ∷ (16 at triple_place unless has_weight bytes) ∷ [])

-- what is told of the values of the first `count` triples
unfoldable pub values_told : List ℕ → ℕ → Told
values_told bytes count = run_told (triples_fields count) bytes 8

-- what is told of the first `count` triples: of the first that fails, or else of their values
unfoldable pub triples_told : ℕ → List ℕ → ℕ → Told
triples_told m bytes count =
    let before = before_failing count (passes m bytes) in
    cond (eqb before count) (values_told bytes count) (triple_told m bytes before)

-- What the parts of the two calls answer and leave in a room; the calls themselves answer by `Conversions` of `record_short`.
use Rattle.std.specs.Prelude.{ℕ, zero, suc, ◌+◌, ◌*◌, ◌≤◌, ◌<◌, ◌≡◌, Bool, cond, not, ◌&&◌, List, [], ◌∷◌, ◌++◌, eqb, length, take, drop}
use Rattle.endian.specs.Numbers.{digits}
use Rattle.refusal.specs.Places.{Throughout}
use Rattle.record_short.specs.Conversions.{long_Y, long_Z, rows_with_weight, triples_bytes}
use Rattle.record_short.specs.ShortRecords.{triples_in, row_in, Y-in, Z-in}

-- ---- kind 7 to kind 2

-- a u16 put at a place
unfoldable pub put_at : ℕ → ℕ → List ℕ → List ℕ
put_at place x room = take place room ++ digits 2 x ++ drop (place + 2) room

-- triple k put into a kind 2 record of m rows, and the first `count` triples
unfoldable pub with_triple : ℕ → List ℕ → ℕ → List ℕ → List ℕ
with_triple m bytes k room = put_at (6 + 2 * row_in bytes k + 2 * m) (Z-in bytes k) (put_at (6 + 2 * row_in bytes k) (Y-in bytes k) room)

unfoldable pub with_triples : ℕ → List ℕ → ℕ → List ℕ → List ℕ
with_triples m bytes zero room = room
with_triples m bytes (suc count) room = with_triple m bytes count (with_triples m bytes count room)

-- what that needs of a record of kind 7
pub record Lengthens (m : ℕ) (bytes : List ℕ) : Type 0 where
  pub few_rows : m ≤ 64
  pub few : triples_in bytes ≤ 64
  pub long : length bytes ≡ 8 + 6 * triples_in bytes
  pub rows_below : Throughout (triples_in bytes) (λ k. row_in bytes k < m)

-- ---- kind 2 to kind 7

-- row i has weight
unfoldable pub row_weighs : ℕ → List ℕ → ℕ → Bool
row_weighs m bytes i = not (eqb (long_Y bytes i) 0 && eqb (long_Z m bytes i) 0)

-- row i, if it has weight
unfoldable pub listed : ℕ → List ℕ → ℕ → List ℕ
listed m bytes i = cond (eqb (long_Y bytes i) 0 && eqb (long_Z m bytes i) 0) [] (i ∷ [])

-- its triple put at a place, if it has weight
unfoldable pub with_row : ℕ → List ℕ → ℕ → ℕ → List ℕ → List ℕ
with_row m bytes i at room =
    take at room ++ triples_bytes m bytes (listed m bytes i) ++ drop (at + 6 * length (listed m bytes i)) room

-- the triples of the first `count` rows put from byte 8 on
unfoldable pub with_rows : ℕ → List ℕ → ℕ → List ℕ → List ℕ
with_rows m bytes count room =
    take 8 room ++ triples_bytes m bytes (rows_with_weight m bytes count) ++ drop (8 + 6 * length (rows_with_weight m bytes count)) room

-- what that needs of a record of kind 2
pub record Lists (m : ℕ) (bytes : List ℕ) : Type 0 where
  pub few_rows : m ≤ 64
  pub long : length bytes ≡ 6 + 4 * m

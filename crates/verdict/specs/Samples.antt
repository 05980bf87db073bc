-- 01, "Sample sheet": the records of S1 to S14, as bytes. Those of P, S1, S7 and S10 are written out by hand in crate `record`.
use Rattle.std.specs.Prelude.{ℕ, List, [], ◌∷◌, ℤ, pos, neg_ℤ, length}
use Rattle.record.specs.Contents.{rows_values, ranking_values, exclusion_values, LassoParts, lasso_values}
use Rattle.record.specs.Samples as Records
use Rattle.record.specs.Writers.{record_bytes, writer}
use Rattle.whole.specs.Rows.{Row}

-- -k
abbrev pub − : ℕ → ℤ
− k = neg_ℤ (pos k)

-- A·x + A'·x' <= b
abbrev pub row : List ℤ → List ℤ → ℤ → Row
row now next right = record { now = now; next = next; right = right }

-- the bytes of a loop over n variables, of a ranking, of an exclusion, and of a lasso
unfoldable pub loop_bytes : ℕ → List Row → List ℕ
loop_bytes n rows = record_bytes (writer 1 n (length rows) (rows_values rows) [])

unfoldable pub ranking_bytes : ℕ → List ℤ → List ℤ → List ℕ
ranking_bytes n Y Z = record_bytes (writer 2 n (length Y) (ranking_values Y Z) [])

unfoldable pub exclusion_bytes : ℕ → ℕ → List ℤ → List ℤ → List ℤ → List ℕ
exclusion_bytes m q U V' W = record_bytes (writer 3 (length U) m (exclusion_values (pos q) U V' W) [])

unfoldable pub lasso_bytes : ℕ → ℕ → LassoParts → List ℕ
lasso_bytes n m c = record_bytes (writer 4 n m (lasso_values c) [])

-- ---- loops

unfoldable pub P : List ℕ
P = (Records.P).bytes

-- S7 and S8: -x <= 0; 2x + x' <= 10; -2x - x' <= -10
unfoldable pub ends_without_rank : List ℕ
ends_without_rank =
    loop_bytes 1
    (row (− 1 ∷ []) (pos 0 ∷ []) (pos 0) ∷ row (pos 2 ∷ []) (pos 1 ∷ []) (pos 10) ∷ row (− 2 ∷ []) (− 1 ∷ []) (− 10) ∷ [])

-- S9: 2x <= 1; -2x <= -1; x' - x <= 0; x - x' <= 0
unfoldable pub halves : List ℕ
halves =
    loop_bytes 1
    (row (pos 2 ∷ []) (pos 0 ∷ []) (pos 1)
    ∷ row (− 2 ∷ []) (pos 0 ∷ []) (− 1)
    ∷ row (− 1 ∷ []) (pos 1 ∷ []) (pos 0)
    ∷ row (pos 1 ∷ []) (− 1 ∷ []) (pos 0)
    ∷ [])

-- S10 and S11, over (x, y): -x <= 0; -x + y + x' <= 0; y - y' <= 0
unfoldable pub with_stem : List ℕ
with_stem =
    loop_bytes 2
    (row (− 1 ∷ pos 0 ∷ []) (pos 0 ∷ pos 0 ∷ []) (pos 0)
    ∷ row (− 1 ∷ pos 1 ∷ []) (pos 1 ∷ pos 0 ∷ []) (pos 0)
    ∷ row (pos 0 ∷ pos 1 ∷ []) (pos 0 ∷ − 1 ∷ []) (pos 0)
    ∷ [])

-- S12: n 1, m 0
unfoldable pub no_rows : List ℕ
no_rows = loop_bytes 1 []

-- S13: n 1, the row 0 <= -1
unfoldable pub no_steps : List ℕ
no_steps = loop_bytes 1 (row (pos 0 ∷ []) (pos 0 ∷ []) (− 1) ∷ [])

-- S14: n 1, -x <= 0; x' - x <= -2
unfoldable pub by_two : List ℕ
by_two = loop_bytes 1 (row (− 1 ∷ []) (pos 0 ∷ []) (pos 0) ∷ row (− 1 ∷ []) (pos 1 ∷ []) (− 2) ∷ [])

-- ---- certificates

unfoldable pub S1 : List ℕ
S1 = (Records.S1).bytes

-- all doubled
unfoldable pub S2 : List ℕ
S2 = ranking_bytes 2 (pos 2 ∷ pos 0 ∷ pos 0 ∷ []) (pos 0 ∷ pos 2 ∷ pos 2 ∷ [])

-- all zero
unfoldable pub S3 : List ℕ
S3 = ranking_bytes 2 (pos 0 ∷ pos 0 ∷ pos 0 ∷ []) (pos 0 ∷ pos 0 ∷ pos 0 ∷ [])

unfoldable pub S7 : List ℕ
S7 = (Records.S7).bytes

unfoldable pub S8 : List ℕ
S8 = exclusion_bytes 3 2 (− 4 ∷ []) (pos 2 ∷ []) (pos 8 ∷ [])

unfoldable pub S9 : List ℕ
S9 = exclusion_bytes 4 2 (pos 0 ∷ []) (pos 0 ∷ []) (pos 1 ∷ [])

unfoldable pub S10 : List ℕ
S10 = (Records.S10).bytes

unfoldable pub S11 : List ℕ
S11 = exclusion_bytes 3 1 (pos 0 ∷ pos 0 ∷ []) (pos 0 ∷ pos 0 ∷ []) (pos 0 ∷ pos 0 ∷ [])

unfoldable pub S12-ranking : List ℕ
S12-ranking = ranking_bytes 1 [] []

unfoldable pub S12-exclusion : List ℕ
S12-exclusion = exclusion_bytes 0 1 (pos 0 ∷ []) (pos 0 ∷ []) (pos 0 ∷ [])

unfoldable pub S13 : List ℕ
S13 = ranking_bytes 1 (pos 0 ∷ []) (pos 1 ∷ [])

unfoldable pub S14 : List ℕ
S14 = ranking_bytes 1 (pos 1 ∷ pos 0 ∷ []) (pos 0 ∷ pos 1 ∷ [])

-- P's second certificate: Y (1,0,0), Z (0,1,0)
unfoldable pub second_of_P : List ℕ
second_of_P = ranking_bytes 2 (pos 1 ∷ pos 0 ∷ pos 0 ∷ []) (pos 0 ∷ pos 1 ∷ pos 0 ∷ [])

-- S10's parts with k, T, k2 and h0 of one's own; S10 itself has 1 in each
unfoldable pub S10-parts : ℤ → ℤ → ℤ → ℤ → LassoParts
S10-parts k T k2 h0 =
    record {
      stem = row (pos 0 ∷ pos 0 ∷ []) (pos 0 ∷ − 1 ∷ []) (− 1) ∷ [];
      s = pos 0 ∷ pos 1 ∷ [];
      s0 = − 1;
      k = k;
      T = T ∷ [];
      k2 = k2;
      H = pos 0 ∷ pos 0 ∷ pos 1 ∷ [];
      h0 = h0;
      Y = pos 1 ∷ pos 0 ∷ pos 0 ∷ pos 0 ∷ [];
      Z = pos 0 ∷ pos 1 ∷ pos 0 ∷ pos 1 ∷ [];
    }

-- S10 with k, T and k2
unfoldable pub S10-scaled : ℕ → ℕ → ℕ → List ℕ
S10-scaled k T k2 = lasso_bytes 2 3 (S10-parts (pos k) (pos T) (pos k2) (pos 1))

-- ---- records in which no two numbers of one form are alike; crate `record` has their bytes written out

unfoldable pub unlike_loop : List ℕ
unlike_loop = (Records.unlike_loop).bytes

unfoldable pub unlike_ranking : List ℕ
unlike_ranking = (Records.unlike_ranking).bytes

-- x' = 2x + y - 3 and y' = x - y - 5, each as two rows
unfoldable pub excluded_loop : List ℕ
excluded_loop =
    loop_bytes 2
    (row (− 2 ∷ − 1 ∷ []) (pos 1 ∷ pos 0 ∷ []) (− 3)
    ∷ row (pos 2 ∷ pos 1 ∷ []) (− 1 ∷ pos 0 ∷ []) (pos 3)
    ∷ row (− 1 ∷ pos 1 ∷ []) (pos 0 ∷ pos 1 ∷ []) (− 5)
    ∷ row (pos 1 ∷ − 1 ∷ []) (pos 0 ∷ − 1 ∷ []) (pos 5)
    ∷ [])

unfoldable pub unlike_exclusion : List ℕ
unlike_exclusion = (Records.unlike_exclusion).bytes

-- 18x + 2y + 6x' - 18y' <= -20; -13x + 4y + x' + 17y' <= 9; -10x - 14y - 16x' + 8y' <= 4
unfoldable pub lasso_loop : List ℕ
lasso_loop =
    loop_bytes 2
    (row (pos 18 ∷ pos 2 ∷ []) (pos 6 ∷ − 18 ∷ []) (− 20)
    ∷ row (− 13 ∷ pos 4 ∷ []) (pos 1 ∷ pos 17 ∷ []) (pos 9)
    ∷ row (− 10 ∷ − 14 ∷ []) (− 16 ∷ pos 8 ∷ []) (pos 4)
    ∷ [])

unfoldable pub unlike_lasso : List ℕ
unlike_lasso = (Records.unlike_lasso).bytes

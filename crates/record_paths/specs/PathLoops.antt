-- 02, Q-3: "A new loop kind 5 holds n, a count of 1 to 8 paths, the m of each, then their rows." So after the kind: n at byte 6, the count
-- of paths at 8, the m of path j at 10 + 2j, and the rows, path after path.
use Rattle.std.specs.Prelude.{ℕ, ◌+◌, ◌*◌, List, [], ◌∷◌, ◌++◌, replicate}
use Rattle.endian.specs.Numbers.{little_at}
use Rattle.refusal.specs.Tests.{Test}
use Rattle.record.specs.Layouts.{variable_count, row_count, rows_of}
use Rattle.record.specs.Readers.{Reader, framing}
use Rattle.record_paths.specs.PathFields.{path_count, sum_of, is_kind, holds_counts, is_long, fields_fit}

-- n, the count of paths, and m of path j
unfoldable pub variables_in : List ℕ → ℕ
variables_in bytes = little_at 2 bytes 6

unfoldable pub paths_in : List ℕ → ℕ
paths_in bytes = little_at 2 bytes 8

unfoldable pub rows_in : List ℕ → ℕ → ℕ
rows_in bytes j = little_at 2 bytes (10 + 2 * j)

-- the rows of the first j paths, and of all
unfoldable pub rows_before : List ℕ → ℕ → ℕ
rows_before bytes j = sum_of j (rows_in bytes)

unfoldable pub all_rows : List ℕ → ℕ
all_rows bytes = rows_before bytes (paths_in bytes)

-- where the first row of path j stands
unfoldable pub rows_place : List ℕ → ℕ → ℕ
rows_place bytes j = 10 + 2 * paths_in bytes + rows_before bytes j * (4 * variables_in bytes + 4)

-- L = 6 + 2p + (m_1 + .. + m_p)(4n + 4)
unfoldable pub paths_length : List ℕ → ℕ
paths_length bytes = 6 + 2 * paths_in bytes + all_rows bytes * (4 * variables_in bytes + 4)

-- "Order for a record", of kind 5
unfoldable pub sound_paths : List (Test Reader)
sound_paths =
    framing ++
    (is_kind 5
    ∷ holds_counts (λ r. 6)
    ∷ fields_fit 5 (λ r. 6) (λ r. variable_count ∷ path_count ∷ [])
    ∷ holds_counts (λ r. 6 + 2 * paths_in r.bytes)
    ∷ fields_fit 5 (λ r. 10) (λ r. replicate (paths_in r.bytes) row_count)
    ∷ is_long (λ r. paths_length r.bytes)
    ∷ fields_fit 6 (λ r. 10 + 2 * paths_in r.bytes) (λ r. rows_of (variables_in r.bytes) (all_rows r.bytes))
    ∷ [])

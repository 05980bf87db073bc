-- 01, "Records on file": "Kind is one of 1, 2, 3 or 4, each with its own body". The layouts of the four bodies as data, and 01's
-- formula for the length L of each. `kind_of` is the one decision on the kind number.
use Rattle.std.specs.Prelude.{ℕ, zero, suc, ◌+◌, ◌*◌, Bool, true, false, cond, List, [], ◌∷◌, ◌++◌, eqb, replicate}
use Rattle.record.specs.declared.Counts.{Counts}
use Rattle.record.specs.Fields.{u16, i16, i32, holds, Field}
use Rattle.record.specs.Ranges.{◌to◌, either_way, variables, rows, entries, right_sides, multipliers, scales, directions}

pub data Kind : Type 0 where
  loop : Kind
  ranking : Kind
  exclusion : Kind
  lasso : Kind
  other : Kind

unfoldable pub kind_of : ℕ → Kind
kind_of k = cond (eqb k 1) loop (cond (eqb k 2) ranking (cond (eqb k 3) exclusion (cond (eqb k 4) lasso other)))

unfoldable pub is_loop : Kind → Bool
is_loop loop = true
is_loop ranking = false
is_loop exclusion = false
is_loop lasso = false
is_loop other = false

unfoldable pub is_lasso : Kind → Bool
is_lasso loop = false
is_lasso ranking = false
is_lasso exclusion = false
is_lasso lasso = true
is_lasso other = false

-- "Kind is one of 1, 2, 3 or 4"
unfoldable pub is_known : Kind → Bool
is_known loop = true
is_known ranking = true
is_known exclusion = true
is_known lasso = true
is_known other = false

-- the kinds whose certificates show a rank
unfoldable pub has_rank : Kind → Bool
has_rank loop = false
has_rank ranking = true
has_rank exclusion = false
has_rank lasso = true
has_rank other = false

-- ---- the fields

-- n
unfoldable pub variable_count : Field
unfolding holds ◌to◌ variables
variable_count = record { form = u16; range = variables; least_held = tt; most_held = tt }

-- m, ms
unfoldable pub row_count : Field
unfolding holds ◌to◌ rows
row_count = record { form = u16; range = rows; least_held = tt; most_held = tt }

-- an entry of A, A', B, B' or s
unfoldable pub entry : Field
unfolding holds either_way entries
entry = record { form = i16; range = entries; least_held = tt; most_held = tt }

-- b, d, s0
unfoldable pub right_side : Field
unfolding holds either_way right_sides
right_side = record { form = i32; range = right_sides; least_held = tt; most_held = tt }

-- an entry of Y, Z, T, H; h0
unfoldable pub multiplier : Field
unfolding holds ◌to◌ multipliers
multiplier = record { form = u16; range = multipliers; least_held = tt; most_held = tt }

-- k, k2, q
unfoldable pub scale : Field
unfolding holds ◌to◌ scales
scale = record { form = u16; range = scales; least_held = tt; most_held = tt }

-- an entry of U, V, W
unfoldable pub direction : Field
unfolding holds either_way directions
direction = record { form = i32; range = directions; least_held = tt; most_held = tt }

-- ---- the bodies

-- a row: n entries of A, n of A' and b
unfoldable pub row : ℕ → List Field
row n = replicate n entry ++ (replicate n entry ++ (right_side ∷ []))

-- m rows
unfoldable pub rows_of : ℕ → ℕ → List Field
rows_of n zero = []
rows_of n (suc m) = row n ++ rows_of n m

-- the counts that stand first in a body
unfoldable pub counts : Kind → List Field
counts loop = variable_count ∷ row_count ∷ []
counts ranking = []
counts exclusion = []
counts lasso = row_count ∷ []
counts other = []

-- what follows the counts
unfoldable pub layout : Kind → Counts → List Field
layout loop c = rows_of c.n c.m
layout ranking c = replicate c.m multiplier ++ replicate c.m multiplier
layout exclusion c = scale ∷ replicate c.n direction ++ (replicate c.n direction ++ replicate c.n direction)
layout lasso c =
    rows_of c.n c.ms
    ++ (replicate c.n entry
    ++ (right_side ∷ scale ∷ replicate c.ms multiplier
    ++ (scale ∷ replicate c.m multiplier
    ++ (multiplier ∷ replicate (suc c.m) multiplier
    ++ replicate (suc c.m) multiplier))))
layout other c = []

-- 01's L, the bytes that follow the length
unfoldable pub length_of : Kind → Counts → ℕ
length_of loop c = 6 + c.m * (4 * c.n + 4)
length_of ranking c = 2 + 4 * c.m
length_of exclusion c = 4 + 12 * c.n
length_of lasso c = 18 + 2 * c.n + c.ms * (4 * c.n + 6) + 6 * c.m
length_of other c = 0

-- ---- the list of values: the body in layout order without the n and m of kind 1

-- the fields of the body that stand before the list
unfoldable pub ahead : Kind → List Field
ahead k = cond (is_loop k) (counts k) []

-- the fields of the list
unfoldable pub listed : Kind → Counts → List Field
listed k c = cond (is_loop k) (layout k c) (counts k ++ layout k c)

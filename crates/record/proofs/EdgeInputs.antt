-- What the tables of edges are made of: a line is a call and the number and place that it tells, and bytes are put together here by hand, and not by
-- the definitions.
use Prim.Native.Nat.{ℕ, ◌+◌, ◌/◌, ◌%◌}
use mathlib.Core.Bool.{true, false, ◌&&◌}
use mathlib.Core.List.{List, [], ◌∷◌, ◌++◌}
use lib.Dec.{eqb}
use lib.IntN.{ℤ, pos}
use lib.ListN.{replicate}
use Rattle.refusal.specs.Tests.{Told, number, place, first}
use Rattle.record.specs.Readers.{reading, loop_reader, certificate_reader}
use Rattle.record.specs.Writers.{writing, writer}

-- ---- the calls

pub data Call : Type 0 where
  -- bytes, places in the lent list
  read_loop : List ℕ → ℕ → Call
  -- bytes, n, m, places in the lent list
  read_certificate : List ℕ → ℕ → ℕ → ℕ → Call
  -- kind, n, m, values, bytes of room
  write : ℕ → ℕ → ℕ → List ℤ → ℕ → Call

unfoldable pub tells : Call → Told
tells (read_loop bytes places) = first reading (loop_reader bytes (replicate places (pos 0)))
tells (read_certificate bytes n m places) = first reading (certificate_reader bytes n m (replicate places (pos 0)))
tells (write kind n m values room) = first writing (writer kind n m values (replicate room 0))

infix 2 ◌gives◌at◌
pub data Edge : Type 0 where
  ◌gives◌at◌ : Call → ℕ → ℕ → Edge

-- the lines of a table that do not hold
unfoldable pub wrong : List Edge → List Edge
wrong [] = []
wrong ((call gives k at p) ∷ es) =
    elim (eqb (number (tells call)) k && eqb (place (tells call)) p) [ true ↦ wrong es | false ↦ (call gives k at p) ∷ wrong es ]

-- ---- inputs, by hand

unfoldable pub two : ℕ → List ℕ
two x = x % 256 ∷ x / 256 ∷ []

unfoldable pub four : ℕ → List ℕ
four x = x % 256 ∷ x / 256 % 256 ∷ x / 65536 % 256 ∷ x / 16777216 ∷ []

-- a record of length L and of a kind, with a body
unfoldable pub filed : ℕ → ℕ → List ℕ → List ℕ
filed L kind body = four L ++ (two kind ++ body)

-- a loop over one variable with one row, as it is stored
unfoldable pub one_row : ℕ → ℕ → ℕ → List ℕ
one_row a a' b = filed 14 1 (two 1 ++ (two 1 ++ (two a ++ (two a' ++ four b))))

-- a loop with counts n and m and nothing but zeros in its rows, which are z bytes
unfoldable pub zeros : ℕ → ℕ → ℕ → List ℕ
zeros n m z = filed (6 + z) 1 (two n ++ (two m ++ replicate z 0))

-- a ranking for one row
unfoldable pub weights : ℕ → ℕ → List ℕ
weights y z = filed 6 2 (two y ++ two z)

-- an exclusion over one variable
unfoldable pub excluding : ℕ → ℕ → ℕ → ℕ → List ℕ
excluding q u v w = filed 16 3 (two q ++ (four u ++ (four v ++ four w)))

-- a lasso over one variable for no rows, with one stem row: B, B', d; s, s0, k, T, k2; h0, Y and Z are 1
unfoldable pub caught : ℕ → ℕ → ℕ → ℕ → ℕ → ℕ → ℕ → ℕ → List ℕ
caught B B' d s s0 k T k2 =
    filed 30 4 (two 1 ++ (two B ++ (two B' ++ (four d ++ (two s ++ (four s0 ++ (two k ++ (two T ++ (two k2 ++ (two 1 ++ (two 1 ++ two 1)))))))))))

-- a lasso over one variable for one row, without a stem: H, h0, Y and Z
unfoldable pub keeping : ℕ → ℕ → ℕ → ℕ → ℕ → ℕ → List ℕ
keeping H h0 y y' z z' =
    filed 26 4 (two 0 ++ (two 0 ++ (four 0 ++ (two 1 ++ (two 1 ++ (two H ++ (two h0 ++ (two y ++ (two y' ++ (two z ++ two z'))))))))))

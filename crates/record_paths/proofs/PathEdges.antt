-- The edges of records of kinds 5 and 6, proved by computing them: each refusal number with its place, both ends of each range and one
-- past each end, lengths one short and one long of each room, and for neighbours in the order a record that has both faults.
use mathlib.Core.Path.{◌≡◌, refl}
use Prim.Native.Nat.{ℕ, ◌+◌, ◌*◌}
use mathlib.Core.Bool.{true, false, ◌&&◌}
use mathlib.Core.List.{List, [], ◌∷◌, ◌++◌}
use lib.Dec.{eqb}
use lib.ListN.{length, replicate, take}
use Rattle.refusal.specs.Tests.{Told, number, place, first}
use Rattle.record.proofs.EdgeInputs.{two, four, filed}
use Rattle.record_paths.specs.PathCertificates.{counted, sound_lexicographic}
use Rattle.record_paths.specs.PathComputing.{computing}
use Rattle.record_paths.specs.PathFields.{bytes_alone}
use Rattle.record_paths.specs.PathLoops.{sound_paths}
use Rattle.record_paths.proofs.PathSamples.{two_counters, two_counters_argument}

-- ---- lines: bytes of a loop, or of an argument for a loop, and the number and place that are told

pub data Given : Type 0 where
  loop : List ℕ → Given
  argument : List ℕ → List ℕ → Given

unfoldable pub tells : Given → Told
tells (loop bytes) = first sound_paths (bytes_alone bytes)
tells (argument loopbytes bytes) = first (sound_lexicographic (counted loopbytes)) (bytes_alone bytes)

infix 2 ◌gives◌at◌
pub data Edge : Type 0 where
  ◌gives◌at◌ : Given → ℕ → ℕ → Edge

-- the lines of a table that do not hold
unfoldable pub wrong : List Edge → List Edge
wrong [] = []
wrong ((given gives k at p) ∷ es) =
    elim (eqb (number (tells given)) k && eqb (place (tells given)) p) [ true ↦ wrong es | false ↦ (given gives k at p) ∷ wrong es ]

-- ---- bytes by hand, and not by the definitions; a number below 0 stands as it is stored

unfoldable pub twos : List ℕ → List ℕ
twos [] = []
twos (x ∷ xs) = two x ++ twos xs

-- n, the count of paths, m's and what follows them, in a record whose L is right for its bytes
unfoldable pub paths : ℕ → ℕ → List ℕ → List ℕ → List ℕ
paths n p ms body = filed (6 + 2 * length ms + length body) 5 (two n ++ (two p ++ (twos ms ++ body)))

unfoldable pub zeros : ℕ → List ℕ
zeros k = replicate k 0

-- a row over one variable
unfoldable pub row : ℕ → ℕ → ℕ → List ℕ
row a a' b = two a ++ (two a' ++ four b)

-- a count of components, component numbers and what follows them
unfoldable pub numbered : ℕ → List ℕ → List ℕ → List ℕ
numbered count numbers body = filed (4 + 2 * length numbers + length body) 6 (two count ++ (twos numbers ++ body))

-- a component over one variable
unfoldable pub component : ℕ → ℕ → ℕ → List ℕ
component r δ0 δ = four r ++ (four δ0 ++ four δ)

-- two paths over one variable, with one row and with two
unfoldable pub small : List ℕ
small = paths 1 2 (1 ∷ 2 ∷ []) (zeros 24)

-- an argument for it of one component, with its six multipliers
unfoldable pub one : List ℕ → List ℕ → List ℕ
one part multipliers = numbered 1 (0 ∷ 0 ∷ []) (part ++ twos multipliers)

-- ---- kind 5

unfoldable pub loops : List Edge
loops =
    (loop [] gives 1 at 0)
    ∷ (loop (2 ∷ 0 ∷ 0 ∷ []) gives 1 at 3)
    ∷ (loop (1 ∷ 0 ∷ 0 ∷ 0 ∷ []) gives 3 at 0)
    ∷ (loop (2 ∷ 0 ∷ 0 ∷ 0 ∷ 9 ∷ []) gives 1 at 5)
    ∷ (loop (take 97 two_counters) gives 1 at 97)
    ∷ (loop (two_counters ++ (0 ∷ [])) gives 2 at 98)
    ∷ (loop two_counters gives 0 at 0)
    -- the kind, behind L and before the counts
    ∷ (loop (filed 2 9 (0 ∷ [])) gives 2 at 6)
    ∷ (loop (filed 2 9 []) gives 4 at 4)
    ∷ (loop (filed 2 1 []) gives 4 at 4)
    ∷ (loop (filed 2 261 []) gives 4 at 4)
    ∷ (loop two_counters_argument gives 4 at 4)
    -- room for n and the count of paths
    ∷ (loop (filed 2 5 []) gives 3 at 0)
    ∷ (loop (filed 5 5 (17 ∷ 0 ∷ 9 ∷ [])) gives 3 at 0)
    ∷ (loop (filed 6 5 (two 17 ++ two 9)) gives 5 at 6)
    -- n
    ∷ (loop (paths 0 1 (0 ∷ []) []) gives 5 at 6)
    ∷ (loop (paths 1 1 (0 ∷ []) []) gives 0 at 0)
    ∷ (loop (paths 16 1 (0 ∷ []) []) gives 0 at 0)
    ∷ (loop (paths 16 1 (1 ∷ []) (zeros 68)) gives 0 at 0)
    ∷ (loop (paths 17 1 (0 ∷ []) []) gives 5 at 6)
    ∷ (loop (paths 257 1 (0 ∷ []) []) gives 5 at 6)
    -- the paths
    ∷ (loop (paths 1 0 [] []) gives 5 at 8)
    ∷ (loop (paths 1 8 (replicate 8 0) []) gives 0 at 0)
    ∷ (loop (paths 1 9 (replicate 9 0) []) gives 5 at 8)
    ∷ (loop (paths 1 9 [] []) gives 5 at 8)
    -- room for the m's
    ∷ (loop (paths 1 1 [] []) gives 3 at 0)
    ∷ (loop (paths 1 2 (65 ∷ []) (0 ∷ [])) gives 3 at 0)
    ∷ (loop (paths 1 2 (65 ∷ 0 ∷ []) []) gives 5 at 10)
    -- the m's
    ∷ (loop (paths 1 1 (64 ∷ []) (zeros 512)) gives 0 at 0)
    ∷ (loop (paths 1 1 (65 ∷ []) (zeros 520)) gives 5 at 10)
    ∷ (loop (paths 1 1 (256 ∷ []) []) gives 5 at 10)
    ∷ (loop (paths 1 2 (0 ∷ 65 ∷ []) []) gives 5 at 12)
    ∷ (loop (paths 1 2 (65 ∷ 65 ∷ []) []) gives 5 at 10)
    ∷ (loop (paths 1 8 (replicate 7 0 ++ (65 ∷ [])) []) gives 5 at 24)
    -- the formula
    ∷ (loop (paths 1 1 (1 ∷ []) (zeros 7)) gives 3 at 0)
    ∷ (loop (paths 1 1 (1 ∷ []) (zeros 8)) gives 0 at 0)
    ∷ (loop (paths 1 1 (1 ∷ []) (zeros 9)) gives 3 at 0)
    ∷ (loop (paths 1 2 (1 ∷ 2 ∷ []) (zeros 23)) gives 3 at 0)
    ∷ (loop small gives 0 at 0)
    ∷ (loop (paths 1 2 (1 ∷ 2 ∷ []) (zeros 25)) gives 3 at 0)
    ∷ (loop (paths 1 1 (1 ∷ []) (row 30001 0 0 ++ (0 ∷ []))) gives 3 at 0)
    -- the rows
    ∷ (loop (paths 1 1 (1 ∷ []) (row 30000 35536 2000000000)) gives 0 at 0)
    ∷ (loop (paths 1 1 (1 ∷ []) (row 35536 30000 2294967296)) gives 0 at 0)
    ∷ (loop (paths 1 1 (1 ∷ []) (row 30001 30001 0)) gives 6 at 12)
    ∷ (loop (paths 1 1 (1 ∷ []) (row 0 35535 2000000001)) gives 6 at 14)
    ∷ (loop (paths 1 1 (1 ∷ []) (row 0 0 2294967295)) gives 6 at 16)
    ∷ (loop (paths 1 2 (1 ∷ 1 ∷ []) (row 0 0 0 ++ row 30001 0 0)) gives 6 at 22)
    ∷ (loop (paths 1 2 (1 ∷ 1 ∷ []) (row 0 0 0 ++ row 0 0 2000000001)) gives 6 at 26)
    ∷ []

-- ---- kind 6

unfoldable pub arguments : List Edge
arguments =
    (argument two_counters [] gives 1 at 0)
    ∷ (argument two_counters (1 ∷ 0 ∷ 0 ∷ 0 ∷ []) gives 3 at 0)
    ∷ (argument two_counters (take 79 two_counters_argument) gives 1 at 79)
    ∷ (argument two_counters (two_counters_argument ++ (0 ∷ [])) gives 2 at 80)
    ∷ (argument two_counters two_counters_argument gives 0 at 0)
    -- the kind, behind L and before the count of components
    ∷ (argument small (filed 2 9 (0 ∷ [])) gives 2 at 6)
    ∷ (argument small (filed 2 2 []) gives 4 at 4)
    ∷ (argument small (filed 2 262 []) gives 4 at 4)
    ∷ (argument two_counters two_counters gives 4 at 4)
    -- the count of components
    ∷ (argument small (filed 2 6 []) gives 3 at 0)
    ∷ (argument small (filed 3 6 (9 ∷ [])) gives 3 at 0)
    ∷ (argument small (numbered 0 [] []) gives 5 at 6)
    ∷ (argument small (numbered 9 [] []) gives 5 at 6)
    ∷ (argument small (numbered 9 (0 ∷ 0 ∷ []) (zeros 120)) gives 5 at 6)
    ∷ (argument (paths 1 1 (0 ∷ []) []) (numbered 1 (0 ∷ []) (component 0 0 1)) gives 0 at 0)
    ∷ (argument (paths 1 1 (0 ∷ []) [])
    (numbered 8 (7 ∷ []) (component 0 0 1 ++ (component 0 0 1 ++ (component 0 0 1 ++ (component 0 0 1
    ++ (component 0 0 1 ++ (component 0 0 1 ++ (component 0 0 1 ++ component 0 0 1)))))))) gives 0 at 0)
    -- room for a component number for each path
    ∷ (argument small (numbered 1 [] []) gives 3 at 0)
    ∷ (argument small (numbered 1 (1 ∷ []) (0 ∷ [])) gives 3 at 0)
    ∷ (argument small (numbered 1 (0 ∷ 0 ∷ []) []) gives 3 at 0)
    -- component numbers, before the formula
    ∷ (argument small (numbered 1 (1 ∷ 0 ∷ []) []) gives 14 at 8)
    ∷ (argument small (numbered 1 (0 ∷ 1 ∷ []) []) gives 14 at 10)
    ∷ (argument small (numbered 1 (1 ∷ 1 ∷ []) []) gives 14 at 8)
    ∷ (argument small (numbered 8 (7 ∷ 8 ∷ []) []) gives 14 at 10)
    ∷ (argument small (numbered 1 (256 ∷ 0 ∷ []) (component 0 0 1 ++ zeros 12)) gives 14 at 8)
    -- the formula: six multipliers with one component, two more for a path of two rows that lowers the second of two
    ∷ (argument small (numbered 1 (0 ∷ 0 ∷ []) (component 0 0 1 ++ zeros 11)) gives 3 at 0)
    ∷ (argument small (numbered 1 (0 ∷ 0 ∷ []) (component 0 0 1 ++ zeros 12)) gives 0 at 0)
    ∷ (argument small (numbered 1 (0 ∷ 0 ∷ []) (component 0 0 1 ++ zeros 13)) gives 3 at 0)
    ∷ (argument small (numbered 2 (0 ∷ 1 ∷ []) (component 0 0 1 ++ (component 0 0 1 ++ zeros 12))) gives 3 at 0)
    ∷ (argument small (numbered 2 (0 ∷ 1 ∷ []) (component 0 0 1 ++ (component 0 0 1 ++ zeros 16))) gives 0 at 0)
    ∷ (argument small (numbered 1 (0 ∷ 0 ∷ []) (component 0 0 0 ++ zeros 13)) gives 3 at 0)
    -- r, δ0 and δ
    ∷ (argument small (one (component 60000 2000000000 1000000) (replicate 6 0)) gives 0 at 0)
    ∷ (argument small (one (component 4294907296 2294967296 1) (replicate 6 0)) gives 0 at 0)
    ∷ (argument small (one (component 60001 2000000001 1) (replicate 6 0)) gives 6 at 12)
    ∷ (argument small (one (component 4294907295 0 1) (replicate 6 0)) gives 6 at 12)
    ∷ (argument small (one (component 0 2000000001 0) (replicate 6 0)) gives 6 at 16)
    ∷ (argument small (one (component 0 2294967295 1) (replicate 6 0)) gives 6 at 16)
    ∷ (argument small (one (component 0 0 0) (replicate 6 60001)) gives 6 at 20)
    ∷ (argument small (one (component 0 0 1000001) (replicate 6 0)) gives 6 at 20)
    ∷ (argument small (one (component 0 0 4294967295) (replicate 6 0)) gives 6 at 20)
    ∷ (argument small (numbered 2 (0 ∷ 1 ∷ []) (component 0 0 1 ++ (component 0 0 0 ++ zeros 16))) gives 6 at 32)
    -- multipliers
    ∷ (argument small (one (component 0 0 1) (replicate 6 60000)) gives 0 at 0)
    ∷ (argument small (one (component 0 0 1) (replicate 6 60001)) gives 6 at 24)
    ∷ (argument small (one (component 0 0 1) (0 ∷ 0 ∷ 0 ∷ 0 ∷ 0 ∷ 60001 ∷ [])) gives 6 at 34)
    ∷ []

-- no line of the tables is wrong
pub every_edge : wrong (loops ++ arguments) ≡ []
unfolding
    computing number place tells wrong two four filed twos paths zeros row numbered component small one loops arguments two_counters
    two_counters_argument
every_edge = refl

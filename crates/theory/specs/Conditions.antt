-- The conditions of each kind as tests that compute, in 01's order, with the numbers and places of 02, Q-1: the first that fails is
-- told, with its column or its row, from 0, and 0 for a right side.
use Rattle.std.specs.Prelude.{ℕ, Bool, List, [], ◌∷◌, ◌++◌, ℤ, pos, ◌+ℤ◌, ◌*ℤ◌, length, get_or}
use Rattle.std.specs.Int.Signed.{le_z, lt_z}
use Rattle.refusal.specs.Tests.{Told, Test, ◌at◌unless◌, first}
use Rattle.whole.specs.Same.{same_z}
use Rattle.whole.specs.Sums.{dot, sum, tabulate, less}
use Rattle.theory.specs.Loops.{Row, A, A', b, Loop}
use Rattle.theory.specs.Rankings.{Ranking}
use Rattle.theory.specs.Exclusions.{Exclusion}
use Rattle.theory.specs.Lassos.{Lasso, longer, starting, keeping}
use Rattle.theory.specs.WeightedRows.{Weighted, sum_of, times_v}

-- what is judged: a loop, and the values of a certificate for it
pub record Proposal (C : Type 0) : Type 0 where
  pub loop : Loop
  pub values : C

-- one test for each place below a count, a column or a row, the first first: "number at each of n places unless what holds there"
infix 3 ◌at_each◌unless◌
unfoldable pub ◌at_each◌unless◌ : {I : Type 0} → ℕ → ℕ → (ℕ → I → Bool) → List (Test I)
number at_each n unless holds = tabulate n (λ j. number at (λ i. j) unless holds j)

-- ---- ranking: YA' = 0; (Y - Z)A = 0; Z(A + A') = 0; Zb < 0

-- the weighted sums over the rows
abbrev pub Y-sum : Proposal Ranking → (Row → ℤ) → ℤ
Y-sum p f = sum p.values.Y f p.loop.rows

abbrev pub Z-sum : Proposal Ranking → (Row → ℤ) → ℤ
Z-sum p f = sum p.values.Z f p.loop.rows

-- for n variables
unfoldable pub ranking_tests : ℕ → List (Test (Proposal Ranking))
ranking_tests n =
    (21 at_each n unless λ j p. same_z (Y-sum p (A' j)) (pos 0)) ++
    ((22 at_each n unless λ j p. same_z (Y-sum p (A j)) (Z-sum p (A j))) ++
    ((23 at_each n unless λ j p. same_z (Z-sum p (A j) +ℤ Z-sum p (A' j)) (pos 0)) ++
    ((24 at (λ p. 0) unless λ p. lt_z (Z-sum p b) (pos 0)) ∷ [])))

-- ---- exclusion: for every row, A·V + A'·U <= 0; then for every row, A·(W - V) + A'·W <= q·b

-- row i of the loop
abbrev pub row_at : ℕ → Proposal Exclusion → Row
row_at i p = get_or p.loop.rows i (record { now = []; next = []; right = pos 0 })

-- for m rows
unfoldable pub exclusion_tests : ℕ → List (Test (Proposal Exclusion))
exclusion_tests m =
    (31 at_each m unless λ i p. le_z (dot (row_at i p).now p.values.«V» +ℤ dot (row_at i p).next p.values.U) (pos 0)) ++
    (32 at_each m unless λ i p.
    le_z
    (dot (row_at i p).now (less p.values.W p.values.«V») +ℤ dot (row_at i p).next p.values.W)
    (pos p.values.q *ℤ (row_at i p).right))

-- ---- weighted rows: over A, over A', over the right sides, each with the number of its use; for n variables

unfoldable pub weighed_tests : ℕ → ℕ → ℕ → ℕ → List (Test Weighted)
weighed_tests over_A over_A' over_b n =
    (over_A at_each n unless λ j w. same_z (sum_of w (A j)) (times_v w w.now j)) ++
    ((over_A' at_each n unless λ j w. same_z (sum_of w (A' j)) (times_v w w.next j)) ++
    ((over_b at (λ w. 0) unless λ w. le_z (sum_of w b) w.limit) ∷ []))

-- ---- lasso: TB = 0; TB' = -k s; Td <= k s0; HA = h0 s; HA' = -k2 s; Hb <= (k2 - h0) s0; then the ranking over the longer loop

-- start and kept
abbrev pub started : Proposal Lasso → Weighted
started p = starting p.values

abbrev pub kept : Proposal Lasso → Weighted
kept p = keeping p.loop p.values

-- the ranking within a lasso
abbrev pub ranked : Proposal Lasso → Proposal Ranking
ranked p = record { loop = longer p.loop p.values; values = p.values.ranking }

-- tests of what f makes of the input
unfoldable pub of : {I J : Type 0} → (I → J) → List (Test J) → List (Test I)
of f [] = []
of f ((number at place unless holds) ∷ tests) = (number at (λ i. place (f i)) unless λ i. holds (f i)) ∷ of f tests

-- for n variables
unfoldable pub lasso_tests : ℕ → List (Test (Proposal Lasso))
lasso_tests n = of started (weighed_tests 41 42 43 n) ++ (of kept (weighed_tests 44 45 46 n) ++ of ranked (ranking_tests n))

-- ---- what the tests tell of a loop and a certificate's values

unfoldable pub ranking_told : Loop → Ranking → Told
ranking_told loop c = first (ranking_tests loop.variables) (record { loop = loop; values = c })

unfoldable pub weighed_told : ℕ → ℕ → ℕ → ℕ → Weighted → Told
weighed_told over_A over_A' over_b n w = first (weighed_tests over_A over_A' over_b n) w

unfoldable pub exclusion_told : Loop → Exclusion → Told
exclusion_told loop c = first (exclusion_tests (length loop.rows)) (record { loop = loop; values = c })

unfoldable pub lasso_told : Loop → Lasso → Told
lasso_told loop c = first (lasso_tests loop.variables) (record { loop = loop; values = c })

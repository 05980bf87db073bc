-- What the tests of each kind tell, condition after condition: the shape in which code asks them. And none of them tells 0.
use Prim.Native.Nat.{ℕ}
use mathlib.Core.Path.{◌≡◌}
use native.Mathlib.Omega.{arith}
use lib.IntN.{pos, ◌+ℤ◌, ◌*ℤ◌}
use lib.ListN.{length}
use lib.Signed.{le_z, lt_z}
use Rattle.refusal.specs.Tests.{◌then◌}
use Rattle.refusal.specs.Places.{told_each, told_once}
use Rattle.refusal.proofs.PlaceLaws.{first_append, first_once}
use Rattle.refusal.proofs.FaultLaws.{Named, named_then, named_each, named_once}
use Rattle.whole.specs.Same.{same_z}
use Rattle.whole.specs.Sums.{dot, sum, less}
use Rattle.theory.specs.Loops.{A, A', b, Loop}
use Rattle.theory.specs.Rankings.{Ranking}
use Rattle.theory.specs.Exclusions.{Exclusion}
use Rattle.theory.specs.Lassos.{Lasso, longer, starting, keeping}
use Rattle.theory.specs.WeightedRows.{Weighted, sum_of, times_v}
use Rattle.theory.specs.Conditions.{Proposal, ranking_tests, exclusion_tests, weighed_tests, lasso_tests, row_at, ranking_told, exclusion_told, weighed_told, lasso_told}
use Rattle.theory.proofs.Orders.{first_each, first_of}

pub ranking_in_order : (loop : Loop) (c : Ranking)
    → ranking_told loop c
    ≡ (told_each 21 loop.variables (λ j. same_z (sum c.Y (A' j) loop.rows) (pos 0))
    then told_each 22 loop.variables (λ j. same_z (sum c.Y (A j) loop.rows) (sum c.Z (A j) loop.rows))
    then told_each 23 loop.variables (λ j. same_z (sum c.Z (A j) loop.rows +ℤ sum c.Z (A' j) loop.rows) (pos 0))
    then told_once 24 (lt_z (sum c.Z b loop.rows) (pos 0)))
unfolding ranking_told ranking_tests
ranking_in_order loop c = simp (first_append, first_each, first_once)

pub ranking_named : (loop : Loop) (c : Ranking) → Named (ranking_told loop c)
ranking_named loop c =
    rw (ranking_in_order loop c)
    (named_then _ _ (named_each 21 _ _ (λ e. omega arith))
    (named_then _ _ (named_each 22 _ _ (λ e. omega arith))
    (named_then _ _ (named_each 23 _ _ (λ e. omega arith)) (named_once 24 _ (λ e. omega arith)))))

pub exclusion_in_order : (loop : Loop) (c : Exclusion)
    → let p : Proposal Exclusion = record { loop = loop; values = c } in
    exclusion_told loop c
    ≡ (told_each 31 (length loop.rows) (λ i. le_z (dot (row_at i p).now c.«V» +ℤ dot (row_at i p).next c.U) (pos 0))
    then told_each 32 (length loop.rows)
    (λ i. le_z (dot (row_at i p).now (less c.W c.«V») +ℤ dot (row_at i p).next c.W) (pos c.q *ℤ (row_at i p).right)))
unfolding exclusion_told exclusion_tests
exclusion_in_order loop c = simp (first_append, first_each)

pub weighed_in_order : (over_A over_A' over_b n : ℕ) (w : Weighted)
    → weighed_told over_A over_A' over_b n w
    ≡ (told_each over_A n (λ j. same_z (sum_of w (A j)) (times_v w w.now j))
    then told_each over_A' n (λ j. same_z (sum_of w (A' j)) (times_v w w.next j))
    then told_once over_b (le_z (sum_of w b) w.limit))
unfolding weighed_told weighed_tests
weighed_in_order over_A over_A' over_b n w = simp (first_append, first_each, first_once)

pub weighed_named : (over_A over_A' over_b n : ℕ) (w : Weighted) → (over_A ≡ 0 → ⊥) → (over_A' ≡ 0 → ⊥) → (over_b ≡ 0 → ⊥) → Named (weighed_told over_A over_A' over_b n w)
weighed_named over_A over_A' over_b n w now-some next-some right-some =
    rw (weighed_in_order over_A over_A' over_b n w)
    (named_then _ _ (named_each over_A n _ now-some) (named_then _ _ (named_each over_A' n _ next-some) (named_once over_b _ right-some)))

pub lasso_in_order : (loop : Loop) (c : Lasso)
    → lasso_told loop c
    ≡ (weighed_told 41 42 43 loop.variables (starting c)
    then weighed_told 44 45 46 loop.variables (keeping loop c)
    then ranking_told (longer loop c) c.ranking)
unfolding lasso_told lasso_tests weighed_told ranking_told
lasso_in_order loop c = simp (first_append, first_of)

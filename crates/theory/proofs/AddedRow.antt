-- A loop with a row added at its end, where what every step keeps gives that row: from states where it holds, the runs of the loop are
-- runs of the longer loop, so a ranking of the longer loop bounds them. A lasso's invariant and a settling's threshold are two uses.
use Prim.Native.Nat.{ℕ}
use mathlib.Core.List.{List, [], ◌∷◌}
use native.Mathlib.Omega.{arith}
use lib.IntN.{ℤ, pos, negsuc, ◌+ℤ◌, ◌*ℤ◌}
use lib.ListN.{replicate}
use lib.Signed.{◌≤ℤ◌}
use Rattle.whole.specs.Sums.{dot, scale, Each}
use Rattle.whole.proofs.Solve.{v, ◌⊕◌, ◌⊗◌, solve_le, le_fact}
use Rattle.whole.proofs.EachLaws.{each_append}
use Rattle.whole.proofs.SumLaws.{dot_scale, dot_zeros}
use Rattle.theory.specs.Loops.{Row, Loop, with_row, Meets, Step, Run}
use Rattle.theory.specs.Rankings.{Ranking, NonNegative, RankingHolds, rank, start, fall, Bounds}
use Rattle.theory.proofs.RankingTheorems.{no_endless, ranking_bounds_runs}

-- the row -s·x <= s0, over n variables, is met where s·x + s0 >= 0
pub meets_added : (n : ℕ) (s : List ℤ) (s0 : ℤ) (x x' : List ℤ) → pos 0 ≤ℤ (dot s x +ℤ s0)
    → Meets 1 x x' (record { now = scale (negsuc 0) s; next = replicate n (pos 0); right = s0 })
meets_added n s s0 x x' h = rw (dot_scale (negsuc 0) s x, dot_zeros n x') (plain (dot s x) h)
  where
    plain : (s·x : ℤ) → pos 0 ≤ℤ (s·x +ℤ s0) → (negsuc 0 *ℤ s·x +ℤ pos 0) ≤ℤ (pos 1 *ℤ s0)
    plain s·x h = solve_le (v (negsuc 0) ⊗ v s·x ⊕ v (pos 0)) (v (pos 1) ⊗ v s0) (omega (arith, le_fact (v (pos 0)) (v s·x ⊕ v s0) h))

module _ (loop : Loop) (P : List ℤ → Type 0) (keeps : (x x' : List ℤ) → P x → Step loop 1 x x' → P x') where
  -- what every step keeps, a run keeps
  pub keeps_all : (x : List ℤ) (ys : List (List ℤ)) → P x → Run loop x ys → Each P ys
  unfolding Run Each
  keeps_all x [] i t = tt
  keeps_all x (y ∷ ys) i t = let j = keeps x y i t.0 in (j, keeps_all y ys j t.1)

  module _ (row : Row) (meets : (x x' : List ℤ) → P x → Meets 1 x x' row) where
    longer_step : (x x' : List ℤ) → P x → Step loop 1 x x' → Step (with_row loop row) 1 x x'
    unfolding Each
    longer_step x x' i t =
        record {
          before = t.before;
          after = t.after;
          meets = each_append (Meets 1 x x') loop.rows (row ∷ []) t.meets (meets x x' i, tt);
        }

    longer_run : (x : List ℤ) (ys : List (List ℤ)) → P x → Run loop x ys → Run (with_row loop row) x ys
    unfolding Run
    longer_run x [] i t = t
    longer_run x (y ∷ ys) i t = (longer_step x y i t.0, longer_run y ys (keeps x y i t.0) t.1)

    pub kept_bounds_runs : (c : Ranking) → NonNegative c → RankingHolds (with_row loop row) c
        → Bounds loop P (rank (with_row loop row) c) (start (with_row loop row) c) (fall (with_row loop row) c)
    kept_bounds_runs c nonneg holds =
        let longer = ranking_bounds_runs (with_row loop row) c nonneg holds in
        record {
          steps = λ x ys i t. longer.steps x ys tt (longer_run x ys i t);
          ends = λ state i e. no_endless loop state _ (λ ys t. longer.steps (state 0) ys tt (longer_run (state 0) ys i t)) e;
        }

-- A ranking's multipliers give a linear ranking function (000, Theorem 1), and a linear ranking function bounds the runs.
-- `ranking_is_linear_ranking` and `ranking_bounds_runs` are the theorems; `rank_bounds_runs` is the argument that the lasso shares.
use Prim.Native.Nat.{ℕ, zero, suc, ◌*◌, ◌≤◌, ◌<◌, zero-le}
use mathlib.Core.Path.{◌≡◌, sym, ◌∙◌}
use mathlib.Core.List.{List, [], ◌∷◌}
use native.Mathlib.Nat.{le-div_iff_mul-le}
use native.Mathlib.Omega.{arith}
use lib.IntN.{ℤ, pos, negsuc, nat_abs, neg_ℤ, ◌+ℤ◌, ◌-ℤ◌, ◌*ℤ◌, zero-*ℤ}
use lib.ListN.{length, get_or}
use lib.Signed.{◌≤ℤ◌, ◌<ℤ◌}
use Rattle.whole.specs.Sums.{dot, sum, tabulate}
use Rattle.whole.proofs.Solve.{v, ◌⊕◌, ◌⊝◌, ◌⊗◌, neg, solve, solve_le, eq_fact, le_fact, lt_fact, abs_fact}
use Rattle.whole.proofs.Compare.{le_false}
use Rattle.whole.proofs.SumLaws.{sum_add, sum_less_weights}
use Rattle.whole.proofs.Tables.{length_tabulate, tabulate_at}
use Rattle.theory.specs.Loops.{A, A', b, Loop, Step, Run, Endless}
use Rattle.theory.specs.Rankings.{Ranking, NonNegative, RankingHolds, rank, start, fall, bound, Ranks, RanksFractions, Bounds}
use Rattle.theory.proofs.Steps.{weighted, columns_are}

-- ---- 000, Theorem 1

opposite : (x y : ℤ) → x +ℤ y ≡ pos 0 → x ≡ negsuc 0 *ℤ y
opposite x y h = solve (v x) (v (negsuc 0) ⊗ v y) (omega (arith, eq_fact (v x ⊕ v y) (v (pos 0)) h))

pub no_difference : (x y : ℤ) → x -ℤ y ≡ pos 0 → x ≡ y
no_difference x y h = solve (v x) (v y) (omega (arith, eq_fact (v x ⊝ v y) (v (pos 0)) h))

pub rank_at : (loop : Loop) (c : Ranking) (j : ℕ) → j < loop.variables → get_or (rank loop c) j (pos 0) ≡ sum c.Z (A' j) loop.rows
unfolding rank
rank_at loop c j h = tabulate_at loop.variables (λ i. sum c.Z (A' i) loop.rows) j (pos 0) h

-- ZA = -r, YA = -r and YA' = 0
module _ (loop : Loop) (c : Ranking) (holds : RankingHolds loop c) where
  pub ZA-column : (j : ℕ) → j < loop.variables → sum c.Z (A j) loop.rows ≡ negsuc 0 *ℤ get_or (rank loop c) j (pos 0)
  ZA-column j h = rw (rank_at loop c j h) (opposite _ _ (sym (sum_add c.Z (A j) (A' j) loop.rows) ∙ holds.third j h))

  pub YA-column : (j : ℕ) → j < loop.variables → sum c.Y (A j) loop.rows ≡ negsuc 0 *ℤ get_or (rank loop c) j (pos 0)
  YA-column j h = no_difference _ _ (sym (sum_less_weights c.Y c.Z (A j) loop.rows) ∙ holds.second j h) ∙ ZA-column j h

  pub YA'-column : (j : ℕ) → j < loop.variables → sum c.Y (A' j) loop.rows ≡ pos 0 *ℤ get_or (rank loop c) j (pos 0)
  YA'-column j h = holds.first j h ∙ sym (zero-*ℤ (get_or (rank loop c) j (pos 0)))

module _ (loop : Loop) (c : Ranking) (nonneg : NonNegative c) (holds : RankingHolds loop c) where
  module _ (p : ℕ) (X X' : List ℤ) (t : Step loop p X X') where
    is_bounded : (pos p *ℤ start loop c) ≤ℤ dot (rank loop c) X
    unfolding start
    is_bounded =
        above (pos p) (sum c.Y b loop.rows) _ _ _ (dot (rank loop c) X')
        (weighted loop c.Y p X X' nonneg.0 t)
        (columns_are loop c.Y A (negsuc 0) (rank loop c) X t.before (YA-column loop c holds))
        (columns_are loop c.Y A' (pos 0) (rank loop c) X' t.after (YA'-column loop c holds))
      where
        above : (p Yb YA-X YA'·X' r_X r_X' : ℤ) → (YA-X +ℤ YA'·X') ≤ℤ (p *ℤ Yb) → YA-X ≡ negsuc 0 *ℤ r_X → YA'·X' ≡ pos 0 *ℤ r_X' → (p *ℤ neg_ℤ Yb) ≤ℤ r_X
        above p Yb YA-X YA'·X' r_X r_X' h e f =
            solve_le (v p ⊗ neg (v Yb)) (v r_X)
            (omega (
              arith,
              le_fact (v YA-X ⊕ v YA'·X') (v p ⊗ v Yb) h,
              eq_fact (v YA-X) (v (negsuc 0) ⊗ v r_X) e,
              eq_fact (v YA'·X') (v (pos 0) ⊗ v r_X') f,
            ))

    does_fall : (pos p *ℤ fall loop c) ≤ℤ (dot (rank loop c) X -ℤ dot (rank loop c) X')
    unfolding fall rank
    does_fall =
        below (pos p) (sum c.Z b loop.rows) _ (dot (rank loop c) X) (dot (rank loop c) X')
        (weighted loop c.Z p X X' nonneg.1 t)
        (columns_are loop c.Z A (negsuc 0) (rank loop c) X t.before (ZA-column loop c holds))
      where
        below : (p Zb ZA-X r_X r_X' : ℤ) → (ZA-X +ℤ r_X') ≤ℤ (p *ℤ Zb) → ZA-X ≡ negsuc 0 *ℤ r_X → (p *ℤ neg_ℤ Zb) ≤ℤ (r_X -ℤ r_X')
        below p Zb ZA-X r_X r_X' h e =
            solve_le (v p ⊗ neg (v Zb)) (v r_X ⊝ v r_X')
            (omega (arith, le_fact (v ZA-X ⊕ v r_X') (v p ⊗ v Zb) h, eq_fact (v ZA-X) (v (negsuc 0) ⊗ v r_X) e))

  -- non-negative Y, Z that meet the four conditions make r, δ0, δ a linear ranking function over fractions
  pub ranking_is_linear_ranking : RanksFractions loop (rank loop c) (start loop c) (fall loop c)
  unfolding rank fall
  ranking_is_linear_ranking p h =
      record {
        entries = length_tabulate loop.variables (λ j. sum c.Z (A' j) loop.rows);
        positive = at_least_one (sum c.Z b loop.rows) holds.fourth;
        bounded = is_bounded p;
        falls = does_fall p;
      }
    where
      at_least_one : (Zb : ℤ) → Zb <ℤ pos 0 → pos 1 ≤ℤ neg_ℤ Zb
      at_least_one Zb h = solve_le (v (pos 1)) (neg (v Zb)) (omega (arith, lt_fact (v Zb) (v (pos 0)) h))

-- ---- runs

-- k falls above the start leave room for k + 1 steps
within_bound : (r x : List ℤ) (δ0 δ : ℤ) (k : ℕ) → pos 1 ≤ℤ δ → (δ0 +ℤ pos k *ℤ δ) ≤ℤ dot r x → suc k ≤ bound r δ0 δ x
unfolding bound
within_bound r x δ0 (pos zero) k p h = absurd p.le
within_bound r x δ0 (negsuc d) k p h = absurd p.le
within_bound r x δ0 (pos (suc d)) k p h = rw (le_false from_start) (omega (arith, (le-div_iff_mul-le {k = suc d} (omega arith)).1 falls))
  where
    from_start : δ0 ≤ℤ dot r x
    from_start = solve_le (v δ0) (v (dot r x)) (omega (arith, le_fact (v δ0 ⊕ v (pos k) ⊗ v (pos (suc d))) (v (dot r x)) h))

    falls : k * suc d ≤ nat_abs (dot r x -ℤ δ0)
    falls = omega (arith, le_fact (v δ0 ⊕ v (pos k) ⊗ v (pos (suc d))) (v (dot r x)) h, abs_fact (v (dot r x) ⊝ v δ0))

-- the first k steps of an endless run
first_steps : (loop : Loop) (k : ℕ) (state : ℕ → List ℤ) → Endless loop state → Run loop (state 0) (tabulate k (λ i. state (suc i)))
unfolding Run tabulate
first_steps loop zero state e = (e 0).before
first_steps loop (suc k) state e = (e 0, first_steps loop k (λ i. state (suc i)) (λ i. e (suc i)))

-- if the runs from a state have at most k steps, it has no endless run
pub no_endless : (loop : Loop) (state : ℕ → List ℤ) (k : ℕ) → ((ys : List (List ℤ)) → Run loop (state 0) ys → length ys ≤ k) → Endless loop state → ⊥
no_endless loop state k h e =
    omega (arith, h (tabulate (suc k) (λ i. state (suc i))) (first_steps loop (suc k) state e), length_tabulate (suc k) (λ i. state (suc i)))

module _ (loop : Loop) (r : List ℤ) (δ0 δ : ℤ) (ranks : Ranks loop 1 r δ0 δ) where
  last : (a : ℤ) → (pos 1 *ℤ δ0) ≤ℤ a → (δ0 +ℤ pos 0 *ℤ δ) ≤ℤ a
  last a h = solve_le (v δ0 ⊕ v (pos 0) ⊗ v δ) (v a) (omega (arith, le_fact (v (pos 1) ⊗ v δ0) (v a) h))

  more : (a c : ℤ) (k : ℕ) → (δ0 +ℤ pos k *ℤ δ) ≤ℤ c → (pos 1 *ℤ δ) ≤ℤ (a -ℤ c) → (δ0 +ℤ pos (suc k) *ℤ δ) ≤ℤ a
  more a c k h l =
      solve_le (v δ0 ⊕ v (pos (suc k)) ⊗ v δ) (v a)
      (omega (arith, le_fact (v δ0 ⊕ v (pos k) ⊗ v δ) (v c) h, le_fact (v (pos 1) ⊗ v δ) (v a ⊝ v c) l))

  -- before the last step r·x is at least δ0, and each step before that takes δ at least
  descent : (x y : List ℤ) (ys : List (List ℤ)) → Run loop x (y ∷ ys) → (δ0 +ℤ pos (length ys) *ℤ δ) ≤ℤ dot r x
  unfolding Run
  descent x y [] t = last (dot r x) (ranks.bounded x y t.0)
  descent x y (z ∷ zs) t = more (dot r x) (dot r y) (length zs) (descent y z zs t.1) (ranks.falls x y t.0)

  steps_within : (x : List ℤ) (ys : List (List ℤ)) → Run loop x ys → length ys ≤ bound r δ0 δ x
  steps_within x [] t = zero-le
  steps_within x (y ∷ ys) t = within_bound r x δ0 δ (length ys) ranks.positive (descent x y ys t)

  -- a linear ranking function over whole numbers bounds the runs from every state
  pub rank_bounds_runs : Bounds loop (λ x. Unit {0}) r δ0 δ
  rank_bounds_runs =
      record {
        steps = λ x ys u t. steps_within x ys t;
        ends = λ state u e. no_endless loop state (bound r δ0 δ (state 0)) (λ ys t. steps_within (state 0) ys t) e;
      }

-- no run of whole-number states has more steps than the bound at its first state, and none is endless
pub ranking_bounds_runs : (loop : Loop) (c : Ranking) → NonNegative c → RankingHolds loop c
    → Bounds loop (λ x. Unit {0}) (rank loop c) (start loop c) (fall loop c)
ranking_bounds_runs loop c n h = rank_bounds_runs loop (rank loop c) (start loop c) (fall loop c) (ranking_is_linear_ranking loop c n h 1 (omega arith))

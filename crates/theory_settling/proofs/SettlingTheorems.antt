-- What a settling promises. The rise takes g·x up by 1 at least in every step, so from t <= g·x + n no more than n steps are taken
-- before g·x has reached t, and the settling bound is such an n. From there on every step also meets the added row, so the ranking of
-- the longer loop bounds what is left (`AddedRow`), and no run is endless.
use Prim.Native.Nat.{ℕ, zero, suc, ◌≤◌, zero-le}
use mathlib.Core.Bool.{Bool, true, false, cond}
use mathlib.Core.List.{List, [], ◌∷◌}
use native.Mathlib.Omega.{arith}
use lib.IntN.{ℤ, pos, nat_abs, ◌+ℤ◌, ◌-ℤ◌, +ℤ_idr}
use lib.Signed.{lt_z, ◌≤ℤ◌}
use Rattle.refusal.proofs.TestLaws.{either}
use Rattle.whole.specs.Sums.{dot}
use Rattle.whole.proofs.Compare.{le_false, false_lt}
use Rattle.whole.proofs.Ring.{pos_mono, mul_cancel}
use Rattle.whole.proofs.Solve.{v, ◌⊕◌, ◌⊝◌, solve_le, le_fact, abs_fact}
use Rattle.theory.specs.Loops.{Loop, Meets, Step, Run, Endless}
use Rattle.theory.specs.Rankings.{rank, start, fall, Bounds}
use Rattle.theory.proofs.AddedRow.{meets_added, keeps_all, kept_bounds_runs}
use Rattle.theory.proofs.Steps.{weighed_step}
use Rattle.theory_settling.specs.Settlings.{Settling, NonNegativeSettling, SettlingHolds, SettlingPromise, Settled}
use Rattle.theory_settling.specs.Settlings.{added, longer, rising, unsettled, unsettled_steps, settling_bound}
use Rattle.theory_settling.proofs.SettlingParts.{rise_weighs}
use Rattle.theory_settling.proofs.SettlingNumbers.{risen_by_one, past_threshold}

-- the settling bound is enough: t <= g·x + settling_bound
within_reach : (c : Settling) (x : List ℤ) → c.t ≤ℤ (dot c.g x +ℤ pos (settling_bound c x))
unfolding settling_bound unsettled
within_reach c x = by_value c.t (dot c.g x)
  where
    by_value : (t a : ℤ) → t ≤ℤ (a +ℤ pos (cond (lt_z a t) (nat_abs (t -ℤ a)) 0))
    by_value t a =
        either (lt_z a t)
        (λ below. rw below (solve_le (v t) (v a ⊕ v (pos (nat_abs (t -ℤ a)))) (omega (arith, abs_fact (v t ⊝ v a)))))
        (λ past. rw past (solve_le (v t) (v a ⊕ v (pos 0)) (omega (arith, le_fact (v t) (v a) (false_lt a t past)))))

-- in reach of 0 is settled
settled_now : (c : Settling) (x : List ℤ) → c.t ≤ℤ (dot c.g x +ℤ pos 0) → Settled c x
settled_now c x h = rw (+ℤ_idr (dot c.g x)) at h

at_most_one : (b : Bool) → cond b 1 0 ≤ 1
at_most_one true = omega arith
at_most_one false = omega arith

module _ (loop : Loop) (c : Settling) (nonneg : NonNegativeSettling c) (k_positive : 1 ≤ c.k) (holds : SettlingHolds loop c) where
  -- the rise: k(g·x) - k(g·x') <= -k
  pub settling_rises : (x x' : List ℤ) → Step loop 1 x x' → (dot c.g x +ℤ pos 1) ≤ℤ dot c.g x'
  settling_rises x x' t =
      mul_cancel (pos c.k) (pos_mono k_positive)
      (risen_by_one (pos c.k) (dot c.g x) (dot c.g x')
      (weighed_step loop.variables (rising loop c) 1 x x' nonneg.0 (rise_weighs loop c holds) t))

  -- what is in reach of n + 1 is in reach of n after a step, and what has settled stays so
  nearer : (n : ℕ) (x x' : List ℤ) → Step loop 1 x x' → c.t ≤ℤ (dot c.g x +ℤ pos (suc n)) → c.t ≤ℤ (dot c.g x' +ℤ pos n)
  nearer n x x' t h = by_value c.t (dot c.g x) (dot c.g x') h (settling_rises x x' t)
    where
      by_value : (t a a' : ℤ) → t ≤ℤ (a +ℤ pos (suc n)) → (a +ℤ pos 1) ≤ℤ a' → t ≤ℤ (a' +ℤ pos n)
      by_value t a a' h r =
          solve_le (v t) (v a' ⊕ v (pos n)) (omega (arith, le_fact (v t) (v a ⊕ v (pos (suc n))) h, le_fact (v a ⊕ v (pos 1)) (v a') r))

  stays : (x x' : List ℤ) → Settled c x → Step loop 1 x x' → Settled c x'
  stays x x' s t = by_value c.t (dot c.g x) (dot c.g x') s (settling_rises x x' t)
    where
      by_value : (t a a' : ℤ) → t ≤ℤ a → (a +ℤ pos 1) ≤ℤ a' → t ≤ℤ a'
      by_value t a a' s r = solve_le (v t) (v a') (omega (arith, le_fact (v t) (v a) s, le_fact (v a ⊕ v (pos 1)) (v a') r))

  -- ---- steps before the threshold

  settles_within : (n : ℕ) (x : List ℤ) (ys : List (List ℤ)) → c.t ≤ℤ (dot c.g x +ℤ pos n) → Run loop x ys → unsettled_steps c x ys ≤ n
  unfolding Run unsettled_steps unsettled
  settles_within n x [] h run = zero-le
  settles_within zero x (y ∷ ys) h run =
      let settled = settled_now c x h in
      rw (le_false settled) (omega (arith, settles_within zero y ys (rw (+ℤ_idr (dot c.g y)) (stays x y settled run.0)) run.1))
  settles_within (suc n) x (y ∷ ys) h run =
      omega (arith, at_most_one (lt_z (dot c.g x) c.t), settles_within n y ys (nearer n x y run.0 h) run.1)

  pub settling_settles : (x : List ℤ) (ys : List (List ℤ)) → Run loop x ys → unsettled_steps c x ys ≤ settling_bound c x
  settling_settles x ys run = settles_within (settling_bound c x) x ys (within_reach c x) run

  -- ---- steps from the threshold on

  meets_threshold : (x x' : List ℤ) → Settled c x → Meets 1 x x' (added loop c)
  meets_threshold x x' s = meets_added loop.variables c.g _ x x' (past_threshold c.t (dot c.g x) s)

  pub settled_bounds_rest : Bounds loop (Settled c)
      (rank (longer loop c) c.ranking) (start (longer loop c) c.ranking) (fall (longer loop c) c.ranking)
  settled_bounds_rest = kept_bounds_runs loop (Settled c) stays (added loop c) meets_threshold c.ranking nonneg.1 holds.ranked

  -- ---- all steps

  ends_within : (n : ℕ) (state : ℕ → List ℤ) → c.t ≤ℤ (dot c.g (state 0) +ℤ pos n) → Endless loop state → ⊥
  ends_within zero state h e = settled_bounds_rest.ends state (settled_now c (state 0) h) e
  ends_within (suc n) state h e = ends_within n (λ i. state (suc i)) (nearer n (state 0) (state 1) (e 0) h) (λ i. e (suc i))

  pub settling_ends : (state : ℕ → List ℤ) → Endless loop state → ⊥
  settling_ends state e = ends_within (settling_bound c (state 0)) state (within_reach c (state 0)) e

  pub settling_promise : SettlingPromise loop c
      (rank (longer loop c) c.ranking) (start (longer loop c) c.ranking) (fall (longer loop c) c.ranking)
  settling_promise =
      record {
        rises = settling_rises;
        settles = settling_settles;
        stays_settled = keeps_all loop (Settled c) stays;
        rest_bounded = settled_bounds_rest.steps;
        ends = settling_ends;
      }

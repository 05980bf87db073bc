-- Ten goals of the kinds that the theory of loops needs, each closed in one line by `Solve`: its measure, and its examples. And one that is past its limit, by `ring`.
use Prim.Native.Nat.{ℕ, suc}
use mathlib.Core.Path.{◌≡◌}
use native.Mathlib.Omega.{arith}
use lib.IntN.{ℤ, pos, neg_ℤ, ◌+ℤ◌, ◌-ℤ◌, ◌*ℤ◌}
use lib.Signed.{◌≤ℤ◌, ◌<ℤ◌}
use Rattle.whole.proofs.Solve.{v, ◌⊕◌, ◌⊝◌, ◌⊗◌, neg, solve, solve_le, solve_lt, eq_fact, le_fact, lt_fact}
use Rattle.whole.proofs.Ring.{mul_mono, ring}

-- what falls by d at each of two steps falls by 2d
two_falls : (a b c d : ℤ) → d ≤ℤ (a -ℤ b) → d ≤ℤ (b -ℤ c) → (d +ℤ d) ≤ℤ (a -ℤ c)
two_falls a b c d h k = solve_le (v d ⊕ v d) (v a ⊝ v c) (omega (arith, le_fact (v d) (v a ⊝ v b) h, le_fact (v d) (v b ⊝ v c) k))

-- one step more of a descent
one_step_more : (s d a b : ℤ) (k : ℕ) → (s +ℤ pos k *ℤ d) ≤ℤ b → d ≤ℤ (a -ℤ b) → (s +ℤ pos (suc k) *ℤ d) ≤ℤ a
one_step_more s d a b k h l = solve_le (v s ⊕ v (pos (suc k)) ⊗ v d) (v a) (omega (arith, le_fact (v s ⊕ v (pos k) ⊗ v d) (v b) h, le_fact (v d) (v a ⊝ v b) l))

-- multiplying out
foil : (a b c d : ℤ) → (a +ℤ b) *ℤ (c +ℤ d) ≡ a *ℤ c +ℤ a *ℤ d +ℤ b *ℤ c +ℤ b *ℤ d
foil a b c d = solve ((v a ⊕ v b) ⊗ (v c ⊕ v d)) (v a ⊗ v c ⊕ v a ⊗ v d ⊕ v b ⊗ v c ⊕ v b ⊗ v d) (omega arith)

-- four facts that cannot hold together
four_facts : (a b c d : ℤ) → a ≤ℤ b → b <ℤ c → c ≡ d +ℤ d → (d +ℤ d) ≤ℤ a → ⊥
four_facts a b c d h k e l = omega (arith, le_fact (v a) (v b) h, lt_fact (v b) (v c) k, eq_fact (v c) (v d ⊕ v d) e, le_fact (v d ⊕ v d) (v a) l)

-- a row times a multiplier
scaled : (y a b : ℤ) → pos 0 ≤ℤ y → (a +ℤ b) ≤ℤ pos 0 → (y *ℤ a) ≤ℤ neg_ℤ (y *ℤ b)
scaled y a b h k = solve_le (v y ⊗ v a) (neg (v y ⊗ v b)) (omega (arith, le_fact (v y ⊗ (v a ⊕ v b)) (v y ⊗ v (pos 0)) (mul_mono y h k)))

-- a sum is 0, so the one part is minus the other
opposite : (a b : ℤ) → a +ℤ b ≡ pos 0 → b ≡ neg_ℤ a
opposite a b h = solve (v b) (neg (v a)) (omega (arith, eq_fact (v a ⊕ v b) (v (pos 0)) h))

-- a fall of at least 1 is a fall
falls : (a b d : ℤ) → pos 1 ≤ℤ d → d ≤ℤ (a -ℤ b) → b <ℤ a
falls a b d h k = solve_lt (v b) (v a) (omega (arith, le_fact (v (pos 1)) (v d) h, le_fact (v d) (v a ⊝ v b) k))

-- a state on a line, one further
along_a_line : (w x : ℤ) (t : ℕ) → (w -ℤ x) +ℤ pos (suc t) *ℤ x ≡ (w -ℤ x) +ℤ pos t *ℤ x +ℤ x
along_a_line w x t = solve ((v w ⊝ v x) ⊕ v (pos (suc t)) ⊗ v x) ((v w ⊝ v x) ⊕ v (pos t) ⊗ v x ⊕ v x) (omega arith)

-- a direction that is a multiple of a step
direction : (r c x y d : ℤ) → d ≡ c *ℤ (y -ℤ x) → r *ℤ d ≡ c *ℤ (r *ℤ y -ℤ r *ℤ x)
direction r c x y d h = rw h (solve (v r ⊗ (v c ⊗ (v y ⊝ v x))) (v c ⊗ (v r ⊗ v y ⊝ v r ⊗ v x)) (omega arith))

-- an invariant kept through a scale
kept : (k h s t : ℤ) → pos 0 ≤ℤ (h *ℤ s) → (h *ℤ s) ≤ℤ (k *ℤ t) → pos 0 ≤ℤ (k *ℤ t)
kept k h s t a b = solve_le (v (pos 0)) (v k ⊗ v t) (omega (arith, le_fact (v (pos 0)) (v h ⊗ v s) a, le_fact (v h ⊗ v s) (v k ⊗ v t) b))

-- past the solver's limit: `ring` multiplies out and sorts
nine_terms : (a b c d e f : ℤ) → (a +ℤ b +ℤ c) *ℤ (d +ℤ e +ℤ f) ≡ a *ℤ d +ℤ a *ℤ e +ℤ a *ℤ f +ℤ b *ℤ d +ℤ b *ℤ e +ℤ b *ℤ f +ℤ c *ℤ d +ℤ c *ℤ e +ℤ c *ℤ f
nine_terms a b c d e f = simp ring

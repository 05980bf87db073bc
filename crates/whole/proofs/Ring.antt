-- ℤ as an ordered commutative ring: the laws that `lib.IntN` and `lib.Signed` lack, each one line of `Solve`.
-- `ring` is for `simp`: it multiplies out and sorts sums and products of any length, and cancels nothing.
use Prim.Native.Nat.{ℕ, ◌+◌, ◌≤◌}
use mathlib.Core.Path.{◌≡◌}
use mathlib.Core.Logic.{◌⊎◌, inl, inr, ⊎_elim}
use mathlib.Core.Bool.{not}
use native.Mathlib.Nat.{mul-le-mul_left}
use native.Mathlib.Decide.{dec_le}
use native.Mathlib.Omega.{arith}
use mir.Facts.{T_not}
use lib.Dec.{T}
use lib.IntN.{ℤ, pos, negsuc, neg_ℤ, ◌+ℤ◌, ◌*ℤ◌, +ℤ_assoc, +ℤ_comm, *ℤ_comm}
use lib.Signed.{le_z, le_z_yes, ◌≤ℤ◌, ◌<ℤ◌}
use Rattle.whole.proofs.Solve.{up, down, v, ◌⊕◌, ◌⊗◌, neg, solve, solve_le, solve_lt, eq_fact, le_fact, lt_fact}

-- ---- the ring

pub one-*ℤ : (a : ℤ) → pos 1 *ℤ a ≡ a
one-*ℤ a = solve (v (pos 1) ⊗ v a) (v a) (omega arith)

pub *ℤ-assoc : (a b c : ℤ) → a *ℤ b *ℤ c ≡ a *ℤ (b *ℤ c)
*ℤ-assoc a b c = solve (v a ⊗ v b ⊗ v c) (v a ⊗ (v b ⊗ v c)) (omega arith)

pub *ℤ-+ℤ : (a b c : ℤ) → a *ℤ (b +ℤ c) ≡ a *ℤ b +ℤ a *ℤ c
*ℤ-+ℤ a b c = solve (v a ⊗ (v b ⊕ v c)) (v a ⊗ v b ⊕ v a ⊗ v c) (omega arith)

pub +ℤ-*ℤ : (a b c : ℤ) → (a +ℤ b) *ℤ c ≡ a *ℤ c +ℤ b *ℤ c
+ℤ-*ℤ a b c = solve ((v a ⊕ v b) ⊗ v c) (v a ⊗ v c ⊕ v b ⊗ v c) (omega arith)

pub neg-*ℤ : (a b : ℤ) → neg_ℤ a *ℤ b ≡ neg_ℤ (a *ℤ b)
neg-*ℤ a b = solve (neg (v a) ⊗ v b) (neg (v a ⊗ v b)) (omega arith)

pub *ℤ-neg : (a b : ℤ) → a *ℤ neg_ℤ b ≡ neg_ℤ (a *ℤ b)
*ℤ-neg a b = solve (v a ⊗ neg (v b)) (neg (v a ⊗ v b)) (omega arith)

pub +ℤ-left : (a b c : ℤ) → a +ℤ (b +ℤ c) ≡ b +ℤ (a +ℤ c)
+ℤ-left a b c = solve (v a ⊕ (v b ⊕ v c)) (v b ⊕ (v a ⊕ v c)) (omega arith)

pub *ℤ-left : (a b c : ℤ) → a *ℤ (b *ℤ c) ≡ b *ℤ (a *ℤ c)
*ℤ-left a b c = solve (v a ⊗ (v b ⊗ v c)) (v b ⊗ (v a ⊗ v c)) (omega arith)

pub ruleset ring = (*ℤ-+ℤ, +ℤ-*ℤ, +ℤ_assoc, +ℤ_comm, +ℤ-left, *ℤ-assoc, *ℤ_comm, *ℤ-left)

-- ---- the order

pub ≤ℤ-trans : {a b c : ℤ} → a ≤ℤ b → b ≤ℤ c → a ≤ℤ c
≤ℤ-trans {a} {b} {c} h k = solve_le (v a) (v c) (omega (arith, le_fact (v a) (v b) h, le_fact (v b) (v c) k))

pub ≤ℤ-<ℤ-trans : {a b c : ℤ} → a ≤ℤ b → b <ℤ c → a <ℤ c
≤ℤ-<ℤ-trans {a} {b} {c} h k = solve_lt (v a) (v c) (omega (arith, le_fact (v a) (v b) h, lt_fact (v b) (v c) k))

pub <ℤ-≤ℤ : {a b : ℤ} → a <ℤ b → a ≤ℤ b
<ℤ-≤ℤ {a} {b} h = solve_le (v a) (v b) (omega (arith, lt_fact (v a) (v b) h))

pub ≡-≤ℤ : {a b : ℤ} → a ≡ b → a ≤ℤ b
≡-≤ℤ {a} {b} h = solve_le (v a) (v b) (omega (arith, eq_fact (v a) (v b) h))

pub ≤ℤ-antisym : {a b : ℤ} → a ≤ℤ b → b ≤ℤ a → a ≡ b
≤ℤ-antisym {a} {b} h k = solve (v a) (v b) (omega (arith, le_fact (v a) (v b) h, le_fact (v b) (v a) k))

pub ≤ℤ-or-<ℤ : (a b : ℤ) → (a ≤ℤ b) ⊎ (b <ℤ a)
≤ℤ-or-<ℤ a b = by (dec_le (up a + down b) (down a + up b))
  where
    by : Dec (up a + down b ≤ down a + up b) → (a ≤ℤ b) ⊎ (b <ℤ a)
    by (yes h) = inl (solve_le (v a) (v b) h)
    by (no h) = inr (solve_lt (v b) (v a) (omega arith))

pub ≤ℤ-total : (a b : ℤ) → (a ≤ℤ b) ⊎ (b ≤ℤ a)
≤ℤ-total a b = ⊎_elim inl (λ h. inr (<ℤ-≤ℤ h)) (≤ℤ-or-<ℤ a b)

-- a test that failed
pub le_z_no : {a b : ℤ} → T (not (le_z a b)) → b <ℤ a
le_z_no {a} {b} t = ⊎_elim (λ h. absurd (T_not (le_z a b) h.le t)) (λ h. h) (≤ℤ-or-<ℤ a b)

-- ---- the order with sums and products

pub pos_mono : {m n : ℕ} → m ≤ n → pos m ≤ℤ pos n
pos_mono {m} {n} h = solve_le (v (pos m)) (v (pos n)) (omega arith)

pub +ℤ-mono : {a b c d : ℤ} → a ≤ℤ b → c ≤ℤ d → (a +ℤ c) ≤ℤ (b +ℤ d)
+ℤ-mono {a} {b} {c} {d} h k = solve_le (v a ⊕ v c) (v b ⊕ v d) (omega (arith, le_fact (v a) (v b) h, le_fact (v c) (v d) k))

pub mul_mono : (k : ℤ) {a b : ℤ} → pos 0 ≤ℤ k → a ≤ℤ b → (k *ℤ a) ≤ℤ (k *ℤ b)
mul_mono (pos n) {a} {b} h l = solve_le (v (pos n) ⊗ v a) (v (pos n) ⊗ v b) (omega (arith, mul-le-mul_left n (le_fact (v a) (v b) l)))
mul_mono (negsuc n) h l = absurd h.le

-- a positive factor comes off
pub mul_cancel : (k : ℤ) {a b : ℤ} → pos 1 ≤ℤ k → (k *ℤ a) ≤ℤ (k *ℤ b) → a ≤ℤ b
mul_cancel k {a} {b} h l = ⊎_elim (λ m. m) (λ m. absurd (more m)) (≤ℤ-or-<ℤ a b)
  where
    more : b <ℤ a → ⊥
    more m =
        let next : (b +ℤ pos 1) ≤ℤ a = solve_le (v b ⊕ v (pos 1)) (v a) (omega (arith, lt_fact (v b) (v a) m)) in
        omega (
          arith,
          le_fact (v (pos 1)) (v k) h,
          le_fact (v k ⊗ v a) (v k ⊗ v b) l,
          le_fact (v k ⊗ (v b ⊕ v (pos 1))) (v k ⊗ v a) (mul_mono k (≤ℤ-trans (le_z_yes tt) h) next),
        )

-- Sizes by absolute value: every "this sum fits 64 bits" becomes an inequality of ℕ, which `omega` closes.
-- `fits_abs` and `back` are the bridge to the kit's signed numbers; `ready_by` gives `Total::plus` what it asks out of three bounds.
use Prim.Native.Nat.{ℕ, zero, suc, ◌+◌, ◌*◌, ◌^◌, ◌≤◌, ◌<◌}
use mathlib.Core.Path.{◌≡◌, refl}
use native.Mathlib.Nat.{mul-le-mul}
use native.Mathlib.Omega.{arith}
use lib.IntN.{ℤ, pos, negsuc, nat_abs, neg_ℤ, ◌+ℤ◌, ◌*ℤ◌}
use mir.Syntax.{w64}
use mir.Val.{SFits, to_z, of_z}
use lib.Signed.{mag}
use mir.Facts.{to_z-of_z}
use Rattle.whole.specs.Ready.{Ready}
use Rattle.whole.proofs.Solve.{v, ◌⊕◌, solve_abs, abs_fact}

pub abs_neg : (x : ℤ) → nat_abs (neg_ℤ x) ≡ nat_abs x
abs_neg (pos zero) = refl
abs_neg (pos (suc n)) = refl
abs_neg (negsuc n) = refl

pub abs_add : (x y : ℤ) → nat_abs (x +ℤ y) ≤ nat_abs x + nat_abs y
abs_add x y = solve_abs (v x ⊕ v y) (nat_abs x + nat_abs y) (omega (arith, abs_fact (v x), abs_fact (v y)))

pub abs_mul : (x y : ℤ) → nat_abs (x *ℤ y) ≡ nat_abs x * nat_abs y
abs_mul (pos a) (pos b) = refl
abs_mul (pos a) (negsuc b) = abs_neg (pos (a * suc b))
abs_mul (negsuc a) (pos b) = abs_neg (pos (suc a * b))
abs_mul (negsuc a) (negsuc b) = refl

-- a product of bounded numbers
pub abs_product : (x y : ℤ) {a b : ℕ} → nat_abs x ≤ a → nat_abs y ≤ b → nat_abs (x *ℤ y) ≤ a * b
abs_product x y h k = omega (arith, abs_mul x y, mul-le-mul h k)

-- ---- 64 bits

pub fits_abs : {z : ℤ} → nat_abs z < 2 ^ 63 → SFits w64 z
fits_abs {z} h = record { sfits = below z h }
  where
    below : (z : ℤ) → nat_abs z < 2 ^ 63 → mag z < 2 ^ 63
    below (pos n) h = h
    below (negsuc n) h = omega arith

pub back : {z : ℤ} → nat_abs z < 2 ^ 63 → to_z w64 (of_z w64 z) ≡ z
back h = to_z-of_z (fits_abs h)

pub ready : (s k e : ℤ) → nat_abs s + nat_abs k * nat_abs e < 2 ^ 63 → Ready s k e
ready s k e h =
    record {
      product = fits_abs (omega (arith, abs_mul k e));
      total = fits_abs (omega (arith, abs_mul k e, abs_add s (k *ℤ e)));
    }

pub ready_by : (s k e : ℤ) {a b d : ℕ} → nat_abs s ≤ d → nat_abs k ≤ a → nat_abs e ≤ b → d + a * b < 2 ^ 63 → Ready s k e
ready_by s k e hs hk he h = ready s k e (omega (arith, mul-le-mul hk he))

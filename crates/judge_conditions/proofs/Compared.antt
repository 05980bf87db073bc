-- Signed numbers as the code compares and changes them: by their bits, where they fit 64.
use mathlib.Core.Path.{◌≡◌, sym, ap, ◌∙◌}
use mathlib.Core.Bool.{Bool, true, false, false≢true}
use native.Mathlib.Omega.{arith}
use lib.Dec.{eqb}
use lib.IntN.{ℤ, pos, neg_ℤ, ◌+ℤ◌, ◌-ℤ◌, +ℤ_idl}
use mir.Syntax.{w64}
use mir.Val.{SFits, of_z, to_z}
use mir.Facts.{to_z-of_z}
use borrow.Author.Tests.{eq-eqb, ne_eqb}
use Rattle.refusal.proofs.TestLaws.{either}
use Rattle.whole.specs.Same.{same_z}
use Rattle.whole.proofs.Compare.{true_same, same_true}
use Rattle.whole.proofs.Size.{abs_add, abs_neg, fits_abs}
use Rattle.judge_sums.specs.Running.{CanGrow}

pub same_bits : {a b : ℤ} → SFits w64 a → SFits w64 b → of_z w64 a ≡ of_z w64 b → a ≡ b
same_bits f g h = sym (to_z-of_z f) ∙ ap (to_z w64) h ∙ to_z-of_z g

-- the test that two numbers have the same bits
pub bits_same : {a b : ℤ} → SFits w64 a → SFits w64 b → eqb (of_z w64 a) (of_z w64 b) ≡ same_z a b
bits_same {a} {b} f g =
    either (same_z a b)
    (λ e. eq-eqb (of_z w64 a) (of_z w64 b) (ap (of_z w64) (true_same a b e)) ∙ sym e)
    (λ e. ne_eqb (of_z w64 a) (of_z w64 b) (λ h. apart e (same_true (same_bits f g h))) ∙ sym e)
  where
    apart : {t : Bool} → t ≡ false → t ≡ true → ⊥
    apart e h = false≢true (sym e ∙ h)

pub sum_fits : (a b : ℤ) → CanGrow a → CanGrow b → SFits w64 (a +ℤ b)
sum_fits a b f g = fits_abs (omega (arith, abs_add a b))

pub minus_fits : (z : ℤ) → CanGrow z → SFits w64 (pos 0 -ℤ z)
minus_fits z h = rw (+ℤ_idl (neg_ℤ z)) (fits_abs (omega (arith, abs_neg z)))

-- Tests of whole numbers and what they say, both ways: `same_z`, `le_z` and `lt_z` as equations of Bool, which is how a branch leaves them
-- (after `rw (to_z-of_z ..) at c.if1.taken`) and how a definition that tests wants them.
use mathlib.Core.Path.{◌≡◌, refl, sym, ap, subst}
use mathlib.Core.Bool.{Bool, true, false}
use borrow.Author.Tests.{eqb-true, eq-eqb}
use lib.Dec.{T}
use lib.IntN.{ℤ, pos, negsuc}
use lib.Signed.{le_z, lt_z, ◌≤ℤ◌, ◌<ℤ◌, le_z_yes, lt_z_yes, lt_z_no, clash_ℤ}
use Rattle.whole.specs.Same.{same_z}
use Rattle.whole.proofs.Ring.{le_z_no}

is_true : (t : Bool) → T t → t ≡ true
is_true true h = refl
is_true false h = absurd h

is_false : (t : Bool) → (T t → ⊥) → t ≡ false
is_false true h = absurd (h tt)
is_false false h = refl

pub true_same : (a b : ℤ) → same_z a b ≡ true → a ≡ b
true_same (pos a) (pos b) h = ap pos (eqb-true a b h)
true_same (pos a) (negsuc b) h = cc
true_same (negsuc a) (pos b) h = cc
true_same (negsuc a) (negsuc b) h = ap negsuc (eqb-true a b h)

pub same_true : {a b : ℤ} → a ≡ b → same_z a b ≡ true
same_true {a} h = rw (← h) (self a)
  where
    self : (a : ℤ) → same_z a a ≡ true
    self (pos a) = eq-eqb a a refl
    self (negsuc a) = eq-eqb a a refl

pub true_le : (a b : ℤ) → le_z a b ≡ true → a ≤ℤ b
true_le a b h = le_z_yes (subst T (sym h) tt)

pub le_true : {a b : ℤ} → a ≤ℤ b → le_z a b ≡ true
le_true {a} {b} h = is_true (le_z a b) h.le

pub false_le : (a b : ℤ) → le_z a b ≡ false → b <ℤ a
false_le a b h = le_z_no (rw h tt)

pub true_lt : (a b : ℤ) → lt_z a b ≡ true → a <ℤ b
true_lt a b h = lt_z_yes (subst T (sym h) tt)

pub lt_true : {a b : ℤ} → a <ℤ b → lt_z a b ≡ true
lt_true {a} {b} h = is_true (lt_z a b) h.lt

pub false_lt : (a b : ℤ) → lt_z a b ≡ false → b ≤ℤ a
false_lt a b h = lt_z_no (rw h tt)

pub le_false : {a b : ℤ} → a ≤ℤ b → lt_z b a ≡ false
le_false {a} {b} h = is_false (lt_z b a) (λ t. clash_ℤ (lt_z_yes t) h)

pub lt_false : {a b : ℤ} → a <ℤ b → le_z b a ≡ false
lt_false {a} {b} h = is_false (le_z b a) (λ t. clash_ℤ h (le_z_yes t))

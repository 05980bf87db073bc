-- Equations and inequalities of whole numbers in one line, by `omega` over ℕ.
-- A whole number z is the pair (up z, down z) of natural numbers, z = up z - down z. An expression `E` whose leaves are whole numbers has a
-- pair (plus e, minus e) that computes, so that a goal between two values becomes a goal of ℕ, which `omega` multiplies out.
-- How to use it: write both sides of the goal as expressions (`v` at a leaf, `⊕ ⊝ ⊗ neg` for the operations), and hand each hypothesis to
-- `omega` by `le_fact`, `lt_fact` or `eq_fact`:
--   solve_lt (v a ⊕ v a) (v b ⊕ v c) (omega (arith, le_fact (v a) (v b) h, lt_fact (v b) (v c) k))    proves (a +ℤ a) <ℤ (b +ℤ c)
--   omega (arith, le_fact .., lt_fact .., eq_fact ..)                                                  proves ⊥ out of several facts
-- A leaf may be any whole number: `v (x *ℤ y)` is a product that the goal does not take apart.
-- Limits: `omega` multiplies out to 64 monomials, and a product of d leaves costs 2^d of them. (a + b)(c + d) and a(b(cd)) pass, (a + b + c)(d + e + f)
-- is refused: there `simp ring` of `Ring`, which sorts and cancels nothing. Products are atoms: hand over a fact that is multiplied (`mul_mono` of `Ring`).
-- The ten goals of `Goals` cost half a second in all: `rt dev whole` takes 1.1 s when they are checked again and 0.7 s when they are not.
use Prim.Native.Nat.{ℕ, zero, suc, ◌+◌, ◌*◌, ◌≤◌, ◌<◌}
use mathlib.Core.Path.{◌≡◌, refl, ap}
use mathlib.Core.Bool.{Bool, true, false, not, cond}
use native.Mathlib.Omega.{arith}
use lib.Dec.{T, leb→le, le→leb, ltb, ltb→lt, lt→ltb, nltb→le}
use lib.IntN.{ℤ, pos, negsuc, nat_abs, neg_ℤ, sub_ℕ, ◌+ℤ◌, ◌-ℤ◌, ◌*ℤ◌}
use lib.Signed.{◌≤ℤ◌, ◌<ℤ◌, le_z_yes, lt_z_yes}

-- what z is above 0, and below
abbrev pub up : ℤ → ℕ
up (pos n) = n
up (negsuc n) = 0

abbrev pub down : ℤ → ℕ
down (pos n) = 0
down (negsuc n) = suc n

-- ---- the pair of a sum, a difference, a product

either : (c : Bool) (x y : ℤ) (P : ℤ → Type 0) → (T c → P x) → (T (not c) → P y) → P (cond c x y)
either true x y P f g = f tt
either false x y P f g = g tt

sub_pair : (a b : ℕ) → up (sub_ℕ a b) + b ≡ down (sub_ℕ a b) + a
sub_pair a b =
    either (ltb a b) _ _ (λ z. up z + b ≡ down z + a)
    (λ t. omega (arith, ltb→lt a b t))
    (λ t. omega (arith, nltb→le a b t))

add_pair : (x y : ℤ) → up (x +ℤ y) + (down x + down y) ≡ down (x +ℤ y) + (up x + up y)
add_pair (pos a) (pos b) = omega arith
add_pair (pos a) (negsuc b) = omega (arith, sub_pair a (suc b))
add_pair (negsuc a) (pos b) = omega (arith, sub_pair b (suc a))
add_pair (negsuc a) (negsuc b) = omega arith

neg_pair : (x : ℤ) → (up (neg_ℤ x) ≡ down x) × (down (neg_ℤ x) ≡ up x)
neg_pair (pos zero) = (refl, refl)
neg_pair (pos (suc n)) = (refl, refl)
neg_pair (negsuc n) = (refl, refl)

mul_pair : (x y : ℤ) → (up (x *ℤ y) ≡ up x * up y + down x * down y) × (down (x *ℤ y) ≡ up x * down y + down x * up y)
mul_pair (pos a) (pos b) = omega arith
mul_pair (pos a) (negsuc b) = omega (arith, neg_pair (pos (a * suc b)))
mul_pair (negsuc a) (pos b) = omega (arith, neg_pair (pos (suc a * b)))
mul_pair (negsuc a) (negsuc b) = omega arith

-- ---- order and equality by the pair

same_by : (x y : ℤ) → up x + down y ≡ down x + up y → x ≡ y
same_by (pos a) (pos b) h = ap pos (omega arith)
same_by (pos a) (negsuc b) h = absurd (omega arith)
same_by (negsuc a) (pos b) h = absurd (omega arith)
same_by (negsuc a) (negsuc b) h = ap negsuc (omega arith)

by_same : {x y : ℤ} → x ≡ y → up x + down y ≡ down x + up y
by_same {x} {y} h = omega (arith, ap up h, ap down h)

le_by : (x y : ℤ) → up x + down y ≤ down x + up y → x ≤ℤ y
le_by (pos a) (pos b) h = le_z_yes (le→leb a b (omega arith))
le_by (pos a) (negsuc b) h = absurd (omega arith)
le_by (negsuc a) (pos b) h = le_z_yes tt
le_by (negsuc a) (negsuc b) h = le_z_yes (le→leb b a (omega arith))

by_le : (x y : ℤ) → x ≤ℤ y → up x + down y ≤ down x + up y
by_le (pos a) (pos b) h = omega (arith, leb→le a b h.le)
by_le (pos a) (negsuc b) h = absurd h.le
by_le (negsuc a) (pos b) h = omega arith
by_le (negsuc a) (negsuc b) h = omega (arith, leb→le b a h.le)

lt_by : (x y : ℤ) → up x + down y < down x + up y → x <ℤ y
lt_by (pos a) (pos b) h = lt_z_yes (lt→ltb a b (omega arith))
lt_by (pos a) (negsuc b) h = absurd (omega arith)
lt_by (negsuc a) (pos b) h = lt_z_yes tt
lt_by (negsuc a) (negsuc b) h = lt_z_yes (lt→ltb b a (omega arith))

by_lt : (x y : ℤ) → x <ℤ y → up x + down y < down x + up y
by_lt (pos a) (pos b) h = omega (arith, ltb→lt a b h.lt)
by_lt (pos a) (negsuc b) h = absurd h.lt
by_lt (negsuc a) (pos b) h = omega arith
by_lt (negsuc a) (negsuc b) h = omega (arith, ltb→lt b a h.lt)

abs_pair : (x : ℤ) → nat_abs x ≡ up x + down x
abs_pair (pos n) = omega arith
abs_pair (negsuc n) = omega arith

-- ---- expressions

infixl 6 ◌⊕◌ ◌⊝◌
infixl 7 ◌⊗◌
pub data E : Type 0 where
  v : ℤ → E
  ◌⊕◌ : E → E → E
  ◌⊝◌ : E → E → E
  ◌⊗◌ : E → E → E
  neg : E → E

abbrev pub val : E → ℤ
val (v x) = x
val (a ⊕ b) = val a +ℤ val b
val (a ⊝ b) = val a -ℤ val b
val (a ⊗ b) = val a *ℤ val b
val (neg a) = neg_ℤ (val a)

abbrev mutual
  pub plus : E → ℕ
  plus (v x) = up x
  plus (a ⊕ b) = plus a + plus b
  plus (a ⊝ b) = plus a + minus b
  plus (a ⊗ b) = plus a * plus b + minus a * minus b
  plus (neg a) = minus a

  pub minus : E → ℕ
  minus (v x) = down x
  minus (a ⊕ b) = minus a + minus b
  minus (a ⊝ b) = minus a + plus b
  minus (a ⊗ b) = plus a * minus b + minus a * plus b
  minus (neg a) = plus a

-- the product of two pairs that stand for x and y stands for the product: both equations, multiplied by what the product needs
product_pair : (x y : ℤ) (p m q n : ℕ) → up x + m ≡ down x + p → up y + n ≡ down y + q → up (x *ℤ y) + (p * n + m * q) ≡ down (x *ℤ y) + (p * q + m * n)
product_pair x y p m q n h k =
    omega (
      arith,
      mul_pair x y,
      ap (λ (t : ℕ). t * up y) h,
      ap (λ (t : ℕ). t * down y) h,
      ap (λ (t : ℕ). p * t) k,
      ap (λ (t : ℕ). m * t) k,
    )

sound : (e : E) → up (val e) + minus e ≡ down (val e) + plus e
sound (v x) = omega arith
sound (a ⊕ b) = omega (arith, add_pair (val a) (val b), sound a, sound b)
sound (a ⊝ b) = omega (arith, add_pair (val a) (neg_ℤ (val b)), neg_pair (val b), sound a, sound b)
sound (a ⊗ b) = product_pair (val a) (val b) (plus a) (minus a) (plus b) (minus b) (sound a) (sound b)
sound (neg a) = omega (arith, neg_pair (val a), sound a)

-- ---- goals

pub solve : (e f : E) → plus e + minus f ≡ minus e + plus f → val e ≡ val f
solve e f h = same_by (val e) (val f) (omega (arith, sound e, sound f))

pub solve_le : (e f : E) → plus e + minus f ≤ minus e + plus f → val e ≤ℤ val f
solve_le e f h = le_by (val e) (val f) (omega (arith, sound e, sound f))

pub solve_lt : (e f : E) → plus e + minus f < minus e + plus f → val e <ℤ val f
solve_lt e f h = lt_by (val e) (val f) (omega (arith, sound e, sound f))

pub solve_abs : (e : E) (b : ℕ) → (plus e ≤ minus e + b) × (minus e ≤ plus e + b) → nat_abs (val e) ≤ b
solve_abs e b h = abs_by (val e) (omega (arith, sound e)) (omega (arith, sound e))
  where
    abs_by : (x : ℤ) → up x ≤ down x + b → down x ≤ up x + b → nat_abs x ≤ b
    abs_by (pos n) h k = omega arith
    abs_by (negsuc n) h k = omega arith

-- ---- facts, for the list of `omega`

pub eq_fact : (e f : E) → val e ≡ val f → plus e + minus f ≡ minus e + plus f
eq_fact e f h = omega (arith, by_same h, sound e, sound f)

pub le_fact : (e f : E) → val e ≤ℤ val f → plus e + minus f ≤ minus e + plus f
le_fact e f h = omega (arith, by_le (val e) (val f) h, sound e, sound f)

pub lt_fact : (e f : E) → val e <ℤ val f → plus e + minus f < minus e + plus f
lt_fact e f h = omega (arith, by_lt (val e) (val f) h, sound e, sound f)

pub abs_fact : (e : E) → (plus e ≤ minus e + nat_abs (val e)) × (minus e ≤ plus e + nat_abs (val e))
abs_fact e = omega (arith, abs_pair (val e), sound e)

-- The laws of decimal texts: a text reads back as its number, its bytes are digits, no zero stands before it, and how long it is.
-- All go by `decimal_small` and `decimal_more`, which say what the digits are, and by `by_tens`, the induction from a tenth of a number to the number.
-- Assumes nothing.
use Prim.Native.Nat.{ℕ, zero, suc, ◌+◌, ◌*◌, ◌-◌, ◌/◌, ◌%◌, ◌^◌, ◌≤◌, ◌<◌}
use mathlib.Core.Path.{◌≡◌, refl, ap, ◌∙◌}
use mathlib.Core.List.{List, [], ◌∷◌, ◌++◌}
use native.Mathlib.Nat.{pow-succ'}
use native.Mathlib.Decide.{dec_lt}
use native.Mathlib.Omega.{arith}
use lib.IntN.{ℤ, pos, negsuc, nat_abs, neg_ℤ}
use lib.Signed.{mag, nat_abs-le, ◌≤ℤ◌, ◌<ℤ◌}
use lib.ListN.{length, get_or, length-append, get_or-append}
use borrow.Author.Tests.{lt-ltb, le-ltb, ne_eqb}
use Rattle.whole.specs.Sums.{Each}
use Rattle.whole.proofs.EachLaws.{each_append}
use Rattle.whole.proofs.Solve.{v, le_fact, lt_fact}
use Rattle.decimal.specs.Decimals.{figures, decimal, signed_decimal, numeral_on, numeral, signed_numeral}

-- ---- what the digits are

figures_small : (most x : ℕ) → x < 10 → figures (suc most) x ≡ (48 + x) ∷ []
unfolding figures
figures_small most x small = rw (lt-ltb x 10 small)

figures_more : (most x : ℕ) → 10 ≤ x → figures (suc most) x ≡ figures most (x / 10) ++ ((48 + x % 10) ∷ [])
unfolding figures
figures_more most x large = rw (le-ltb x 10 large)

-- more than enough digits are enough
figures_enough : (most x : ℕ) → x < most → figures most x ≡ decimal x
unfolding decimal
figures_enough zero x enough = absurd (omega arith)
figures_enough (suc most) x enough = same most x x (omega arith) (omega arith)
  where
    same : (a b x : ℕ) → x ≤ a → x ≤ b → figures (suc a) x ≡ figures (suc b) x
    same zero b x ha hb = let small : x < 10 = omega arith in rw (figures_small zero x small, figures_small b x small)
    same (suc a) zero x ha hb = let small : x < 10 = omega arith in rw (figures_small (suc a) x small, figures_small zero x small)
    same (suc a) (suc b) x ha hb =
        elim (dec_lt x 10) [
          | yes small ↦ rw (figures_small (suc a) x small, figures_small (suc b) x small)
          | no above ↦
              let large : 10 ≤ x = omega arith in
              rw (figures_more (suc a) x large, figures_more (suc b) x large, same a b (x / 10) (omega arith) (omega arith))
        ]

pub decimal_small : (x : ℕ) → x < 10 → decimal x ≡ (48 + x) ∷ []
unfolding decimal
decimal_small x small = figures_small x x small

pub decimal_more : (x : ℕ) → 10 ≤ x → decimal x ≡ decimal (x / 10) ++ ((48 + x % 10) ∷ [])
unfolding decimal
decimal_more x large = figures_more x x large ∙ ap (λ t. t ++ ((48 + x % 10) ∷ [])) (figures_enough x (x / 10) (omega arith))

pub length_small : (x : ℕ) → x < 10 → length (decimal x) ≡ 1
length_small x small = rw (decimal_small x small)

pub length_more : (x : ℕ) → 10 ≤ x → length (decimal x) ≡ length (decimal (x / 10)) + 1
length_more x large = rw (decimal_more x large, length-append)

-- from a tenth of a number to the number
pub by_tens : (P : ℕ → Type 0) → ((x : ℕ) → x < 10 → P x) → ((x : ℕ) → 10 ≤ x → P (x / 10) → P x) → (x : ℕ) → P x
by_tens P small more x = up_to (suc x) x (omega arith)
  where
    up_to : (above x : ℕ) → x < above → P x
    up_to zero x h = absurd (omega arith)
    up_to (suc above) x h =
        elim (dec_lt x 10) [
          | yes below ↦ small x below
          | no not-below ↦ more x (omega arith) (up_to above (x / 10) (omega arith))
        ]

-- ---- the text reads back as the number

numeral_last : (so_far : ℕ) (digits : List ℕ) (digit : ℕ) → numeral_on so_far (digits ++ (digit ∷ [])) ≡ 10 * numeral_on so_far digits + (digit - 48)
unfolding numeral_on
numeral_last so_far [] digit = refl
numeral_last so_far (d ∷ ds) digit = numeral_last (10 * so_far + (d - 48)) ds digit

pub numeral_decimal : (x : ℕ) → numeral (decimal x) ≡ x
unfolding numeral numeral_on
numeral_decimal =
    by_tens (λ x. numeral_on 0 (decimal x) ≡ x) (λ x small. rw (decimal_small x small) (omega arith))
    (λ x large tenth. rw (decimal_more x large, numeral_last, tenth) (omega arith))

-- ---- its bytes are digits, and no zero stands before it

-- a byte from 48 to 57
abbrev pub Digit : ℕ → Type 0
Digit b = (48 ≤ b) × (b < 58)

pub decimal_digits : (x : ℕ) → Each Digit (decimal x)
unfolding Each
decimal_digits =
    by_tens (λ x. Each Digit (decimal x)) (λ x small. rw (decimal_small x small) ((omega arith, omega arith), tt))
    (λ x large tenth. rw (decimal_more x large) (each_append Digit (decimal (x / 10)) ((48 + x % 10) ∷ []) tenth ((omega arith, omega arith), tt)))

pub decimal_some : (x : ℕ) → 1 ≤ length (decimal x)
decimal_some = by_tens (λ x. 1 ≤ length (decimal x)) (λ x small. omega (arith, length_small x small)) (λ x large tenth. omega (arith, length_more x large))

-- the first digit of any number but 0 is none
pub decimal_first : (x : ℕ) → 1 ≤ x → 49 ≤ get_or (decimal x) 0 0
decimal_first =
    by_tens (λ x. 1 ≤ x → 49 ≤ get_or (decimal x) 0 0) (λ x small some. rw (decimal_small x small) (omega arith))
    (λ x large tenth some.
    let here : 0 < length (decimal (x / 10)) = decimal_some (x / 10) in
    rw (decimal_more x large, get_or-append (decimal (x / 10)) ((48 + x % 10) ∷ []) 0 0 here) (tenth (omega arith)))

-- ---- how long it is

-- a number below 10 ^ k has at most k digits
pub decimal_length : (k x : ℕ) → x < 10 ^ suc k → length (decimal x) ≤ suc k
decimal_length zero x small = omega (arith, length_small x (omega arith))
decimal_length (suc k) x small =
    elim (dec_lt x 10) [
      | yes below ↦ omega (arith, length_small x below)
      | no not-below ↦ omega (arith, length_more x (omega arith), decimal_length k (x / 10) (omega (arith, pow-succ' 10 (suc k))))
    ]

-- the largest u64 has 20 digits
pub decimal_room : (x : ℕ) → x < 2 ^ 64 → length (decimal x) ≤ 20
decimal_room x small = decimal_length 19 x (omega arith)

-- ---- whole numbers

-- digits without a sign
numeral_unsigned : (digits : List ℕ) → Each Digit digits → signed_numeral digits ≡ pos (numeral digits)
unfolding signed_numeral numeral numeral_on Each
numeral_unsigned [] each = refl
numeral_unsigned (d ∷ ds) each = rw (ne_eqb d 45 (λ minus. omega (arith, each.0)))

pub signed_numeral_decimal : (z : ℤ) → signed_numeral (signed_decimal z) ≡ z
unfolding signed_decimal signed_numeral
signed_numeral_decimal (pos n) = numeral_unsigned (decimal n) (decimal_digits n) ∙ ap pos (numeral_decimal n)
signed_numeral_decimal (negsuc n) = ap (λ k. neg_ℤ (pos k)) (numeral_decimal (suc n))

pub signed_below : (z : ℤ) → z <ℤ pos 0 → signed_decimal z ≡ 45 ∷ decimal (nat_abs z)
unfolding signed_decimal
signed_below (pos n) below = absurd (omega (arith, lt_fact (v (pos n)) (v (pos 0)) below))
signed_below (negsuc n) below = refl

-- a sign takes one byte
pub length_below : (z : ℤ) → z <ℤ pos 0 → length (signed_decimal z) ≡ suc (length (decimal (nat_abs z)))
length_below z below = ap length (signed_below z below)

pub signed_above : (z : ℤ) → pos 0 ≤ℤ z → signed_decimal z ≡ decimal (nat_abs z)
unfolding signed_decimal
signed_above (pos n) above = refl
signed_above (negsuc n) above = absurd (omega (arith, le_fact (v (pos 0)) (v (negsuc n)) above))

-- a whole number whose size is below 10 ^ k takes at most k bytes and one for its sign
pub signed_length : (k : ℕ) (z : ℤ) → nat_abs z < 10 ^ suc k → length (signed_decimal z) ≤ suc (suc k)
unfolding signed_decimal
signed_length k (pos n) small = omega (arith, decimal_length k n small)
signed_length k (negsuc n) small = omega (arith, decimal_length k (suc n) small)

-- the smallest i64 takes a sign and 19 digits
pub signed_room : (z : ℤ) → mag z < 2 ^ 63 → length (signed_decimal z) ≤ 20
signed_room z small = signed_length 18 z (omega (arith, nat_abs-le z small))

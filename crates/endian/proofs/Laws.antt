-- The laws of specs/Numbers.antt, over every width: what is a list of bytes; numbers to bytes and back; a number at a place of a longer list;
-- stored numbers to whole numbers and back. Proofs about records cite these, and none of them looks into a byte or a bit.
-- The places and lists are explicit, for they stand under functions that compute. Assumes nothing.
use Prim.Native.Nat.{ℕ, zero, suc, ◌+◌, ◌*◌, ◌-◌, ◌/◌, ◌%◌, ◌^◌, ◌≤◌, ◌<◌}
use mathlib.Core.Path.{◌≡◌, refl, sym, ap, ◌∙◌}
use mathlib.Core.List.{List, [], ◌∷◌, ◌++◌, append_assoc}
use native.Mathlib.Nat.{add-zero, pow-succ', mod-eq_of_lt, mod-lt, add-mod_right}
use native.Mathlib.Decide.{dec_lt}
use native.Mathlib.Omega.{arith}
use lib.IntN.{ℤ, pos, negsuc, nat_abs, ◌+ℤ◌, ◌-ℤ◌, -ℤ-+ℤ_cancel}
use lib.Signed.{mag, nat_abs-le}
use lib.ListN.{length, get_or, take, drop, length-drop}
use lib.Seq.{take-nil, take-append-le, drop-append-le, drop-append-add, get_or-drop, drop-drop}
use mir.Syntax.{Width, w16, w32}
use mir.Val.{bits, hbits, to_z, of_z}
use Rattle.std.specs.Int.{to_le_bytes}
use borrow.Rule.Slice.PartMut.{put_mid}
use borrow.Author.Tests.{lt-ltb, le-ltb}
use Rattle.endian.specs.Numbers.{Bytes, little, little_at, digits, signed, unsigned}

-- ---- lists of bytes

pub bytes_cons : (b : ℕ) (bs : List ℕ) → b < 256 → Bytes bs → Bytes (b ∷ bs)
bytes_cons b bs small rest zero = small
bytes_cons b bs small rest (suc place) = rest place

pub bytes_join : (xs ys : List ℕ) → Bytes xs → Bytes ys → Bytes (xs ++ ys)
bytes_join [] ys first second = second
bytes_join (x ∷ xs) ys first second = bytes_cons x (xs ++ ys) (first 0) (bytes_join xs ys (λ place. first (suc place)) second)

pub bytes_first : (xs ys : List ℕ) → Bytes (xs ++ ys) → Bytes xs
bytes_first [] ys both = λ place. omega arith
bytes_first (x ∷ xs) ys both = bytes_cons x xs (both 0) (bytes_first xs ys (λ place. both (suc place)))

pub bytes_second : (xs ys : List ℕ) → Bytes (xs ++ ys) → Bytes ys
bytes_second [] ys both = both
bytes_second (x ∷ xs) ys both = bytes_second xs ys (λ place. both (suc place))

pub bytes_take : (count : ℕ) (bs : List ℕ) → Bytes bs → Bytes (take count bs)
bytes_take zero bs all = λ place. omega arith
bytes_take (suc count) [] all = all
bytes_take (suc count) (b ∷ bs) all = bytes_cons b (take count bs) (all 0) (bytes_take count bs (λ place. all (suc place)))

pub bytes_drop : (count : ℕ) (bs : List ℕ) → Bytes bs → Bytes (drop count bs)
bytes_drop count bs all place = rw get_or-drop (all (count + place))

pub bytes_digits : (width x : ℕ) → Bytes (digits width x)
unfolding digits
bytes_digits zero x = λ place. omega arith
bytes_digits (suc width) x = bytes_cons (x % 256) (digits width (x / 256)) (omega arith) (bytes_digits width (x / 256))

-- ---- numbers to bytes and back

pub length_digits : (width x : ℕ) → length (digits width x) ≡ width
unfolding digits
length_digits zero x = refl
length_digits (suc width) x = ap suc (length_digits width (x / 256))

pub little_digits : (width x : ℕ) → x < 256 ^ width → little (digits width x) ≡ x
unfolding digits little
little_digits zero x small = omega arith
little_digits (suc width) x small =
    let rest : little (digits width (x / 256)) ≡ x / 256 = little_digits width (x / 256) (omega (arith, pow-succ' 256 width)) in
    omega arith

pub digits_little : (bs : List ℕ) → Bytes bs → digits (length bs) (little bs) ≡ bs
unfolding digits little
digits_little [] all = refl
digits_little (b ∷ bs) all =
    let small : b < 256 = all 0 in
    let low : (b + 256 * little bs) % 256 ≡ b = omega arith in
    let high : (b + 256 * little bs) / 256 ≡ little bs = omega arith in
    rw (low, high, digits_little bs (λ place. all (suc place)))

pub little_small : (bs : List ℕ) → Bytes bs → little bs < 256 ^ length bs
unfolding little
little_small [] all = omega arith
little_small (b ∷ bs) all =
    let rest : little bs < 256 ^ length bs = little_small bs (λ place. all (suc place)) in
    omega (arith, pow-succ' 256 (length bs), all 0)

-- ---- a number at a place; what lies past the end counts 0

little_take : (width : ℕ) (bs : List ℕ) → little (take (suc width) bs) ≡ get_or bs 0 0 + 256 * little (take width (drop 1 bs))
unfolding little
little_take width [] = rw take-nil
little_take width (b ∷ bs) = refl

little_at_none : (bs : List ℕ) (place : ℕ) → little_at 0 bs place ≡ 0
unfolding little_at little
little_at_none bs place = refl

-- its lowest byte and the rest
pub little_at_suc : (width : ℕ) (bs : List ℕ) (place : ℕ) → little_at (suc width) bs place ≡ get_or bs place 0 + 256 * little_at width bs (place + 1)
unfolding little_at
little_at_suc width bs place = rw (little_take, get_or-drop, drop-drop, add-zero)

-- two bytes and four
pub little_at_two : (bs : List ℕ) (place : ℕ) → little_at 2 bs place ≡ get_or bs place 0 + 256 * get_or bs (place + 1) 0
little_at_two bs place = omega (arith, little_at_suc 1 bs place, little_at_suc 0 bs (place + 1), little_at_none bs (place + 1 + 1))

pub little_at_four : (bs : List ℕ) (place : ℕ)
    → little_at 4 bs place ≡ get_or bs place 0 + 256 * get_or bs (place + 1) 0 + 65536 * get_or bs (place + 2) 0 + 16777216 * get_or bs (place + 3) 0
little_at_four bs place =
    let third : place + 1 + 1 ≡ place + 2 = omega arith in
    let fourth : place + 2 + 1 ≡ place + 3 = omega arith in
    omega (arith, rw third at (little_at_suc 2 bs (place + 1)), little_at_suc 3 bs place, rw fourth at (little_at_two bs (place + 2)))

pub little_at_small : (width : ℕ) (bs : List ℕ) (place : ℕ) → Bytes bs → little_at width bs place < 256 ^ width
little_at_small zero bs place all = rw little_at_none (omega arith)
little_at_small (suc width) bs place all =
    rw (little_at_suc width bs place, pow-succ') (omega (arith, little_at_small width bs (place + 1) all, all place))

-- of two lists joined: within the first
pub little_at_first : (width : ℕ) (xs ys : List ℕ) (place : ℕ) → place + width ≤ length xs → little_at width (xs ++ ys) place ≡ little_at width xs place
unfolding little_at
little_at_first width xs ys place within =
    let start : place ≤ length xs = omega arith in
    let end : width ≤ length (drop place xs) = simp length-drop (omega arith) in
    rw (drop-append-le, take-append-le)

-- and within the second, whose start is the end of the first
pub little_at_second : (width : ℕ) (xs ys : List ℕ) (place from : ℕ) → place ≡ length xs + from → little_at width (xs ++ ys) place ≡ little_at width ys from
unfolding little_at
little_at_second width xs ys place from here = rw (here, drop-append-add)

-- ---- stored numbers to whole numbers and back

-- a - b of two naturals, by which is larger
minus_less : (a b : ℕ) → a < b → pos a -ℤ pos b ≡ negsuc (b - suc a)
minus_less a zero h = absurd (omega arith)
minus_less a (suc b) h = rw (lt-ltb a (suc b) h)

minus_more : (a b : ℕ) → b ≤ a → pos a -ℤ pos b ≡ pos (a - b)
minus_more a zero h = ap pos (omega arith)
minus_more a (suc b) h = rw (le-ltb a (suc b) h)

-- the lower half stand for themselves
pub signed_low : (half x : ℕ) → x < half → signed half x ≡ pos x
unfolding signed
signed_low half x low = rw (lt-ltb x half low)

-- the upper half stand for the negative numbers
pub signed_high : (half x : ℕ) → half ≤ x → x < 2 * half → signed half x ≡ negsuc (2 * half - suc x)
unfolding signed
signed_high half x high small = rw (le-ltb x half high) (minus_less x (2 * half) small)

-- so there are two cases
by_half : (half x : ℕ) (P : ℤ → Type 0) → x < 2 * half → (x < half → P (pos x)) → (half ≤ x → P (negsuc (2 * half - suc x))) → P (signed half x)
by_half half x P small low high =
    elim (dec_lt x half) [
      | yes below ↦ rw (signed_low half x below) (low below)
      | no above ↦ let half≤x : half ≤ x = omega arith in rw (signed_high half x half≤x small) (high half≤x)
    ]

pub signed_mag : (half x : ℕ) → x < 2 * half → mag (signed half x) < half
signed_mag half x small = by_half half x (λ z. mag z < half) small (λ low. low) (λ high. omega arith)

pub signed_size : (half x : ℕ) → x < 2 * half → nat_abs (signed half x) ≤ half
signed_size half x small = nat_abs-le (signed half x) (signed_mag half x small)

pub unsigned_small : (half : ℕ) (z : ℤ) → mag z < half → unsigned half z < 2 * half
unfolding unsigned
unsigned_small half (pos n) within = omega arith
unsigned_small half (negsuc n) within = omega arith

pub signed_unsigned : (half : ℕ) (z : ℤ) → mag z < half → signed half (unsigned half z) ≡ z
unfolding unsigned
signed_unsigned half (pos n) within = signed_low half n within
signed_unsigned half (negsuc n) within = signed_high half (2 * half - suc n) (omega arith) (omega arith) ∙ ap negsuc (omega arith)

pub unsigned_signed : (half x : ℕ) → x < 2 * half → unsigned half (signed half x) ≡ x
unfolding unsigned
unsigned_signed half x small = by_half half x (λ z. unsigned half z ≡ x) small (λ low. refl) (λ high. omega arith)

-- ---- the same with no comparison, as the code computes them

signed_moved : (half x : ℕ) → x < 2 * half → pos ((x + half) % (2 * half)) -ℤ pos half ≡ signed half x
signed_moved half x small =
    by_half half x (λ z. pos ((x + half) % (2 * half)) -ℤ pos half ≡ z) small
    (λ low.
    let here : x + half < 2 * half = omega arith in
    rw (mod-eq_of_lt here) (minus_more (x + half) half (omega arith) ∙ ap pos (omega arith)))
    (λ high.
    let past : x + half ≡ (x - half) + 2 * half = omega arith in
    let here : x - half < 2 * half = omega arith in
    rw (past, add-mod_right, mod-eq_of_lt here) (minus_less (x - half) half (omega arith) ∙ ap negsuc (omega arith)))

-- so x, read as y, before half is taken off, is the whole number that y stands for lifted by half
pub lifted_read : (half x y : ℕ) → x < 2 * half → x ≡ y
    → let z = pos ((x + half) % (2 * half)) in (z ≡ signed half y +ℤ pos half) × (nat_abs z ≤ 2 * half - 1) × (nat_abs (signed half y) ≤ half)
lifted_read half x y small read =
    let moved : pos ((x + half) % (2 * half)) -ℤ pos half ≡ signed half y = signed_moved half x small ∙ ap (signed half) read in
    let below : (x + half) % (2 * half) < 2 * half = mod-lt (x + half) (omega arith) in
    (sym (-ℤ-+ℤ_cancel (pos ((x + half) % (2 * half))) (pos half)) ∙ ap (λ z. z +ℤ pos half) moved, omega (arith, below), rw (← read) (signed_size half x small))

-- ---- std's words for the same: `to_z w` reads a number of a width's bits as signed, `of_z w` gives the bits

module _ (w : Width) (half : ℕ) (all : 2 ^ bits w ≡ 2 * half) where
  -- so x, read as y, gives the whole number that y stands for
  pub signed_read : (x y : ℕ) (z : ℤ) → 2 ^ hbits w ≡ half → x < 2 * half → x ≡ y → z ≡ to_z w x → (z ≡ signed half y) × (nat_abs z ≤ half)
  signed_read x y z lower small read given =
      let same : to_z w x ≡ signed half x =
      by_half half x (λ z. to_z w x ≡ z) small
      (λ low. rw (lower, lt-ltb x half low) refl)
      (λ high. rw (lower, le-ltb x half high, all) refl) in
      let meant : z ≡ signed half x = given ∙ same in
      (meant ∙ ap (signed half) read, rw meant (signed_size half x small))

  pub unsigned_is : (z : ℤ) → of_z w z ≡ unsigned half z
  unfolding unsigned
  unsigned_is (pos n) = refl
  unsigned_is (negsuc n) = ap (λ k. k - suc n) all

-- two bytes and four, the lowest first
pub two_bytes : (x : ℕ) → to_le_bytes w16 x ≡ digits 2 x
unfolding digits
two_bytes x = refl

pub four_bytes : (x : ℕ) → to_le_bytes w32 x ≡ digits 4 x
unfolding digits
four_bytes x =
    let upper : x / 65536 ≡ x / 256 / 256 = omega arith in
    let highest : x / 16777216 ≡ x / 256 / 256 / 256 = omega arith in
    rw (upper, highest) refl

-- bytes copied to a place
pub put_at : (place wide : ℕ) (room bytes put : List ℕ) → bytes ≡ put
    → put_mid place (place + wide - place) room bytes ≡ take place room ++ put ++ drop (place + wide) room
put_at place wide room bytes put is =
    let k : place + wide - place ≡ wide = omega arith in
    rw (is, k, drop-drop) (sym (append_assoc (take place room) put (drop (place + wide) room)))

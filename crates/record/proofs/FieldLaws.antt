-- Fields both ways: bytes to numbers and back, for one form, for one field and for any row of fields. The two round trips of a
-- record rest on `bytes_of_values` and `values_bytes_of`.
use mathlib.Core.Path.{◌≡◌, refl, ap, ap₂}
use Prim.Native.Nat.{ℕ, zero, suc, ◌+◌, ◌≤◌, ◌<◌, ◌^◌}
use mathlib.Core.Bool.{Bool, true, false, false≢true}
use mathlib.Core.List.{List, [], ◌∷◌, ◌++◌, append_assoc}
use native.Mathlib.Omega.{arith}
use lib.Dec.{T, ltb}
use lib.IntN.{ℤ, pos, negsuc, nat_abs}
use lib.ListN.{length, get_or, take, drop, length-append, length-drop, take-append-drop}
use lib.Seq.{length-take-le, take_at, drop_at, drop-drop}
use lib.Signed.{mag, le_z, non_neg}
use borrow.Author.Tests.{lt-ltb, ltb-true, leb-true}
use Rattle.endian.specs.Numbers.{Bytes, little, unsigned}
use Rattle.endian.proofs.Laws.{bytes_take, bytes_drop, length_digits, little_digits, digits_little, little_small, signed_unsigned, unsigned_small, unsigned_signed}
use Rattle.refusal.proofs.TestLaws.{both_true, true_both}
use Rattle.record.specs.Fields.{Form, u16, i16, i32, width, number, stored, holds, Field, widths, values, bytes_of, in_range}
use Rattle.record.specs.Ranges.{within}

-- ---- one form

pub length_stored : (f : Form) (z : ℤ) → length (stored f z) ≡ width f
unfolding stored width
length_stored u16 z = length_digits 2 (nat_abs z)
length_stored i16 z = length_digits 2 (unsigned 0x8000 z)
length_stored i32 z = length_digits 4 (unsigned 0x8000_0000 z)

-- bytes are what their number is stored as
pub stored_number : (f : Form) (bs : List ℕ) → Bytes bs → length bs ≡ width f → stored f (number f bs) ≡ bs
unfolding stored number width
stored_number u16 bs all long = rw (← long) (digits_little bs all)
stored_number i16 bs all long =
    let small : little bs < 256 ^ 2 = rw long at (little_small bs all) in
    rw (unsigned_signed 0x8000 (little bs) small, ← long) (digits_little bs all)
stored_number i32 bs all long =
    let small : little bs < 256 ^ 4 = rw long at (little_small bs all) in
    rw (unsigned_signed 0x8000_0000 (little bs) small, ← long) (digits_little bs all)

non_neg_pos : (z : ℤ) → non_neg z ≡ true → pos (nat_abs z) ≡ z
non_neg_pos (pos n) h = refl
non_neg_pos (negsuc n) h = cc

-- a number that a form can hold is what it is stored as
pub number_stored : (f : Form) (z : ℤ) → holds f z ≡ true → number f (stored f z) ≡ z
unfolding stored number holds
number_stored u16 z h =
    let t = both_true (non_neg z) (ltb (nat_abs z) 0x1_0000) h in
    rw (little_digits 2 (nat_abs z) (ltb-true (nat_abs z) 0x1_0000 t.1)) (non_neg_pos z t.0)
number_stored i16 z h =
    let inside : mag z < 0x8000 = ltb-true (mag z) 0x8000 h in
    rw (little_digits 2 (unsigned 0x8000 z) (unsigned_small 0x8000 z inside)) (signed_unsigned 0x8000 z inside)
number_stored i32 z h =
    let inside : mag z < 0x8000_0000 = ltb-true (mag z) 0x8000_0000 h in
    rw (little_digits 4 (unsigned 0x8000_0000 z) (unsigned_small 0x8000_0000 z inside)) (signed_unsigned 0x8000_0000 z inside)

-- ---- one field: its form holds every number of its range

pub is_true : (b : Bool) → T b → b ≡ true
is_true true t = refl
is_true false t = absurd t

mag_between : (half : ℕ) (lo z hi : ℤ) → le_z lo z ≡ true → le_z z hi ≡ true → mag lo < half → mag hi < half → mag z < half
mag_between half lo (pos a) (pos b) above below least most = omega (arith, leb-true a b below)
mag_between half lo (pos a) (negsuc b) above below least most = absurd (false≢true below)
mag_between half (pos c) (negsuc a) hi above below least most = absurd (false≢true above)
mag_between half (negsuc c) (negsuc a) hi above below least most = omega (arith, leb-true a c above)

non_neg_above : (lo z : ℤ) → le_z lo z ≡ true → non_neg lo ≡ true → non_neg z ≡ true
non_neg_above lo (pos a) above least = refl
non_neg_above (pos c) (negsuc a) above least = above
non_neg_above (negsuc c) (negsuc a) above least = least

non_neg_below : (z hi : ℤ) → le_z z hi ≡ true → non_neg z ≡ true → nat_abs z ≤ nat_abs hi
non_neg_below (pos a) (pos b) below h = leb-true a b below
non_neg_below (pos a) (negsuc b) below h = absurd (false≢true below)
non_neg_below (negsuc a) hi below h = absurd (false≢true h)

holds_between : (f : Form) (lo z hi : ℤ) → le_z lo z ≡ true → le_z z hi ≡ true → holds f lo ≡ true → holds f hi ≡ true → holds f z ≡ true
unfolding holds
holds_between u16 lo z hi above below least most =
    let h : non_neg z ≡ true = non_neg_above lo z above (both_true (non_neg lo) (ltb (nat_abs lo) 0x1_0000) least).0 in
    let k : nat_abs hi < 0x1_0000 = ltb-true (nat_abs hi) 0x1_0000 (both_true (non_neg hi) (ltb (nat_abs hi) 0x1_0000) most).1 in
    true_both (non_neg z) (ltb (nat_abs z) 0x1_0000) h (lt-ltb (nat_abs z) 0x1_0000 (omega (arith, non_neg_below z hi below h)))
holds_between i16 lo z hi above below least most =
    lt-ltb (mag z) 0x8000 (mag_between 0x8000 lo z hi above below (ltb-true (mag lo) 0x8000 least) (ltb-true (mag hi) 0x8000 most))
holds_between i32 lo z hi above below least most =
    lt-ltb (mag z) 0x8000_0000 (mag_between 0x8000_0000 lo z hi above below (ltb-true (mag lo) 0x8000_0000 least) (ltb-true (mag hi) 0x8000_0000 most))

pub field_holds : (f : Field) (z : ℤ) → within f.range z ≡ true → holds f.form z ≡ true
unfolding within
field_holds f z h =
    let t = both_true (le_z f.range.least z) (le_z z f.range.most) h in
    holds_between f.form f.range.least z f.range.most t.0 t.1
    (is_true (holds f.form f.range.least) f.least_held) (is_true (holds f.form f.range.most) f.most_held)

-- ---- any row of fields

pub length_values : (fs : List Field) (bs : List ℕ) → length (values fs bs) ≡ length fs
unfolding values
length_values [] bs = refl
length_values (f ∷ fs) bs = ap suc (length_values fs (drop (width f.form) bs))

pub length_bytes_of : (fs : List Field) (zs : List ℤ) → length zs ≡ length fs → length (bytes_of fs zs) ≡ widths fs
unfolding bytes_of widths
length_bytes_of [] zs long = refl
length_bytes_of (f ∷ fs) [] long = absurd (omega arith)
length_bytes_of (f ∷ fs) (z ∷ zs) long =
    simp (length-append, length_stored) (ap (λ k. width f.form + k) (length_bytes_of fs zs (omega arith)))

pub widths_append : (fs gs : List Field) → widths (fs ++ gs) ≡ widths fs + widths gs
unfolding widths
widths_append [] gs = omega arith
widths_append (f ∷ fs) gs = rw (widths_append fs gs) (omega arith)

pub bytes_of_append : (fs gs : List Field) (xs ys : List ℤ) → length xs ≡ length fs → bytes_of (fs ++ gs) (xs ++ ys) ≡ bytes_of fs xs ++ bytes_of gs ys
unfolding bytes_of
bytes_of_append [] gs [] ys long = refl
bytes_of_append [] gs (x ∷ xs) ys long = absurd (omega arith)
bytes_of_append (f ∷ fs) gs [] ys long = absurd (omega arith)
bytes_of_append (f ∷ fs) gs (x ∷ xs) ys long = rw (bytes_of_append fs gs xs ys (omega arith), append_assoc)

pub values_append : (fs gs : List Field) (bs : List ℕ) → values (fs ++ gs) bs ≡ values fs bs ++ values gs (drop (widths fs) bs)
unfolding values widths
values_append [] gs bs = refl
values_append (f ∷ fs) gs bs = rw (values_append fs gs (drop (width f.form) bs), drop-drop)

-- bytes to numbers and back
pub bytes_of_values : (fs : List Field) (bs : List ℕ) → Bytes bs → length bs ≡ widths fs → bytes_of fs (values fs bs) ≡ bs
unfolding bytes_of values widths
bytes_of_values [] [] all long = refl
bytes_of_values [] (b ∷ bs) all long = absurd (omega arith)
bytes_of_values (f ∷ fs) bs all long =
    let w = width f.form in
    let here : length (take w bs) ≡ w = length-take-le w bs (omega arith) in
    let rest : length (drop w bs) ≡ widths fs = simp length-drop (omega arith) in
    rw (stored_number f.form (take w bs) (bytes_take w bs all) here, bytes_of_values fs (drop w bs) (bytes_drop w bs all) rest)
    (take-append-drop w bs)

-- numbers in range to bytes and back, whatever follows
pub values_bytes_of : (fs : List Field) (zs : List ℤ) (rest : List ℕ) → length zs ≡ length fs → in_range fs zs ≡ true → values fs (bytes_of fs zs ++ rest) ≡ zs
unfolding bytes_of values in_range
values_bytes_of [] [] rest long fit = refl
values_bytes_of [] (z ∷ zs) rest long fit = absurd (omega arith)
values_bytes_of (f ∷ fs) [] rest long fit = absurd (omega arith)
values_bytes_of (f ∷ fs) (z ∷ zs) rest long fit =
    let t = both_true (within f.range z) (in_range fs zs) fit in
    let here : length (stored f.form z) ≡ width f.form = length_stored f.form z in
    rw (append_assoc, take_at (stored f.form z) (bytes_of fs zs ++ rest) (width f.form) here, drop_at (stored f.form z) (bytes_of fs zs ++ rest) (width f.form) here)
    (ap₂ (λ (x : ℤ) (xs : List ℤ). x ∷ xs) (number_stored f.form z (field_holds f z t.0)) (values_bytes_of fs zs rest (omega arith) t.1))

-- the value at a field: the number that its bytes hold, which stand after those of the fields before it
pub value_at : (fs : List Field) (bs : List ℕ) (i : ℕ) (f : Field) → i < length fs
    → get_or (values fs bs) i (pos 0) ≡ number (get_or fs i f).form (take (width (get_or fs i f).form) (drop (widths (take i fs)) bs))
unfolding values widths
value_at [] bs i f h = absurd (omega arith)
value_at (g ∷ fs) bs zero f h = refl
value_at (g ∷ fs) bs (suc i) f h = rw (← drop-drop (widths (take i fs)) (width g.form) bs) (value_at fs (drop (width g.form) bs) i f (omega arith))

-- values that are in range are so one by one
pub in_range_at : (fs : List Field) (zs : List ℤ) (i : ℕ) (f : Field) → length zs ≡ length fs → in_range fs zs ≡ true → i < length fs
    → within (get_or fs i f).range (get_or zs i (pos 0)) ≡ true
unfolding in_range
in_range_at [] zs i f long fit h = absurd (omega arith)
in_range_at (g ∷ fs) [] i f long fit h = absurd (omega arith)
in_range_at (g ∷ fs) (z ∷ zs) zero f long fit h = (both_true (within g.range z) (in_range fs zs) fit).0
in_range_at (g ∷ fs) (z ∷ zs) (suc i) f long fit h = in_range_at fs zs i f (omega arith) (both_true (within g.range z) (in_range fs zs) fit).1 (omega arith)

-- Runs of u16: `u16s count f` are the bytes of f 0, .. , f (count - 1). What is read from them, one number put in another's place, and
-- that bytes are the run of what is read from them.
use mathlib.Core.Path.{◌≡◌, refl, ap, ◌∙◌}
use Prim.Native.Nat.{ℕ, zero, suc, ◌+◌, ◌*◌, ◌-◌, ◌^◌, ◌≤◌, ◌<◌}
use mathlib.Core.Bool.{cond}
use mathlib.Core.List.{List, [], ◌++◌, append_assoc}
use native.Mathlib.Omega.{arith}
use lib.Dec.{eqb}
use lib.ListN.{length, take, drop, replicate, length-append, length-drop}
use lib.Seq.{take_at, drop_at, drop-drop, take-add, length-take-le}
use borrow.Author.Tests.{eq-eqb, ne_eqb}
use Rattle.endian.specs.Numbers.{Bytes, little_at, digits}
use Rattle.endian.proofs.Laws.{bytes_take, bytes_drop, bytes_join, bytes_digits, length_digits, little_digits, digits_little}

unfoldable pub u16s : ℕ → (ℕ → ℕ) → List ℕ
u16s zero f = []
u16s (suc count) f = digits 2 (f 0) ++ u16s count (λ i. f (suc i))

pub length_u16s : (count : ℕ) (f : ℕ → ℕ) → length (u16s count f) ≡ 2 * count
unfolding u16s
length_u16s zero f = refl
length_u16s (suc count) f = rw (length-append, length_digits 2 (f 0), length_u16s count (λ i. f (suc i))) (omega arith)

pub u16s_same : (count : ℕ) (f g : ℕ → ℕ) → ((i : ℕ) → i < count → f i ≡ g i) → u16s count f ≡ u16s count g
unfolding u16s
u16s_same zero f g h = refl
u16s_same (suc count) f g h = rw (h 0 (omega arith), u16s_same count (λ i. f (suc i)) (λ i. g (suc i)) (λ i below. h (suc i) (omega arith)))

pub u16s_bytes : (count : ℕ) (f : ℕ → ℕ) → Bytes (u16s count f)
unfolding u16s
u16s_bytes zero f place = omega arith
u16s_bytes (suc count) f place = bytes_join (digits 2 (f 0)) (u16s count (λ i. f (suc i))) (bytes_digits 2 (f 0)) (u16s_bytes count (λ i. f (suc i))) place

pub u16s_zeros : (count : ℕ) → u16s count (λ i. 0) ≡ replicate (2 * count) 0
unfolding u16s digits
u16s_zeros zero = refl
u16s_zeros (suc count) = let two : 2 * suc count ≡ suc (suc (2 * count)) = omega arith in rw (two, u16s_zeros count)

-- a run in two parts
pub u16s_parts : (i k : ℕ) (f : ℕ → ℕ) → u16s (i + k) f ≡ u16s i f ++ u16s k (λ j. f (i + j))
unfolding u16s
u16s_parts zero k f = let none : 0 + k ≡ k = omega arith in rw none (u16s_same k f (λ j. f (0 + j)) (λ j below. ap f (omega arith)))
u16s_parts (suc i) k f =
    let more : suc i + k ≡ suc (i + k) = omega arith in
    rw (more, u16s_parts i k (λ j. f (suc j)), append_assoc)
    (ap (λ bs. digits 2 (f 0) ++ (u16s i (λ j. f (suc j)) ++ bs)) (u16s_same k (λ j. f (suc (i + j))) (λ j. f (suc i + j)) (λ j below. ap f (omega arith))))

-- the number at a place of the run
module _ (count : ℕ) (f : ℕ → ℕ) (i : ℕ) (below : i < count) where
  around : u16s count f ≡ u16s i f ++ (digits 2 (f i) ++ u16s (count - suc i) (λ j. f (suc i + j)))
  unfolding u16s
  around =
      let parts : count ≡ i + suc (count - suc i) = omega arith in
      ap (λ k. u16s k f) parts ∙ u16s_parts i (suc (count - suc i)) f
      ∙ rw (u16s_same (count - suc i) (λ j. f (i + suc j)) (λ j. f (suc i + j)) (λ j h. ap f (omega arith))) (ap (λ k. u16s i f ++ (digits 2 (f k) ++ u16s (count - suc i) (λ j. f (suc i + j)))) (omega arith))

  pub u16s_at : (rest : List ℕ) → f i < 65536 → little_at 2 (u16s count f ++ rest) (2 * i) ≡ f i
  unfolding little_at
  u16s_at rest small =
      rw (around, append_assoc, append_assoc, drop_at (u16s i f) _ (2 * i) (length_u16s i f), take_at (digits 2 (f i)) _ 2 (length_digits 2 (f i)))
      (little_digits 2 (f i) small)

-- ---- one number put in another's place

-- bytes put over others, after some and before some
pub put_over : (a d b e : List ℕ) (place wide : ℕ) → length a ≡ place → length d ≡ wide
    → take place (a ++ (d ++ b)) ++ e ++ drop (place + wide) (a ++ (d ++ b)) ≡ a ++ (e ++ b)
put_over a d b e place wide before long =
    rw (take_at a (d ++ b) place before, ← drop-drop wide place (a ++ (d ++ b)), drop_at a (d ++ b) place before, drop_at d b wide long) (append_assoc a e b)

-- a run between others, opened at a place
opened : (h t : List ℕ) (count : ℕ) (f : ℕ → ℕ) (i : ℕ) → i < count
    → h ++ (u16s count f ++ t) ≡ (h ++ u16s i f) ++ (digits 2 (f i) ++ (u16s (count - suc i) (λ j. f (suc i + j)) ++ t))
opened h t count f i below = rw (around count f i below, append_assoc, append_assoc, append_assoc)

-- the run with x at a place
pub u16s_put : (h t : List ℕ) (count : ℕ) (f : ℕ → ℕ) (i x place : ℕ) → i < count → length h + 2 * i ≡ place
    → take place (h ++ (u16s count f ++ t)) ++ digits 2 x ++ drop (place + 2) (h ++ (u16s count f ++ t))
    ≡ h ++ (u16s count (λ j. cond (eqb i j) x (f j)) ++ t)
u16s_put h t count f i x place below is =
    let g : ℕ → ℕ = λ j. cond (eqb i j) x (f j) in
    let first : u16s i g ≡ u16s i f = u16s_same i g f (λ j early. rw (ne_eqb i j (λ e. omega arith))) in
    let last : u16s (count - suc i) (λ j. g (suc i + j)) ≡ u16s (count - suc i) (λ j. f (suc i + j))
    = u16s_same (count - suc i) (λ j. g (suc i + j)) (λ j. f (suc i + j)) (λ j late. rw (ne_eqb i (suc i + j) (λ e. omega arith))) in
    let here : g i ≡ x = rw (eq-eqb i i refl) in
    let long : length (h ++ u16s i f) ≡ place = rw (length-append, length_u16s) is in
    rw (opened h t count f i below, opened h t count g i below, first, last, here)
    (put_over (h ++ u16s i f) (digits 2 (f i)) (u16s (count - suc i) (λ j. f (suc i + j)) ++ t) (digits 2 x) place 2 long (length_digits 2 (f i)))

-- ---- bytes are the run of what is read from them

pub number_read : (wide : ℕ) (bytes : List ℕ) (place : ℕ) → Bytes bytes → place + wide ≤ length bytes
    → digits wide (little_at wide bytes place) ≡ take wide (drop place bytes)
unfolding little_at
number_read wide bytes place all inside =
    let long : length (take wide (drop place bytes)) ≡ wide = length-take-le wide (drop place bytes) (rw length-drop (omega arith)) in
    rw long at (digits_little (take wide (drop place bytes)) (bytes_take wide (drop place bytes) (bytes_drop place bytes all)))

pub u16s_read : (count : ℕ) (bytes : List ℕ) (place : ℕ) → Bytes bytes → place + 2 * count ≤ length bytes
    → u16s count (λ i. little_at 2 bytes (place + 2 * i)) ≡ take (2 * count) (drop place bytes)
unfolding u16s
u16s_read zero bytes place all inside = refl
u16s_read (suc count) bytes place all inside =
    let here : place + 2 * 0 ≡ place = omega arith in
    let two : 2 * suc count ≡ 2 + 2 * count = omega arith in
    let later : u16s count (λ i. little_at 2 bytes (place + 2 * suc i)) ≡ u16s count (λ i. little_at 2 bytes (place + 2 + 2 * i))
    = u16s_same count (λ i. little_at 2 bytes (place + 2 * suc i)) (λ i. little_at 2 bytes (place + 2 + 2 * i)) (λ i below. ap (little_at 2 bytes) (omega arith)) in
    rw (here, later, two, take-add 2 (2 * count) (drop place bytes), number_read 2 bytes place all (omega arith), drop-drop 2 place bytes, u16s_read count bytes (place + 2) all (omega arith))

-- ---- a number after some bytes

pub number_there : (wide : ℕ) (front rest : List ℕ) (x place : ℕ) → length front ≡ place → x < 256 ^ wide
    → little_at wide (front ++ (digits wide x ++ rest)) place ≡ x
unfolding little_at
number_there wide front rest x place before small =
    rw (drop_at front (digits wide x ++ rest) place before, take_at (digits wide x) rest wide (length_digits wide x)) (little_digits wide x small)

-- Bytes that are put together from parts: a part stands at a place (`Stands`), a part of a part stands at the sum of the places, and of the bytes of
-- a list's members each stands behind the sum of the lengths before it. What stands at a place is read there, a number or a row of fields.
use mathlib.Core.Path.{◌≡◌, refl, sym, ap, ◌∙◌}
use Prim.Native.Nat.{ℕ, zero, suc, ◌+◌, ◌*◌, ◌<◌, ◌^◌}
use mathlib.Core.Bool.{true}
use mathlib.Core.List.{List, [], ◌∷◌, ◌++◌, append_assoc, append-nil}
use native.Mathlib.Omega.{arith}
use lib.IntN.{ℤ, pos}
use lib.ListN.{length, get_or, take, drop, replicate, length-append}
use lib.Seq.{take_at, drop_at}
use Rattle.endian.specs.Numbers.{little, little_at, digits}
use Rattle.endian.proofs.Laws.{length_digits, little_digits}
use Rattle.refusal.specs.Places.{Throughout}
use Rattle.record.specs.Contents.{ListIn}
use Rattle.record.specs.Fields.{u16, width, number, stored, Field, values, bytes_of, in_range}
use Rattle.record.specs.Ranges.{within}
use Rattle.record.proofs.FieldLaws.{length_stored, number_stored, field_holds, length_bytes_of, values_bytes_of}
use Rattle.record.proofs.FittingValues.{Fit, fit_same}
use Rattle.record.proofs.Lengths.{widths_replicate}
use Rattle.record_fields.specs.Runs.{field_number_at}
use Rattle.record_paths.specs.PathFields.{numbers_at, sum_of}
use Rattle.whole.specs.Sums.{tabulate}
use Rattle.verdict_paths.specs.PathValues.{joined}
use Rattle.verdict_paths.proofs.FieldsAtPlaces.{FitsAt, none_fit, first_and}

-- ---- a part at a place

pub record Stands (bytes : List ℕ) (place : ℕ) (part : List ℕ) : Type 0 where
  pub before : List ℕ
  pub after : List ℕ
  pub is : bytes ≡ before ++ (part ++ after)
  pub there : length before ≡ place

pub stands_whole : (bytes : List ℕ) → Stands bytes 0 bytes
stands_whole bytes = record { before = []; after = []; is = sym (append-nil bytes); there = refl }

-- a part of a part
pub stands_within : {bytes part inner : List ℕ} {place from : ℕ} → Stands bytes place part → Stands part from inner → Stands bytes (place + from) inner
stands_within {bytes} {part} {inner} {place} {from} s t =
    record {
      before = s.before ++ t.before;
      after = t.after ++ s.after;
      is = s.is ∙ ap (λ l. s.before ++ (l ++ s.after)) t.is ∙ simp append_assoc;
      there = length-append s.before t.before ∙ rw (s.there, t.there);
    }

-- two parts
pub stands_first : (xs ys : List ℕ) → Stands (xs ++ ys) 0 xs
stands_first xs ys = record { before = []; after = ys; is = refl; there = refl }

pub stands_second : (xs ys : List ℕ) → Stands (xs ++ ys) (length xs) ys
stands_second xs ys = record { before = xs; after = []; is = ap (λ l. xs ++ l) (sym (append-nil ys)); there = refl }

pub stands_apart : {bytes : List ℕ} {place : ℕ} (size : ℕ) (xs ys : List ℕ) → length xs ≡ size → Stands bytes place (xs ++ ys)
    → Stands bytes place xs × Stands bytes (place + size) ys
stands_apart {bytes} {place} size xs ys e s =
    let same : place + 0 ≡ place = omega arith in
    (rw same at (stands_within s (stands_first xs ys)), rw e at (stands_within s (stands_second xs ys)))

-- ---- sums over the members of a list

pub sum_first : (count : ℕ) (f : ℕ → ℕ) → sum_of (suc count) f ≡ f 0 + sum_of count (λ i. f (suc i))
unfolding sum_of
sum_first zero f = omega arith
sum_first (suc count) f = omega (arith, sum_first count f)

pub sum_same : (count : ℕ) (f g : ℕ → ℕ) → Throughout count (λ i. f i ≡ g i) → sum_of count f ≡ sum_of count g
unfolding sum_of
sum_same zero f g h = refl
sum_same (suc count) f g h = rw (sum_same count f g (λ i below. h i (omega arith)), h count (omega arith))

pub sum_times : (count k : ℕ) (f : ℕ → ℕ) → sum_of count (λ i. f i * k) ≡ sum_of count f * k
unfolding sum_of
sum_times zero k f = omega arith
sum_times (suc count) k f = omega (arith, sum_times count k f)

pub sum_alike : (count k : ℕ) → sum_of count (λ i. k) ≡ count * k
unfolding sum_of
sum_alike zero k = omega arith
sum_alike (suc count) k = omega (arith, sum_alike count k)

-- ---- the bytes of each one of a list

module _ {B : Type 0} (bytes : B → List ℕ) where
  pub length_joined : (bs : List B) (d : B) → length (joined bytes bs) ≡ sum_of (length bs) (λ i. length (bytes (get_or bs i d)))
  unfolding joined sum_of
  length_joined [] d = refl
  length_joined (b ∷ bs) d =
      length-append (bytes b) (joined bytes bs) ∙ ap (λ k. length (bytes b) + k) (length_joined bs d)
      ∙ sym (sum_first (length bs) (λ i. length (bytes (get_or (b ∷ bs) i d))))

  pub joined_at : (bs : List B) (d : B) (j : ℕ) → j < length bs
      → Stands (joined bytes bs) (sum_of j (λ i. length (bytes (get_or bs i d)))) (bytes (get_or bs j d))
  unfolding joined sum_of
  joined_at [] d j below = absurd (omega arith)
  joined_at (b ∷ bs) d zero below = stands_first (bytes b) (joined bytes bs)
  joined_at (b ∷ bs) d (suc j) below =
      rw (sum_first j (λ i. length (bytes (get_or (b ∷ bs) i d))))
      (stands_within (stands_second (bytes b) (joined bytes bs)) (joined_at bs d j (omega arith)))

-- a list by what stands at each place
pub tabulate_back : {B : Type 0} (count : ℕ) (f : ℕ → B) (bs : List B) (d : B) → length bs ≡ count → Throughout count (λ j. f j ≡ get_or bs j d)
    → tabulate count f ≡ bs
unfolding tabulate
tabulate_back zero f [] d e h = refl
tabulate_back zero f (b ∷ bs) d e h = absurd (omega arith)
tabulate_back (suc count) f [] d e h = absurd (omega arith)
tabulate_back (suc count) f (b ∷ bs) d e h =
    rw (h 0 (omega arith), tabulate_back count (λ j. f (suc j)) bs d (omega arith) (λ j below. h (suc j) (omega arith)))

-- ---- what is read

module _ {bytes : List ℕ} {place : ℕ} where
  read_on : {part : List ℕ} (s : Stands bytes place part) → drop place bytes ≡ part ++ s.after
  read_on {part} s = ap (drop place) s.is ∙ drop_at s.before (part ++ s.after) place s.there

  -- a number of so many bytes
  pub number_read : (size x : ℕ) → x < 256 ^ size → Stands bytes place (digits size x) → little_at size bytes place ≡ x
  unfolding little_at
  number_read size x small s =
      ap little (ap (take size) (read_on s) ∙ take_at (digits size x) s.after size (length_digits size x)) ∙ little_digits size x small

  -- fields
  pub fields_read : (fs : List Field) (zs : List ℤ) → Fit fs zs → Stands bytes place (bytes_of fs zs) → values fs (drop place bytes) ≡ zs
  fields_read fs zs fit s = ap (values fs) (read_on s) ∙ values_bytes_of fs zs s.after fit.counted fit.ranged

  pub fields_fit_there : (fs : List Field) (zs : List ℤ) → Fit fs zs → Stands bytes place (bytes_of fs zs) → FitsAt fs bytes place
  fields_fit_there fs zs fit s = ap (in_range fs) (fields_read fs zs fit s) ∙ fit.ranged

  -- one field
  pub field_read : (f : Field) (z : ℤ) → within f.range z ≡ true → Stands bytes place (stored f.form z) → field_number_at f bytes place ≡ z
  unfolding field_number_at
  field_read f z fit s =
      ap (number f.form) (ap (take (width f.form)) (read_on s) ∙ take_at (stored f.form z) s.after (width f.form) (length_stored f.form z))
      ∙ number_stored f.form z (field_holds f z fit)

-- ---- a run of one field: the bytes it takes, what is read of it, and that every number is in range

module _ (f : Field) (count : ℕ) (zs : List ℤ) (l : ListIn f.range count zs) where
  run_fits : Fit (replicate (length zs) f) zs
  run_fits = fit_same f (length zs) zs (record { counted = refl; each = l.each })

  pub run_long : length (bytes_of (replicate (length zs) f) zs) ≡ count * width f.form
  run_long =
      length_bytes_of (replicate (length zs) f) zs run_fits.counted ∙ widths_replicate (length zs) f ∙ ap (λ k. k * width f.form) l.counted

  pub run_there : {bytes : List ℕ} {place : ℕ} → Stands bytes place (bytes_of (replicate (length zs) f) zs)
      → (numbers_at f count bytes place ≡ zs) × FitsAt (replicate count f) bytes place
  unfolding numbers_at
  run_there s = rw (← l.counted) (fields_read (replicate (length zs) f) zs run_fits s, fields_fit_there (replicate (length zs) f) zs run_fits s)

-- ---- counts

pub count_number : (bytes : List ℕ) (f : Field) (place : ℕ) → f.form ≡ u16 → field_number_at f bytes place ≡ pos (little_at 2 bytes place)
unfolding field_number_at number width little_at
count_number bytes f place form = rw form

-- one, and a run of them
pub count_fits : (bytes : List ℕ) (f : Field) (fs : List Field) (place k : ℕ) → f.form ≡ u16 → little_at 2 bytes place ≡ k
    → within f.range (pos k) ≡ true → FitsAt fs bytes (place + 2) → FitsAt (f ∷ fs) bytes place
unfolding width
count_fits bytes f fs place k form is fit rest =
    first_and bytes f fs place (rw (count_number bytes f place form, is) fit) (rw form rest)

pub counts_fit : (bytes : List ℕ) (f : Field) (count place : ℕ) → f.form ≡ u16
    → Throughout count (λ j. within f.range (pos (little_at 2 bytes (place + 2 * j))) ≡ true) → FitsAt (replicate count f) bytes place
counts_fit bytes f zero place form h = none_fit bytes place
counts_fit bytes f (suc count) place form h =
    let here : place + 2 * 0 ≡ place = omega arith in
    count_fits bytes f (replicate count f) place _ form refl (rw here at (h 0 (omega arith)))
    (counts_fit bytes f count (place + 2) form (λ j below. rw (next j) (h (suc j) (omega arith))))
  where
    next : (j : ℕ) → place + 2 + 2 * j ≡ place + 2 * suc j
    next j = omega arith

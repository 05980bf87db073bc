-- Values as bytes: of one form, as a run stores them; and of fields in two parts.
use mathlib.Core.Path.{◌≡◌, refl, sym, ap, ◌∙◌}
use Prim.Native.Nat.{ℕ, zero, suc, ◌+◌, ◌*◌, ◌-◌, ◌≤◌, ◌<◌}
use mathlib.Core.Bool.{true}
use mathlib.Core.List.{List, [], ◌∷◌, ◌++◌, append_assoc, append-nil}
use native.Mathlib.Nat.{suc-add, suc-mul, mul-le-mul_right}
use native.Mathlib.Omega.{arith}
use lib.IntN.{ℤ, pos}
use lib.ListN.{length, take, drop, get_or, replicate, length-append, length-drop, length-replicate}
use lib.Seq.{sets, sets-eq, drop-drop, get_or-drop}
use Rattle.refusal.proofs.TestLaws.{both_true, true_both}
use Rattle.record.specs.Fields.{Form, width, stored, holds, Field, widths, bytes_of, in_range}
use Rattle.record.specs.Layouts.{row, rows_of}
use Rattle.record.specs.Ranges.{within}
use Rattle.record.proofs.FieldLaws.{length_stored, field_holds}
use Rattle.record.proofs.Lengths.{widths_rows}
use Rattle.record_fields.specs.Runs.{linear, stores, all_held}
use Rattle.record_fields.proofs.Copies.{sets_append, sets_both}
use Rattle.record_fields.proofs.Forms.{Formed, formed_replicate}
use Rattle.record_fields.proofs.BodyParts.{row_is, rows_add, rows_more, length_row, length_rows}

-- ---- one form

pub bytes_formed : (form : Form) (fs : List Field) (count : ℕ) (zs : List ℤ) → Formed form fs → length fs ≡ count → stores form count zs ≡ bytes_of fs zs
unfolding stores bytes_of
bytes_formed form [] zero zs h long = refl
bytes_formed form [] (suc count) zs h long = absurd (omega arith)
bytes_formed form (f ∷ fs) zero zs h long = absurd (omega arith)
bytes_formed form (f ∷ fs) (suc count) [] h long = refl
bytes_formed form (f ∷ fs) (suc count) (z ∷ zs) h long = rw h.0 (ap (λ bs. stored form z ++ bs) (bytes_formed form fs count zs h.1 (omega arith)))

pub held_formed : (form : Form) (fs : List Field) (count : ℕ) (zs : List ℤ) → Formed form fs → length fs ≡ count → in_range fs zs ≡ true → all_held form count zs ≡ true
unfolding all_held in_range
held_formed form fs zero zs h long fit = refl
held_formed form [] (suc count) zs h long fit = absurd (omega arith)
held_formed form (f ∷ fs) (suc count) [] h long fit = refl
held_formed form (f ∷ fs) (suc count) (z ∷ zs) h long fit =
    let both = both_true (within f.range z) (in_range fs zs) fit in
    true_both (holds form z) (all_held form count zs) (rw h.0 at (field_holds f z both.0)) (held_formed form fs count zs h.1 (omega arith) both.1)

-- a run of one field
pub bytes_run : (form : Form) (f : Field) (count : ℕ) (zs : List ℤ) → f.form ≡ form → stores form count zs ≡ bytes_of (replicate count f) zs
bytes_run form f count zs h = bytes_formed form (replicate count f) count zs (formed_replicate form f count h) (length-replicate count f)

pub held_run : (form : Form) (f : Field) (count : ℕ) (zs : List ℤ) → f.form ≡ form → in_range (replicate count f) zs ≡ true → all_held form count zs ≡ true
held_run form f count zs h fit = held_formed form (replicate count f) count zs (formed_replicate form f count h) (length-replicate count f) fit

-- ---- fields in two parts

pub bytes_of_split : (fs gs : List Field) (zs : List ℤ) → length fs ≤ length zs → bytes_of (fs ++ gs) zs ≡ bytes_of fs zs ++ bytes_of gs (drop (length fs) zs)
unfolding bytes_of
bytes_of_split [] gs zs long = refl
bytes_of_split (f ∷ fs) gs [] long = absurd (omega arith)
bytes_of_split (f ∷ fs) gs (z ∷ zs) long = rw (bytes_of_split fs gs zs (omega arith), append_assoc)

pub in_range_split : (fs gs : List Field) (zs : List ℤ) → length fs ≤ length zs → in_range (fs ++ gs) zs ≡ true
    → (in_range fs zs ≡ true) × (in_range gs (drop (length fs) zs) ≡ true)
unfolding in_range
in_range_split [] gs zs long fit = (refl, fit)
in_range_split (f ∷ fs) gs [] long fit = absurd (omega arith)
in_range_split (f ∷ fs) gs (z ∷ zs) long fit =
    let both = both_true (within f.range z) (in_range (fs ++ gs) zs) fit in
    let rest = in_range_split fs gs zs (omega arith) both.1 in
    (true_both (within f.range z) (in_range fs zs) both.0 rest.0, rest.1)

-- ---- one value more of a run, from an index of a list on

-- a form that holds each value of a run holds one of them
pub held_at : (form : Form) (count : ℕ) (zs : List ℤ) (k : ℕ) → k < count → k < length zs → all_held form count zs ≡ true → holds form (get_or zs k (pos 0)) ≡ true
unfolding all_held
held_at form zero zs k within there h = absurd (omega arith)
held_at form (suc count) [] k within there h = absurd (omega arith)
held_at form (suc count) (z ∷ zs) zero within there h = (both_true (holds form z) (all_held form count zs) h).0
held_at form (suc count) (z ∷ zs) (suc k) within there h = held_at form count zs k (omega arith) (omega arith) (both_true (holds form z) (all_held form count zs) h).1

pub stores_more : (form : Form) (k : ℕ) (zs : List ℤ) → k < length zs → stores form (k + 1) zs ≡ stores form k zs ++ stored form (get_or zs k (pos 0))
unfolding stores
stores_more form k [] there = absurd (omega arith)
stores_more form zero (z ∷ zs) there = append-nil (stored form z)
stores_more form (suc k) (z ∷ zs) there = rw (suc-add k 1, append_assoc, stores_more form k zs (omega arith)) refl

pub length_stores : (form : Form) (k : ℕ) (zs : List ℤ) → k ≤ length zs → length (stores form k zs) ≡ k * width form
unfolding stores
length_stores form zero zs there = omega arith
length_stores form (suc k) [] there = absurd (omega arith)
length_stores form (suc k) (z ∷ zs) there = rw (length-append, length_stored form z, length_stores form k zs (omega arith), suc-mul) (omega arith)

module _ (form : Form) (wide k : ℕ) (zs : List ℤ) (index count place : ℕ) (room now : List ℕ) (sized : width form ≡ wide) (within : k < count) (there : index + count ≤ length zs) where
  pub value_held : all_held form count (drop index zs) ≡ true → holds form (get_or zs (index + k) (pos 0)) ≡ true
  value_held h =
      let here : k < length (drop index zs) = rw length-drop (omega arith) in
      rw get_or-drop at (held_at form count (drop index zs) k within here h)

  pub write_more : {last : List ℕ} → now ≡ sets room place (stores form k (drop index zs)) → last ≡ sets now (place + k * wide) (stored form (get_or zs (index + k) (pos 0)))
      → last ≡ sets room place (stores form (k + 1) (drop index zs))
  write_more so_far put =
      let here : k < length (drop index zs) = rw length-drop (omega arith) in
      let long : length (stores form k (drop index zs)) ≡ k * wide = length_stores form k (drop index zs) (omega arith) ∙ ap (λ w. k * w) sized in
      rw (stores_more form k (drop index zs) here, get_or-drop)
      (sets_both room place (place + k * wide) (stores form k (drop index zs)) (stored form (get_or zs (index + k) (pos 0))) so_far put (ap (λ w. place + w) (sym long)))

-- bytes put at a place
pub put_is : (room bytes : List ℕ) (place wide : ℕ) → length bytes ≡ wide → place + wide ≤ length room → take place room ++ bytes ++ drop (place + wide) room ≡ sets room place bytes
put_is room bytes place wide long fits = rw (← long) (sym (sets-eq bytes room place (omega arith)))

-- ---- parts, one after another

pub length_bytes : (fs : List Field) (zs : List ℤ) → length fs ≤ length zs → length (bytes_of fs zs) ≡ widths fs
unfolding bytes_of widths
length_bytes [] zs long = refl
length_bytes (f ∷ fs) [] long = absurd (omega arith)
length_bytes (f ∷ fs) (z ∷ zs) long = rw (length-append, length_stored f.form z, length_bytes fs zs (omega arith))

module _ (fs gs : List Field) (zs : List ℤ) (index next : ℕ) (from : next ≡ index + length fs) (there : index + length fs ≤ length zs) where
  enough : length fs ≤ length (drop index zs)
  enough = rw length-drop (omega arith)

  rest_is : drop (length fs) (drop index zs) ≡ drop next zs
  rest_is = drop-drop (length fs) index zs ∙ ap (λ k. drop k zs) (sym from)

  -- the second part's values are in range from where the first part's end
  pub in_range_both : in_range (fs ++ gs) (drop index zs) ≡ true → (in_range fs (drop index zs) ≡ true) × (in_range gs (drop next zs) ≡ true)
  in_range_both h =
      let both = in_range_split fs gs (drop index zs) enough h in
      (both.0, rw rest_is at both.1)

  -- and its bytes go where the first part's end
  pub write_both : (place next_place : ℕ) (room then : List ℕ) {last : List ℕ} → next_place ≡ place + widths fs
      → then ≡ sets room place (bytes_of fs (drop index zs)) → last ≡ sets then next_place (bytes_of gs (drop next zs))
      → last ≡ sets room place (bytes_of (fs ++ gs) (drop index zs))
  write_both place next_place room then place_is first second =
      second
      ∙ rw (first, place_is, ← length_bytes fs (drop index zs) enough, bytes_of_split fs gs (drop index zs) enough, rest_is)
      (sym (sets_append room place (bytes_of fs (drop index zs)) (bytes_of gs (drop next zs))))

-- ---- rows stored one after another

module _ (n k : ℕ) (zs : List ℤ) (index count : ℕ) (within : k < count) (there : index + count * (2 * n + 1) ≤ length zs) where
  row_there : index + k * (2 * n + 1) + (2 * n + 1) ≤ length zs
  row_there = let more : (k + 1) * (2 * n + 1) ≤ count * (2 * n + 1) = mul-le-mul_right (2 * n + 1) (omega arith) in omega (arith, more)

  rows_there : index + length (rows_of n k) ≤ length zs
  rows_there = omega (arith, length_rows n k, row_there)

  next_row : index + k * (2 * n + 1) ≡ index + length (rows_of n k)
  next_row = omega (arith, length_rows n k)

  pub row_fits : in_range (rows_of n count) (drop index zs) ≡ true → in_range (linear (2 * n)) (drop (index + k * (2 * n + 1)) zs) ≡ true
  unfolding rows_of
  row_fits h =
      let next = index + k * (2 * n + 1) in
      let split : count ≡ k + suc (count - suc k) = omega arith in
      let last = in_range_both (rows_of n k) (rows_of n (suc (count - suc k))) zs index next next_row rows_there (rw (split, rows_add n k (suc (count - suc k))) at h) in
      rw row_is at (in_range_both (row n) (rows_of n (count - suc k)) zs next (next + length (row n)) refl (omega (arith, length_row n, row_there)) last.1).0

  pub write_row : (place : ℕ) (room now : List ℕ) {last : List ℕ}
      → now ≡ sets room place (bytes_of (rows_of n k) (drop index zs))
      → last ≡ sets now (place + k * (4 * n + 4)) (bytes_of (linear (2 * n)) (drop (index + k * (2 * n + 1)) zs))
      → last ≡ sets room place (bytes_of (rows_of n (k + 1)) (drop index zs))
  write_row place room now so_far put =
      rw (rows_more n k, row_is n)
      (write_both (rows_of n k) (linear (2 * n)) zs index (index + k * (2 * n + 1)) next_row rows_there place (place + k * (4 * n + 4)) room now
      (ap (λ w. place + w) (sym (widths_rows n k))) so_far put)

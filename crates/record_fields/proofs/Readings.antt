-- Fields that are read part after part, numbers that are read one by one, and rows, are read as a whole.
use mathlib.Core.Path.{◌≡◌, refl, sym, ap, ◌∙◌}
use Prim.Native.Nat.{ℕ, zero, suc, ◌+◌, ◌*◌}
use mathlib.Core.List.{List, [], ◌∷◌, ◌++◌}
use native.Mathlib.Nat.{suc-add, zero-mul, suc-mul, add_comm}
use lib.IntN.{ℤ}
use lib.ListN.{length, take, drop, set}
use lib.Seq.{sets, drop-drop}
use Rattle.record.specs.Fields.{Form, width, number, Field, widths, values}
use Rattle.record.specs.Layouts.{rows_of}
use Rattle.record.proofs.FieldLaws.{length_values, values_append}
use Rattle.record.proofs.Lengths.{widths_rows}
use Rattle.record_fields.specs.Runs.{linear, numbers}
use Rattle.record_fields.proofs.BodyParts.{row_is, rows_more, length_rows}
use Rattle.record_fields.proofs.Copies.{sets_append}

-- two parts, the second from where the first ends
pub read_both : (fs gs : List Field) (bytes : List ℕ) (place next_place index next : ℕ) (lent then : List ℤ) {last : List ℤ}
    → next_place ≡ place + widths fs → next ≡ index + length fs
    → then ≡ sets lent index (values fs (drop place bytes)) → last ≡ sets then next (values gs (drop next_place bytes))
    → last ≡ sets lent index (values (fs ++ gs) (drop place bytes))
read_both fs gs bytes place next_place index next lent then place_is index_is first second =
    second
    ∙ rw (first, place_is, index_is, values_append, ← length_values fs (drop place bytes), drop-drop)
    (sym (sets_append lent index (values fs (drop place bytes)) (values gs (drop (place + widths fs) bytes))))

-- one number more of a run
pub numbers_more : (form : Form) (k : ℕ) (bytes : List ℕ) → numbers form (k + 1) bytes ≡ numbers form k bytes ++ (number form (take (width form) (drop (k * width form) bytes)) ∷ [])
unfolding numbers
numbers_more form zero bytes = rw zero-mul refl
numbers_more form (suc k) bytes = rw (suc-add k 1, suc-mul, numbers_more form k (drop (width form) bytes), drop-drop, add_comm (width form) (k * width form)) refl

pub length_numbers : (form : Form) (k : ℕ) (bytes : List ℕ) → length (numbers form k bytes) ≡ k
unfolding numbers
length_numbers form zero bytes = refl
length_numbers form (suc k) bytes = ap suc (length_numbers form k (drop (width form) bytes))

pub read_more : (form : Form) (wide k : ℕ) (bytes : List ℕ) (place index : ℕ) (room now : List ℤ) (z : ℤ) → width form ≡ wide
    → now ≡ sets room index (numbers form k (drop place bytes)) → z ≡ number form (take wide (drop (place + k * wide) bytes))
    → set now (index + k) z ≡ sets room index (numbers form (k + 1) (drop place bytes))
read_more form wide k bytes place index room now z sized so_far read =
    rw (numbers_more form k (drop place bytes), sets_append room index (numbers form k (drop place bytes)), length_numbers form k (drop place bytes), ← so_far, drop-drop, sized, ← read) refl

-- one row more
pub read_row : (n k : ℕ) (bytes : List ℕ) (place index : ℕ) (room now : List ℤ) {last : List ℤ}
    → now ≡ sets room index (values (rows_of n k) (drop place bytes)) → last ≡ sets now (index + k * (2 * n + 1)) (values (linear (2 * n)) (drop (place + k * (4 * n + 4)) bytes))
    → last ≡ sets room index (values (rows_of n (k + 1)) (drop place bytes))
read_row n k bytes place index room now so_far row_read =
    rw (rows_more n k, row_is n)
    (read_both (rows_of n k) (linear (2 * n)) bytes place (place + k * (4 * n + 4)) index (index + k * (2 * n + 1)) room now
    (ap (λ w. place + w) (sym (widths_rows n k))) (ap (λ w. index + w) (sym (length_rows n k))) so_far row_read)

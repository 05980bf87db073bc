-- Fields of one form: the numbers that bytes hold under them depend on the form alone.
use mathlib.Core.Path.{◌≡◌, refl, ap}
use Prim.Native.Nat.{ℕ, zero, suc, ◌+◌, ◌*◌}
use mathlib.Core.List.{List, [], ◌∷◌, ◌++◌}
use native.Mathlib.Omega.{arith}
use lib.ListN.{length, take, drop, replicate, length-append, length-replicate}
use Rattle.record.specs.Fields.{Form, u16, width, number, Field, values}
use Rattle.record.specs.Layouts.{multiplier, scale}
use Rattle.record_fields.specs.Runs.{weights, numbers}

-- every field is of a form
abbrev pub Formed : Form → List Field → Type 0
Formed form [] = Unit {0}
Formed form (f ∷ fs) = (f.form ≡ form) × Formed form fs

pub formed_replicate : (form : Form) (f : Field) (count : ℕ) → f.form ≡ form → Formed form (replicate count f)
formed_replicate form f zero h = tt
formed_replicate form f (suc count) h = (h, formed_replicate form f count h)

pub formed_append : (form : Form) (fs gs : List Field) → Formed form fs → Formed form gs → Formed form (fs ++ gs)
formed_append form [] gs h k = k
formed_append form (f ∷ fs) gs h k = (h.0, formed_append form fs gs h.1 k)

pub values_formed : (form : Form) (fs : List Field) (count : ℕ) (bytes : List ℕ) → Formed form fs → length fs ≡ count → numbers form count bytes ≡ values fs bytes
unfolding values numbers
values_formed form [] zero bytes h long = refl
values_formed form [] (suc count) bytes h long = absurd (omega arith)
values_formed form (f ∷ fs) zero bytes h long = absurd (omega arith)
values_formed form (f ∷ fs) (suc count) bytes h long =
    rw h.0 (ap (λ zs. number form (take (width form) bytes) ∷ zs) (values_formed form fs count (drop (width form) bytes) h.1 (omega arith)))

-- a run of one field
pub values_run : (form : Form) (f : Field) (count : ℕ) (bytes : List ℕ) → f.form ≡ form → numbers form count bytes ≡ values (replicate count f) bytes
values_run form f count bytes h = values_formed form (replicate count f) count bytes (formed_replicate form f count h) (length-replicate count f)

-- a lasso's weights
pub weights_formed : (ms m : ℕ) → Formed u16 (weights ms ++ weights (3 * m + 3))
unfolding weights scale multiplier
weights_formed ms m =
    let some : (count : ℕ) → Formed u16 (weights count) = λ count. (refl, formed_replicate u16 multiplier count refl) in
    formed_append u16 (weights ms) (weights (3 * m + 3)) (some ms) (some (3 * m + 3))

pub weights_count : (ms m : ℕ) → length (weights ms ++ weights (3 * m + 3)) ≡ ms + 3 * m + 5
unfolding weights
weights_count ms m = rw length-append (omega (arith, length-replicate ms multiplier, length-replicate (3 * m + 3) multiplier))

pub weights_numbers : (ms m : ℕ) (bytes : List ℕ) → numbers u16 (ms + 3 * m + 5) bytes ≡ values (weights ms ++ weights (3 * m + 3)) bytes
weights_numbers ms m bytes = values_formed u16 (weights ms ++ weights (3 * m + 3)) (ms + 3 * m + 5) bytes (weights_formed ms m) (weights_count ms m)

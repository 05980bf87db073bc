-- Where the first number out of range stands: of one field more, of fields in two parts, and of a run of equal fields. The laws
-- `before-..` are about lists of numbers, as a writer has them; the laws `fault-..` are about bytes.
use mathlib.Core.Path.{◌≡◌, refl, sym, ap, ◌∙◌}
use Prim.Native.Nat.{ℕ, ◌+◌, ◌≤◌, ◌<◌}
use mathlib.Core.Bool.{Bool, true, false}
use mathlib.Core.List.{List, [], ◌∷◌, ◌++◌}
use native.Mathlib.Omega.{arith}
use lib.IntN.{ℤ}
use lib.ListN.{length, drop}
use lib.Seq.{drop-drop, drop_at}
use Rattle.refusal.proofs.TestLaws.{either}
use Rattle.record.specs.Fields.{Form, u16, i16, i32, width, Field, widths, values, in_range, before_fault}
use Rattle.record.specs.Ranges.{within}
use Rattle.record.proofs.FieldLaws.{length_values, values_append}
use Rattle.record_fields.specs.Runs.{field_number_at, fits, fault}

pub width_some : (f : Form) → 0 < width f
unfolding width
width_some u16 = omega arith
width_some i16 = omega arith
width_some i32 = omega arith

-- ---- lists of numbers

module _ (f : Field) (fs : List Field) (z : ℤ) (zs : List ℤ) where
  pub before_next : within f.range z ≡ true → before_fault (f ∷ fs) (z ∷ zs) ≡ width f.form + before_fault fs zs
  unfolding before_fault
  before_next h = step (within f.range z) h
    where
      step : (b : Bool) → b ≡ true → elim b [ true ↦ width f.form + before_fault fs zs | false ↦ 0 ] ≡ width f.form + before_fault fs zs
      step true e = refl
      step false e = cc

  pub before_here : within f.range z ≡ false → before_fault (f ∷ fs) (z ∷ zs) ≡ 0
  unfolding before_fault
  before_here h = step (within f.range z) h
    where
      step : (b : Bool) → b ≡ false → ◌≡◌ {A = ℕ} (elim b [ true ↦ width f.form + before_fault fs zs | false ↦ 0 ]) 0
      step true e = cc
      step false e = refl

-- all are in range, or the first that is not stands before the end
pub before_all : (fs : List Field) (zs : List ℤ) → length fs ≤ length zs → in_range fs zs ≡ true → before_fault fs zs ≡ widths fs
unfolding before_fault widths in_range
before_all [] zs long h = refl
before_all (f ∷ fs) [] long h = absurd (omega arith)
before_all (f ∷ fs) (z ∷ zs) long h =
    either (within f.range z)
    (λ e. before_next f fs z zs e ∙ ap (λ k. width f.form + k) (before_all fs zs (omega arith) (rw e at h)))
    (λ e. let wrong : false ≡ true = rw e at h in cc)

pub before_some : (fs : List Field) (zs : List ℤ) → in_range fs zs ≡ false → before_fault fs zs < widths fs
unfolding before_fault widths in_range
before_some [] zs h = let z : ◌≡◌ {A = ℕ} 0 1 = cc in omega arith
before_some (f ∷ fs) [] h = let z : ◌≡◌ {A = ℕ} 0 1 = cc in omega arith
before_some (f ∷ fs) (z ∷ zs) h =
    either (within f.range z)
    (λ e. rw (before_next f fs z zs e) (omega (arith, before_some fs zs (rw e at h))))
    (λ e. rw (before_here f fs z zs e) (omega (arith, width_some f.form)))

pub before_within : (fs : List Field) (zs : List ℤ) → before_fault fs zs ≤ widths fs
unfolding before_fault widths
before_within [] zs = omega arith
before_within (f ∷ fs) [] = omega arith
before_within (f ∷ fs) (z ∷ zs) =
    either (within f.range z)
    (λ e. rw (before_next f fs z zs e) (omega (arith, before_within fs zs)))
    (λ e. rw (before_here f fs z zs e) (omega arith))

-- fields in two parts: the second speaks only where the first is in range
pub before_pass : (fs gs : List Field) (zs : List ℤ) → before_fault fs zs ≡ widths fs
    → before_fault (fs ++ gs) zs ≡ widths fs + before_fault gs (drop (length fs) zs)
unfolding before_fault widths
before_pass [] gs zs h = omega arith
before_pass (f ∷ fs) gs [] h = absurd (omega (arith, width_some f.form))
before_pass (f ∷ fs) gs (z ∷ zs) h =
    either (within f.range z)
    (λ e.
    let rest : before_fault fs zs ≡ widths fs = omega (arith, before_next f fs z zs e) in
    rw (before_next f (fs ++ gs) z zs e, before_pass fs gs zs rest) (omega arith))
    (λ e. absurd (omega (arith, before_here f fs z zs e, width_some f.form)))

pub before_stop : (fs gs : List Field) (zs : List ℤ) → before_fault fs zs < widths fs → before_fault (fs ++ gs) zs ≡ before_fault fs zs
unfolding before_fault widths
before_stop [] gs zs h = absurd (omega arith)
before_stop (f ∷ fs) gs [] h = refl
before_stop (f ∷ fs) gs (z ∷ zs) h =
    either (within f.range z)
    (λ e.
    let rest : before_fault fs zs < widths fs = omega (arith, before_next f fs z zs e) in
    rw (before_next f (fs ++ gs) z zs e, before_next f fs z zs e, before_stop fs gs zs rest))
    (λ e. before_here f (fs ++ gs) z zs e ∙ sym (before_here f fs z zs e))

-- numbers past the fields are of no account
before_front : (fs : List Field) (xs ys : List ℤ) → length fs ≤ length xs → before_fault fs (xs ++ ys) ≡ before_fault fs xs
unfolding before_fault
before_front [] xs ys long = refl
before_front (f ∷ fs) [] ys long = absurd (omega arith)
before_front (f ∷ fs) (x ∷ xs) ys long =
    either (within f.range x)
    (λ e. before_next f fs x (xs ++ ys) e ∙ ap (λ k. width f.form + k) (before_front fs xs ys (omega arith)) ∙ sym (before_next f fs x xs e))
    (λ e. before_here f fs x (xs ++ ys) e ∙ sym (before_here f fs x xs e))

-- ---- bytes

module _ (bytes : List ℕ) where
  pub fault_none : (place : ℕ) → fault [] bytes place ≡ place
  unfolding fault before_fault
  fault_none place = omega arith

  pub fault_next : (f : Field) (fs : List Field) (place : ℕ) → fits f bytes place ≡ true → fault (f ∷ fs) bytes place ≡ fault fs bytes (place + width f.form)
  unfolding fault fits field_number_at values
  fault_next f fs place h =
      let rest = values fs (drop (width f.form) (drop place bytes)) in
      rw (before_next f fs (field_number_at f bytes place) rest h, drop-drop) (omega arith)

  pub fault_here : (f : Field) (fs : List Field) (place : ℕ) → fits f bytes place ≡ false → fault (f ∷ fs) bytes place ≡ place
  unfolding fault fits field_number_at values
  fault_here f fs place h =
      let rest = values fs (drop (width f.form) (drop place bytes)) in
      rw (before_here f fs (field_number_at f bytes place) rest h) (omega arith)

  -- one field alone
  pub one_fits : (f : Field) (place : ℕ) → fits f bytes place ≡ true → place + width f.form ≡ fault (f ∷ []) bytes place
  one_fits f place h = sym (fault_none (place + width f.form)) ∙ sym (fault_next f [] place h)

  pub one_out : (f : Field) (place : ℕ) → fits f bytes place ≡ false → place ≡ fault (f ∷ []) bytes place
  one_out f place h = sym (fault_here f [] place h)

  -- all are in range exactly when the end is reached
  pub fault_all : (fs : List Field) (place : ℕ) → in_range fs (values fs (drop place bytes)) ≡ true → fault fs bytes place ≡ place + widths fs
  unfolding fault
  fault_all fs place h = ap (λ k. place + k) (before_all fs (values fs (drop place bytes)) (omega (arith, length_values fs (drop place bytes))) h)

  pub fault_some : (fs : List Field) (place : ℕ) → in_range fs (values fs (drop place bytes)) ≡ false → fault fs bytes place < place + widths fs
  unfolding fault
  fault_some fs place h = omega (arith, before_some fs (values fs (drop place bytes)) h)

  pub all_fit : (fs : List Field) (place : ℕ) → fault fs bytes place ≡ place + widths fs → in_range fs (values fs (drop place bytes)) ≡ true
  unfolding fault
  all_fit fs place h =
      either (in_range fs (values fs (drop place bytes)))
      (λ e. e)
      (λ e. absurd (omega (arith, before_some fs (values fs (drop place bytes)) e)))

  pub not_all_fit : (fs : List Field) (place : ℕ) → fault fs bytes place < place + widths fs → in_range fs (values fs (drop place bytes)) ≡ false
  not_all_fit fs place h =
      either (in_range fs (values fs (drop place bytes)))
      (λ e. absurd (omega (arith, fault_all fs place e)))
      (λ e. e)

  pub fault_within : (fs : List Field) (place : ℕ) → fault fs bytes place ≤ place + widths fs
  unfolding fault
  fault_within fs place = omega (arith, before_within fs (values fs (drop place bytes)))

  -- fields in two parts
  module _ (fs gs : List Field) (place : ℕ) where
    front : before_fault fs (values (fs ++ gs) (drop place bytes)) ≡ before_fault fs (values fs (drop place bytes))
    front = rw values_append (before_front fs (values fs (drop place bytes)) (values gs (drop (widths fs) (drop place bytes))) (omega (arith, length_values fs (drop place bytes))))

    back : drop (length fs) (values (fs ++ gs) (drop place bytes)) ≡ values gs (drop (place + widths fs) bytes)
    back =
        rw (values_append, drop_at (values fs (drop place bytes)) (values gs (drop (widths fs) (drop place bytes))) (length fs) (length_values fs (drop place bytes)), drop-drop)

    -- as code meets them: `end` is where the first part ends, and `at` its fault. Short of the end the whole has its fault there ..
    pub stops : (end at : ℕ) → end ≡ place + widths fs → at ≡ fault fs bytes place → at < end → at ≡ fault (fs ++ gs) bytes place
    unfolding fault
    stops end at ends here h =
        let zs = values (fs ++ gs) (drop place bytes) in
        let some : before_fault fs zs < widths fs = omega (arith, front) in
        here ∙ ap (λ k. place + k) (sym front ∙ sym (before_stop fs gs zs some))

    -- .. and else the second part tells
    pub goes_on : (end at : ℕ) → end ≡ place + widths fs → at ≡ fault fs bytes place → end ≤ at → fault gs bytes end ≡ fault (fs ++ gs) bytes place
    unfolding fault
    goes_on end at ends here h =
        let zs = values (fs ++ gs) (drop place bytes) in
        let all : before_fault fs zs ≡ widths fs = omega (arith, front, fault_within fs place) in
        rw (before_pass fs gs zs all, back, ends) (omega arith)

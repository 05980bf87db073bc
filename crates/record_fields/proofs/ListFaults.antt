-- Where the values of a list are out of range: of one field and of fields in two parts. As `FirstFaults`, for a list of values and not
-- for bytes: fields stand at an index of the list and at a place of the record that would be written.
use mathlib.Core.Path.{◌≡◌, sym, ap, ◌∙◌}
use Prim.Native.Nat.{ℕ, suc, ◌+◌, ◌≤◌, ◌<◌}
use mathlib.Core.Bool.{true, false}
use mathlib.Core.List.{List, [], ◌∷◌, ◌++◌}
use native.Mathlib.Omega.{arith}
use lib.IntN.{ℤ, pos}
use lib.ListN.{length, drop, get_or}
use lib.Seq.{drop-drop, drop-cons}
use Rattle.refusal.proofs.TestLaws.{either}
use Rattle.record.specs.Fields.{width, Field, widths, in_range, before_fault}
use Rattle.record.specs.Ranges.{within}
use Rattle.record_fields.specs.Runs.{list_fault}
use Rattle.record_fields.proofs.FirstFaults.{before_next, before_here, before_all, before_some, before_within, before_pass, before_stop}

module _ (zs : List ℤ) where
  pub list_fault_none : (index place : ℕ) → list_fault [] zs index place ≡ place
  unfolding list_fault before_fault
  list_fault_none index place = omega arith

  -- one field
  pub list_one_fits : (f : Field) (index place : ℕ) → index < length zs → within f.range (get_or zs index (pos 0)) ≡ true
      → place + width f.form ≡ list_fault (f ∷ []) zs index place
  unfolding list_fault before_fault
  list_one_fits f index place there h =
      rw (drop-cons zs index (pos 0) there) (omega (arith, before_next f [] (get_or zs index (pos 0)) (drop (suc index) zs) h))

  pub list_one_out : (f : Field) (index place : ℕ) → index < length zs → within f.range (get_or zs index (pos 0)) ≡ false
      → place ≡ list_fault (f ∷ []) zs index place
  unfolding list_fault
  list_one_out f index place there h =
      rw (drop-cons zs index (pos 0) there) (omega (arith, before_here f [] (get_or zs index (pos 0)) (drop (suc index) zs) h))

  -- all are in range exactly when the end is reached
  pub list_all_fit : (fs : List Field) (index place : ℕ) → place + widths fs ≤ list_fault fs zs index place → in_range fs (drop index zs) ≡ true
  unfolding list_fault
  list_all_fit fs index place h =
      either (in_range fs (drop index zs)) (λ e. e) (λ e. absurd (omega (arith, before_some fs (drop index zs) e)))

  pub list_not_all : (fs : List Field) (index place : ℕ) → length fs ≤ length (drop index zs) → list_fault fs zs index place < place + widths fs
      → in_range fs (drop index zs) ≡ false
  unfolding list_fault
  list_not_all fs index place long h =
      either (in_range fs (drop index zs)) (λ e. absurd (omega (arith, before_all fs (drop index zs) long e))) (λ e. e)

  -- fields in two parts
  module _ (fs gs : List Field) (index place : ℕ) where
    pub list_stops : (end at : ℕ) → end ≡ place + widths fs → at ≡ list_fault fs zs index place → at < end → at ≡ list_fault (fs ++ gs) zs index place
    unfolding list_fault
    list_stops end at ends here h =
        let some : before_fault fs (drop index zs) < widths fs = omega arith in
        here ∙ ap (λ k. place + k) (sym (before_stop fs gs (drop index zs) some))

    pub list_goes_on : (end next at : ℕ) → end ≡ place + widths fs → next ≡ index + length fs → at ≡ list_fault fs zs index place → end ≤ at
        → list_fault gs zs next end ≡ list_fault (fs ++ gs) zs index place
    unfolding list_fault
    list_goes_on end next at ends from here h =
        let all : before_fault fs (drop index zs) ≡ widths fs = omega (arith, before_within fs (drop index zs)) in
        rw (before_pass fs gs (drop index zs) all, ends, from, ← drop-drop (length fs) index zs) (omega arith)

-- What fields tell of their first number out of range: of one field and of fields in two parts; what it says of the fault; and that it is
-- a test of 01's orders. The laws `run_told-..` are about bytes; the laws `list_told-..` are about a list of values, as a writer has it.
use mathlib.Core.Path.{◌≡◌, refl, sym, ap, ◌∙◌}
use Prim.Native.Nat.{ℕ, ◌+◌, ◌≤◌, ◌<◌}
use mathlib.Core.Bool.{Bool, true, false}
use mathlib.Core.List.{List, [], ◌∷◌, ◌++◌}
use native.Mathlib.Nat.{add_assoc}
use native.Mathlib.Omega.{arith}
use lib.Dec.{ltb}
use lib.IntN.{ℤ, pos}
use lib.ListN.{length, drop, get_or}
use borrow.Author.Tests.{ltb-true, ltb-false, lt-ltb, le-ltb}
use Rattle.refusal.specs.Tests.{done, refused, ◌at◌unless◌, first, ◌then◌}
use Rattle.refusal.proofs.TestLaws.{either, never, passed, failed}
use Rattle.record.specs.Fields.{width, Field, widths, values, in_range}
use Rattle.record.specs.Ranges.{within}
use Rattle.record.proofs.FieldLaws.{widths_append}
use Rattle.record_fields.specs.Runs.{fits, fault, fault_told, run_told, list_fault, list_told}
use Rattle.record_fields.proofs.FirstFaults.{width_some, fault_next, before_all, before_some, fault_none, one_fits, one_out, fault_all, fault_some, fault_within, stops, goes_on}
use Rattle.record_fields.proofs.ListFaults.{list_fault_none, list_one_fits, list_one_out, list_all_fit, list_stops, list_goes_on}

-- ---- what a fault tells

pub fault_told-end : (fault end : ℕ) → end ≤ fault → fault_told fault end ≡ done
unfolding fault_told
fault_told-end fault end h = rw (le-ltb fault end h)

pub fault_told-some : (fault end : ℕ) → fault < end → fault_told fault end ≡ refused 6 fault
unfolding fault_told
fault_told-some fault end h = rw (lt-ltb fault end h)

pub fault_told-done : (fault end : ℕ) → fault_told fault end ≡ done → end ≤ fault
fault_told-done fault end h =
    either (ltb fault end)
    (λ e. absurd (never (sym (fault_told-some fault end (ltb-true fault end e)) ∙ h)))
    (λ e. ltb-false fault end e)

pub fault_told-refused : (fault end : ℕ) {k p : ℕ} → fault_told fault end ≡ refused k p → (fault < end) × (k ≡ 6) × (p ≡ fault)
fault_told-refused fault end h =
    either (ltb fault end)
    (λ e.
    let short = ltb-true fault end e in
    let same = sym (fault_told-some fault end short) ∙ h in
    (short, cc, cc))
    (λ e. absurd (never (sym h ∙ fault_told-end fault end (ltb-false fault end e))))

-- as the lone test that tells it
fault_told-test : {I : Type 0} (fault end : ℕ) (there : I → ℕ) (holds : I → Bool) (i : I) → there i ≡ fault → (holds i ≡ true → end ≤ fault) → (holds i ≡ false → fault < end)
    → first ((6 at there unless holds) ∷ []) i ≡ fault_told fault end
unfolding first
fault_told-test fault end there holds i same all some =
    either (holds i)
    (λ e. passed 6 there holds [] i e ∙ sym (fault_told-end fault end (all e)))
    (λ e. failed 6 there holds [] i e ∙ ap (λ p. refused 6 p) same ∙ sym (fault_told-some fault end (some e)))

-- two parts: the whole has the first's fault where that is short of its end, and else the second's
two_told : (first second whole mid end : ℕ) → mid ≤ end → (first < mid → first ≡ whole) → (mid ≤ first → second ≡ whole)
    → fault_told whole end ≡ (fault_told first mid then fault_told second end)
unfolding ◌then◌
two_told first second whole mid end ends here past =
    either (ltb first mid)
    (λ e.
    let short = ltb-true first mid e in
    let same = here short in
    let before : whole < end = omega arith in
    rw (fault_told-some first mid short, fault_told-some whole end before, same))
    (λ e.
    let reached = ltb-false first mid e in
    rw (fault_told-end first mid reached, past reached))

-- ---- bytes

module _ (bytes : List ℕ) where
  pub run_told-none : (place : ℕ) → run_told [] bytes place ≡ done
  unfolding run_told widths
  run_told-none place = fault_told-end (fault [] bytes place) (place + 0) (omega (arith, fault_none bytes place))

  pub run_told-next : (f : Field) (fs : List Field) (place : ℕ) → fits f bytes place ≡ true → run_told (f ∷ fs) bytes place ≡ run_told fs bytes (place + width f.form)
  unfolding run_told widths
  run_told-next f fs place h = rw (fault_next bytes f fs place h) (ap (fault_told (fault fs bytes (place + width f.form))) (sym (add_assoc place (width f.form) (widths fs))))

  pub run_told-append : (fs gs : List Field) (place : ℕ) → run_told (fs ++ gs) bytes place ≡ (run_told fs bytes place then run_told gs bytes (place + widths fs))
  unfolding run_told
  run_told-append fs gs place =
      let mid = place + widths fs in
      rw (widths_append, ← add_assoc)
      (two_told (fault fs bytes place) (fault gs bytes mid) (fault (fs ++ gs) bytes place) mid (mid + widths gs) (omega arith)
      (stops bytes fs gs place mid (fault fs bytes place) refl refl)
      (goes_on bytes fs gs place mid (fault fs bytes place) refl refl))

  -- what it says of the fault
  module _ (fs : List Field) (place : ℕ) where
    pub run_told-done : run_told fs bytes place ≡ done → fault fs bytes place ≡ place + widths fs
    unfolding run_told
    run_told-done h = omega (arith, fault_told-done (fault fs bytes place) (place + widths fs) h, fault_within bytes fs place)

    pub run_told-refused : {k p : ℕ} → run_told fs bytes place ≡ refused k p → (fault fs bytes place < place + widths fs) × (k ≡ 6) × (p ≡ fault fs bytes place)
    unfolding run_told
    run_told-refused h = fault_told-refused (fault fs bytes place) (place + widths fs) h

    -- and as a test of 01's orders
    pub run_told-test : {I : Type 0} (there : I → ℕ) (holds : I → Bool) (i : I) → there i ≡ fault fs bytes place → holds i ≡ in_range fs (values fs (drop place bytes))
        → first ((6 at there unless holds) ∷ []) i ≡ run_told fs bytes place
    unfolding run_told
    run_told-test there holds i same range =
        fault_told-test (fault fs bytes place) (place + widths fs) there holds i same
        (λ e. let all = fault_all bytes fs place (sym range ∙ e) in omega arith)
        (λ e. fault_some bytes fs place (sym range ∙ e))

  module _ (f : Field) (place : ℕ) where
    pub run_told-fits : fits f bytes place ≡ true → run_told (f ∷ []) bytes place ≡ done
    unfolding run_told widths
    run_told-fits h = fault_told-end (fault (f ∷ []) bytes place) (place + (width f.form + 0)) (omega (arith, one_fits bytes f place h))

    pub run_told-out : fits f bytes place ≡ false → run_told (f ∷ []) bytes place ≡ refused 6 place
    unfolding run_told widths
    run_told-out h =
        let here = one_out bytes f place h in
        let short : fault (f ∷ []) bytes place < place + (width f.form + 0) = omega (arith, width_some f.form) in
        fault_told-some (fault (f ∷ []) bytes place) (place + (width f.form + 0)) short ∙ ap (λ p. refused 6 p) (sym here)

-- ---- a list of values

module _ (zs : List ℤ) where
  pub list_told-none : (index place : ℕ) → list_told [] zs index place ≡ done
  unfolding list_told widths
  list_told-none index place = fault_told-end (list_fault [] zs index place) (place + 0) (omega (arith, list_fault_none zs index place))

  pub list_told-append : (fs gs : List Field) (index place : ℕ)
      → list_told (fs ++ gs) zs index place ≡ (list_told fs zs index place then list_told gs zs (index + length fs) (place + widths fs))
  unfolding list_told
  list_told-append fs gs index place =
      let mid = place + widths fs in
      let next = index + length fs in
      rw (widths_append, ← add_assoc)
      (two_told (list_fault fs zs index place) (list_fault gs zs next mid) (list_fault (fs ++ gs) zs index place) mid (mid + widths gs) (omega arith)
      (list_stops zs fs gs index place mid (list_fault fs zs index place) refl refl)
      (list_goes_on zs fs gs index place mid next (list_fault fs zs index place) refl refl refl))

  -- what it says of the fault
  module _ (fs : List Field) (index place : ℕ) where
    pub list_told-done : list_told fs zs index place ≡ done → in_range fs (drop index zs) ≡ true
    unfolding list_told
    list_told-done h = list_all_fit zs fs index place (fault_told-done (list_fault fs zs index place) (place + widths fs) h)

    pub list_told-refused : {k p : ℕ} → list_told fs zs index place ≡ refused k p → (list_fault fs zs index place < place + widths fs) × (k ≡ 6) × (p ≡ list_fault fs zs index place)
    unfolding list_told
    list_told-refused h = fault_told-refused (list_fault fs zs index place) (place + widths fs) h

    -- and as a test of 01's orders
    pub list_told-test : {I : Type 0} (there : I → ℕ) (holds : I → Bool) (i : I) → length fs ≤ length (drop index zs) → there i ≡ list_fault fs zs index place
        → holds i ≡ in_range fs (drop index zs) → first ((6 at there unless holds) ∷ []) i ≡ list_told fs zs index place
    unfolding list_told list_fault
    list_told-test there holds i long same range =
        fault_told-test (list_fault fs zs index place) (place + widths fs) there holds i same
        (λ e. omega (arith, before_all fs (drop index zs) long (sym range ∙ e)))
        (λ e. omega (arith, before_some fs (drop index zs) (sym range ∙ e)))

  module _ (f : Field) (index place : ℕ) (there : index < length zs) where
    pub list_told-fits : within f.range (get_or zs index (pos 0)) ≡ true → list_told (f ∷ []) zs index place ≡ done
    unfolding list_told widths
    list_told-fits h = fault_told-end (list_fault (f ∷ []) zs index place) (place + (width f.form + 0)) (omega (arith, list_one_fits zs f index place there h))

    pub list_told-out : within f.range (get_or zs index (pos 0)) ≡ false → list_told (f ∷ []) zs index place ≡ refused 6 place
    unfolding list_told widths
    list_told-out h =
        let here = list_one_out zs f index place there h in
        let short : list_fault (f ∷ []) zs index place < place + (width f.form + 0) = omega (arith, width_some f.form) in
        fault_told-some (list_fault (f ∷ []) zs index place) (place + (width f.form + 0)) short ∙ ap (λ p. refused 6 p) (sym here)

-- A walk along the triples that tests them and keeps what is told of their values.
use Rattle.std.specs.Prelude.{Result, Ok, Err}
use Rattle.std.specs.Result.{result_and}
use mathlib.Core.Path.{◌≡◌, refl, sym, ap, ◌∙◌}
use Prim.Native.Nat.{ℕ, zero, suc, ◌+◌, ◌*◌, ◌≤◌, ◌<◌}
use mathlib.Core.Bool.{true}
use mathlib.Core.List.{List, [], ◌∷◌, ◌++◌}
use native.Mathlib.Decide.{dec_lt}
use native.Mathlib.Numerals.{add-one}
use native.Mathlib.Omega.{arith}
use lib.ListN.{replicate}
use borrow.Author.Tests.{eq-eqb, ne_eqb}
use Rattle.endian.specs.Numbers.{little_at}
use Rattle.refusal.specs.declared.Fault.{Fault}
use Rattle.refusal.specs.Faults.{result_of}
use Rattle.refusal.specs.Places.{Throughout}
use Rattle.refusal.specs.Tests.{Told, done, refused, ◌then◌}
use Rattle.refusal.proofs.FaultLaws.{told_done, told_refused, gives}
use Rattle.refusal.proofs.PlaceLaws.{before_all, before_first}
use Rattle.refusal.proofs.TestLaws.{never, either, true_both, both_true, done_passes, passes_done}
use Rattle.record.specs.Fields.{width, number, Field, widths}
use Rattle.record.specs.Layouts.{multiplier}
use Rattle.record_fields.specs.Runs.{field_number_at, fits, run_told}
use Rattle.record_fields.proofs.ToldFaults.{run_told-none, run_told-next, run_told-append}
use Rattle.record_short.specs.ShortRecords.{row_in, row_rises, has_weight, row_number, triples_fields}
use Rattle.record_short.proofs.ShortSound.{rises_so, small_within}
use Rattle.record_short_check.specs.ShortChecks.{passes, triple_told, values_told, triples_told}

-- ---- one triple

module _ (m : ℕ) (bytes : List ℕ) (i : ℕ) where
  triple_done : triple_told m bytes i ≡ done → (row_rises m bytes i ≡ true) × (has_weight bytes i ≡ true)
  unfolding triple_told
  triple_done told = let h = done_passes _ i told in (h.0, h.1.0)

  triple_passes : passes m bytes i ≡ true → triple_told m bytes i ≡ done
  unfolding triple_told
  triple_passes h = let both = both_true (row_rises m bytes i) (has_weight bytes i) h in passes_done _ i (both.0, (both.1, tt))

-- ---- the values

-- the fields of one triple
triple_fields : List Field
triple_fields = row_number ∷ multiplier ∷ multiplier ∷ []

-- a row is never out of range
past_row : (bytes : List ℕ) (at : ℕ) → little_at 2 bytes at ≤ 65535 → run_told triple_fields bytes at ≡ run_told (replicate 2 multiplier) bytes (at + 2)
unfolding triple_fields row_number fits field_number_at number width little_at
past_row bytes at low = run_told-next bytes row_number (multiplier ∷ multiplier ∷ []) at (small_within 65535 _ low)

low_row : (m : ℕ) (bytes : List ℕ) (i : ℕ) → m ≤ 64 → row_rises m bytes i ≡ true → little_at 2 bytes (8 + 6 * i) ≤ 65535
unfolding row_in
low_row m bytes i few h = omega (arith, (rises_so m bytes i h).0)

triples_more : (count : ℕ) → triples_fields (suc count) ≡ triples_fields count ++ triple_fields
unfolding triples_fields triple_fields
triples_more zero = refl
triples_more (suc count) = ap (λ fs. row_number ∷ multiplier ∷ multiplier ∷ fs) (triples_more count)

pub widths_triples : (count : ℕ) → widths (triples_fields count) ≡ 6 * count
unfolding widths width triples_fields row_number multiplier
widths_triples zero = omega arith
widths_triples (suc count) = omega (arith, widths_triples count)

values_none : (bytes : List ℕ) → values_told bytes 0 ≡ done
unfolding values_told triples_fields
values_none bytes = run_told-none bytes 8

-- one triple more
values_more : (bytes : List ℕ) (i : ℕ) → (values_told bytes i then run_told triple_fields bytes (8 + 6 * i)) ≡ values_told bytes (i + 1)
unfolding values_told
values_more bytes i = rw (add-one i, triples_more i, run_told-append, widths_triples i)

-- an answer that gives nothing
abbrev pub telling : Result (Unit {0}) Fault → Result (Unit {0}) Fault
telling r = r

-- one after another
both_told : {A : Type 0} (s t : Told) (given : A) → telling (result_and (result_and (telling (result_of s tt)) (result_of t given)) (telling (Ok tt))) ≡ result_of (s then t) tt
unfolding result_of ◌then◌
both_told done done given = refl
both_told done (refused k p) given = refl
both_told (refused k p) t given = refl

-- ---- the walk

module _ (m : ℕ) (bytes : List ℕ) (count : ℕ) where
  pub record SoFar (i : ℕ) (values : Result (Unit {0}) Fault) : Type 0 where
    pub inside : i ≤ count
    pub passed : Throughout i (λ k. passes m bytes k ≡ true)
    pub kept : values ≡ result_of (values_told bytes i) tt

  pub walk_start : SoFar 0 (Ok tt)
  walk_start = record { inside = omega arith; passed = λ k below. absurd (omega arith); kept = gives tt (values_none bytes) }

  module _ (i : ℕ) (values : Result (Unit {0}) Fault) (w : SoFar i values) where
    pub walk_more : {A : Type 0} (given : A) → m ≤ 64 → i < count → telling (Ok tt) ≡ result_of (triple_told m bytes i) tt
        → SoFar (i + 1) (result_and (result_and values (result_of (run_told (replicate 2 multiplier) bytes (10 + 6 * i)) given)) (telling (Ok tt)))
    walk_more given few below right =
        let here = triple_done m bytes i (told_done (triple_told m bytes i) tt tt right) in
        let start : 10 + 6 * i ≡ 8 + 6 * i + 2 = omega arith in
        let fields = past_row bytes (8 + 6 * i) (low_row m bytes i few here.0) in
        record {
          inside = omega arith;
          passed = λ k early. elim (dec_lt k i) [ yes h ↦ w.passed k h | no h ↦ let same : k ≡ i = omega arith in rw same (true_both _ _ here.0 here.1) ];
          kept = rw (w.kept, start, ← fields) (both_told _ _ given ∙ ap (λ t. result_of t tt) (values_more bytes i));
        }

    pub walk_stops : i < count → (f : Fault) → telling (Err f) ≡ result_of (triple_told m bytes i) tt → telling (Err f) ≡ result_of (triples_told m bytes count) tt
    unfolding triples_told
    walk_stops below f told =
        either (passes m bytes i)
        (λ e. absurd (never (sym (told_refused (triple_told m bytes i) tt f told) ∙ triple_passes m bytes i e)))
        (λ e. rw (before_first count (passes m bytes) i below e w.passed, ne_eqb i count (λ e. omega arith)) told)

    pub walk_ends : count ≤ i → values ≡ result_of (triples_told m bytes count) tt
    unfolding triples_told
    walk_ends last =
        let all : i ≡ count = omega (arith, w.inside) in
        let every = before_all count (passes m bytes) (rw all at w.passed) in
        rw (every, eq-eqb count count refl) (rw all at w.kept)

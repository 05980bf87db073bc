-- The parts that the orders of kinds 5 to 8 share: L against the bytes, and a last test of fields, which says what they tell.
use mathlib.Core.Path.{◌≡◌, refl, ◌∙◌}
use Prim.Native.Nat.{ℕ, ◌+◌, ◌≤◌}
use mathlib.Core.List.{List, [], ◌∷◌, ◌++◌}
use native.Mathlib.Omega.{arith}
use lib.ListN.{length}
use borrow.Author.Tests.{le-leb}
use Rattle.refusal.specs.declared.Fault.{Fault}
use Rattle.refusal.specs.Faults.{result_of}
use Rattle.refusal.specs.Tests.{Test, first}
use Rattle.refusal.proofs.FaultLaws.{told_refused, refuses}
use Rattle.refusal.proofs.TestLaws.{first_then, first_told}
use Rattle.record.specs.Fields.{Field}
use Rattle.record.specs.Readers.{Reader, framing, stated_length, loop_reader}
use Rattle.record_fields.specs.Runs.{fault, run_told}
use Rattle.record_fields.proofs.ToldFaults.{run_told-test}
use Rattle.record_check.specs.Framing.{Framed}
use Rattle.record_check.proofs.FrameWays.{stopped, right, frame_passes}
use Rattle.record_paths.specs.PathFields.{bytes_alone, fields_fit}

-- ---- L against the bytes

module _ (bytes : List ℕ) where
  -- a frame is tested by the bytes alone
  same_frame : first framing (bytes_alone bytes) ≡ first framing (loop_reader bytes [])
  unfolding first stated_length loop_reader bytes_alone
  same_frame = refl

  pub frame_refuses : (rest : List (Test Reader)) (f : Fault) → stopped f ≡ result_of (first framing (loop_reader bytes [])) tt
      → stopped f ≡ result_of (first (framing ++ rest) (bytes_alone bytes)) tt
  frame_refuses rest f told =
      refuses tt (first_told framing rest (bytes_alone bytes) f.number f.place (same_frame ∙ told_refused (first framing (loop_reader bytes [])) tt f told))

  pub right_frame : right ≡ result_of (first framing (loop_reader bytes [])) tt → Framed bytes
  unfolding loop_reader
  right_frame told = frame_passes (loop_reader bytes []) told

pub past_frame : (rest : List (Test Reader)) (bytes : List ℕ) → Framed bytes
    → first (framing ++ rest) (bytes_alone bytes) ≡ first rest (bytes_alone bytes)
unfolding stated_length bytes_alone
past_frame rest bytes f =
    let r = bytes_alone bytes in
    let small : 2 ≤ stated_length r = omega (arith, f.head, f.whole) in
    let few : 4 + stated_length r ≤ length r.bytes = omega (arith, f.whole) in
    let many : length r.bytes ≤ 4 + stated_length r = omega (arith, f.whole) in
    let four : 4 ≤ length r.bytes = omega (arith, f.head) in
    first_then framing rest r (le-leb _ _ four, (le-leb _ _ small, (le-leb _ _ few, (le-leb _ _ many, tt))))

-- ---- the last test: what the values tell

module _ (bytes : List ℕ) (start : Reader → ℕ) (fields : Reader → List Field) where
  pub fields_told : first (fields_fit 6 start fields ∷ []) (bytes_alone bytes) ≡ run_told (fields (bytes_alone bytes)) bytes (start (bytes_alone bytes))
  unfolding fields_fit bytes_alone fault
  fields_told = let r = bytes_alone bytes in run_told-test bytes (fields r) (start r) _ _ r refl refl

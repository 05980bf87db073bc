-- The ways through the first four tests of the order for a record, L against the bytes: what a check answers at each return, and what its answer
-- says of the record.
use Rattle.std.specs.Prelude.{Result, Ok, Err}
use mathlib.Core.Path.{◌≡◌, refl, ◌∙◌}
use Prim.Native.Nat.{ℕ, ◌+◌, ◌≤◌, ◌<◌}
use mathlib.Core.List.{List, []}
use native.Mathlib.Omega.{arith}
use lib.ListN.{length, drop}
use borrow.Author.Tests.{le-leb, lt-leb, leb-true}
use Rattle.refusal.specs.declared.Fault.{Fault}
use Rattle.refusal.specs.Faults.{result_of}
use Rattle.refusal.specs.Tests.{refused, first}
use Rattle.refusal.proofs.FaultLaws.{told_done, told_refused, gives, refuses}
use Rattle.refusal.proofs.TestLaws.{passed, failed, passes_done, done_passes, first_told}
use Rattle.record.specs.declared.Wanted.{Wanted}
use Rattle.record.specs.Readers.{Reader, framing, stated_length, sound, loop_reader}
use Rattle.record_check.specs.declared.Checked.{Checked}
use Rattle.record_check.specs.Checks.{said, checks, certificate_check}
use Rattle.record_check.specs.Framing.{Framed}

-- a refusal of what gives nothing, and that there is none
abbrev pub stopped : Fault → Result (Unit {0}) Fault
stopped f = Err f

abbrev pub right : Result (Unit {0}) Fault
right = Ok tt

abbrev unframed : ℕ → ℕ → Result (Unit {0}) Fault
unframed number place = stopped (record { number = number; place = place })

-- a refusal of the whole order
abbrev pub refusal : ℕ → ℕ → Result Checked Fault
refusal number place = Err (record { number = number; place = place })

module _ (r : Reader) where
  pub too_short : length r.bytes < 4 → unframed 1 (length r.bytes) ≡ result_of (first framing r) tt
  unfolding sound
  too_short h = refuses tt (failed _ _ _ _ r (lt-leb _ _ h))

  module _ (stated : ℕ) (read : stated ≡ stated_length r) (four : 4 ≤ length r.bytes) where
    pub too_small : stated < 2 → unframed 3 0 ≡ result_of (first framing r) tt
    unfolding sound
    too_small h =
        let small : stated_length r < 2 = omega arith in
        refuses tt (passed _ _ _ _ r (le-leb _ _ four) ∙ failed _ _ _ _ r (lt-leb _ _ small))

    module _ (two : 2 ≤ stated) where
      enough : 2 ≤ stated_length r
      enough = omega arith

      pub too_few : length r.bytes < 4 + stated → unframed 1 (length r.bytes) ≡ result_of (first framing r) tt
      unfolding sound
      too_few h =
          let few : length r.bytes < 4 + stated_length r = omega arith in
          refuses tt (passed _ _ _ _ r (le-leb _ _ four) ∙ passed _ _ _ _ r (le-leb _ _ enough) ∙ failed _ _ _ _ r (lt-leb _ _ few))

      pub too_many : 4 + stated < length r.bytes → unframed 2 (4 + stated) ≡ result_of (first framing r) tt
      unfolding sound
      too_many h =
          let few : 4 + stated_length r ≤ length r.bytes = omega arith in
          let many : 4 + stated_length r < length r.bytes = omega arith in
          rw read
          (refuses tt (passed _ _ _ _ r (le-leb _ _ four) ∙ passed _ _ _ _ r (le-leb _ _ enough) ∙ passed _ _ _ _ r (le-leb _ _ few) ∙ failed _ _ _ _ r (lt-leb _ _ many)))

      pub just_right : length r.bytes ≡ 4 + stated → right ≡ result_of (first framing r) tt
      unfolding sound
      just_right h =
          let few : 4 + stated_length r ≤ length r.bytes = omega arith in
          let many : length r.bytes ≤ 4 + stated_length r = omega arith in
          gives tt (passes_done framing r (le-leb _ _ four, (le-leb _ _ enough, (le-leb _ _ few, (le-leb _ _ many, tt)))))

  pub says : {k p : ℕ} → first sound r ≡ refused k p → refusal k p ≡ checks r
  unfolding checks
  says h = refuses (said r) h

  -- what the frame's refusal says of the record, and what it says that there is none
  pub frame_refuses : (f : Fault) → stopped f ≡ result_of (first framing r) tt → Err f ≡ checks r
  unfolding sound
  frame_refuses f told = says (first_told framing (drop 4 sound) r f.number f.place (told_refused (first framing r) tt f told))

  -- such a refusal has nothing but its number and place
  pub frame_only : (f : Fault) → stopped f ≡ result_of (first framing r) tt → unframed f.number f.place ≡ stopped f
  frame_only f told = refl

  pub frame_passes : right ≡ result_of (first framing r) tt → Framed r.bytes
  unfolding sound stated_length
  frame_passes told =
      let h = done_passes framing r (told_done (first framing r) tt tt told) in
      let small : 2 ≤ stated_length r = leb-true _ _ h.1.0 in
      let few : 4 + stated_length r ≤ length r.bytes = leb-true _ _ h.1.1.0 in
      let many : length r.bytes ≤ 4 + stated_length r = leb-true _ _ h.1.1.1.0 in
      record { head = omega arith; whole = omega arith }

-- the frame is one for loops and certificates
pub same_frame : (wanted : Wanted) (bytes : List ℕ) (n m : ℕ) → first framing (loop_reader bytes []) ≡ first framing (certificate_check wanted bytes n m)
unfolding first sound stated_length loop_reader certificate_check
same_frame wanted bytes n m = refl

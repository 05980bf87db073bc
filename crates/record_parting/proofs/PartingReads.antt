-- Parting and reading read the same L. A record that parting takes as whole passes the frame's tests of reading, whatever reader gets it; what it takes as the
-- rest fails one of them, so its line is a refusal with 1 or 3. And the frame's tests are passed by no other bytes than one whole record.
use mathlib.Core.Path.{◌≡◌, refl, sym, ap, ◌∙◌}
use mathlib.Core.Logic.{◌↔◌}
use Prim.Native.Nat.{ℕ, ◌+◌, ◌≤◌}
use mathlib.Core.Bool.{true, false, false≢true}
use mathlib.Core.List.{List}
use native.Mathlib.Omega.{arith}
use lib.ListN.{length, take, drop, length-take, take-append-drop}
use lib.Seq.{take-length}
use borrow.Author.Tests.{le-leb, leb-true}
use Rattle.endian.specs.Numbers.{little_at}
use Rattle.endian.proofs.Laws.{little_at_first}
use Rattle.record.specs.Readers.{Reader, framing, stated_length, sound}
use Rattle.refusal.specs.Tests.{done, first}
use Rattle.refusal.proofs.TestLaws.{Passes, passes_done, done_passes}
use Rattle.record_parting.specs.Parting.{stated, whole_first, taken, first_record}
use Rattle.record_parting.proofs.PartingLaws.{whole_passes, passes_whole, taken_whole, not_whole}

-- L as parting reads it is L as a reader reads it
pub same_length_stated : (r : Reader) → stated r.bytes ≡ stated_length r
unfolding stated stated_length
same_length_stated r = refl

-- the frame's tests are passed by one whole record, and by nothing else
pub one_record : (r : Reader) → (first framing r ≡ done) ↔ ((whole_first r.bytes ≡ true) × (taken r.bytes ≡ length r.bytes))
unfolding sound stated_length stated
one_record r = (
  λ h.
      let tests : Passes framing r = done_passes framing r h in
      let four = leb-true 4 (length r.bytes) tests.0 in
      let two = leb-true 2 (stated r.bytes) tests.1.0 in
      let all = leb-true (4 + stated r.bytes) (length r.bytes) tests.1.1.0 in
      let end = leb-true (length r.bytes) (4 + stated r.bytes) tests.1.1.1.0 in
      (passes_whole r.bytes four two all, taken_whole r.bytes four two all ∙ omega arith),
  λ h.
      let whole = whole_passes r.bytes h.0 in
      let end : length r.bytes ≡ 4 + stated r.bytes = sym h.1 ∙ taken_whole r.bytes whole.0 whole.1 whole.2 in
      let within : length r.bytes ≤ 4 + stated r.bytes = omega arith in
      passes_done framing r (le-leb _ _ whole.0, (le-leb _ _ whole.1, (le-leb _ _ whole.2, (le-leb _ _ within, tt)))),
)

-- the first bytes state the same L
stated_in_first : (k : ℕ) (input : List ℕ) → 4 ≤ k → k ≤ length input → stated (take k input) ≡ stated input
unfolding stated
stated_in_first k input four within =
    sym (little_at_first 4 (take k input) (drop k input) 0 (rw length-take (omega arith))) ∙ ap (λ (bytes : List ℕ). little_at 4 bytes 0) (take-append-drop k input)

-- what parting takes as whole passes the frame's tests
pub whole_is_framed : (input : List ℕ) (r : Reader) → whole_first input ≡ true → r.bytes ≡ first_record input → first framing r ≡ done
unfolding first_record
whole_is_framed input r whole same =
    let tests = whole_passes input whole in
    let size : taken input ≡ 4 + stated input = taken_whole input tests.0 tests.1 tests.2 in
    let long : length r.bytes ≡ 4 + stated input = ap length same ∙ length-take (taken input) input ∙ omega arith in
    let L : stated r.bytes ≡ stated input = ap stated same ∙ stated_in_first (taken input) input (omega arith) (omega arith) in
    (one_record r).1 (passes_whole r.bytes (omega arith) (omega arith) (omega arith), taken_whole r.bytes (omega arith) (omega arith) (omega arith) ∙ omega arith)

-- what parting takes as the rest fails one of them
pub rest_is_refused : (input : List ℕ) (r : Reader) → whole_first input ≡ false → r.bytes ≡ first_record input → first framing r ≡ done → ⊥
unfolding first_record
rest_is_refused input r rest same framed =
    let all : r.bytes ≡ input = same ∙ ap (λ (k : ℕ). take k input) (not_whole input rest) ∙ take-length input in
    false≢true (sym rest ∙ ap whole_first (sym all) ∙ ((one_record r).0 framed).0)

-- What fields in range say of the numbers at their places: of one count, and of a run of them.
use mathlib.Core.Path.{◌≡◌}
use Prim.Native.Nat.{ℕ, zero, suc, ◌+◌, ◌*◌, ◌≤◌}
use mathlib.Core.Bool.{true}
use mathlib.Core.List.{List, ◌∷◌}
use native.Mathlib.Omega.{arith}
use lib.Dec.{leb}
use lib.IntN.{pos}
use lib.ListN.{drop, replicate}
use lib.Seq.{drop-drop}
use borrow.Author.Tests.{leb-true}
use Rattle.endian.specs.Numbers.{little_at}
use Rattle.refusal.specs.Places.{Throughout}
use Rattle.refusal.proofs.TestLaws.{both_true}
use Rattle.record.specs.Fields.{u16, width, number, Field, values, in_range}
use Rattle.record.specs.Ranges.{◌to◌, within}

-- a count in range, from both sides
pub within_both : (least most k : ℕ) → within (least to most) (pos k) ≡ true → (least ≤ k) × (k ≤ most)
unfolding within ◌to◌
within_both least most k h =
    let both = both_true (leb least k) (leb k most) h in
    (leb-true least k both.0, leb-true k most both.1)

-- the first of some fields, where it is a u16, and the rest
pub first_fits : (f : Field) (fs : List Field) (bytes : List ℕ) (place : ℕ) → f.form ≡ u16
    → in_range (f ∷ fs) (values (f ∷ fs) (drop place bytes)) ≡ true
    → (within f.range (pos (little_at 2 bytes place)) ≡ true) × (in_range fs (values fs (drop (place + 2) bytes)) ≡ true)
unfolding in_range values number width little_at
first_fits f fs bytes place form h = both_true _ _ (rw (form, drop-drop) at h)

-- a run of u16
pub run_fits : (f : Field) (count : ℕ) (bytes : List ℕ) (place : ℕ) → f.form ≡ u16
    → in_range (replicate count f) (values (replicate count f) (drop place bytes)) ≡ true
    → Throughout count (λ j. within f.range (pos (little_at 2 bytes (place + 2 * j))) ≡ true)
run_fits f zero bytes place form h j below = absurd (omega arith)
run_fits f (suc count) bytes place form h zero below =
    let here : place + 2 * 0 ≡ place = omega arith in
    rw here (first_fits f (replicate count f) bytes place form h).0
run_fits f (suc count) bytes place form h (suc j) below =
    let there : place + 2 * suc j ≡ place + 2 + 2 * j = omega arith in
    rw there (run_fits f count bytes (place + 2) form (first_fits f (replicate count f) bytes place form h).1 j (omega arith))

-- The laws of parting: how many bytes the first record takes, and the records of bytes that are not empty. Assumes nothing.
use mathlib.Core.Path.{◌≡◌, refl, ap}
use Prim.Native.Nat.{ℕ, zero, suc, ◌+◌, ◌≤◌, ◌<◌}
use mathlib.Core.Bool.{true, false}
use mathlib.Core.List.{List, [], ◌∷◌}
use native.Mathlib.Omega.{arith}
use lib.ListN.{length, length-take, length-drop}
use lib.Seq.{drop-length}
use borrow.Author.Tests.{le-leb, lt-leb, leb-true}
use Rattle.refusal.proofs.TestLaws.{either, both_true, true_both}
use Rattle.record_parting.specs.Parting.{stated, whole_first, taken, first_record, after_first, up_to, records}

-- ---- how many bytes the first record takes, test by test

module _ (input : List ℕ) where
  pub taken_short : length input < 4 → taken input ≡ length input
  unfolding taken whole_first
  taken_short short = rw (lt-leb 4 (length input) short)

  pub taken_small : 4 ≤ length input → stated input < 2 → taken input ≡ length input
  unfolding taken whole_first
  taken_small enough small = rw (le-leb 4 (length input) enough, lt-leb 2 (stated input) small)

  pub taken_early : 4 ≤ length input → 2 ≤ stated input → length input < 4 + stated input → taken input ≡ length input
  unfolding taken whole_first
  taken_early enough two early = rw (le-leb 4 (length input) enough, le-leb 2 (stated input) two, lt-leb (4 + stated input) (length input) early)

  pub taken_whole : 4 ≤ length input → 2 ≤ stated input → 4 + stated input ≤ length input → taken input ≡ 4 + stated input
  unfolding taken whole_first
  taken_whole enough two all = rw (le-leb 4 (length input) enough, le-leb 2 (stated input) two, le-leb (4 + stated input) (length input) all)

  pub whole_passes : whole_first input ≡ true → (4 ≤ length input) × (2 ≤ stated input) × (4 + stated input ≤ length input)
  unfolding whole_first
  whole_passes e =
      let four = both_true _ _ e in
      let two = both_true _ _ four.1 in
      (leb-true _ _ four.0, leb-true _ _ two.0, leb-true _ _ two.1)

  pub passes_whole : 4 ≤ length input → 2 ≤ stated input → 4 + stated input ≤ length input → whole_first input ≡ true
  unfolding whole_first
  passes_whole four two all = true_both _ _ (le-leb _ _ four) (true_both _ _ (le-leb _ _ two) (le-leb _ _ all))

  pub not_whole : whole_first input ≡ false → taken input ≡ length input
  unfolding taken
  not_whole e = rw e

  -- all of them, or at least 6 and no more than there are
  pub taken_all_or_six : {X : Type 0} → (taken input ≡ length input → X) → (6 ≤ taken input → taken input ≤ length input → X) → X
  taken_all_or_six all some =
      either (whole_first input)
      (λ e.
      let whole : (4 ≤ length input) × (2 ≤ stated input) × (4 + stated input ≤ length input) = whole_passes e in
      let size : taken input ≡ 4 + stated input = taken_whole whole.0 whole.1 whole.2 in
      some (omega arith) (omega arith))
      (λ e. all (not_whole e))

  pub taken_within : taken input ≤ length input
  taken_within = taken_all_or_six (λ all. omega arith) (λ six within. within)

  pub taken_some : 0 < length input → 0 < taken input
  taken_some some = taken_all_or_six (λ all. omega arith) (λ six within. omega arith)

  -- neither the first record nor what is left is longer than the input
  pub first_length : length (first_record input) ≤ length input
  unfolding first_record
  first_length = rw length-take (omega arith)

  pub rest_length : length (after_first input) ≤ length input
  unfolding after_first
  rest_length = rw length-drop (omega arith)

  -- if it takes all there is nothing left
  pub nothing_left : taken input ≡ length input → after_first input ≡ []
  unfolding after_first
  nothing_left all = rw (all, drop-length)

-- what the first record takes, by the tests in their order
pub ruleset first_taken = (taken_short, taken_small, taken_early, taken_whole)

-- ---- the records

pub no_bytes : (input : List ℕ) → length input ≤ 0 → input ≡ []
no_bytes [] none = refl
no_bytes (b ∷ input) none = absurd (omega arith)

-- the bytes that are left are fewer
pub fewer : (input : List ℕ) → 0 < length input → length (after_first input) < length input
unfolding after_first
fewer input some = rw length-drop (taken_all_or_six input (λ all. omega arith) (λ six within. omega arith))

-- more than enough is enough
up_to_same : (a b : ℕ) (input : List ℕ) → length input ≤ a → length input ≤ b → up_to a input ≡ up_to b input
unfolding up_to
up_to_same zero zero input ha hb = refl
up_to_same zero (suc b) [] ha hb = refl
up_to_same zero (suc b) (x ∷ input) ha hb = absurd (omega arith)
up_to_same (suc a) zero [] ha hb = refl
up_to_same (suc a) zero (x ∷ input) ha hb = absurd (omega arith)
up_to_same (suc a) (suc b) [] ha hb = refl
up_to_same (suc a) (suc b) (x ∷ input) ha hb =
    let less : length (after_first (x ∷ input)) < length (x ∷ input) = fewer (x ∷ input) (omega arith) in
    ap (λ rest. first_record (x ∷ input) ∷ rest) (up_to_same a b (after_first (x ∷ input)) (omega arith) (omega arith))

pub records_none : records [] ≡ []
unfolding records up_to
records_none = refl

pub records_more : (input : List ℕ) → 0 < length input → records input ≡ first_record input ∷ records (after_first input)
unfolding records up_to
records_more [] some = absurd (omega arith)
records_more (x ∷ input) some =
    let less : length (after_first (x ∷ input)) < length (x ∷ input) = fewer (x ∷ input) some in
    ap (λ rest. first_record (x ∷ input) ∷ rest) (up_to_same (length input) (length (after_first (x ∷ input))) (after_first (x ∷ input)) (omega arith) (omega arith))

-- no more records than bytes
up_to_few : (most : ℕ) (input : List ℕ) → length (up_to most input) ≤ most
unfolding up_to
up_to_few zero input = omega arith
up_to_few (suc most) [] = omega arith
up_to_few (suc most) (b ∷ input) = omega (arith, up_to_few most (after_first (b ∷ input)))

pub records_few : (input : List ℕ) → length (records input) ≤ length input
unfolding records
records_few input = up_to_few (length input) input

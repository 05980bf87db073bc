-- How large the numbers of a refusal are, whatever the bytes: its number has at most two digits and its place lies within the record. How large those of an accepted
-- rank are is `RankingSumsFit` of crate `verdict`. Assumes nothing.
use mathlib.Core.Path.{◌≡◌}
use Prim.Native.Nat.{ℕ, ◌+◌, ◌*◌, ◌≤◌, ◌<◌}
use mathlib.Core.Bool.{Bool, true, false, ◌&&◌}
use mathlib.Core.List.{List, [], ◌∷◌, ◌++◌}
use native.Mathlib.Omega.{arith}
use lib.IntN.{ℤ}
use lib.ListN.{length, drop}
use borrow.Author.Tests.{leb-true, leb-false, eqb-true}
use Rattle.endian.specs.Numbers.{little_at}
use Rattle.record.specs.Fields.{Field, width, widths, values, before_fault}
use Rattle.record.specs.Layouts.{Kind, is_known, counts, length_of, listed}
use Rattle.record.specs.Ranges.{within}
use Rattle.record.specs.Readers as R
use Rattle.record.specs.Readers.{Reader, sound}
use Rattle.record.proofs.Lengths.{length_law}
use Rattle.record_paths.specs.PathFields.{bytes_alone, is_kind, holds_counts, is_long, fields_fit}
use Rattle.record_short.specs.ShortRecords.{triples_in, row_rises, has_weight, before_bad, triple_count, triples_fields, short_length, sound_short}
use Rattle.record_short_check.proofs.TripleWalks.{widths_triples}
use Rattle.refusal.specs.Tests.{Told, done, refused, Test, ◌at◌unless◌, first}
use Rattle.refusal.proofs.PlaceLaws.{before_within}
use Rattle.refusal.proofs.TestLaws.{either, passed, failed}

-- what is told has at most two digits and a place of at most `size`
abbrev pub SmallTold : ℕ → Told → Type 0
SmallTold size done = Unit {0}
SmallTold size (refused number place) = (number < 100) × (place ≤ size)

module _ {I : Type 0} (size : ℕ) where
  -- each test tells no more, if those before it hold
  abbrev pub SmallTests : List (Test I) → I → Type 0
  SmallTests [] i = Unit {0}
  SmallTests ((number at place unless holds) ∷ tests) i = (holds i ≡ false → (number < 100) × (place i ≤ size)) × (holds i ≡ true → SmallTests tests i)

  pub first_small : (tests : List (Test I)) (i : I) → SmallTests tests i → SmallTold size (first tests i)
  unfolding first
  first_small [] i small = tt
  first_small ((number at place unless holds) ∷ tests) i small =
      either (holds i)
      (λ e. rw (passed number place holds tests i e) (first_small tests i (small.1 e)))
      (λ e. rw (failed number place holds tests i e) (small.0 e))

fault_within : (fs : List Field) (zs : List ℤ) → before_fault fs zs ≤ widths fs
unfolding before_fault widths
fault_within [] zs = omega arith
fault_within (f ∷ fs) [] = omega arith
fault_within (f ∷ fs) (z ∷ zs) = step (within f.range z) (fault_within fs zs)
  where
    step : (t : Bool) → before_fault fs zs ≤ widths fs → elim t [ true ↦ width f.form + before_fault fs zs | false ↦ 0 ] ≤ width f.form + widths fs
    step true rest = omega arith
    step false rest = omega arith

-- the tests that records of every kind begin with, and those that follow if L is there
framed_small : (r : Reader) (tests : List (Test Reader)) → (4 + R.stated_length r ≤ length r.bytes → SmallTests (length r.bytes) tests r)
    → SmallTests (length r.bytes) (R.framing ++ tests) r
framed_small r tests small =
    let size = length r.bytes in
    let L = R.stated_length r in (
      λ e. (omega arith, omega arith),
      λ four. (
        λ e. (omega arith, omega arith),
        λ two. (
          λ e. (omega arith, omega arith),
          λ there. (λ e. (omega arith, omega (arith, leb-false size (4 + L) e)), λ no_more. small (leb-true (4 + L) size there)),
        ),
      ),
    )

pub sound_told : (r : Reader) → ((k : Kind) → r.wants k ≡ true → is_known k ≡ true) → SmallTold (length r.bytes) (first sound r)
unfolding sound R.list_start R.fields
sound_told r known =
    let size = length r.bytes in
    let L = R.stated_length r in
    first_small size sound r
    (framed_small r (drop 4 sound)
    (λ there. (
      λ e. (omega arith, omega arith),
      λ wanted. (
        λ e. (omega arith, omega arith),
        λ arguments. (
          λ e. (omega arith, omega arith),
          λ counted. (
            λ e. (omega arith, omega (arith, fault_within (counts (R.kind r)) (R.count_list r), leb-true (2 + widths (counts (R.kind r))) L counted)),
            λ counts_fit. (
              λ e. (omega arith, omega arith),
              λ formula. (
                λ e. (
                  omega arith,
                  omega (
                    arith,
                    fault_within (listed (R.kind r) (R.counts_read r)) (R.list r),
                    eqb-true L (length_of (R.kind r) (R.counts_read r)) formula,
                    length_law (R.kind r) (R.counts_read r) (known (R.kind r) wanted),
                  ),
                ),
                λ values_fit. tt,
              ),
            ),
          ),
        ),
      ),
    )))

-- a short ranking: a triple that is told lies within its own bytes, whatever the record has that it stands for
pub short_told : (n m : ℕ) (bytes : List ℕ) → SmallTold (length bytes) (first (sound_short n m) (bytes_alone bytes))
unfolding sound_short is_kind holds_counts is_long fields_fit bytes_alone R.stated_length triple_count widths width short_length before_bad
short_told n m bytes =
    let size = length bytes in
    let L = little_at 4 bytes 0 in
    let c = triples_in bytes in
    let fields = triples_fields c in
    let bad_within : before_bad m bytes ≤ c = before_within c (λ i. row_rises m bytes i && has_weight bytes i) in
    first_small size (sound_short n m) (bytes_alone bytes)
    (framed_small (bytes_alone bytes) (drop 4 (sound_short n m))
    (λ there. (
      λ e. (omega arith, omega arith),
      λ numbered. (
        λ e. (omega arith, omega arith),
        λ arguments. (
          λ e. (omega arith, omega arith),
          λ counted. (
            λ e. (omega arith, omega (arith, fault_within (triple_count ∷ []) (values (triple_count ∷ []) (drop 6 bytes)), leb-true 4 L counted)),
            λ count_fits. (
              λ e. (omega arith, omega arith),
              λ formula. let long : L ≡ 4 + 6 * c = eqb-true L (4 + 6 * c) formula in (
                λ e. (omega arith, omega arith),
                λ rises. (
                  λ e. (omega arith, omega arith),
                  λ weighty. (λ e. (omega arith, omega (arith, fault_within fields (values fields (drop 8 bytes)), widths_triples c)), λ values_fit. tt),
                ),
              ),
            ),
          ),
        ),
      ),
    )))

-- Weights by their rows: what `weight_of` finds of a row that is there and of one that is not.
use mathlib.Core.Path.{◌≡◌, refl}
use Prim.Native.Nat.{ℕ, zero, suc, ◌≤◌, ◌<◌}
use native.Mathlib.Decide.{dec_lt}
use native.Mathlib.Omega.{arith}
use lib.Dec.{eqb}
use borrow.Author.Tests.{eq-eqb, ne_eqb}
use Rattle.refusal.specs.Places.{Throughout}
use Rattle.refusal.proofs.TestLaws.{either}
use Rattle.record_short.specs.ShortRecords.{weight_of}

pub weight_same : (row row' w w' : ℕ → ℕ) (count i : ℕ) → ((k : ℕ) → k < count → (row k ≡ row' k) × (w k ≡ w' k))
    → weight_of row w count i ≡ weight_of row' w' count i
unfolding weight_of
weight_same row row' w w' zero i h = refl
weight_same row row' w w' (suc count) i h =
    rw ((h count (omega arith)).0, (h count (omega arith)).1, weight_same row row' w w' count i (λ k below. h k (omega arith)))

module _ (row w : ℕ → ℕ) where
  pub weight_most : (most count i : ℕ) → Throughout count (λ k. w k ≤ most) → weight_of row w count i ≤ most
  unfolding weight_of
  weight_most most zero i h = omega arith
  weight_most most (suc count) i h =
      either (eqb (row count) i)
      (λ e. rw e (h count (omega arith)))
      (λ e. rw e (weight_most most count i (λ k below. h k (omega arith))))

  -- of a row that no triple has
  pub weight_absent : (count i : ℕ) → ((k : ℕ) → k < count → row k ≡ i → ⊥) → weight_of row w count i ≡ 0
  unfolding weight_of
  weight_absent zero i h = refl
  weight_absent (suc count) i h = rw (ne_eqb (row count) i (h count (omega arith))) (weight_absent count i (λ k below. h k (omega arith)))

  -- of a row that one triple has, where rows rise
  pub weight_there : (count k : ℕ) → ((a b : ℕ) → a < b → b < count → row a < row b) → k < count → weight_of row w count (row k) ≡ w k
  unfolding weight_of
  weight_there zero k rise below = absurd (omega arith)
  weight_there (suc count) k rise below =
      elim (dec_lt k count) [
        | yes early ↦
            let less : row k < row count = rise k count early (omega arith) in
            rw (ne_eqb (row count) (row k) (λ e. omega arith)) (weight_there count k (λ a b ab bc. rise a b ab (omega arith)) early)
        | no late ↦ let same : k ≡ count = omega arith in rw (same, eq-eqb (row count) (row count) refl)
      ]

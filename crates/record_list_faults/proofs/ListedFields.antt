-- The fields of a record's list: by the kind number, as code walks them; and where they end, in the values and in the record.
use mathlib.Core.Path.{◌≡◌, refl, ap}
use Prim.Native.Nat.{ℕ, ◌+◌, ◌*◌, ◌≤◌}
use mathlib.Core.List.{[], ◌∷◌, ◌++◌}
use native.Mathlib.Omega.{arith}
use lib.ListN.{length, replicate}
use Rattle.record.specs.declared.Counts.{Counts}
use Rattle.record.specs.Fields.{widths}
use Rattle.record.specs.Layouts.{Kind, loop, ranking, exclusion, lasso, other, kind_of, is_loop, is_known, row_count, multiplier, scale, direction, rows_of, counts, layout, length_of, ahead, listed}
use Rattle.record.proofs.KindLaws.{other_kind}
use Rattle.record.proofs.Lengths.{length_law}
use Rattle.record_fields.specs.Runs.{linear, weights, value_count}
use Rattle.record_fields.proofs.BodyParts.{ranking_is, exclusion_is, lasso_is, count_law}

module _ (x : ℕ) (c : Counts) where
  pub listed_loop : x ≡ 1 → listed (kind_of x) c ≡ rows_of c.n c.m
  unfolding kind_of listed is_loop layout
  listed_loop is = rw is

  pub listed_ranking : x ≡ 2 → listed (kind_of x) c ≡ replicate (2 * c.m) multiplier
  unfolding kind_of listed is_loop counts
  listed_ranking is = rw is (ranking_is c)

  pub listed_exclusion : x ≡ 3 → listed (kind_of x) c ≡ (scale ∷ []) ++ replicate (3 * c.n) direction
  unfolding kind_of listed is_loop counts
  listed_exclusion is = rw is (exclusion_is c)

  pub listed_lasso : x ≡ 4 → listed (kind_of x) c ≡ (row_count ∷ []) ++ (rows_of c.n c.ms ++ (linear c.n ++ (weights c.ms ++ weights (3 * c.m + 3))))
  unfolding kind_of listed is_loop counts
  listed_lasso is = rw is (ap (λ fs. row_count ∷ fs) (lasso_is c))

  pub listed_other : (x ≡ 1 → ⊥) → (x ≡ 2 → ⊥) → (x ≡ 3 → ⊥) → (x ≡ 4 → ⊥) → listed (kind_of x) c ≡ []
  unfolding listed is_loop counts layout
  listed_other one two three four = rw (other_kind x one two three four)

pub listed_ends : (k : Kind) (c : Counts) (long : ℕ) → long ≡ value_count k c → 4 + length_of k c ≤ 65536
    → (0 + length (listed k c) ≤ long) × (6 + widths (ahead k) + widths (listed k c) ≤ 65536)
unfolding is_known widths ahead listed is_loop counts layout
listed_ends loop c long h small = (omega (arith, count_law loop c), omega (arith, length_law loop c refl))
listed_ends ranking c long h small = (omega (arith, count_law ranking c), omega (arith, length_law ranking c refl))
listed_ends exclusion c long h small = (omega (arith, count_law exclusion c), omega (arith, length_law exclusion c refl))
listed_ends lasso c long h small = (omega (arith, count_law lasso c), omega (arith, length_law lasso c refl))
listed_ends other c long h small = (omega arith, omega arith)

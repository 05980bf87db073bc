-- Laws of the tests of a lexicographic argument, in the shape in which code asks them: a test at each of some places, the one test of
-- weighted rows, the three tests of a path, and the paths one after another.
use Prim.Native.Nat.{ℕ, zero, suc, ◌<◌}
use mathlib.Core.Path.{◌≡◌, refl, sym, ap₂, ◌∙◌}
use mathlib.Core.Logic.{◌↔◌}
use mathlib.Core.Bool.{Bool, true, false, ◌&&◌}
use mathlib.Core.List.{List}
use native.Mathlib.Omega.{arith}
use lib.IntN.{pos}
use lib.ListN.{length, get_or}
use lib.Signed.{◌≤ℤ◌}
use Rattle.refusal.specs.Tests.{done, refused, Test, first, ◌then◌, number}
use Rattle.refusal.specs.Places.{Throughout}
use Rattle.refusal.proofs.TestLaws.{never, either, both_true, true_both, passed, failed, passes_done, zero_done}
use Rattle.refusal.proofs.PlaceLaws.{first_append}
use Rattle.refusal.proofs.FaultLaws.{Named, named_then}
use Rattle.whole.specs.Same.{same_z}
use Rattle.whole.proofs.Compare.{true_same, same_true, true_le, le_true}
use Rattle.theory.specs.Loops.{A, A', b}
use Rattle.theory.specs.WeightedRows.{Weighted, sum_of, times_v, Weighs}
use Rattle.theory.specs.Conditions.{weighed_tests, weighed_told}
use Rattle.theory.proofs.Orders.{decided}
use Rattle.theory.proofs.Decisions.{weighed_decides}
use Rattle.theory_paths.specs.Paths.{Branches}
use Rattle.theory_paths.specs.Lexicographics.{Lexicographic, part_at, bounding, falling, not_rising}
use Rattle.theory_paths.specs.PathConditions.{Proposed, every, weighs, path_tests, path_by_path, lexicographic_tests, lexicographic_told, path_told}

-- ---- at each of n places

pub every_holds : (n : ℕ) (holds : ℕ → Bool) → Throughout n (λ j. holds j ≡ true) → every n holds ≡ true
unfolding every
every_holds zero holds h = refl
every_holds (suc n) holds h = true_both _ _ (h 0 (omega arith)) (every_holds n (λ j. holds (suc j)) (λ j k. h (suc j) (omega arith)))

pub every_throughout : (n : ℕ) (holds : ℕ → Bool) → every n holds ≡ true → Throughout n (λ j. holds j ≡ true)
unfolding every
every_throughout zero holds h j below = absurd (omega arith)
every_throughout (suc n) holds h zero below = (both_true _ _ h).0
every_throughout (suc n) holds h (suc j) below = every_throughout n (λ j. holds (suc j)) (both_true (holds 0) _ h).1 j (omega arith)

pub every_fails : (n : ℕ) (holds : ℕ → Bool) (j : ℕ) → j < n → holds j ≡ false → every n holds ≡ false
unfolding every
every_fails zero holds j below h = absurd (omega arith)
every_fails (suc n) holds zero below h = rw h
every_fails (suc n) holds (suc j) below h = false_right (holds 0) _ (every_fails n (λ i. holds (suc i)) j (omega arith) h)
  where
    false_right : (s t : Bool) → t ≡ false → (s && t) ≡ false
    false_right true t h = h
    false_right false t h = refl

-- tests that agree below n
pub every_same : (n : ℕ) (f g : ℕ → Bool) → Throughout n (λ j. f j ≡ g j) → every n f ≡ every n g
unfolding every
every_same zero f g h = refl
every_same (suc n) f g h = ap₂ ◌&&◌ (h 0 (omega arith)) (every_same n (λ j. f (suc j)) (λ j. g (suc j)) (λ j k. h (suc j) (omega arith)))

-- ---- weighted rows

pub weighs_decides : (n : ℕ) (w : Weighted) → (weighs n w ≡ true) ↔ Weighs n w
unfolding weighs
weighs_decides n w = (holds, passes)
  where
    holds : weighs n w ≡ true → Weighs n w
    holds h =
        let now = both_true (every n (λ j. same_z (sum_of w (A j)) (times_v w w.now j))) _ h in
        let next = both_true (every n (λ j. same_z (sum_of w (A' j)) (times_v w w.next j))) _ now.1 in
        record {
          over_A = λ j below. true_same _ _ (every_throughout n _ now.0 j below);
          over_A' = λ j below. true_same _ _ (every_throughout n _ next.0 j below);
          over_b = true_le _ _ next.1;
        }

    passes : Weighs n w → weighs n w ≡ true
    passes h =
        true_both _ _ (every_holds n _ (λ j below. same_true (h.over_A j below)))
        (true_both _ _ (every_holds n _ (λ j below. same_true (h.over_A' j below))) (le_true h.over_b))

-- the same rows and weights, held to the same below n, weigh the same
pub weighs_same : (n : ℕ) (w u : Weighted) → w.rows ≡ u.rows → w.weights ≡ u.weights
    → Throughout n (λ j. get_or w.v j (pos 0) ≡ get_or u.v j (pos 0)) → w.now ≡ u.now → w.next ≡ u.next → w.limit ≡ u.limit
    → weighs n w ≡ weighs n u
unfolding weighs
weighs_same n w u rows weights v now next limit =
    ap₂ ◌&&◌ (every_same n _ _ (λ j below. rw (rows, weights, now, v j below)))
    (ap₂ ◌&&◌ (every_same n _ _ (λ j below. rw (rows, weights, next, v j below))) (rw (rows, weights, limit)))

-- the three tests of weighted rows, each with a number of its own, are done exactly when the one test holds
pub weighed_once : (over_A over_A' over_b n : ℕ) (w : Weighted) → (weighed_told over_A over_A' over_b n w ≡ done) ↔ (weighs n w ≡ true)
unfolding weighed_told
weighed_once over_A over_A' over_b n w = (
  λ h. let t = three.0 h in (weighs_decides n w).1 (record { over_A = t.0; over_A' = t.1.0; over_b = t.1.1 }),
  λ h. let t = (weighs_decides n w).0 h in three.1 (t.over_A, (t.over_A', t.over_b)),
)
  where
    three : (first (weighed_tests over_A over_A' over_b n) w ≡ done)
        ↔ (Throughout n (λ j. sum_of w (A j) ≡ times_v w w.now j)
        × (Throughout n (λ j. sum_of w (A' j) ≡ times_v w w.next j) × (sum_of w b ≤ℤ w.limit)))
    three = decided (weighed_decides over_A over_A' over_b n w (λ j. (λ h. h, λ h. h)) (λ j. (λ h. h, λ h. h)) (λ h. h, λ h. h))

pub weighed_refused : (over_A over_A' over_b n : ℕ) (w : Weighted) (k p : ℕ) → weighed_told over_A over_A' over_b n w ≡ refused k p → weighs n w ≡ false
weighed_refused over_A over_A' over_b n w k p h =
    either (weighs n w) (λ e. absurd (never (sym h ∙ (weighed_once over_A over_A' over_b n w).1 e))) (λ e. e)

-- ---- one path

module _ (n : ℕ) (loop : Branches) (c : Lexicographic) (j : ℕ) where
  abbrev proposed : Proposed
  proposed = record { loop = loop; values = c }

  -- the test that no earlier component rises
  abbrev pub none_rises : Bool
  none_rises = every (part_at c j).component (λ i. weighs n (not_rising loop c j i))

  pub path_51 : weighs n (bounding loop c j) ≡ false → path_told n loop c j ≡ refused 51 j
  unfolding path_told path_tests
  path_51 h = failed 51 _ _ _ proposed h

  pub path_52 : weighs n (bounding loop c j) ≡ true → weighs n (falling loop c j) ≡ false → path_told n loop c j ≡ refused 52 j
  unfolding path_told path_tests
  path_52 h i = passed 51 _ _ _ proposed h ∙ failed 52 _ _ _ proposed i

  pub path_53 : weighs n (bounding loop c j) ≡ true → weighs n (falling loop c j) ≡ true → none_rises ≡ false → path_told n loop c j ≡ refused 53 j
  unfolding path_told path_tests
  path_53 h i k = passed 51 _ _ _ proposed h ∙ passed 52 _ _ _ proposed i ∙ failed 53 _ _ _ proposed k

  pub path_done : weighs n (bounding loop c j) ≡ true → weighs n (falling loop c j) ≡ true → none_rises ≡ true → path_told n loop c j ≡ done
  unfolding path_told path_tests
  path_done h i k = passes_done (path_tests n j) proposed (h, (i, (k, tt)))

  pub path_named : Named (path_told n loop c j)
  unfolding path_told path_tests
  path_named = zero_done (path_tests n j) proposed refl

-- ---- path after path

module _ {I : Type 0} (i : I) where
  each_done : (paths : ℕ) (tests : ℕ → List (Test I)) → Throughout paths (λ j. first (tests j) i ≡ done) → first (path_by_path paths tests) i ≡ done
  unfolding path_by_path first ◌then◌
  each_done zero tests h = refl
  each_done (suc paths) tests h =
      rw (first_append (tests 0) (path_by_path paths (λ j. tests (suc j))) i, h 0 (omega arith))
      (each_done paths (λ j. tests (suc j)) (λ j k. h (suc j) (omega arith)))

  one_refused : (paths : ℕ) (tests : ℕ → List (Test I)) (j k p : ℕ) → j < paths → Throughout j (λ l. first (tests l) i ≡ done)
      → first (tests j) i ≡ refused k p → first (path_by_path paths tests) i ≡ refused k p
  unfolding path_by_path ◌then◌
  one_refused zero tests j k p below before h = absurd (omega arith)
  one_refused (suc paths) tests zero k p below before h = rw (first_append (tests 0) (path_by_path paths (λ l. tests (suc l))) i, h)
  one_refused (suc paths) tests (suc j) k p below before h =
      rw (first_append (tests 0) (path_by_path paths (λ l. tests (suc l))) i, before 0 (omega arith))
      (one_refused paths (λ l. tests (suc l)) j k p (omega arith) (λ l m. before (suc l) (omega arith)) h)

  all_named : (paths : ℕ) (tests : ℕ → List (Test I)) → ((j : ℕ) → Named (first (tests j) i)) → Named (first (path_by_path paths tests) i)
  unfolding path_by_path first
  all_named zero tests h = λ z. refl
  all_named (suc paths) tests h =
      rw (first_append (tests 0) (path_by_path paths (λ j. tests (suc j))) i)
      (named_then (first (tests 0) i) _ (h 0) (all_named paths (λ j. tests (suc j)) (λ j. h (suc j))))

module _ (loop : Branches) (c : Lexicographic) where
  pub paths_done : Throughout (length loop.paths) (λ j. path_told loop.variables loop c j ≡ done) → lexicographic_told loop c ≡ done
  unfolding lexicographic_told lexicographic_tests path_told
  paths_done h = each_done _ (length loop.paths) (path_tests loop.variables) h

  pub paths_refused : (j k p : ℕ) → j < length loop.paths → Throughout j (λ i. path_told loop.variables loop c i ≡ done)
      → path_told loop.variables loop c j ≡ refused k p → lexicographic_told loop c ≡ refused k p
  unfolding lexicographic_told lexicographic_tests path_told
  paths_refused j k p below before h = one_refused _ (length loop.paths) (path_tests loop.variables) j k p below before h

  -- no test tells 0
  pub lexicographic_named : number (lexicographic_told loop c) ≡ 0 → lexicographic_told loop c ≡ done
  unfolding lexicographic_told lexicographic_tests path_told
  lexicographic_named = all_named _ (length loop.paths) (path_tests loop.variables) (path_named loop.variables loop c)

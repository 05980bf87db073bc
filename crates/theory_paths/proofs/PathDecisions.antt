-- The tests and the conditions of a lexicographic argument say the same: the order of tests is done exactly when the conditions of every path
-- hold (`lexicographic_decided`), and otherwise it tells exactly the first that fails (`told_exactly_lexicographic`).
use Prim.Native.Nat.{ℕ, zero, suc, ◌<◌}
use mathlib.Core.Path.{◌≡◌, refl, sym, ◌∙◌}
use mathlib.Core.Logic.{◌↔◌, ◌⊎◌, inl, inr}
use mathlib.Core.Bool.{Bool, true, false≢true}
use mathlib.Core.List.{List, []}
use native.Mathlib.Omega.{arith}
use lib.ListN.{length}
use Rattle.refusal.specs.Tests.{done, refused, Test, first}
use Rattle.refusal.specs.Places.{Throughout, FirstFailing, before_failing}
use Rattle.refusal.proofs.TestLaws.{never}
use Rattle.refusal.proofs.PlaceLaws.{all-or-first, holds_before, fails_there}
use Rattle.theory.specs.WeightedRows.{Weighs}
use Rattle.theory.proofs.Orders.{Decides, both, one, changed, decided, told_exactly}
use Rattle.theory_paths.specs.Paths.{Branches}
use Rattle.theory_paths.specs.Lexicographics.{Lexicographic, part_at, bounding, falling, not_rising, PathHolds, LexicographicHolds}
use Rattle.theory_paths.specs.PathConditions.{path_tests, path_by_path, lexicographic_tests, lexicographic_told}
use Rattle.theory_paths.specs.PathFails.{LexicographicFails, fails_51, fails_52, fails_53}
use Rattle.theory_paths.proofs.PathLaws.{every_holds, every_throughout, weighs_decides}

-- ---- path after path

-- the first of some paths at which P fails, which has F told of it
abbrev OfPath : ℕ → (ℕ → Type 0) → (ℕ → ℕ → ℕ → Type 0) → ℕ → ℕ → Type 0
OfPath paths P F k p = (j : ℕ) × (j < paths) × Throughout j P × F j k p

module _ {I : Type 0} {i : I} where
  none_decides : {P : ℕ → Type 0} {F : ℕ → ℕ → ℕ → Type 0} → Decides [] i (Throughout 0 P) (OfPath 0 P F)
  unfolding first
  none_decides =
      record {
        passes = λ h. tt;
        holds = λ h j below. absurd (omega arith);
        tells = λ k p h. absurd (omega (arith, h.1));
        told = λ k p h. absurd (never (sym h));
      }

  pub paths_decide : (paths : ℕ) (tests : ℕ → List (Test I)) (P : ℕ → Type 0) (F : ℕ → ℕ → ℕ → Type 0) → ((j : ℕ) → Decides (tests j) i (P j) (F j))
      → Decides (path_by_path paths tests) i (Throughout paths P) (OfPath paths P F)
  unfolding path_by_path
  paths_decide zero tests P F d = none_decides
  paths_decide (suc paths) tests P F d =
      changed
      (both (d 0) (paths_decide paths (λ j. tests (suc j)) (λ j. P (suc j)) (λ j. F (suc j)) (λ j. d (suc j))))
      (λ h. from_first h.0 h.1)
      (λ h. (h 0 (omega arith), λ j below. h (suc j) (omega arith)))
      found sought
    where
      from_first : {n : ℕ} → P 0 → Throughout n (λ j. P (suc j)) → Throughout (suc n) P
      from_first h rest zero below = h
      from_first h rest (suc j) below = rest j (omega arith)

      found : (k p : ℕ) → F 0 k p ⊎ (P 0 × OfPath paths (λ j. P (suc j)) (λ j. F (suc j)) k p) → OfPath (suc paths) P F k p
      found k p (inl f) = (0, omega arith, λ j below. absurd (omega arith), f)
      found k p (inr (h, (j, below, before, f))) = (suc j, omega arith, from_first h before, f)

      sought : (k p : ℕ) → OfPath (suc paths) P F k p → F 0 k p ⊎ (P 0 × OfPath paths (λ j. P (suc j)) (λ j. F (suc j)) k p)
      sought k p (zero, below, before, f) = inl f
      sought k p (suc j, below, before, f) = inr (before 0 (omega arith), (j, omega arith, λ l m. before (suc l) (omega arith), f))

-- what is tested and does not hold throughout fails first somewhere
first_failing : (n : ℕ) (holds : ℕ → Bool) (P : ℕ → Type 0) → ((j : ℕ) → (holds j ≡ true) ↔ P j) → (Throughout n P → ⊥) → (i : ℕ) × FirstFailing n P i
first_failing n holds P is none =
    all-or-first n holds
    (λ all. absurd (none (λ j below. (is j).0 (holds_before n holds j (rw all below)))))
    (λ some. (
      before_failing n holds,
      record {
        below = some;
        fails = λ h. false≢true (sym (fails_there n holds some) ∙ (is (before_failing n holds)).1 h);
        before = λ j below. (is j).0 (holds_before n holds j below);
      },
    ))

-- ---- one path

module _ (loop : Branches) (c : Lexicographic) where
  abbrev n : ℕ
  n = loop.variables

  abbrev Bounded : ℕ → Type 0
  Bounded j = Weighs n (bounding loop c j)

  abbrev Falling : ℕ → Type 0
  Falling j = Weighs n (falling loop c j)

  abbrev NoneRises : ℕ → Type 0
  NoneRises j = Throughout (part_at c j).component (λ i. Weighs n (not_rising loop c j i))

  -- the first that fails of path j, as the order of tests has it
  abbrev PathOrder : ℕ → ℕ → ℕ → Type 0
  PathOrder j k p =
      ((51 ≡ k) × (j ≡ p) × (Bounded j → ⊥))
      ⊎ (Bounded j × (((52 ≡ k) × (j ≡ p) × (Falling j → ⊥)) ⊎ (Falling j × ((53 ≡ k) × (j ≡ p) × (NoneRises j → ⊥)))))

  path_decides : (j : ℕ) → Decides (path_tests n j) (record { loop = loop; values = c }) (PathHolds loop c j) (PathOrder j)
  unfolding path_tests
  path_decides j =
      changed
      (both (one (weighs_decides n (bounding loop c j)).0 (weighs_decides n (bounding loop c j)).1)
      (both (one (weighs_decides n (falling loop c j)).0 (weighs_decides n (falling loop c j)).1)
      (one
      (λ t i below. (weighs_decides n (not_rising loop c j i)).0 (every_throughout _ _ t i (omega (arith, below))))
      (λ h. every_holds _ _ (λ i below. (weighs_decides n (not_rising loop c j i)).1 (h i (omega (arith, below))))))))
      (λ h. record { bounded = h.0; ranking = h.1.0; unaffecting = h.1.1 })
      (λ h. (h.bounded, (h.ranking, h.unaffecting)))
      (λ k p f. f)
      (λ k p f. f)

  -- ---- all paths

  abbrev LexicographicOrder : ℕ → ℕ → Type 0
  LexicographicOrder = OfPath (length loop.paths) (PathHolds loop c) PathOrder

  named : (k p : ℕ) → LexicographicOrder k p → LexicographicFails loop c k p
  named k p (j, below, before, inl f) = rw (← f.0, ← f.1) (fails_51 (record { below = below; before = before }) f.2)
  named k p (j, below, before, inr (h, inl f)) = rw (← f.0, ← f.1) (fails_52 (record { below = below; before = before }) h f.2)
  named k p (j, below, before, inr (h, inr (l, f))) =
      let rises = first_failing _ _ (λ i. Weighs n (not_rising loop c j i)) (λ i. weighs_decides n (not_rising loop c j i)) f.2 in
      rw (← f.0, ← f.1) (fails_53 (record { below = below; before = before }) h l rises.1)

  numbered : (k p : ℕ) → LexicographicFails loop c k p → LexicographicOrder k p
  numbered k p (fails_51 {j} r f) = (j, r.below, r.before, inl (refl, refl, f))
  numbered k p (fails_52 {j} r h f) = (j, r.below, r.before, inr (h, inl (refl, refl, f)))
  numbered k p (fails_53 {j} {i} r h l f) = (j, r.below, r.before, inr (h, inr (l, (refl, refl, λ all. f.fails (all i f.below)))))

  lexicographic_decides : Decides (lexicographic_tests n (length loop.paths)) (record { loop = loop; values = c })
      (LexicographicHolds loop c) (LexicographicFails loop c)
  unfolding lexicographic_tests
  lexicographic_decides =
      changed (paths_decide (length loop.paths) (path_tests n) (PathHolds loop c) PathOrder path_decides) (λ h. h) (λ h. h) named numbered

  pub lexicographic_decided : (lexicographic_told loop c ≡ done) ↔ LexicographicHolds loop c
  unfolding lexicographic_told
  lexicographic_decided = decided lexicographic_decides

  pub told_exactly_lexicographic : (k p : ℕ) → (lexicographic_told loop c ≡ refused k p) ↔ LexicographicFails loop c k p
  unfolding lexicographic_told
  told_exactly_lexicographic = told_exactly lexicographic_decides

-- What q divides: a number below 0 by its size, a list by its places, every number where q is 1; and the exclusion that bytes hold, part
-- by part.
use mathlib.Core.Path.{◌≡◌, refl, ap, ap₂, ◌∙◌}
use Prim.Native.Nat.{ℕ, zero, suc, ◌+◌, ◌*◌}
use mathlib.Core.Bool.{Bool, true, false, ◌&&◌}
use mathlib.Core.List.{List, [], ◌∷◌}
use native.Mathlib.Nat.{mod-one}
use native.Mathlib.Omega.{arith}
use lib.IntN.{ℤ, nat_abs}
use borrow.Author.Tests.{eq-eqb}
use Rattle.std.specs.List.{list_all, range_with_len}
use Rattle.endian.specs.Numbers.{little_at}
use Rattle.whole.specs.Sums.{tabulate}
use Rattle.theory.specs.Exclusions.{divides, all_divided, step_is_whole}
use Rattle.judge_sums.specs.Lists.{rights_from}
use Rattle.judge_sums.specs.Places.{right_at}
use Rattle.judge_exclusion.specs.ExclusionHeld.{exclusion_held}

-- ---- a list by its places

all_in_turn : (q n start : ℕ) (holds : ℕ → Bool) (number : ℕ → ℤ) → ((j : ℕ) → holds (start + j) ≡ divides q (number j))
    → list_all holds (range_with_len start n) ≡ all_divided q (tabulate n number)
unfolding all_divided tabulate
all_in_turn q zero start holds number same = refl
all_in_turn q (suc n) start holds number same =
    ap₂ (λ x y. x && y) (ap holds (omega arith) ∙ same 0) (all_in_turn q n (start + 1) holds (λ j. number (suc j)) (λ j. ap holds (omega arith) ∙ same (suc j)))

pub rights_in_turn : (q : ℕ) (bytes : List ℕ) (place count : ℕ) → list_all (λ j. divides q (right_at bytes (place + 4 * j))) (range_with_len 0 count) ≡ all_divided q (rights_from bytes place count)
unfolding rights_from
rights_in_turn q bytes place count =
    let holds = λ (j : ℕ). divides q (right_at bytes (place + 4 * j)) in
    all_in_turn q count 0 holds (λ j. right_at bytes (place + 4 * j)) (λ j. ap holds (omega arith))

-- ---- where q is 1

by_one : (z : ℤ) → divides 1 z ≡ true
unfolding divides
by_one z = eq-eqb _ 0 (mod-one (nat_abs z))

all_by_one : (zs : List ℤ) → all_divided 1 zs ≡ true
unfolding all_divided
all_by_one [] = refl
all_by_one (z ∷ zs) = rw (by_one z) (all_by_one zs)

-- ---- the exclusion that bytes hold

module _ (bytes : List ℕ) (n : ℕ) where
  pub whole_by_one : little_at 2 bytes 6 ≡ 1 → step_is_whole (exclusion_held bytes n) ≡ true
  unfolding step_is_whole exclusion_held
  whole_by_one h = rw (h, all_by_one (rights_from bytes (8 + 8 * n) n)) (all_by_one (rights_from bytes (8 + 4 * n) n))

  module _ (q : ℕ) (is : q ≡ little_at 2 bytes 6) where
    pub not_whole : all_divided q (rights_from bytes (8 + 8 * n) n) ≡ false → step_is_whole (exclusion_held bytes n) ≡ false
    unfolding step_is_whole exclusion_held
    not_whole h = rw (← is, h)

    pub whole_by_V : all_divided q (rights_from bytes (8 + 8 * n) n) ≡ true
        → all_divided q (rights_from bytes (8 + 4 * n) n) ≡ step_is_whole (exclusion_held bytes n)
    unfolding step_is_whole exclusion_held
    whole_by_V h = rw (← is, h)

-- Weighted rows out of their totals: what the code asks column by column, and then of the right sides, is what the theory's test asks.
use mathlib.Core.Path.{◌≡◌, refl, sym, ap, ap₂, ◌∙◌}
use Prim.Native.Nat.{ℕ, zero, suc, ◌+◌, ◌*◌, ◌≤◌, ◌<◌}
use mathlib.Core.Bool.{Bool, true, false, ◌&&◌}
use mathlib.Core.List.{List}
use native.Mathlib.Omega.{arith}
use lib.IntN.{ℤ, pos, negsuc, neg_ℤ, ◌*ℤ◌}
use lib.ListN.{get_or}
use lib.Signed.{le_z}
use mir.Syntax.{w64}
use mir.Val.{of_z, to_z}
use mir.Facts.{to_z-of_z}
use Rattle.whole.specs.Same.{same_z}
use Rattle.whole.proofs.Solve.{v, neg, ◌⊗◌, solve}
use Rattle.whole.proofs.Tables.{tabulate_at}
use Rattle.theory.specs.Loops.{A, A', b}
use Rattle.theory.specs.WeightedRows.{Weighted, sum_of, times_v}
use Rattle.theory_paths.specs.PathConditions.{every, weighs}
use Rattle.theory_paths.proofs.PathLaws.{every_same}
use Rattle.judge_sums.specs.Lists.{rights_from}
use Rattle.judge_sums.specs.Places.{right_at, most_right}
use Rattle.judge_sums.specs.Terms.{TotalsUnder}
use Rattle.judge_sums.specs.declared.rows.Rows.{Rows}
use Rattle.judge_sums.proofs.LiftLaws.{column_in}
use Rattle.judge_conditions.proofs.Totals.{can_grow, grown_fits, now_is, next_is, right_is}
use Rattle.judge_ranking.proofs.RankingTotals.{lift_passed}
use Rattle.judge_paths.specs.PathByPlaces.{weighted_by, column_held, totals_held}
use Rattle.judge_paths.specs.PathHeld.{weighted_of}
use Rattle.judge_paths.specs.declared.path.Held.{Held}

-- ---- tests at every place

every_both : (n : ℕ) (f g : ℕ → Bool) → every n (λ j. f j && g j) ≡ (every n f && every n g)
unfolding every
every_both zero f g = refl
every_both (suc n) f g = rw (every_both n (λ j. f (suc j)) (λ j. g (suc j))) (shuffle (f 0) (g 0) (every n (λ j. f (suc j))) (every n (λ j. g (suc j))))
  where
    shuffle : (a b c d : Bool) → ((a && b) && (c && d)) ≡ ((a && c) && (b && d))
    shuffle true true c d = refl
    shuffle true false true d = refl
    shuffle true false false d = refl
    shuffle false b c d = refl

-- the theory's order, and the code's
last_first : (a b c : Bool) → (a && (b && c)) ≡ (c && (a && b))
last_first true true true = refl
last_first true true false = refl
last_first true false true = refl
last_first true false false = refl
last_first false b true = refl
last_first false b false = refl

-- ---- one column

minus_one : (z : ℤ) → neg_ℤ z ≡ negsuc 0 *ℤ z
minus_one z = solve (neg (v z)) (v (negsuc 0) ⊗ v z) (omega arith)

right_at_lem : (bytes : List ℕ) (place n j : ℕ) → j < n → get_or (rights_from bytes place n) j (pos 0) ≡ right_at bytes (place + 4 * j)
unfolding rights_from
right_at_lem bytes place n j below = tabulate_at n (λ j. right_at bytes (place + 4 * j)) j (pos 0) below

module _ (rows : Rows) (held : Held) (few : rows.count ≤ 64) (sums : List ℤ) (lift right : ℤ) (totals : TotalsUnder held.weights rows rows.count sums lift right) where
  abbrev w : Weighted
  w = weighted_of rows held

  abbrev bytes : List ℕ
  bytes = held.weights.bytes.now

  abbrev place : ℕ
  place = held.weights.place

  abbrev lift_passed_on : ℤ
  lift_passed_on = to_z w64 (of_z w64 lift)

  small : rows.count ≤ 65
  small = omega (arith, few)

  abbrev held_at : ℕ → Bool
  held_at = column_held sums lift_passed_on rows.n bytes held.r held.next

  column_is : (j : ℕ) → j < rows.n → held_at j ≡ (same_z (sum_of w (A j)) (times_v w w.now j) && same_z (sum_of w (A' j)) (times_v w w.next j))
  unfolding column_held weighted_by
  column_is j below =
      let under = column_in bytes place rows.bytes.now rows.start rows.n rows.count j sums lift_passed_on totals.columns (lift_passed rows.count _ small totals.beside.lift_sum) below in
      let entry = right_at_lem bytes held.r rows.n j below in
      ap₂ (λ x y. x && y)
      (ap₂ same_z (now_is bytes place rows.bytes.now rows.start rows.n j rows.count _ _ small under below)
      (minus_one (right_at bytes (held.r + 4 * j)) ∙ ap (λ z. negsuc 0 *ℤ z) (sym entry)))
      (ap₂ same_z (next_is bytes place rows.bytes.now rows.start rows.n j rows.count _ _ small under below) (ap (λ z. pos held.next *ℤ z) (sym entry)))

  right_total : to_z w64 (of_z w64 right) ≡ sum_of w b
  unfolding weighted_by
  right_total =
      to_z-of_z (grown_fits (can_grow rows.count most_right _ right small (omega arith) totals.beside.right_sum))
      ∙ right_is bytes place rows.bytes.now rows.start rows.n rows.count right totals.beside.right_sum

  -- ---- all of it

  abbrev over_A : ℕ → Bool
  over_A j = same_z (sum_of w (A j)) (times_v w w.now j)

  abbrev over_A' : ℕ → Bool
  over_A' j = same_z (sum_of w (A' j)) (times_v w w.next j)

  columns_are : every rows.n held_at ≡ (every rows.n over_A && every rows.n over_A')
  columns_are = every_same rows.n held_at (λ j. over_A j && over_A' j) column_is ∙ every_both rows.n over_A over_A'

  pub weighs_is : totals_held sums lift_passed_on (to_z w64 (of_z w64 right)) rows.n bytes held.r held.next held.limit ≡ weighs rows.n w
  unfolding weighs weighted_by
  weighs_is = rw (right_total, columns_are) (sym (last_first (every rows.n over_A) (every rows.n over_A') (le_z (sum_of w b) held.limit)))

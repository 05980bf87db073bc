-- Four rows more: how large totals become, and that what is known after i rows is known after those.
use Prim.Native.Nat.{ℕ, ◌+◌, ◌*◌, ◌≤◌, ◌<◌}
use mathlib.Core.List.{List}
use mathlib.Core.Path.{◌≡◌, refl}
use native.Mathlib.Omega.{arith}
use lib.IntN.{ℤ, pos, nat_abs, ◌+ℤ◌, ◌-ℤ◌, ◌*ℤ◌}
use lib.ListN.{get_or}
use mir.Syntax.{w64}
use mir.Val.{to_z, of_z}
use Rattle.endian.specs.Numbers.{little_at}
use Rattle.whole.specs.Sums.{total}
use Rattle.whole.proofs.Size.{abs_add, abs_product}
use Rattle.whole.proofs.Solve.{v, ◌⊕◌, ◌⊗◌, solve}
use Rattle.judge_sums.specs.Places.{entry_at, row_place, entry_term, lift_term, Lifts, Grown, AllModest, Sided, SumsOf, BesideOf, TotalsOf, most_entry, most_right}
use Rattle.judge_sums.specs.Running.{CanGrow, Modest, Adds, SumOf}
use Rattle.judge_sums.proofs.ColumnLaws.{beside_more}
use Rattle.judge_sums.proofs.LiftLaws.{grown, sums_modest, lifts_small, entry_more}
use Rattle.judge_fours.specs.declared.four.Four.{Four}
use Rattle.judge_fours.specs.Fours.{FourAt, FourAdded, SidedFour, FourFit}

-- ---- sizes

-- a total that has taken one entry more
pub lifts_size : {multiplier : ℕ} {entry before after : ℤ} → multiplier < 65536 → Lifts multiplier entry before after → nat_abs after ≤ nat_abs before + 2 * most_entry
lifts_size {multiplier} {entry} {before} few h =
    let m = pos multiplier in
    let apart : before +ℤ m *ℤ (entry +ℤ pos 32768) ≡ before +ℤ m *ℤ entry +ℤ m *ℤ pos 32768
    = solve (v before ⊕ v m ⊗ (v entry ⊕ v (pos 32768))) ((v before ⊕ v m ⊗ v entry) ⊕ v m ⊗ v (pos 32768)) (omega arith) in
    rw (h.is, apart)
    (omega (arith, abs_add (before +ℤ m *ℤ entry) (m *ℤ pos 32768), abs_add before (m *ℤ entry), h.small, abs_product m (pos 32768) {a = 65535} {b = 32768} (omega arith) (omega arith)))

-- the same of one that was passed on
pub passed_size : (before : ℤ) {multiplier : ℕ} {entry after : ℤ} → CanGrow before → multiplier < 65536 → Lifts multiplier entry (to_z w64 (of_z w64 before)) after
    → nat_abs after ≤ nat_abs before + 2 * most_entry
passed_size before grows few h = lifts_size few (rw (grown before grows) at h)

-- the total that the next entries are added to, as it is and as it is passed on
pub next_modest : {grows : ℕ → ℤ → ℤ → Type 0} {before mid : List ℤ} (k width : ℕ) → Grown grows k before mid → AllModest width before → k < width
    → Modest (get_or mid k (pos 0)) × (to_z w64 (of_z w64 (get_or mid k (pos 0))) ≡ get_or mid k (pos 0))
next_modest {mid = mid} k width h small below =
    let modest : Modest (get_or mid k (pos 0)) = rw (h.stays k (omega arith)) (small k below) in
    (modest, grown (get_or mid k (pos 0)) (omega (arith, modest)))

-- what stands beside the columns, and has taken one row more
pub sided_size : {multiplier place : ℕ} {rows : List ℕ} {lift right lift' right' : ℤ} → Sided multiplier rows place lift right lift' right'
    → (nat_abs lift' ≤ nat_abs lift + most_entry) × (nat_abs right' ≤ nat_abs right + most_right)
sided_size h = (adds_size h.lift_adds, adds_size h.right_adds)
  where
    adds_size : {most : ℕ} {term before after : ℤ} → Adds most term before after → nat_abs after ≤ nat_abs before + most
    adds_size {most} {term} {before} more = rw more.is (omega (arith, abs_add before term, more.small))

-- ---- what is known after some rows

module _ (multipliers : List ℕ) (place : ℕ) (rows : List ℕ) (start n : ℕ) where
  abbrev Known : ℕ → List ℤ → ℤ → ℤ → Type 0
  Known = TotalsOf multipliers place rows start n

  -- the totals are small enough for four rows more
  pub known_fits : (i count : ℕ) {sums : List ℤ} {lift right : ℤ} → Known i sums lift right → i + 4 ≤ count → count < 16384
      → AllModest (2 * n) sums × FourFit most_entry lift × FourFit most_right right
  known_fits i count {sums} h left few = (
    sums_modest multipliers place rows start n i sums h.columns (omega arith),
    omega (arith, h.beside.lift_sum.small),
    omega (arith, h.beside.right_sum.small),
  )

  -- one row of the four: for one column's total, for the lifts' and for what stands beside, with multiplier and row known by their places
  entry_next : (i k : ℕ) {multiplier here there : ℕ} {before after : ℤ}
      → SumOf i most_entry (entry_term multipliers place rows start n k) (before -ℤ total i (lift_term multipliers place))
      → multiplier ≡ little_at 2 multipliers here → here ≡ place + 2 * i → Lifts multiplier (entry_at rows there) before after → there ≡ row_place start n i + 2 * k
      → SumOf (i + 1) most_entry (entry_term multipliers place rows start n k) (after -ℤ total (i + 1) (lift_term multipliers place))
  entry_next i k {multiplier} h read here more there = entry_more multipliers place rows start n i multiplier k h (rw here at read) (rw there at more)

  lift_next : (i : ℕ) {multiplier here : ℕ} → nat_abs (total i (lift_term multipliers place)) ≤ i * most_entry
      → multiplier ≡ little_at 2 multipliers here → here ≡ place + 2 * i → multiplier < 65536
      → nat_abs (total (i + 1) (lift_term multipliers place)) ≤ (i + 1) * most_entry
  lift_next i {multiplier} small read here few = lifts_small multipliers place rows start n i multiplier small (rw here at read) few

  beside_next : (i : ℕ) {multiplier here there : ℕ} {lift right lift' right' : ℤ} → BesideOf multipliers place rows start n i lift right
      → multiplier ≡ little_at 2 multipliers here → here ≡ place + 2 * i → Sided multiplier rows there lift right lift' right' → there ≡ row_place start n i + 4 * n
      → BesideOf multipliers place rows start n (i + 1) lift' right'
  beside_next i {multiplier} h read here side there = beside_more multipliers place rows start n i multiplier (row_place start n i) h (rw here at read) refl (rw there at side)

  -- all four: for the columns, for what stands beside them, and for both
  columns_four : (i : ℕ) {four : Four} {before after : List ℤ} → SumsOf multipliers place rows start n i before
      → FourAt multipliers (place + 2 * i) four → FourAdded four rows (row_place start n i) n (2 * n) before after
      → SumsOf multipliers place rows start n (i + 1 + 1 + 1 + 1) after
  columns_four i {four} h reads row =
      record {
        lift_small =
            lift_next (i + 1 + 1 + 1)
            (lift_next (i + 1 + 1)
            (lift_next (i + 1) (lift_next i h.lift_small reads.first refl four.small.0) reads.second (omega arith) four.small.1)
            reads.third (omega arith) four.small.2)
            reads.fourth (omega arith) four.small.3;
        each =
            λ k below.
            let more = row.added k below in
            entry_next (i + 1 + 1 + 1) k
            (entry_next (i + 1 + 1) k
            (entry_next (i + 1) k (entry_next i k (h.each k below) reads.first refl more.first refl) reads.second (omega arith) more.second (omega arith))
            reads.third (omega arith) more.third (omega arith))
            reads.fourth (omega arith) more.fourth (omega arith);
      }

  beside_four : (i : ℕ) {four : Four} {lift right lift' right' : ℤ} → BesideOf multipliers place rows start n i lift right
      → FourAt multipliers (place + 2 * i) four → SidedFour four rows (row_place start n i + 4 * n) (4 * n + 4) lift right lift' right'
      → BesideOf multipliers place rows start n (i + 1 + 1 + 1 + 1) lift' right'
  beside_four i h reads side =
      beside_next (i + 1 + 1 + 1)
      (beside_next (i + 1 + 1)
      (beside_next (i + 1) (beside_next i h reads.first refl side.first refl) reads.second (omega arith) side.second (omega arith))
      reads.third (omega arith) side.third (omega arith))
      reads.fourth (omega arith) side.fourth (omega arith)

  pub known_four : (i at : ℕ) {four : Four} {sums sums' : List ℤ} {lift right lift' right' : ℤ} → Known i sums lift right
      → FourAt multipliers (place + 2 * i) four → at ≡ row_place start n i
      → FourAdded four rows at n (2 * n) sums sums' → SidedFour four rows (at + 4 * n) (4 * n + 4) lift right lift' right' → Known (i + 4) sums' lift' right'
  known_four i at h reads here row side =
      let four_more : i + 1 + 1 + 1 + 1 ≡ i + 4 = omega arith in
      record {
        columns = rw four_more at (columns_four i h.columns reads (rw here at row));
        beside = rw four_more at (beside_four i h.beside reads (rw here at side));
      }

-- Lists of lifted totals: how a row is added to them, entry by entry, and what they are when all rows are added.
use Prim.Native.Nat.{ℕ, ◌+◌, ◌*◌, ◌≤◌, ◌<◌}
use mathlib.Core.Path.{◌≡◌, refl, sym, ap, ◌∙◌}
use mathlib.Core.List.{List}
use native.Mathlib.Decide.{dec_lt}
use native.Mathlib.Omega.{arith}
use lib.IntN.{ℤ, pos, nat_abs, ◌+ℤ◌, ◌-ℤ◌, ◌*ℤ◌, +ℤ_idr, zero-*ℤ, -ℤ-+ℤ_cancel}
use lib.ListN.{length, get_or, set, length-set}
use lib.Seq.{get_or-set_same, get_or-set_other}
use mir.Syntax.{w64}
use mir.Val.{to_z, of_z}
use Rattle.endian.specs.Numbers.{little_at}
use Rattle.whole.specs.Sums.{total}
use Rattle.whole.proofs.Size.{abs_add, abs_product, back}
use Rattle.whole.proofs.Solve.{v, ◌⊕◌, ◌⊝◌, ◌⊗◌, solve}
use Rattle.whole.proofs.Tables.{total_none, total_more, total_same}
use Rattle.judge_sums.specs.Places.{entry_at, multiplier_at, row_place, entry_term, lift_term, Lifts, Grown, RowAdded, RestStays, now_term, next_term, AllGrow, AllModest, AllNone, SumsOf, ColumnOf, most_entry}
use Rattle.judge_sums.specs.Running.{CanGrow, SumOf}
use Rattle.judge_sums.proofs.RunningLaws.{sum_none, sum_more}

-- a total that can grow is the same when it is passed on
pub grown : (s : ℤ) → CanGrow s → to_z w64 (of_z w64 s) ≡ s
grown s h = back {z = s} (omega arith)

pub passed_grows : (s : ℤ) → CanGrow s → CanGrow (to_z w64 (of_z w64 s))
passed_grows s h = rw (grown s h) h

-- ---- one row, entry by entry

module _ (grows : ℕ → ℤ → ℤ → Type 0) (before : List ℤ) where
  pub row_more : (k : ℕ) (mid : List ℤ) (value : ℤ) → Grown grows k before mid → k < length before
      → grows k (get_or mid k (pos 0)) value → Grown grows (k + 1) before (set mid k value)
  row_more k mid value h below more =
      record {
        long = length-set mid k value ∙ h.long;
        added =
            λ i i_below.
            elim (dec_lt i k) [
              | yes earlier ↦ rw (get_or-set_other mid k i value (pos 0) (λ e. omega arith)) (h.added i earlier)
              | no here ↦
                  let same : i ≡ k = omega arith in
                  rw (same, get_or-set_same mid k value (pos 0) (omega (arith, h.long)), ← h.stays k (omega arith)) more
            ];
        stays = λ i later. get_or-set_other mid k i value (pos 0) (λ e. omega arith) ∙ h.stays i (omega arith);
      }

  -- the total that the next entry is added to
  pub next_grows : (k width : ℕ) (mid : List ℤ) → Grown grows k before mid → AllGrow width before → k < width → CanGrow (get_or mid k (pos 0))
  next_grows k width mid h grow below = rw (h.stays k (omega arith)) (grow k below)

module _ (multiplier : ℕ) (rows : List ℕ) (row : ℕ) (before : List ℤ) where
  -- a row without weight
  pub row_weightless : (width : ℕ) → multiplier ≡ 0 → RowAdded multiplier rows row width before before
  row_weightless width none =
      record {
        long = refl;
        added = λ k h. rw none (record { is = sym (rw (zero-*ℤ (entry_at rows (row + 2 * k) +ℤ pos 32768)) (+ℤ_idr (get_or before k (pos 0)))); small = rw (zero-*ℤ (entry_at rows (row + 2 * k))) (omega arith) });
        stays = λ k h. refl;
      }

-- ---- all rows

-- what stays past the columns: through no row, and through one row more
pub rest_none : (width : ℕ) (sums : List ℤ) → RestStays width sums sums
rest_none width sums = record { long = refl; stays = λ k h. refl }

pub rest_more : {grows : ℕ → ℤ → ℤ → Type 0} {width : ℕ} {first before after : List ℤ} → RestStays width first before → Grown grows width before after → RestStays width first after
rest_more rest row = record { long = row.long ∙ rest.long; stays = λ k h. row.stays k h ∙ rest.stays k h }

module _ (multipliers : List ℕ) (place : ℕ) (rows : List ℕ) (start n : ℕ) where
  -- the lifts' total over the first rows
  abbrev lift : ℕ → ℤ
  lift count = total count (lift_term multipliers place)

  lift_more : (i : ℕ) → lift (i + 1) ≡ lift i +ℤ lift_term multipliers place i
  lift_more i = sym (total_more i (lift_term multipliers place) refl refl)

  pub sums_none : (sums : List ℤ) → AllNone (2 * n) sums → SumsOf multipliers place rows start n 0 sums
  sums_none sums zeros =
      let none : lift 0 ≡ pos 0 = sym (total_none (lift_term multipliers place)) in
      record {
        lift_small = rw none (omega arith);
        each = λ k h. sum_none most_entry (entry_term multipliers place rows start n k) (rw (zeros k h, none) refl);
      }

  -- one row more: for the lifts' total, for one column's, and for all
  pub lifts_small : (i multiplier : ℕ) → nat_abs (lift i) ≤ i * most_entry → multiplier ≡ little_at 2 multipliers (place + 2 * i) → multiplier < 65536
      → nat_abs (lift (i + 1)) ≤ (i + 1) * most_entry
  unfolding multiplier_at lift_term
  lifts_small i multiplier small read few =
      rw (lift_more i)
      (omega (arith, abs_add (lift i) (lift_term multipliers place i), small, rw read at (abs_product (pos multiplier) (pos 32768) {a = 65535} {b = 32768} (omega arith) (omega arith))))

  pub entry_more : (i multiplier k : ℕ) {before after : ℤ} → SumOf i most_entry (entry_term multipliers place rows start n k) (before -ℤ lift i)
      → multiplier ≡ little_at 2 multipliers (place + 2 * i) → Lifts multiplier (entry_at rows (row_place start n i + 2 * k)) before after
      → SumOf (i + 1) most_entry (entry_term multipliers place rows start n k) (after -ℤ lift (i + 1))
  unfolding multiplier_at entry_term lift_term
  entry_more i multiplier k {before} {after} h read more =
      sum_more most_entry (entry_term multipliers place rows start n k) i h
      (record {
        is = rw (lift_more i) (rw read at (unlifted before after (pos multiplier) (entry_at rows (row_place start n i + 2 * k)) (lift i) more.is));
        small = rw read at more.small;
      })
    where
      unlifted : (s r m e l : ℤ) → r ≡ s +ℤ m *ℤ (e +ℤ pos 32768) → r -ℤ (l +ℤ m *ℤ pos 32768) ≡ s -ℤ l +ℤ m *ℤ e
      unlifted s r m e l is =
          rw is (solve ((v s ⊕ v m ⊗ (v e ⊕ v (pos 32768))) ⊝ (v l ⊕ v m ⊗ v (pos 32768))) ((v s ⊝ v l) ⊕ v m ⊗ v e) (omega arith))

  pub sums_more : (i multiplier at : ℕ) (before after : List ℤ) → SumsOf multipliers place rows start n i before
      → multiplier ≡ little_at 2 multipliers (place + 2 * i) → multiplier < 65536 → at ≡ row_place start n i
      → RowAdded multiplier rows at (2 * n) before after → SumsOf multipliers place rows start n (i + 1) after
  sums_more i multiplier at before after h read few here row =
      record {
        lift_small = lifts_small i multiplier h.lift_small read few;
        each = λ k below. entry_more i multiplier k (h.each k below) read (rw here at (row.added k below));
      }

  pub sums_size : (count : ℕ) (sums : List ℤ) → SumsOf multipliers place rows start n count sums → (k : ℕ) → k < 2 * n → nat_abs (get_or sums k (pos 0)) ≤ 2 * (count * most_entry)
  sums_size count sums h k below =
      let s = get_or sums k (pos 0) in
      let whole : s -ℤ lift count +ℤ lift count ≡ s = -ℤ-+ℤ_cancel s (lift count) in
      omega (arith, rw whole at (abs_add (s -ℤ lift count) (lift count)), (h.each k below).small, h.lift_small)

  pub sums_modest : (count : ℕ) (sums : List ℤ) → SumsOf multipliers place rows start n count sums → count < 16384 → AllModest (2 * n) sums
  sums_modest count sums h few k below = omega (arith, sums_size count sums h k below)

  -- entry n + j of a row is entry j of A'
  over_next : (count j : ℕ) (z : ℤ) → SumOf count most_entry (entry_term multipliers place rows start n (n + j)) z → SumOf count most_entry (next_term multipliers place rows start n j) z
  unfolding entry_term next_term
  over_next count j z s =
      record {
        is =
            s.is ∙
            total_same count (entry_term multipliers place rows start n (n + j)) (next_term multipliers place rows start n j)
            (λ i h. ap (λ at. multiplier_at multipliers (place + 2 * i) *ℤ entry_at rows at) (omega arith));
        small = s.small;
      }

  -- less the lift, they are the column's totals
  pub column_in : (count j : ℕ) (sums : List ℤ) (lifts : ℤ) → SumsOf multipliers place rows start n count sums → SumOf count most_entry (lift_term multipliers place) lifts → j < n
      → ColumnOf multipliers place rows start n j count (get_or sums j (pos 0) -ℤ lifts) (get_or sums (n + j) (pos 0) -ℤ lifts)
  unfolding entry_term now_term
  column_in count j sums lifts h total-lift below =
      rw total-lift.is
      (record {
        now_sum = h.each j (omega arith);
        next_sum = over_next count j _ (h.each (n + j) (omega arith));
      })

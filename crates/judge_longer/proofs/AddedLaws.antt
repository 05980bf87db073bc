-- One row more: sums over the loop with the added row are sums over the loop and one term more.
use mathlib.Core.Path.{◌≡◌, refl, sym, ap, ◌∙◌}
use Prim.Native.Nat.{ℕ, ◌+◌, ◌*◌, ◌<◌, ◌≤◌}
use mathlib.Core.List.{List, [], ◌∷◌, ◌++◌}
use native.Mathlib.Decide.{dec_lt}
use native.Mathlib.Nat.{mul-le-mul_right}
use native.Mathlib.Numerals.{add-one}
use native.Mathlib.Omega.{arith}
use lib.IntN.{ℤ, pos, negsuc, nat_abs, neg_ℤ, ◌+ℤ◌, ◌-ℤ◌, ◌*ℤ◌, +ℤ_idr, *ℤ-zero}
use lib.ListN.{length, get_or, set, length-set, get_or-replicate, get_or-map}
use lib.Seq.{get_or-set_same, get_or-set_other}
use Rattle.whole.specs.Rows.{Row}
use Rattle.whole.specs.Sums.{dot, sum, tabulate, scale}
use Rattle.whole.proofs.Ring.{*ℤ-neg}
use Rattle.whole.proofs.Size.{abs_add, abs_neg, abs_product}
use Rattle.whole.proofs.Solve.{v, ◌⊝◌, ◌⊗◌, neg, solve}
use Rattle.whole.proofs.SumLaws.{sum_append}
use Rattle.whole.proofs.Tables.{length_tabulate, tabulate_more}
use Rattle.endian.specs.Numbers.{little_at}
use Rattle.judge_sums.specs.Lists.{multipliers_from, entries_from, rows_from}
use Rattle.judge_sums.specs.Places.{entry_at, multiplier_at, right_term, lift_term, ColumnOf, SumsOf, AllModest, most_entry, most_right}
use Rattle.judge_sums.specs.Running.{Modest, SumOf}
use Rattle.judge_sums.specs.declared.rows.Rows.{Rows}
use Rattle.judge_sums.proofs.LiftLaws.{sums_size, column_in}
use Rattle.theory.specs.Loops.{A, A', b}
use Rattle.judge_ranking.specs.RankedBy.{Totalled}
use Rattle.judge_longer.specs.LongerHeld.{RowTaken}
use Rattle.judge_conditions.specs.LoopHeld.{loop_held}
use Rattle.judge_ranking.specs.RankingHeld.{ranking_held}
use Rattle.judge_longer.specs.LongerHeld.{longer_held, longer_of}
use Rattle.judge_conditions.proofs.Totals.{entry_is}
use Rattle.judge_conditions.proofs.Totals.{now_is, next_is, right_is}

-- ---- one row more

one_term : (y : ℤ) (f : Row → ℤ) (row : Row) → sum (y ∷ []) f (row ∷ []) ≡ y *ℤ f row
unfolding sum dot
one_term y f row = +ℤ_idr (y *ℤ f row)

sum_one_more : (bytes : List ℕ) (place m : ℕ) (f : Row → ℤ) (rows : List Row) (extra : Row) → length rows ≡ m
    → sum (multipliers_from bytes place (m + 1)) f (rows ++ (extra ∷ [])) ≡ sum (multipliers_from bytes place m) f rows +ℤ multiplier_at bytes (place + 2 * m) *ℤ f extra
unfolding multipliers_from
sum_one_more bytes place m f rows extra long =
    rw (add-one, tabulate_more m (λ i. multiplier_at bytes (place + 2 * i)))
    (sum_append (tabulate m (λ i. multiplier_at bytes (place + 2 * i))) _ f rows (extra ∷ []) (length_tabulate m _ ∙ sym long) ∙
    ap (λ (z : ℤ). sum (tabulate m (λ i. multiplier_at bytes (place + 2 * i))) f rows +ℤ z) (one_term (multiplier_at bytes (place + 2 * m)) f extra))

module _ (rows certificate : List ℕ) (start n m place s : ℕ) (right : ℤ) where
  abbrev short_rows : List Row
  short_rows = rows_from rows n start m

  abbrev long_rows : List Row
  long_rows = (longer_held rows start n m certificate s right).rows

  abbrev weights : List ℤ
  weights = multipliers_from certificate place m

  abbrev long_weights : List ℤ
  long_weights = multipliers_from certificate place (m + 1)

  abbrev last_weight : ℤ
  last_weight = multiplier_at certificate (place + 2 * m)

  one_more : (f : Row → ℤ) (extra : Row) → sum long_weights f (short_rows ++ (extra ∷ [])) ≡ sum weights f short_rows +ℤ last_weight *ℤ f extra
  unfolding rows_from
  one_more f extra = sum_one_more certificate place m f short_rows extra (length_tabulate m _)

  -- entry j of the added row
  minus_entry : (j : ℕ) → j < n → get_or (scale (negsuc 0) (entries_from certificate s n)) j (pos 0) ≡ neg_ℤ (entry_at certificate (s + 2 * j))
  unfolding scale
  minus_entry j below =
      get_or-map (λ x. negsuc 0 *ℤ x) (entries_from certificate s n) j (pos 0) ∙
      ap (λ (x : ℤ). negsuc 0 *ℤ x) (entry_is certificate s n j below) ∙ minus_one (entry_at certificate (s + 2 * j))
    where
      minus_one : (z : ℤ) → negsuc 0 *ℤ z ≡ neg_ℤ z
      minus_one z = solve (v (negsuc 0) ⊗ v z) (neg (v z)) (omega arith)

  pub now_added : (j : ℕ) → j < n → sum long_weights (A j) long_rows ≡ sum weights (A j) short_rows -ℤ last_weight *ℤ entry_at certificate (s + 2 * j)
  unfolding longer_held loop_held
  now_added j below = one_more (A j) _ ∙ rw (minus_entry j below, *ℤ-neg)

  pub next_added : (j : ℕ) → j < n → sum long_weights (A' j) long_rows ≡ sum weights (A' j) short_rows
  unfolding longer_held loop_held
  next_added j below = one_more (A' j) _ ∙ rw (get_or-replicate n j (pos 0) (pos 0) below, *ℤ-zero, +ℤ_idr)

  right_added : sum long_weights b long_rows ≡ sum weights b short_rows +ℤ last_weight *ℤ right
  unfolding longer_held loop_held
  right_added = one_more b _

  -- a total of the loop's right sides, and the added row's
  pub rights_longer : (last : ℕ) (total term : ℤ) → last ≡ little_at 2 certificate (place + 2 * m)
      → SumOf m most_right (right_term certificate place rows start n) total
      → term ≡ pos last *ℤ right → total +ℤ term ≡ sum long_weights b long_rows
  unfolding multiplier_at
  rights_longer last total term told is more =
      rw (more, told, right_is certificate place rows start n m total is) (sym right_added)

-- ---- the added row's terms, taken from a list of totals one after another

module _ (multiplier : ℕ) (certificate : List ℕ) (s : ℕ) (before : List ℤ) where
  pub taken_none : RowTaken multiplier certificate s 0 before before
  taken_none = record { long = refl; taken = λ k h. absurd (omega arith); small = λ k h. absurd (omega arith); stays = λ k h. refl }

  pub taken_more : (k : ℕ) (mid : List ℤ) (entry : ℤ) → RowTaken multiplier certificate s k before mid → k < length before
      → multiplier < 65536 → entry ≡ entry_at certificate (s + 2 * k) → nat_abs entry ≤ 32768
      → RowTaken multiplier certificate s (k + 1) before (set mid k (get_or mid k (pos 0) -ℤ pos multiplier *ℤ entry))
  taken_more k mid entry h below few is small =
      record {
        long = length-set mid k value ∙ h.long;
        taken = λ i i_below. here_or_before i (λ z w. z ≡ w -ℤ pos multiplier *ℤ entry_at certificate (s + 2 * i)) (h.taken i) (λ e. rw (e, is)) i_below;
        small = λ i i_below. here_or_before i (λ z w. nat_abs z ≤ nat_abs w + most_entry) (h.small i) (λ e. no_larger) i_below;
        stays = λ i later. get_or-set_other mid k i value (pos 0) (λ e. omega arith) ∙ h.stays i (omega arith);
      }
    where
      term : ℤ
      term = pos multiplier *ℤ entry

      value : ℤ
      value = get_or mid k (pos 0) -ℤ term

      no_larger : nat_abs value ≤ nat_abs (get_or mid k (pos 0)) + most_entry
      no_larger =
          omega (arith, abs_add (get_or mid k (pos 0)) (neg_ℤ term), abs_neg term, abs_product (pos multiplier) entry {a = 65535} {b = 32768} (omega arith) small)

      here_or_before : (i : ℕ) (P : ℤ → ℤ → Type 0) → (i < k → P (get_or mid i (pos 0)) (get_or before i (pos 0))) → (i ≡ k → P value (get_or mid k (pos 0)))
          → i < k + 1 → P (get_or (set mid k value) i (pos 0)) (get_or before i (pos 0))
      here_or_before i P earlier now i_below =
          elim (dec_lt i k) [
            | yes below-k ↦ rw (get_or-set_other mid k i value (pos 0) (λ e. omega arith)) (earlier below-k)
            | no not-below ↦
                let same : i ≡ k = omega arith in
                rw (same, get_or-set_same mid k value (pos 0) (omega (arith, h.long)), ← h.stays k (omega arith)) (now same)
          ]

  -- the total that is taken from next
  pub next_modest : (k width : ℕ) (mid : List ℤ) → RowTaken multiplier certificate s k before mid → AllModest width before → k < width → Modest (get_or mid k (pos 0))
  next_modest k width mid h modest below = rw (h.stays k (omega arith)) (modest k below)

-- what is left of a loop's totals is small
pub taken_modest : (rows : Rows) (certificate : List ℕ) (place s last : ℕ) (sums taken : List ℤ) → rows.count ≤ 64
    → SumsOf certificate place rows.bytes.now rows.start rows.n rows.count sums → RowTaken last certificate s rows.n sums taken → AllModest (2 * rows.n) taken
taken_modest rows certificate place s last sums taken few h row k below =
    let size = sums_size certificate place rows.bytes.now rows.start rows.n rows.count sums h k below in
    let most = mul-le-mul_right 2147450880 few in
    elim (dec_lt k rows.n) [
      | yes earlier ↦ omega (arith, row.small k earlier, size, most)
      | no later ↦ rw (row.stays k (omega arith)) (omega (arith, size, most))
    ]

-- ---- the totals of every column

module _ (rows : Rows) (certificate : List ℕ) (place s : ℕ) (right : ℤ) (sums taken : List ℤ) (lift : ℤ) (last j : ℕ) (below : j < rows.n) (few : rows.count ≤ 65)
    (column : ColumnOf certificate place rows.bytes.now rows.start rows.n j rows.count (get_or sums j (pos 0) -ℤ lift) (get_or sums (rows.n + j) (pos 0) -ℤ lift))
    (row : RowTaken last certificate s rows.n sums taken) where
  over_now : last ≡ little_at 2 certificate (place + 2 * rows.count)
      → get_or taken j (pos 0) -ℤ lift ≡ sum (multipliers_from certificate place (rows.count + 1)) (A j) (longer_of rows certificate s right).rows
  unfolding multiplier_at
  over_now told =
      rw (
        row.taken j below,
        exchanged (get_or sums j (pos 0)) (pos last *ℤ entry_at certificate (s + 2 * j)) lift,
        now_is certificate place rows.bytes.now rows.start rows.n j rows.count _ _ few column below,
        told,
      ) (sym (now_added rows.bytes.now certificate rows.start rows.n rows.count place s right j below))
    where
      exchanged : (x t l : ℤ) → x -ℤ t -ℤ l ≡ x -ℤ l -ℤ t
      exchanged x t l = solve ((v x ⊝ v t) ⊝ v l) ((v x ⊝ v l) ⊝ v t) (omega arith)

  over_next : get_or taken (rows.n + j) (pos 0) -ℤ lift ≡ sum (multipliers_from certificate place (rows.count + 1)) (A' j) (longer_of rows certificate s right).rows
  over_next =
      rw (row.stays (rows.n + j) (omega arith)) (next_is certificate place rows.bytes.now rows.start rows.n j rows.count _ _ few column below)
      ∙ sym (next_added rows.bytes.now certificate rows.start rows.n rows.count place s right j below)

-- the loop's lifted totals, those over A less the added row's term, and less the lifts
pub totalled_longer : (rows : Rows) (certificate : List ℕ) (place s : ℕ) (right : ℤ) (ys ys' : List ℤ) (ylift : ℤ) (zs zs' : List ℤ) (zlift : ℤ) (y_last z_last : ℕ) → rows.count ≤ 65
    → let m = rows.count in
    let z_place = place + 2 * (m + 1) in
    SumsOf certificate place rows.bytes.now rows.start rows.n m ys → RowTaken y_last certificate s rows.n ys ys' → SumOf m most_entry (lift_term certificate place) ylift
    → SumsOf certificate z_place rows.bytes.now rows.start rows.n m zs → RowTaken z_last certificate s rows.n zs zs' → SumOf m most_entry (lift_term certificate z_place) zlift
    → y_last ≡ little_at 2 certificate (place + 2 * m) → z_last ≡ little_at 2 certificate (z_place + 2 * m)
    → Totalled ys' ylift zs' zlift (longer_of rows certificate s right) (ranking_held certificate place (m + 1))
unfolding longer_held loop_held ranking_held
totalled_longer rows certificate place s right ys ys' ylift zs zs' zlift y_last z_last few y y-taken y-lift z z-taken z-lift y-told z-told j below =
    let z_place = place + 2 * (rows.count + 1) in
    let under_y = column_in certificate place rows.bytes.now rows.start rows.n rows.count j ys ylift y y-lift below in
    let under_z = column_in certificate z_place rows.bytes.now rows.start rows.n rows.count j zs zlift z z-lift below in (
      over_now rows certificate place s right ys ys' ylift y_last j below few under_y y-taken y-told,
      over_next rows certificate place s right ys ys' ylift y_last j below few under_y y-taken,
      over_now rows certificate z_place s right zs zs' zlift z_last j below few under_z z-taken z-told,
      over_next rows certificate z_place s right zs zs' zlift z_last j below few under_z z-taken,
    )

-- What a sound record's tests say of it, `Sound`; its counts; and what a reading that tells 0 answered.
use mathlib.Core.Path.{◌≡◌, refl, ◌∙◌}
use Prim.Native.Nat.{◌+◌, ◌≤◌}
use mathlib.Core.Bool.{true, false, cond, ◌&&◌, false≢true}
use mathlib.Core.List.{List}
use native.Mathlib.Omega.{arith}
use lib.IntN.{ℤ, pos}
use lib.ListN.{length, take, drop}
use lib.Seq.{drop-drop, take-append_seam}
use borrow.Author.Tests.{leb-true, eqb-true}
use Rattle.endian.specs.Numbers.{little_at}
use Rattle.refusal.specs.Tests.{Told, done, refused, first, number}
use Rattle.refusal.proofs.TestLaws.{Passes, done_passes, append_passes, zero_done, both_true, true_both}
use Rattle.record.specs.Fields.{width, widths, values, in_range, number as held}
use Rattle.record.specs.Layouts.{variable_count, row_count, Kind, loop, ranking, exclusion, lasso, other, kind_of, is_loop, is_lasso, is_known, counts, length_of}
use Rattle.record.specs.Readers as R
use Rattle.record.specs.Readers.{Reader, sound, enough_room, reading}
use Rattle.record.specs.Ranges.{variables, rows, within}
use Rattle.record.proofs.CountLimits.{variables_most, rows_most, arguments_most}

-- what a sound record's tests say
pub record Sound (r : Reader) : Type 0 where
  pub four : 4 ≤ length r.bytes
  pub head : 2 ≤ R.stated_length r
  pub whole : length r.bytes ≡ 4 + R.stated_length r
  pub wanted : r.wants (R.kind r) ≡ true
  pub arguments : R.arguments_fit r ≡ true
  pub room_for_counts : 2 + widths (counts (R.kind r)) ≤ R.stated_length r
  pub counts_fit : in_range (counts (R.kind r)) (R.count_list r) ≡ true
  pub formula : R.stated_length r ≡ length_of (R.kind r) (R.counts_read r)
  pub values_fit : in_range (R.fields r) (R.list r) ≡ true

passes_say : (r : Reader) → Passes sound r → Sound r
unfolding sound
passes_say r h =
    let all_there : 4 + R.stated_length r ≤ length r.bytes = leb-true _ _ h.1.1.0 in
    let no_more : length r.bytes ≤ 4 + R.stated_length r = leb-true _ _ h.1.1.1.0 in
    record {
      four = leb-true _ _ h.0;
      head = leb-true _ _ h.1.0;
      whole = omega arith;
      wanted = h.1.1.1.1.0;
      arguments = h.1.1.1.1.1.0;
      room_for_counts = leb-true _ _ h.1.1.1.1.1.1.0;
      counts_fit = h.1.1.1.1.1.1.1.0;
      formula = eqb-true _ _ h.1.1.1.1.1.1.1.1.0;
      values_fit = h.1.1.1.1.1.1.1.1.1.0;
    }

pub sound_says : (r : Reader) → first sound r ≡ done → Sound r
sound_says r h = passes_say r (done_passes sound r h)

-- n and m of a sound record are within the limits, whether they stand in its body or came as arguments
pub counts_in_range : (r : Reader) → Sound r → is_known (R.kind r) ≡ true
    → (within variables (pos (R.counts_read r).n) && within rows (pos (R.counts_read r).m)) ≡ true
unfolding R.counts_read R.kind counts is_loop is_known in_range values variable_count row_count width held little_at R.count_list R.arguments_fit
counts_in_range r s known = by_kind (kind_of (R.kind_number r)) refl s.arguments s.counts_fit known
  where
    by_kind : (k : Kind) → kind_of (R.kind_number r) ≡ k → R.arguments_fit r ≡ true → in_range (counts (R.kind r)) (R.count_list r) ≡ true → is_known (R.kind r) ≡ true → (within variables (pos (R.counts_read r).n) && within rows (pos (R.counts_read r).m)) ≡ true
    by_kind loop e a c w =
        let n_fits = within variables (pos (little_at 2 r.bytes 6)) in
        let m_fits = within rows (pos (little_at 2 r.bytes 8)) in
        let both = both_true n_fits (m_fits && true) (rw (e, drop-drop) at c) in
        rw e (true_both n_fits m_fits both.0 (both_true m_fits true both.1).0)
    by_kind ranking e a c w = rw e (rw e at a)
    by_kind exclusion e a c w = rw e (rw e at a)
    by_kind lasso e a c w = rw e (rw e at a)
    by_kind other e a c w = absurd (false≢true (rw e at w))

-- and small
pub counts_small : (r : Reader) → Sound r → ((R.counts_read r).n ≤ 16) × ((R.counts_read r).m ≤ 64) × ((R.counts_read r).ms ≤ 64)
unfolding R.counts_read R.kind counts is_loop is_lasso in_range values variable_count row_count width held little_at R.count_list R.arguments_fit
counts_small r s = by_kind (R.kind r) refl s.arguments s.counts_fit
  where
    by_kind : (k : Kind) → R.kind r ≡ k → R.arguments_fit r ≡ true → in_range (counts (R.kind r)) (R.count_list r) ≡ true
        → ((R.counts_read r).n ≤ 16) × ((R.counts_read r).m ≤ 64) × ((R.counts_read r).ms ≤ 64)
    by_kind loop e a c =
        let n = little_at 2 r.bytes 6 in
        let m = little_at 2 r.bytes 8 in
        let both = both_true (within variables (pos n)) (within rows (pos m) && true) (rw (e, drop-drop) at c) in
        rw e (variables_most n both.0, rows_most m (both_true (within rows (pos m)) true both.1).0, omega arith)
    by_kind ranking e a c = let most = arguments_most r.n r.m (rw e at a) in rw e (most.0, most.1, omega arith)
    by_kind exclusion e a c = let most = arguments_most r.n r.m (rw e at a) in rw e (most.0, most.1, omega arith)
    by_kind lasso e a c =
        let most = arguments_most r.n r.m (rw e at a) in
        let ms = little_at 2 r.bytes 6 in
        rw e (most.0, most.1, rows_most ms (both_true (within rows (pos ms)) true (rw e at c)).0)
    by_kind other e a c = let most = arguments_most r.n r.m (rw e at a) in rw e (most.0, most.1, omega arith)

-- n and m of a certificate are the arguments
pub arguments_read : (r : Reader) → is_loop (R.kind r) ≡ false → ((R.counts_read r).n ≡ r.n) × ((R.counts_read r).m ≡ r.m)
unfolding R.counts_read
arguments_read r no_loop = rw no_loop (refl, refl)

-- what a reading that tells 0 answered
pub record HasRead (r : Reader) (lent : List ℤ) : Type 0 where
  pub sound_record : Sound r
  pub kind_told : (R.reads r).kind ≡ R.kind_number r
  pub n_told : (R.reads r).n ≡ cond (is_loop (R.kind r)) (R.counts_read r).n 0
  pub m_told : (R.reads r).m ≡ cond (is_loop (R.kind r)) (R.counts_read r).m 0
  pub list_told : take (R.reads r).count (R.fills r lent) ≡ R.list r

pub has_read : (r : Reader) (lent : List ℤ) → (R.reads r).number ≡ 0 → HasRead r lent
unfolding R.reads R.fills R.answer R.filled reading enough_room sound number
has_read r lent zero_told =
    let told : first reading r ≡ done = zero_done reading r refl (number_told (first reading r) ∙ zero_told) in
    record {
      sound_record = passes_say r (append_passes sound enough_room r (done_passes reading r told)).0;
      kind_told = rw told;
      n_told = rw told;
      m_told = rw told;
      list_told = rw told (take-append_seam (R.list r) (drop (length (R.list r)) lent));
    }
  where
    number_told : (t : Told) → number t ≡ (R.answer t r).number
    number_told done = refl
    number_told (refused k p) = refl

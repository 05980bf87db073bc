-- The bytes of a record that passes every test of a writer, and that a reader finds in them what was written: kind, counts and values, and no fault.
use mathlib.Core.Path.{◌≡◌, refl, sym, ap, ◌∙◌}
use Prim.Native.Nat.{ℕ, ◌+◌, ◌^◌, ◌≤◌, ◌<◌}
use mathlib.Core.Bool.{Bool, true, false, cond, not, ◌&&◌, ◌||◌}
use mathlib.Core.List.{List, [], ◌++◌, append-nil}
use native.Mathlib.Omega.{arith}
use lib.IntN.{pos, nat_abs}
use lib.ListN.{length, take, drop, get_or, length-append}
use lib.Seq.{take_at, drop_at, drop-drop}
use borrow.Author.Tests.{le-leb, eq-eqb}
use Rattle.endian.specs.Numbers.{little, little_at, digits}
use Rattle.endian.proofs.Laws.{length_digits, little_digits, little_at_second}
use Rattle.refusal.proofs.TestLaws.{Passes, true_both}
use Rattle.record.specs.Fields.{width, widths, values, bytes_of, in_range, number as held}
use Rattle.record.specs.Layouts.{variable_count, row_count, Kind, loop, ranking, exclusion, lasso, other, kind_of, is_loop, is_lasso, counts, length_of, ahead, listed}
use Rattle.record.specs.Ranges.{variables, rows, within}
use Rattle.record.specs.Readers as R
use Rattle.record.specs.Readers.{Reader, sound}
use Rattle.record.specs.Writers as W
use Rattle.record.specs.Writers.{Writer}
use Rattle.record.proofs.FieldLaws.{widths_append, length_bytes_of, values_bytes_of}
use Rattle.record.proofs.KindLaws.{known_small, written_known}
use Rattle.record.proofs.Lengths.{length_law, length_most}
use Rattle.record.proofs.CountLimits.{variables_most, rows_most, rows_cast}
use Rattle.record.proofs.WritableRecords.{Writable}

-- arguments that are tested only where a record is no loop
tested : (is : Bool) (n m : ℕ) → within variables (pos n) ≡ true → within rows (pos m) ≡ true
    → (is || (within variables (pos (cond is 0 n)) && within rows (pos (cond is 0 m)))) ≡ true
tested true n m n_fits m_fits = refl
tested false n m n_fits m_fits = true_both _ _ n_fits m_fits

-- a number that was put first is read there
little_at_digits : (width x : ℕ) (rest : List ℕ) → x < 256 ^ width → little_at width (digits width x ++ rest) 0 ≡ x
unfolding little_at
little_at_digits width x rest small = rw (take_at (digits width x) rest width (length_digits width x)) (little_digits width x small)

-- ---- the bytes of a record that passes every test

-- the reader that gets them: a certificate's with the same n and m, a loop's with none
abbrev pub over : Writer → (Kind → Bool) → ℕ → Reader
over w wants room =
    record {
      bytes = W.record_bytes w;
      wants = wants;
      n = cond (is_loop (W.kind w)) 0 w.n;
      m = cond (is_loop (W.kind w)) 0 w.m;
      room = room;
    }

module _ (w : Writer) (s : Writable w) where
  ms_most : (W.counts_given w).ms ≤ 64
  unfolding W.counts_given is_lasso W.kind
  ms_most = by_kind (kind_of w.kind_number) refl s.ms_fits
    where
      by_kind : (k : Kind) → kind_of w.kind_number ≡ k → (not (is_lasso (W.kind w)) || within rows (W.ms_given w)) ≡ true → (W.counts_given w).ms ≤ 64
      by_kind loop e h = rw e (omega arith)
      by_kind ranking e h = rw e (omega arith)
      by_kind exclusion e h = rw e (omega arith)
      by_kind lasso e h = rw e (rows_cast (W.ms_given w) (rw e at h)).1
      by_kind other e h = rw e (omega arith)

  length_small : W.length_stated w < 256 ^ 4
  unfolding W.length_stated W.counts_given variables rows
  length_small =
      let most = length_most (W.kind w) (W.counts_given w) (variables_most w.n s.n_fits) (rows_most w.m s.m_fits) ms_most in
      omega (arith, most)

  body : List ℕ
  body = bytes_of (ahead (W.kind w)) (W.numbers_ahead w) ++ bytes_of (W.fields w) w.list

  -- length and kind
  length_read : little_at 4 (W.record_bytes w) 0 ≡ W.length_stated w
  unfolding W.record_bytes
  length_read = little_at_digits 4 (W.length_stated w) _ length_small

  pub kind_read : little_at 2 (W.record_bytes w) 4 ≡ w.kind_number
  unfolding W.record_bytes W.kind
  kind_read =
      let small : w.kind_number < 256 ^ 2 = omega (arith, known_small w.kind_number (written_known _ s.known)) in
      little_at_second 2 (digits 4 (W.length_stated w)) _ 4 0 (omega (arith, length_digits 4 (W.length_stated w)))
      ∙ little_at_digits 2 w.kind_number _ small

  body_read : drop 6 (W.record_bytes w) ≡ body
  unfolding W.record_bytes body
  body_read =
      sym (drop-drop 2 4 (W.record_bytes w))
      ∙ ap (drop 2) (drop_at (digits 4 (W.length_stated w)) _ 4 (length_digits 4 (W.length_stated w)))
      ∙ drop_at (digits 2 w.kind_number) _ 2 (length_digits 2 w.kind_number)

  -- the numbers before the list
  ahead_there : (length (W.numbers_ahead w) ≡ length (ahead (W.kind w))) × (in_range (ahead (W.kind w)) (W.numbers_ahead w) ≡ true)
  unfolding W.numbers_ahead ahead counts is_loop W.kind in_range variable_count row_count
  ahead_there = by_kind (kind_of w.kind_number) refl
    where
      by_kind : (k : Kind) → kind_of w.kind_number ≡ k → (length (W.numbers_ahead w) ≡ length (ahead (W.kind w))) × (in_range (ahead (W.kind w)) (W.numbers_ahead w) ≡ true)
      by_kind loop e = rw e (refl, true_both _ _ s.n_fits (true_both _ true s.m_fits refl))
      by_kind ranking e = rw e (refl, refl)
      by_kind exclusion e = rw e (refl, refl)
      by_kind lasso e = rw e (refl, refl)
      by_kind other e = rw e (refl, refl)

  ahead_read : values (ahead (W.kind w)) body ≡ W.numbers_ahead w
  unfolding body
  ahead_read = values_bytes_of (ahead (W.kind w)) (W.numbers_ahead w) (bytes_of (W.fields w) w.list) ahead_there.0 ahead_there.1

  -- the list
  list_read : values (W.fields w) (drop (widths (ahead (W.kind w))) body) ≡ w.list
  unfolding body
  list_read =
      let front = bytes_of (ahead (W.kind w)) (W.numbers_ahead w) in
      let long : length front ≡ widths (ahead (W.kind w)) = length_bytes_of (ahead (W.kind w)) (W.numbers_ahead w) ahead_there.0 in
      let rest = bytes_of (W.fields w) w.list in
      rw (drop_at front rest (widths (ahead (W.kind w))) long, ← append-nil rest)
      (values_bytes_of (W.fields w) w.list [] s.right_count s.values_fit)

  pub bytes_long : length (W.record_bytes w) ≡ 4 + W.length_stated w
  unfolding W.record_bytes W.length_stated W.fields
  bytes_long =
      let law = length_law (W.kind w) (W.counts_given w) (written_known _ s.known) in
      simp (length-append, length_digits)
      (omega (arith, law, length_bytes_of (ahead (W.kind w)) (W.numbers_ahead w) ahead_there.0, length_bytes_of (W.fields w) w.list s.right_count))

  -- ---- the counts

  at_six : little_at 2 (W.record_bytes w) 6 ≡ little (take 2 body)
  unfolding little_at
  at_six = ap (λ b. little (take 2 b)) body_read

  at_eight : little_at 2 (W.record_bytes w) 8 ≡ little (take 2 (drop 2 body))
  unfolding little_at
  at_eight = ap (λ b. little (take 2 b)) (sym (drop-drop 2 6 (W.record_bytes w)) ∙ ap (drop 2) body_read)

  loop_counts : kind_of w.kind_number ≡ loop → (little (take 2 body) ≡ w.n) × (little (take 2 (drop 2 body)) ≡ w.m)
  unfolding W.kind W.numbers_ahead ahead counts is_loop values variable_count row_count width held
  loop_counts e =
      let both = rw e at ahead_read in
      (ap (λ l. nat_abs (get_or l 0 (pos 0))) both, ap (λ l. nat_abs (get_or l 1 (pos 0))) both)

  lasso_count : kind_of w.kind_number ≡ lasso → pos (little (take 2 body)) ≡ W.ms_given w
  unfolding W.kind W.fields W.ms_given ahead listed counts is_loop values widths row_count width held
  lasso_count e = ap (λ l. get_or l 0 (pos 0)) (rw e at list_read)

  module _ (wants : Kind → Bool) (room : ℕ) where
    pub counts_same : R.counts_read (over w wants room) ≡ W.counts_given w
    unfolding R.counts_read R.kind R.kind_number W.counts_given W.kind is_loop is_lasso
    counts_same = by_kind (kind_of w.kind_number) refl
      where
        by_kind : (k : Kind) → kind_of w.kind_number ≡ k → R.counts_read (over w wants room) ≡ W.counts_given w
        by_kind loop e = rw (kind_read, e, at_six, at_eight, (loop_counts e).0, (loop_counts e).1)
        by_kind ranking e = rw (kind_read, e)
        by_kind exclusion e = rw (kind_read, e)
        by_kind lasso e = rw (kind_read, e, at_six, ← lasso_count e)
        by_kind other e = rw (kind_read, e)

    pub kind_same : R.kind (over w wants room) ≡ W.kind w
    unfolding R.kind R.kind_number W.kind
    kind_same = ap kind_of kind_read

    fields_same : R.fields (over w wants room) ≡ W.fields w
    unfolding R.fields W.fields
    fields_same = rw (kind_same, counts_same)

    pub list_same : R.list (over w wants room) ≡ w.list
    unfolding R.list R.list_start
    list_same = rw (fields_same, kind_same, ← drop-drop (widths (ahead (W.kind w))) 6 (W.record_bytes w), body_read) list_read

    -- the counts in the body are in range
    counts_fit : in_range (counts (R.kind (over w wants room))) (R.count_list (over w wants room)) ≡ true
    unfolding R.count_list counts in_range values variable_count row_count width held W.kind is_lasso
    counts_fit = by_kind (kind_of w.kind_number) refl s.ms_fits
      where
        by_kind : (k : Kind) → kind_of w.kind_number ≡ k → (not (is_lasso (W.kind w)) || within rows (W.ms_given w)) ≡ true → in_range (counts (R.kind (over w wants room))) (R.count_list (over w wants room)) ≡ true
        by_kind loop e h = rw (kind_same, e, body_read, (loop_counts e).0, (loop_counts e).1) (true_both _ _ s.n_fits (true_both _ true s.m_fits refl))
        by_kind ranking e h = rw (kind_same, e)
        by_kind exclusion e h = rw (kind_same, e)
        by_kind lasso e h = rw (kind_same, e, body_read, lasso_count e) (true_both _ true (rw e at h) refl)
        by_kind other e h = rw (kind_same, e)

    length_same : R.stated_length (over w wants room) ≡ W.length_stated w
    unfolding R.stated_length
    length_same = length_read

    counts_inside : 2 + widths (counts (W.kind w)) ≤ W.length_stated w
    unfolding W.length_stated W.kind ahead listed is_loop widths
    counts_inside = by_kind (kind_of w.kind_number) refl (length_law (W.kind w) (W.counts_given w) (written_known _ s.known))
      where
        by_kind : (k : Kind) → kind_of w.kind_number ≡ k → length_of (W.kind w) (W.counts_given w) ≡ 2 + (widths (ahead (W.kind w)) + widths (listed (W.kind w) (W.counts_given w))) → 2 + widths (counts (W.kind w)) ≤ W.length_stated w
        by_kind loop e h = rw e (omega (arith, rw e at h))
        by_kind ranking e h = rw e (omega (arith, simp widths_append at (rw e at h)))
        by_kind exclusion e h = rw e (omega (arith, simp widths_append at (rw e at h)))
        by_kind lasso e h = rw e (omega (arith, simp widths_append at (rw e at h)))
        by_kind other e h = rw e (omega (arith, simp widths_append at (rw e at h)))

    pub passes_sound : wants (W.kind w) ≡ true → Passes sound (over w wants room)
    unfolding sound R.arguments_fit W.length_stated
    passes_sound wanted =
        let r = over w wants room in
        let four : 4 ≤ length (W.record_bytes w) = omega (arith, bytes_long) in
        let head : 2 ≤ R.stated_length r = omega (arith, length_same, counts_inside) in
        let all_there : 4 + R.stated_length r ≤ length (W.record_bytes w) = omega (arith, length_same, bytes_long) in
        let no_more : length (W.record_bytes w) ≤ 4 + R.stated_length r = omega (arith, length_same, bytes_long) in
        let counts_there : 2 + widths (counts (R.kind r)) ≤ R.stated_length r = rw (kind_same, length_same) counts_inside in
        let formula : R.stated_length r ≡ length_of (R.kind r) (R.counts_read r) = rw (length_same, kind_same, counts_same) stated in (
          le-leb _ _ four,
          (
            le-leb _ _ head,
            (
              le-leb _ _ all_there,
              (
                le-leb _ _ no_more,
                (
                  rw kind_same wanted,
                  (
                    rw kind_same (tested (is_loop (W.kind w)) w.n w.m s.n_fits s.m_fits),
                    (
                      le-leb _ _ counts_there,
                      (
                        counts_fit,
                        (
                          eq-eqb _ _ formula,
                          (
                            rw (fields_same, list_same) s.values_fit,
                            tt,
                          ),
                        ),
                      ),
                    ),
                  ),
                ),
              ),
            ),
          ),
        )
      where
        stated : W.length_stated w ≡ length_of (W.kind w) (W.counts_given w)
        stated = refl

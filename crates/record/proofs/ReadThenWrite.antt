-- `read-then-write`: writing the kind and values that a reading gave, with the n and m that it answered (a loop) or that were its
-- arguments (a certificate), gives the same bytes.
use mathlib.Core.Path.{◌≡◌, refl, sym, ap, ◌∙◌}
use Prim.Native.Nat.{ℕ, ◌+◌, ◌≤◌}
use mathlib.Core.Bool.{true, false, not, ◌||◌}
use mathlib.Core.List.{List, ◌∷◌, ◌++◌}
use native.Mathlib.Omega.{arith}
use lib.Dec.{leb}
use lib.IntN.{ℤ, pos}
use lib.ListN.{length, take, drop, length-drop, take-append-drop}
use lib.Seq.{length-take-le, drop-drop}
use borrow.Author.Tests.{le-leb, eq-eqb}
use Rattle.endian.specs.Numbers.{Bytes, little, little_at, digits}
use Rattle.endian.proofs.Laws.{bytes_take, bytes_drop, digits_little}
use Rattle.refusal.specs.Tests.{done, first}
use Rattle.refusal.proofs.TestLaws.{Passes, passes_done, both_true}
use Rattle.record.specs.Fields.{Field, width, widths, values, bytes_of, in_range, number as held}
use Rattle.record.specs.Layouts.{variable_count, row_count, Kind, loop, ranking, exclusion, lasso, other, kind_of, is_loop, is_lasso, counts, layout, length_of, ahead, listed}
use Rattle.record.specs.Readers as R
use Rattle.record.specs.Readers.{Reader}
use Rattle.record.specs.Wants.{kinds_written}
use Rattle.record.specs.Writers as W
use Rattle.record.specs.Writers.{Writer, writing}
use Rattle.record.specs.Ranges.{rows, within}
use Rattle.record.proofs.FieldLaws.{length_values, bytes_of_append, values_append, bytes_of_values, widths_append}
use Rattle.record.proofs.KindLaws.{wanted_no_loop, written_known, loop_written, read_written}
use Rattle.record.proofs.Lengths.{length_law}
use Rattle.record.proofs.SoundRecords.{Sound, counts_in_range, arguments_read, has_read}

-- a row of fields that has one holds a value
some_values : (f : Field) (fs : List Field) (bs : List ℕ) → leb 1 (length (values (f ∷ fs) bs)) ≡ true
some_values f fs bs = le-leb 1 (length (values (f ∷ fs) bs)) (rw length_values (omega arith))

-- the bytes at a place hold their number
digits_at : (width : ℕ) (bs : List ℕ) (place : ℕ) → Bytes bs → place + width ≤ length bs → digits width (little_at width bs place) ≡ take width (drop place bs)
unfolding little_at
digits_at width bs place all there =
    let part = take width (drop place bs) in
    let long : length part ≡ width = length-take-le width (drop place bs) (simp length-drop (omega arith)) in
    rw long at (digits_little part (bytes_take width (drop place bs) (bytes_drop place bs all)))

-- what writes a reading's answer back
abbrev pub back : Reader → ℕ → Writer
back r room = record { kind_number = R.kind_number r; n = (R.counts_read r).n; m = (R.counts_read r).m; list = R.list r; room = room }

module _ (r : Reader) (room : ℕ) where
  -- the writer finds the counts that the reader found
  pub counts_back : W.counts_given (back r room) ≡ R.counts_read r
  unfolding W.counts_given W.kind W.ms_given R.counts_read R.kind R.list R.fields R.list_start listed ahead counts is_loop is_lasso values widths row_count width held little_at
  counts_back = by_kind (kind_of (R.kind_number r)) refl
    where
      by_kind : (k : Kind) → kind_of (R.kind_number r) ≡ k → W.counts_given (back r room) ≡ R.counts_read r
      by_kind loop e = rw e
      by_kind ranking e = rw e
      by_kind exclusion e = rw e
      by_kind lasso e = rw e
      by_kind other e = rw e

  fields_back : W.fields (back r room) ≡ R.fields r
  unfolding W.fields W.kind R.fields R.kind
  fields_back = ap (listed (R.kind r)) counts_back

  length_back : Sound r → W.length_stated (back r room) ≡ R.stated_length r
  unfolding W.length_stated W.kind R.kind
  length_back s = ap (length_of (R.kind r)) counts_back ∙ sym s.formula

  -- the numbers before the list are those that the bytes hold there
  ahead_back : W.numbers_ahead (back r room) ≡ values (ahead (R.kind r)) (drop 6 r.bytes)
  unfolding W.numbers_ahead W.kind R.counts_read R.kind ahead counts is_loop values variable_count row_count width held little_at
  ahead_back = by_kind (kind_of (R.kind_number r)) refl
    where
      by_kind : (k : Kind) → kind_of (R.kind_number r) ≡ k → W.numbers_ahead (back r room) ≡ values (ahead (R.kind r)) (drop 6 r.bytes)
      by_kind loop e = rw (e, drop-drop)
      by_kind ranking e = rw e
      by_kind exclusion e = rw e
      by_kind lasso e = rw e
      by_kind other e = rw e

  list_is : R.list r ≡ values (R.fields r) (drop (widths (ahead (R.kind r))) (drop 6 r.bytes))
  unfolding R.list R.list_start
  list_is = rw drop-drop

  module _ (s : Sound r) (written : kinds_written (R.kind r) ≡ true) (all : Bytes r.bytes) where
    sizes : R.stated_length r ≡ 2 + (widths (ahead (R.kind r)) + widths (R.fields r))
    unfolding R.fields
    sizes = s.formula ∙ length_law (R.kind r) (R.counts_read r) (written_known _ written)

    body_back : bytes_of (ahead (R.kind r)) (W.numbers_ahead (back r room)) ++ bytes_of (W.fields (back r room)) (R.list r) ≡ drop 6 r.bytes
    body_back =
        let fs = ahead (R.kind r) in
        let gs = R.fields r in
        let bs = drop 6 r.bytes in
        let long : length bs ≡ widths (fs ++ gs) = simp (length-drop, widths_append) (omega (arith, s.whole, sizes)) in
        rw (ahead_back, fields_back, list_is)
        (sym (bytes_of_append fs gs (values fs bs) (values gs (drop (widths fs) bs)) (length_values fs bs))
        ∙ ap (bytes_of (fs ++ gs)) (sym (values_append fs gs bs))
        ∙ bytes_of_values (fs ++ gs) bs (bytes_drop 6 r.bytes all) long)

    -- the record that is written is the record that was read
    record_back : W.record_bytes (back r room) ≡ r.bytes
    unfolding W.record_bytes W.kind R.kind R.kind_number R.stated_length
    record_back =
        let four : 4 + 2 ≤ length r.bytes = omega (arith, s.whole, s.head) in
        rw (length_back s, body_back, digits_at 4 r.bytes 0 all s.four, digits_at 2 r.bytes 4 all four, ← drop-drop 2 4 r.bytes, take-append-drop, take-append-drop)

    -- and every test of the writer holds
    ms_back : ((not (is_lasso (R.kind r)) || leb 1 (length (R.list r))) ≡ true) × ((not (is_lasso (R.kind r)) || within rows (W.ms_given (back r room))) ≡ true)
    unfolding W.ms_given R.list R.list_start R.fields R.counts_read R.kind ahead listed counts is_loop is_lasso in_range values widths row_count width held R.count_list
    ms_back = by_kind (kind_of (R.kind_number r)) refl s.counts_fit
      where
        by_kind : (k : Kind) → kind_of (R.kind_number r) ≡ k → in_range (counts (R.kind r)) (R.count_list r) ≡ true → ((not (is_lasso (R.kind r)) || leb 1 (length (R.list r))) ≡ true) × ((not (is_lasso (R.kind r)) || within rows (W.ms_given (back r room))) ≡ true)
        by_kind loop e c = rw e (refl, refl)
        by_kind ranking e c = rw e (refl, refl)
        by_kind exclusion e c = rw e (refl, refl)
        by_kind lasso e c = rw e (some_values row_count (layout lasso (record { n = r.n; m = r.m; ms = little_at 2 r.bytes 6 })) (drop 6 r.bytes), (both_true (within rows (pos (little (take 2 (drop 6 r.bytes))))) true (rw e at c)).0)
        by_kind other e c = rw e (refl, refl)

    passes_back : 4 + R.stated_length r ≤ room → Passes writing (back r room)
    unfolding writing W.kind R.kind R.kind_number
    passes_back fits = (
      written,
      (
        counts_in_range r s (written_known _ written),
        (
          ms_back.0,
          (
            ms_back.1,
            (
              eq-eqb _ _ (ap length list_is ∙ length_values (R.fields r) _ ∙ ap length (sym fields_back)),
              (
                rw fields_back s.values_fit,
                (
                  le-leb (4 + W.length_stated (back r room)) room (rw (length_back s) fits),
                  tt,
                ),
              ),
            ),
          ),
        ),
      ),
    )

-- ---- the calls

-- a writing is done, and the room then begins with these bytes and is as it was past them
pub record WritesOut (w : Writer) (room bytes : List ℕ) : Type 0 where
  pub answers : W.writes w ≡ record { number = 0; place = 0; written = length bytes }
  pub room_holds : W.room_after w room ≡ bytes ++ drop (length bytes) room

writes_back : (r : Reader) (room : List ℕ) → Sound r → kinds_written (R.kind r) ≡ true → Bytes r.bytes
    → length r.bytes ≤ length room → WritesOut (back r (length room)) room r.bytes
unfolding W.writes W.room_after W.answer W.filled
writes_back r room s written all fits =
    let w = back r (length room) in
    let told : first writing w ≡ done = passes_done writing w (passes_back r (length room) s written all (omega (arith, s.whole))) in
    let long : 4 + W.length_stated w ≡ length r.bytes = ap (λ k. 4 + k) (length_back r (length room) s) ∙ sym s.whole in
    record { answers = rw (told, long); room_holds = rw (told, long, record_back r (length room) s written all) }

-- the writer that gets a reading's kind and values, with n and m
abbrev pub again : Reader → List ℤ → ℕ → ℕ → List ℕ → Writer
again r lent n m room = W.writer (R.reads r).kind n m (take (R.reads r).count (R.fills r lent)) room

-- of a loop, with the n and m that were answered
pub read_then_write_loop : (bytes : List ℕ) (lent : List ℤ) (room : List ℕ) → Bytes bytes → length bytes ≤ length room
    → (R.reads (R.loop_reader bytes lent)).number ≡ 0
    → WritesOut (again (R.loop_reader bytes lent) lent (R.reads (R.loop_reader bytes lent)).n (R.reads (R.loop_reader bytes lent)).m room) room bytes
unfolding R.loop_reader W.writer
read_then_write_loop bytes lent room all fits zero_told =
    let r = R.loop_reader bytes lent in
    let h = has_read r lent zero_told in
    let loop_kind : is_loop (R.kind r) ≡ true = h.sound_record.wanted in
    rw (h.list_told, h.kind_told, h.n_told, h.m_told, loop_kind) (writes_back r room h.sound_record (loop_written _ loop_kind) all fits)

-- of a certificate, with the n and m that were arguments
pub read_then_write_certificate : (bytes : List ℕ) (n m : ℕ) (lent : List ℤ) (room : List ℕ) → Bytes bytes → length bytes ≤ length room
    → (R.reads (R.certificate_reader bytes n m lent)).number ≡ 0
    → WritesOut (again (R.certificate_reader bytes n m lent) lent n m room) room bytes
unfolding R.certificate_reader W.writer
read_then_write_certificate bytes n m lent room all fits zero_told =
    let r = R.certificate_reader bytes n m lent in
    let h = has_read r lent zero_told in
    let no_loop : is_loop (R.kind r) ≡ false = wanted_no_loop _ (R.kind r) h.sound_record.wanted in
    rw (h.list_told, h.kind_told) (rw ((arguments_read r no_loop).0, (arguments_read r no_loop).1) at (writes_back r room h.sound_record (read_written _ h.sound_record.wanted) all fits))

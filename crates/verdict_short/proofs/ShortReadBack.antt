-- The bytes of triples that are within the limits are a sound record of kind 7 for a loop of so many variables and rows, and they hold those triples:
-- what is read of them stands for the same ranking.
use mathlib.Core.Path.{◌≡◌, ap, ◌∙◌}
use Prim.Native.Nat.{ℕ, suc, ◌+◌, ◌*◌, ◌≤◌, ◌<◌}
use mathlib.Core.List.{List}
use native.Mathlib.Omega.{arith}
use lib.IntN.{pos}
use lib.ListN.{length, length-append}
use Rattle.endian.specs.Numbers.{little_at, digits}
use Rattle.endian.proofs.Laws.{length_digits}
use Rattle.refusal.specs.Tests.{done, first}
use Rattle.record.specs.Contents.{CountsIn}
use Rattle.record.specs.Ranges.{rows, multipliers}
use Rattle.record.proofs.FittingValues.{in_within}
use Rattle.record_paths.specs.PathFields.{sum_of, bytes_alone}
use Rattle.record_short.specs.ShortRecords.{triples_in, row_in, Y-in, Z-in, weight_of, Y-for, Z-for, sound_short}
use Rattle.record_short.proofs.ShortSound.{ShortSound, sound_done}
use Rattle.record_short.proofs.Weights.{weight_same}
use Rattle.verdict_paths.specs.PathValues.{framed, joined}
use Rattle.verdict_paths.proofs.PartsOfBytes.{Stands, stands_whole, stands_within, stands_apart, sum_same, sum_alike, length_joined, joined_at, number_read}
use Rattle.verdict_paths.proofs.PathsReadBack.{counted_between}
use Rattle.whole.proofs.EachLaws.{each_at}
use Rattle.whole.proofs.Tables.{tabulate_same}
use Rattle.verdict_short.specs.ShortContents.{stood_for}
use Rattle.verdict_short.specs.ShortValues.{Triple, TripleIn, TriplesIn, triple_bytes, triples_record, weight_at, ranking_by}
use Rattle.verdict_short.proofs.TripleWeights.{no_triple, triple_of, no_more_than_rows, rising_next, weight_by_list}

length_triple : (t : Triple) → length (triple_bytes t) ≡ 6
unfolding triple_bytes
length_triple t = rw (length-append, length-append, length_digits 2 t.row, length_digits 2 t.Y, length_digits 2 t.Z)

module _ (n m : ℕ) (ts : List Triple) (few : CountsIn n m) (h : TriplesIn m ts) where
  abbrev count : ℕ
  count = length ts

  abbrev bytes : List ℕ
  bytes = triples_record ts

  -- ---- the limits

  rows_few : m ≤ 64
  unfolding rows
  rows_few = (counted_between 0 64 m few.m_in).1

  count_few : count ≤ m
  count_few = no_more_than_rows m ts h

  its_triple : (k : ℕ) → k < count → TripleIn m (triple_of ts k)
  its_triple k below = each_at (TripleIn m) ts k no_triple h.each below

  Y-most : (k : ℕ) → k < count → (triple_of ts k).Y ≤ 60000
  unfolding multipliers
  Y-most k below = (counted_between 0 60000 _ (its_triple k below).Y-in).1

  Z-most : (k : ℕ) → k < count → (triple_of ts k).Z ≤ 60000
  unfolding multipliers
  Z-most k below = (counted_between 0 60000 _ (its_triple k below).Z-in).1

  -- ---- each part at its place

  before_triple : (k : ℕ) → sum_of k (λ i. length (triple_bytes (triple_of ts i))) ≡ k * 6
  before_triple k = sum_same k (λ i. length (triple_bytes (triple_of ts i))) (λ i. 6) (λ i below. length_triple (triple_of ts i)) ∙ sum_alike k 6

  triples_long : length (joined triple_bytes ts) ≡ 6 * count
  triples_long = length_joined triple_bytes ts no_triple ∙ before_triple count ∙ omega arith

  record Parts : Type 0 where
    L-stands : Stands bytes 0 (digits 4 (4 + 6 * count))
    kind_stands : Stands bytes 4 (digits 2 7)
    count_stands : Stands bytes 6 (digits 2 count)
    triples_stand : Stands bytes 8 (joined triple_bytes ts)
    long : length bytes ≡ 8 + 6 * count

  parts : Parts
  unfolding triples_record framed
  parts =
      let from_L = stands_apart 4 (digits 4 (4 + 6 * count)) _ (length_digits 4 (4 + 6 * count)) (stands_whole bytes) in
      let from_kind = stands_apart 2 (digits 2 7) _ (length_digits 2 7) from_L.1 in
      let from_count = stands_apart 2 (digits 2 count) _ (length_digits 2 count) from_kind.1 in
      record {
        L-stands = from_L.0;
        kind_stands = from_kind.0;
        count_stands = from_count.0;
        triples_stand = from_count.1;
        long =
            rw (length-append, length-append, length-append, length_digits 4 (4 + 6 * count), length_digits 2 7, length_digits 2 count, triples_long)
            (omega arith);
      }

  -- ---- what is read

  stated_read : little_at 4 bytes 0 ≡ 4 + 6 * count
  stated_read = number_read 4 (4 + 6 * count) (omega (arith, count_few, rows_few)) parts.L-stands

  pub kind_read : little_at 2 bytes 4 ≡ 7
  kind_read = number_read 2 7 (omega arith) parts.kind_stands

  count_read : triples_in bytes ≡ count
  unfolding triples_in
  count_read = number_read 2 count (omega (arith, count_few, rows_few)) parts.count_stands

  record Read (k : ℕ) : Type 0 where
    row_is : row_in bytes k ≡ (triple_of ts k).row
    Y-is : Y-in bytes k ≡ (triple_of ts k).Y
    Z-is : Z-in bytes k ≡ (triple_of ts k).Z

  triple_read : (k : ℕ) → k < count → Read k
  unfolding triple_bytes row_in Y-in Z-in
  triple_read k below =
      let t = triple_of ts k in
      let there : 8 + k * 6 ≡ 8 + 6 * k = omega arith in
      let Y-there : 8 + 6 * k + 2 ≡ 10 + 6 * k = omega arith in
      let Z-there : 10 + 6 * k + 2 ≡ 12 + 6 * k = omega arith in
      let stands = rw (before_triple k, there) at (stands_within parts.triples_stand (joined_at triple_bytes ts no_triple k below)) in
      let from_row = stands_apart 2 (digits 2 t.row) _ (length_digits 2 t.row) stands in
      let from_Y = stands_apart 2 (digits 2 t.Y) (digits 2 t.Z) (length_digits 2 t.Y) (rw Y-there at from_row.1) in
      record {
        row_is = number_read 2 t.row (omega (arith, (its_triple k below).below, rows_few)) from_row.0;
        Y-is = number_read 2 t.Y (omega (arith, Y-most k below)) from_Y.0;
        Z-is = number_read 2 t.Z (omega (arith, Z-most k below)) (rw Z-there at from_Y.1);
      }

  -- ---- they are sound

  pub triples_sound : ShortSound n m bytes
  triples_sound =
      record {
        numbered = kind_read;
        n_fits = in_within few.n_in;
        m_fits = in_within few.m_in;
        stated = rw count_read stated_read;
        long = rw count_read parts.long;
        few = rw count_read (omega (arith, count_few, rows_few));
        few_by_rows = rw count_read count_few;
        rows_below = λ k b. let below = rw count_read at b in rw (triple_read k below).row_is (its_triple k below).below;
        rows_rise = λ k b.
            (let below = rw count_read at b in
            let earlier : k < count = omega arith in
            rw ((triple_read k earlier).row_is, (triple_read (suc k) below).row_is) (rising_next ts h.rise k below));
        weighty = λ k b. let below = rw count_read at b in rw ((triple_read k below).Y-is, (triple_read k below).Z-is) (its_triple k below).weighs;
        Y-most = λ k b. let below = rw count_read at b in rw (triple_read k below).Y-is (Y-most k below);
        Z-most = λ k b. let below = rw count_read at b in rw (triple_read k below).Z-is (Z-most k below);
      }

  pub triples_done : first (sound_short n m) (bytes_alone (triples_record ts)) ≡ done
  triples_done = sound_done n m (triples_record ts) triples_sound

  -- ---- and stand for the same ranking

  Y-weight : (i : ℕ) → weight_of (row_in bytes) (Y-in bytes) (triples_in bytes) i ≡ weight_at (λ (t : Triple). t.Y) ts i
  Y-weight i =
      rw count_read
      (weight_same (row_in bytes) (λ k. (triple_of ts k).row) (Y-in bytes) (λ k. (triple_of ts k).Y) count i
      (λ k below. ((triple_read k below).row_is, (triple_read k below).Y-is)))
      ∙ weight_by_list (λ (t : Triple). t.Y) ts h.rise i

  Z-weight : (i : ℕ) → weight_of (row_in bytes) (Z-in bytes) (triples_in bytes) i ≡ weight_at (λ (t : Triple). t.Z) ts i
  Z-weight i =
      rw count_read
      (weight_same (row_in bytes) (λ k. (triple_of ts k).row) (Z-in bytes) (λ k. (triple_of ts k).Z) count i
      (λ k below. ((triple_read k below).row_is, (triple_read k below).Z-is)))
      ∙ weight_by_list (λ (t : Triple). t.Z) ts h.rise i

  pub triples_read_back : stood_for m (triples_record ts) ≡ ranking_by m ts
  unfolding stood_for ranking_by Y-for Z-for
  triples_read_back =
      rw (
        tabulate_same m _ (λ i. pos (weight_at (λ (t : Triple). t.Y) ts i)) (λ i below. ap pos (Y-weight i)),
        tabulate_same m _ (λ i. pos (weight_at (λ (t : Triple). t.Z) ts i)) (λ i below. ap pos (Z-weight i)),
      )

-- The kind 2 record that a sound short ranking stands for, as judging and bound find it: it is sound, of kind 2, and holds the multipliers that the
-- triples stand for (`stood_for`). This law joins the bytes that are judged, `long_bytes`, with what a short ranking means.
use mathlib.Core.Path.{◌≡◌, refl, ap}
use Prim.Native.Nat.{ℕ, ◌+◌, ◌*◌, ◌≤◌}
use mathlib.Core.Bool.{Bool, true}
use mathlib.Core.List.{List}
use native.Mathlib.Omega.{arith}
use lib.IntN.{ℤ, pos}
use lib.ListN.{length, replicate, length-replicate}
use Rattle.record.specs.Contents.{In, CountsIn, ranking_values, RankingIn}
use Rattle.record.specs.Layouts.{Kind, ranking, kind_of, is_loop}
use Rattle.record.specs.Ranges.{variables, rows, multipliers}
use Rattle.record.specs.Readers as R
use Rattle.record.specs.Readers.{Reader, sound}
use Rattle.record.specs.Writers as W
use Rattle.record.specs.Writers.{Writer}
use Rattle.record.specs.declared.Writing.{Writing}
use Rattle.record.proofs.FittingValues.{within_in}
use Rattle.record.proofs.WritableRecords.{Writable}
use Rattle.record.proofs.WriteAccepts.{write_accepts_ranking}
use Rattle.record.proofs.WriteThenRead.{has_written}
use Rattle.record.proofs.WrittenBytes.{over, kind_same, counts_same, list_same, passes_sound}
use Rattle.record_short.specs.ShortRecords.{triples_in, row_in, Y-in, Z-in, weight_of, Y-for, Z-for, long_bytes}
use Rattle.record_short.proofs.ShortSound.{ShortSound, small_within}
use Rattle.record_short.proofs.Weights.{weight_most}
use Rattle.refusal.specs.Tests.{done, first}
use Rattle.refusal.proofs.TestLaws.{passes_done}
use Rattle.verdict.specs.Contents.{ranking_in}
use Rattle.verdict.specs.Pairs.{certificate_record}
use Rattle.verdict.proofs.InValues.{ranking_back}
use Rattle.verdict_short.specs.ShortContents.{stood_for}
use Rattle.whole.proofs.Tables.{length_tabulate, each_tabulate}

-- a record that is a sound ranking and holds what the triples of other bytes stand for
pub record LongHeld (r : Reader) (m : ℕ) (bytes : List ℕ) : Type 0 where
  pub is_sound : first sound r ≡ done
  pub kind_is : R.kind r ≡ ranking
  pub values_are : ranking_in r ≡ stood_for m bytes

pub small_in : (x : ℕ) → x ≤ 60000 → In multipliers (pos x)
unfolding multipliers
small_in x low = within_in multipliers (pos x) (small_within 60000 x low)

module _ (n m : ℕ) (bytes : List ℕ) (s : ShortSound n m bytes) where
  abbrev Y : List ℤ
  Y = Y-for m bytes

  abbrev Z : List ℤ
  Z = Z-for m bytes

  -- ---- within the limits

  pub counts_in : CountsIn n m
  counts_in = record { n_in = within_in variables (pos n) s.n_fits; m_in = within_in rows (pos m) s.m_fits }

  pub stood_for_in : RankingIn m (Y-for m bytes) (Z-for m bytes)
  unfolding Y-for Z-for
  stood_for_in =
      let Y-small : (i : ℕ) → weight_of (row_in bytes) (Y-in bytes) (triples_in bytes) i ≤ 60000
      = λ i. weight_most (row_in bytes) (Y-in bytes) 60000 (triples_in bytes) i s.Y-most in
      let Z-small : (i : ℕ) → weight_of (row_in bytes) (Z-in bytes) (triples_in bytes) i ≤ 60000
      = λ i. weight_most (row_in bytes) (Z-in bytes) 60000 (triples_in bytes) i s.Z-most in
      record {
        Y-in = record { counted = length_tabulate m _; each = each_tabulate (In multipliers) m _ (λ i below. small_in _ (Y-small i)) };
        Z-in = record { counted = length_tabulate m _; each = each_tabulate (In multipliers) m _ (λ i below. small_in _ (Z-small i)) };
      }

  -- ---- as a writer writes it

  abbrev room : List ℕ
  room = replicate (6 + 4 * m) 0

  abbrev w : Writer
  w = W.writer 2 n m (ranking_values Y Z) room

  long_written : long_bytes n m bytes ≡ W.record_bytes w
  unfolding long_bytes ranking_values W.writer W.record_bytes W.length_stated W.fields W.kind W.counts_given W.numbers_ahead W.ms_given
  long_written = refl

  writable : Writable w
  writable =
      let long : 4 + (2 + 4 * m) ≤ length room = omega (arith, length-replicate {A = ℕ} (6 + 4 * m) 0) in
      (has_written w room (ap (λ (a : Writing). a.number) (write_accepts_ranking n m Y Z room counts_in stood_for_in long))).writable

  -- ---- as a reader finds it

  module _ (wants : Kind → Bool) (wanted : wants ranking ≡ true) where
    over_held : LongHeld (over w wants 0) m bytes
    unfolding W.writer W.kind kind_of W.counts_given ranking_in stood_for
    over_held =
        record {
          is_sound = passes_done sound (over w wants 0) (passes_sound w writable wants 0 wanted);
          kind_is = kind_same w writable wants 0;
          values_are = rw (counts_same w writable wants 0, list_same w writable wants 0) (ranking_back m Y Z stood_for_in);
        }

    -- with the n and m of a loop that is read
    pub long_held : (l : Reader) → (R.counts_read l).n ≡ n → (R.counts_read l).m ≡ m
        → LongHeld (certificate_record wants l (long_bytes n m bytes)) m bytes
    unfolding certificate_record W.writer W.kind kind_of is_loop
    long_held l n_is m_is = rw (n_is, m_is, long_written) over_held

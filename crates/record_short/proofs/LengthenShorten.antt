-- Kind 7 to kind 2 and back: the kind 2 record of a sound short one is sound, and shortened it is the first record again.
use mathlib.Core.Path.{◌≡◌, refl, sym, ap, ◌∙◌}
use Prim.Native.Nat.{ℕ, zero, suc, ◌+◌, ◌*◌, ◌≤◌, ◌<◌}
use mathlib.Core.Bool.{false, ◌&&◌}
use mathlib.Core.List.{List, [], ◌++◌, append_assoc, append-nil}
use native.Mathlib.Decide.{dec_lt}
use native.Mathlib.Omega.{arith}
use lib.Dec.{eqb}
use lib.ListN.{length, take, drop, length-append}
use lib.Seq.{take-add, drop-drop}
use borrow.Author.Tests.{eqb-true, eqb-false, not-true}
use Rattle.endian.specs.Numbers.{Bytes, little_at, digits}
use Rattle.endian.proofs.Laws.{length_digits, little_at_second}
use Rattle.whole.specs.Sums.{tabulate}
use Rattle.whole.proofs.Tables.{length_tabulate, tabulate_more}
use Rattle.refusal.specs.Tests.{done, first}
use Rattle.refusal.proofs.TestLaws.{either}
use Rattle.record.specs.Readers.{sound}
use Rattle.record.proofs.CountLimits.{rows_most}
use Rattle.record_short.specs.Conversions.{ranking_given, long_Y, long_Z, rows_with_weight, triples_bytes, triples_needed, short_bytes}
use Rattle.record_short.specs.ShortRecords.{triples_in, row_in, Y-in, Z-in, long_bytes}
use Rattle.record_short.proofs.LongRecords.{Y-after, Z-after, long_runs, length_long}
use Rattle.record_short.proofs.LongSound.{LongSound, long_done}
use Rattle.record_short.proofs.NumberRuns.{u16s, length_u16s, u16s_at, number_read, number_there}
use Rattle.record_short.proofs.ShortSound.{ShortSound, not_both}
use Rattle.record_short.proofs.ShortenLengthen.{in_four}
use Rattle.record_short.proofs.Weights.{weight_most, weight_absent, weight_there}

-- triples of rows whose numbers stand in other bytes are these bytes
triples_read : (m : ℕ) (from bytes : List ℕ) (count : ℕ) (row : ℕ → ℕ) (place : ℕ) → Bytes bytes → place + 6 * count ≤ length bytes
    → ((k : ℕ) → k < count → (row k ≡ little_at 2 bytes (place + 6 * k)) × (long_Y from (row k) ≡ little_at 2 bytes (place + 2 + 6 * k))
    × (long_Z m from (row k) ≡ little_at 2 bytes (place + 4 + 6 * k)))
    → triples_bytes m from (tabulate count row) ≡ take (6 * count) (drop place bytes)
unfolding triples_bytes tabulate
triples_read m from bytes zero row place all inside read = refl
triples_read m from bytes (suc count) row place all inside read =
    let here = read 0 (omega arith) in
    let row_at : place + 6 * 0 ≡ place = omega arith in
    let Y-at : place + 2 + 6 * 0 ≡ place + 2 = omega arith in
    let Z-at : place + 4 + 6 * 0 ≡ place + 4 = omega arith in
    let row_bytes = ap (digits 2) (here.0 ∙ ap (little_at 2 bytes) row_at) ∙ number_read 2 bytes place all (omega arith) in
    let Y-bytes = ap (digits 2) (here.1 ∙ ap (little_at 2 bytes) Y-at) ∙ number_read 2 bytes (place + 2) all (omega arith) in
    let Z-bytes = ap (digits 2) (here.2 ∙ ap (little_at 2 bytes) Z-at) ∙ number_read 2 bytes (place + 4) all (omega arith) in
    let rest = triples_read m from bytes count (λ k. row (suc k)) (place + 6) all (omega arith)
    (λ k below.
    let one = read (suc k) (omega arith) in
    let r : place + 6 * suc k ≡ place + 6 + 6 * k = omega arith in
    let y : place + 2 + 6 * suc k ≡ place + 6 + 2 + 6 * k = omega arith in
    let z : place + 4 + 6 * suc k ≡ place + 6 + 4 + 6 * k = omega arith in
    (one.0 ∙ ap (little_at 2 bytes) r, one.1 ∙ ap (little_at 2 bytes) y, one.2 ∙ ap (little_at 2 bytes) z)) in
    let parts : 6 * suc count ≡ 2 + (2 + (2 + 6 * count)) = omega arith in
    let third : place + 2 + 2 ≡ place + 4 = omega arith in
    let fourth : place + 4 + 2 ≡ place + 6 = omega arith in
    rw (
      row_bytes,
      Y-bytes,
      Z-bytes,
      rest,
      parts,
      take-add 2 (2 + (2 + 6 * count)) (drop place bytes),
      drop-drop 2 place bytes,
      take-add 2 (2 + 6 * count) (drop (place + 2) bytes),
      drop-drop 2 (place + 2) bytes,
      third,
      take-add 2 (6 * count) (drop (place + 4) bytes),
      drop-drop 2 (place + 4) bytes,
      fourth,
    )

module _ (n m : ℕ) (bytes : List ℕ) (s : ShortSound n m bytes) where
  abbrev longer : List ℕ
  longer = long_bytes n m bytes

  abbrev count : ℕ
  count = triples_in bytes

  abbrev Y : ℕ → ℕ
  Y = Y-after bytes count

  abbrev Z : ℕ → ℕ
  Z = Z-after bytes count

  -- rows rise
  rising : (a b : ℕ) → a < b → b < count → row_in bytes a < row_in bytes b
  rising a zero less below = absurd (omega arith)
  rising a (suc b) less below =
      elim (dec_lt a b) [
        | yes early ↦ omega (arith, rising a b early (omega arith), s.rows_rise b below)
        | no late ↦ let same : a ≡ b = omega arith in rw same (s.rows_rise b below)
      ]

  -- ---- what the kind 2 record has

  head : List ℕ
  head = digits 4 (2 + 4 * m) ++ digits 2 2

  head_long : length head ≡ 6
  unfolding head
  head_long = rw (length-append, length_digits, length_digits)

  parts : longer ≡ head ++ (u16s m Y ++ u16s m Z)
  unfolding head
  parts = long_runs n m bytes ∙ sym (append_assoc (digits 4 (2 + 4 * m)) (digits 2 2) (u16s m Y ++ u16s m Z))

  few_rows : m ≤ 64
  few_rows = rows_most m s.m_fits

  Y-small : (i : ℕ) → Y i ≤ 60000
  Y-small i = weight_most (row_in bytes) (Y-in bytes) 60000 count i s.Y-most

  Z-small : (i : ℕ) → Z i ≤ 60000
  Z-small i = weight_most (row_in bytes) (Z-in bytes) 60000 count i s.Z-most

  Y-read : (i : ℕ) → i < m → long_Y longer i ≡ Y i
  unfolding long_Y
  Y-read i below =
      rw parts
      (little_at_second 2 head (u16s m Y ++ u16s m Z) (6 + 2 * i) (2 * i) (omega (arith, head_long))
      ∙ u16s_at m Y i below (u16s m Z) (omega (arith, Y-small i)))

  Z-read : (i : ℕ) → i < m → long_Z m longer i ≡ Z i
  unfolding long_Z
  Z-read i below =
      rw (parts, ← append_assoc head (u16s m Y) (u16s m Z), ← append-nil (u16s m Z))
      (little_at_second 2 (head ++ u16s m Y) (u16s m Z ++ []) (6 + 2 * m + 2 * i) (2 * i) (rw (length-append, head_long, length_u16s))
      ∙ u16s_at m Z i below [] (omega (arith, Z-small i)))

  pub long_is_sound : LongSound n m longer
  long_is_sound =
      record {
        numbered = rw (long_runs n m bytes) (number_there 2 (digits 4 (2 + 4 * m)) (u16s m Y ++ u16s m Z) 2 4 (length_digits 4 (2 + 4 * m)) (omega arith));
        n_fits = s.n_fits;
        m_fits = s.m_fits;
        stated = rw (long_runs n m bytes) (number_there 4 [] (digits 2 2 ++ (u16s m Y ++ u16s m Z)) (2 + 4 * m) 0 refl (omega (arith, few_rows)));
        long = length_long n m bytes;
        Y-most = λ i below. rw (Y-read i below) (Y-small i);
        Z-most = λ i below. rw (Z-read i below) (Z-small i);
      }

  pub long_is_done : (room : ℕ) → first sound (ranking_given (long_bytes n m bytes) n m room) ≡ done
  long_is_done room = long_done n m (long_bytes n m bytes) room long_is_sound

  -- ---- the rows that have weight are those of the triples

  -- of the rows below j: the first triples, and no later one
  record Reached (j : ℕ) : Type 0 where
    past : ℕ
    inside : past ≤ count
    before : (k : ℕ) → k < past → row_in bytes k < j
    after : (k : ℕ) → past ≤ k → k < count → j ≤ row_in bytes k
    listed : rows_with_weight m longer j ≡ tabulate past (row_in bytes)

  -- row j is the next triple's
  takes_next : (j : ℕ) → j < m → (r : Reached j) → r.past < count → row_in bytes r.past ≡ j → Reached (suc j)
  unfolding rows_with_weight
  takes_next j below r some is =
      let p = r.past in
      let Y-is : long_Y longer j ≡ Y-in bytes p = Y-read j below ∙ rw (← is) (weight_there (row_in bytes) (Y-in bytes) count p rising some) in
      let Z-is : long_Z m longer j ≡ Z-in bytes p = Z-read j below ∙ rw (← is) (weight_there (row_in bytes) (Z-in bytes) count p rising some) in
      let weighs : (eqb (long_Y longer j) 0 && eqb (long_Z m longer j) 0) ≡ false = rw (Y-is, Z-is) (not-true _ (not_both (Y-in bytes p) (Z-in bytes p) (s.weighty p some))) in
      record {
        past = suc p;
        inside = omega arith;
        before = λ k h. elim (dec_lt k p) [ yes early ↦ omega (arith, r.before k early) | no late ↦ let same : k ≡ p = omega arith in rw same (omega (arith, is)) ];
        after = λ k h under. omega (arith, rising p k (omega arith) under, is);
        listed = rw (weighs, r.listed, tabulate_more p (row_in bytes), is);
      }

  -- no triple has row j
  passes_over : (j : ℕ) → j < m → (r : Reached j) → ((k : ℕ) → k < count → row_in bytes k ≡ j → ⊥) → Reached (suc j)
  unfolding rows_with_weight
  passes_over j below r none =
      let Y-is : long_Y longer j ≡ 0 = Y-read j below ∙ weight_absent (row_in bytes) (Y-in bytes) count j none in
      let Z-is : long_Z m longer j ≡ 0 = Z-read j below ∙ weight_absent (row_in bytes) (Z-in bytes) count j none in
      record {
        past = r.past;
        inside = r.inside;
        before = λ k h. omega (arith, r.before k h);
        after = λ k h under. (let apart = none k under in omega (arith, r.after k h under, apart));
        listed = rw (Y-is, Z-is, append-nil) r.listed;
      }

  -- the triple that is next has row j, or none has it
  one_row : (j : ℕ) → j < m → Reached j → Reached (suc j)
  one_row j below r =
      elim (dec_lt r.past count) [
        | yes some ↦
            either (eqb (row_in bytes r.past) j)
            (λ e. takes_next j below r some (eqb-true _ _ e))
            (λ e. passes_over j below r (λ k under is. misses (eqb-false _ _ e) some k under is))
        | no none ↦ passes_over j below r (λ k under is. omega (arith, r.before k (omega arith)))
      ]
    where
      misses : (row_in bytes r.past ≡ j → ⊥) → r.past < count → (k : ℕ) → k < count → row_in bytes k ≡ j → ⊥
      misses other some k under is =
          elim (dec_lt k r.past) [
            | yes early ↦ omega (arith, r.before k early)
            | no late ↦
                elim (dec_lt r.past k) [
                  | yes after ↦ omega (arith, rising r.past k after under, r.after r.past (omega arith) some)
                  | no here ↦ let same : k ≡ r.past = omega arith in other (rw same at is)
                ]
          ]

  reached : (j : ℕ) → j ≤ m → Reached j
  unfolding rows_with_weight tabulate
  reached zero inside =
      record { past = 0; inside = omega arith; before = λ k h. absurd (omega arith); after = λ k h under. omega arith; listed = refl }
  reached (suc j) inside = one_row j (omega arith) (reached j (omega arith))

  rows_are : rows_with_weight m longer m ≡ tabulate count (row_in bytes)
  rows_are = all (reached m (omega arith))
    where
      all : Reached m → rows_with_weight m longer m ≡ tabulate count (row_in bytes)
      all r =
          elim (dec_lt r.past count) [
            | yes some ↦ absurd (omega (arith, r.after r.past (omega arith) some, s.rows_below r.past some))
            | no none ↦ let same : r.past ≡ count = omega (arith, r.inside) in r.listed ∙ ap (λ k. tabulate k (row_in bytes)) same
          ]

  needed : triples_needed m longer ≡ count
  unfolding triples_needed
  needed = ap length rows_are ∙ length_tabulate count (row_in bytes)

  -- ---- shortened it is the record again

  triple_read : (k : ℕ) → k < count → (row_in bytes k ≡ little_at 2 bytes (8 + 6 * k)) × (long_Y longer (row_in bytes k) ≡ little_at 2 bytes (8 + 2 + 6 * k))
      × (long_Z m longer (row_in bytes k) ≡ little_at 2 bytes (8 + 4 + 6 * k))
  unfolding row_in Y-in Z-in
  triple_read k below = (
    refl,
    Y-read (row_in bytes k) (s.rows_below k below) ∙ weight_there (row_in bytes) (Y-in bytes) count k rising below,
    Z-read (row_in bytes k) (s.rows_below k below) ∙ weight_there (row_in bytes) (Z-in bytes) count k rising below,
  )

  pub lengthen_shorten : Bytes bytes → short_bytes m (long_bytes n m bytes) ≡ bytes
  unfolding short_bytes triples_in
  lengthen_shorten all =
      let stated = ap (digits 4) (sym s.stated) ∙ number_read 4 bytes 0 all (omega (arith, s.long)) in
      let kind = ap (digits 2) (sym s.numbered) ∙ number_read 2 bytes 4 all (omega (arith, s.long)) in
      let counted = number_read 2 bytes 6 all (omega (arith, s.long)) in
      let triples = triples_read m longer bytes count (row_in bytes) 8 all (omega (arith, s.long)) triple_read in
      rw (needed, rows_are, stated, kind, counted, triples) (sym (in_four bytes 4 2 2 (6 * count) (omega (arith, s.long))))

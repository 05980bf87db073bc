-- Kind 2 to kind 7 and back: the short record of a sound ranking is sound, and lengthened it is the first record again.
use mathlib.Core.Path.{◌≡◌, refl, sym, ap, ◌∙◌}
use Prim.Native.Nat.{ℕ, zero, suc, ◌+◌, ◌*◌, ◌≤◌, ◌<◌}
use mathlib.Core.Bool.{true, false, cond, ◌&&◌}
use mathlib.Core.List.{List, [], ◌∷◌, ◌++◌, append_assoc, append-nil}
use mathlib.Core.Logic.{◌↔◌}
use native.Mathlib.Decide.{dec_lt}
use native.Mathlib.Omega.{arith}
use lib.Dec.{eqb, ltb}
use lib.IntN.{pos}
use lib.ListN.{length, replicate, take, drop, get_or, length-append, get_or-append}
use lib.Seq.{split_at, length-take-le, take_all, take-add, drop-drop, get_or-append_seam}
use borrow.Author.Tests.{lt-ltb, le-ltb, eqb-true, eqb-false}
use Rattle.endian.specs.Numbers.{Bytes, little_at, digits}
use Rattle.endian.proofs.Laws.{length_digits}
use Rattle.refusal.specs.Tests.{done, first}
use Rattle.refusal.proofs.TestLaws.{either, both_true}
use Rattle.whole.specs.Sums.{tabulate}
use Rattle.whole.proofs.Tables.{tabulate_same}
use Rattle.record.specs.Contents.{ranking_values}
use Rattle.record.specs.Fields.{width, number, values}
use Rattle.record.specs.Layouts.{multiplier}
use Rattle.record.specs.Readers as R
use Rattle.record.proofs.CountLimits.{rows_most}
use Rattle.record_paths.specs.PathFields.{bytes_alone}
use Rattle.record_short.specs.Conversions.{ranking_given, long_Y, long_Z, rows_with_weight, triples_bytes, triples_needed, short_bytes}
use Rattle.record_short.specs.ShortRecords.{triples_in, row_in, Y-in, Z-in, weight_of, Y-for, Z-for, sound_short, long_bytes}
use Rattle.record_short.proofs.LongRecords.{Y-after, Z-after, long_runs}
use Rattle.record_short.proofs.LongSound.{LongSound, list_is}
use Rattle.record_short.proofs.NumberRuns.{u16s_same, u16s_read, number_read, number_there}
use Rattle.record_short.proofs.ShortBytes.{triples_append, length_triples, rows_few, length_short}
use Rattle.record_short.proofs.ShortSound.{ShortSound, sound_done}
use Rattle.record_short.proofs.Weights.{weight_same}

-- ---- the rows that are listed

module _ (m : ℕ) (bytes : List ℕ) where
  abbrev rows : ℕ → List ℕ
  rows count = rows_with_weight m bytes count

  -- row i has weight
  Weighs : ℕ → Type 0
  Weighs i = (long_Y bytes i ≡ 0) × (long_Z m bytes i ≡ 0) → ⊥

  -- one row more: it has none, or it comes last
  by-weight {ℓ} : {X : Type ℓ} (count : ℕ) → (long_Y bytes count ≡ 0 → long_Z m bytes count ≡ 0 → rows (suc count) ≡ rows count → X)
      → (Weighs count → rows (suc count) ≡ rows count ++ (count ∷ []) → X) → X
  unfolding rows_with_weight Weighs
  by-weight count none some =
      either (eqb (long_Y bytes count) 0 && eqb (long_Z m bytes count) 0)
      (λ e.
      let both = both_true (eqb (long_Y bytes count) 0) (eqb (long_Z m bytes count) 0) e in
      none (eqb-true _ _ both.0) (eqb-true _ _ both.1) (rw e (append-nil (rows_with_weight m bytes count))))
      (λ e. some (λ zeros. let wrong : true ≡ false = rw (zeros.0, zeros.1) at e in let no : ◌≡◌ {A = ℕ} 0 1 = cc in omega arith) (rw e))

  record Listed (count : ℕ) (list : List ℕ) : Type 0 where
    below : (k : ℕ) → k < length list → get_or list k 0 < count
    rise : (k : ℕ) → suc k < length list → get_or list k 0 < get_or list (suc k) 0
    weigh : (k : ℕ) → k < length list → Weighs (get_or list k 0)

  -- a list with one more at its end
  module _ (list : List ℕ) (x : ℕ) where
    long : length (list ++ (x ∷ [])) ≡ suc (length list)
    long = rw (length-append list (x ∷ [])) (omega arith)

    at_last : get_or (list ++ (x ∷ [])) (length list) 0 ≡ x
    at_last = get_or-append_seam list x [] 0

    at_early : (k : ℕ) → k < length list → get_or (list ++ (x ∷ [])) k 0 ≡ get_or list k 0
    at_early k early = get_or-append list (x ∷ []) 0 k early

    -- what holds of all holds of all and of the last
    last_too : (P : ℕ → Type 0) → ((k : ℕ) → k < length list → P (get_or list k 0)) → P x → (k : ℕ) → k < length (list ++ (x ∷ [])) → P (get_or (list ++ (x ∷ [])) k 0)
    last_too P all here k h =
        elim (dec_lt k (length list)) [
          | yes early ↦ rw (at_early k early) (all k early)
          | no late ↦ let same : k ≡ length list = omega (arith, long) in rw (same, at_last) here
        ]

  listed : (count : ℕ) → Listed count (rows count)
  unfolding rows_with_weight
  listed zero = record { below = λ k h. absurd (omega arith); rise = λ k h. absurd (omega arith); weigh = λ k h. absurd (omega arith) }
  listed (suc count) = by-weight count (λ y z same. rw same (stays (listed count))) (λ some more. rw more (grows some (listed count)))
    where
      stays : Listed count (rows count) → Listed (suc count) (rows count)
      stays l = record { below = λ k h. omega (arith, l.below k h); rise = l.rise; weigh = l.weigh }

      grows : Weighs count → Listed count (rows count) → Listed (suc count) (rows count ++ (count ∷ []))
      grows some l =
          record {
            below = last_too (rows count) count (λ x. x < suc count) (λ k h. omega (arith, l.below k h)) (omega arith);
            rise = λ k h.
                (elim (dec_lt (suc k) (length (rows count))) [
                  | yes early ↦ rw (at_early (rows count) count k (omega arith), at_early (rows count) count (suc k) early) (l.rise k early)
                  | no late ↦
                      let last : suc k ≡ length (rows count) = omega (arith, long (rows count) count) in
                      rw (last, at_last (rows count) count, at_early (rows count) count k (omega arith)) (l.below k (omega arith))
                ]);
            weigh = last_too (rows count) count Weighs l.weigh some;
          }

  -- the weight that is found of a row is its own
  module _ (w : ℕ → ℕ) (nought : (i : ℕ) → long_Y bytes i ≡ 0 → long_Z m bytes i ≡ 0 → w i ≡ 0) (i : ℕ) where
    found : List ℕ → ℕ
    found list = weight_of (λ k. get_or list k 0) (λ k. w (get_or list k 0)) (length list) i

    found_last : (list : List ℕ) (x : ℕ) → found (list ++ (x ∷ [])) ≡ cond (eqb x i) (w x) (found list)
    unfolding found weight_of
    found_last list x =
        rw (
          long list x,
          at_last list x,
          weight_same (λ k. get_or (list ++ (x ∷ [])) k 0) (λ k. get_or list k 0) (λ k. w (get_or (list ++ (x ∷ [])) k 0)) (λ k. w (get_or list k 0)) (length list) i
              (λ k early. (at_early list x k early, ap w (at_early list x k early))),
        )

    found_all : (count : ℕ) → found (rows count) ≡ cond (ltb i count) (w i) 0
    unfolding found weight_of rows_with_weight
    found_all zero = rw (le-ltb i 0 (omega arith))
    found_all (suc count) = by-weight count (λ y z same. rw same (found_all count ∙ unweighed y z)) (λ some more. rw more (found_last (rows count) count ∙ weighed (found_all count)))
      where
        unweighed : long_Y bytes count ≡ 0 → long_Z m bytes count ≡ 0 → cond (ltb i count) (w i) 0 ≡ cond (ltb i (suc count)) (w i) 0
        unweighed y z =
            elim (dec_lt i count) [
              | yes early ↦
                  let so : i < suc count = omega arith in
                  rw (lt-ltb i count early, lt-ltb i (suc count) so)
              | no late ↦
                  let past : count ≤ i = omega arith in
                  elim (dec_lt count i) [
                    | yes after ↦
                        let so : suc count ≤ i = omega arith in
                        rw (le-ltb i count past, le-ltb i (suc count) so)
                    | no here ↦
                        let same : i ≡ count = omega arith in
                        let so : i < suc count = omega arith in
                        let none : w i ≡ 0 = rw same (nought count y z) in
                        rw (le-ltb i count past, lt-ltb i (suc count) so) (sym none)
                  ]
            ]

        weighed : found (rows count) ≡ cond (ltb i count) (w i) 0 → cond (eqb count i) (w count) (found (rows count)) ≡ cond (ltb i (suc count)) (w i) 0
        weighed before =
            either (eqb count i)
            (λ e.
            let same : count ≡ i = eqb-true count i e in
            let so : i < suc count = omega arith in
            rw (e, lt-ltb i (suc count) so) (ap w same))
            (λ e.
            let apart = eqb-false count i e in
            elim (dec_lt i count) [
              | yes early ↦
                  let so : i < suc count = omega arith in
                  rw (e, before, lt-ltb i count early, lt-ltb i (suc count) so)
              | no late ↦
                  let past : count ≤ i = omega arith in
                  let so : suc count ≤ i = omega arith in
                  rw (e, before, le-ltb i count past, le-ltb i (suc count) so)
            ])

-- ---- lists in parts

-- a list in four parts
pub in_four : (l : List ℕ) (a b c d : ℕ) → length l ≡ a + (b + (c + d))
    → l ≡ take a l ++ (take b (drop a l) ++ (take c (drop (a + b) l) ++ take d (drop (a + b + c) l)))
in_four l a b c d long =
    sym (take_all (a + (b + (c + d))) l (omega arith)) ∙ take-add a (b + (c + d)) l
    ∙ rw (take-add b (c + d) (drop a l), drop-drop b a l, take-add c d (drop (a + b) l), drop-drop c (a + b) l)

tabulate_parts : {B : Type 0} (i k : ℕ) (f : ℕ → B) → tabulate (i + k) f ≡ tabulate i f ++ tabulate k (λ j. f (i + j))
unfolding tabulate
tabulate_parts zero k f = let none : 0 + k ≡ k = omega arith in rw none (tabulate_same k f (λ j. f (0 + j)) (λ j below. ap f (omega arith)))
tabulate_parts (suc i) k f =
    let more : suc i + k ≡ suc (i + k) = omega arith in
    rw (more, tabulate_parts i k (λ j. f (suc j))) (ap (λ bs. f 0 ∷ (tabulate i (λ j. f (suc j)) ++ bs)) (tabulate_same k _ _ (λ j below. ap f (omega arith))))

-- the values of a run of multipliers
run_values : (bytes : List ℕ) (count place : ℕ) → values (replicate count multiplier) (drop place bytes) ≡ tabulate count (λ i. pos (little_at 2 bytes (place + 2 * i)))
unfolding values tabulate multiplier number width little_at
run_values bytes zero place = refl
run_values bytes (suc count) place =
    let here : place + 2 * 0 ≡ place = omega arith in
    rw (here, drop-drop 2 place bytes, run_values bytes count (place + 2))
    (ap (λ zs. pos (little_at 2 bytes place) ∷ zs)
    (tabulate_same count (λ i. pos (little_at 2 bytes (place + 2 + 2 * i))) (λ i. pos (little_at 2 bytes (place + 2 * suc i)))
    (λ i below. let at : place + 2 + 2 * i ≡ place + 2 * suc i = omega arith in ap (λ p. pos (little_at 2 bytes p)) at)))

-- ---- the short record

module _ (n m : ℕ) (bytes : List ℕ) (s : LongSound n m bytes) where
  abbrev short : List ℕ
  short = short_bytes m bytes

  abbrev list : List ℕ
  list = rows_with_weight m bytes m

  few : length list ≤ 64
  few = omega (arith, rows_few m bytes m, rows_most m s.m_fits)

  -- length, kind and count
  stated_read : little_at 4 short 0 ≡ 4 + 6 * length list
  unfolding short_bytes triples_needed
  stated_read = number_there 4 [] _ (4 + 6 * length list) 0 refl (omega (arith, few))

  kind_read : little_at 2 short 4 ≡ 7
  unfolding short_bytes triples_needed
  kind_read = number_there 2 (digits 4 (4 + 6 * length list)) _ 7 4 (length_digits 4 (4 + 6 * length list)) (omega arith)

  count_read : triples_in short ≡ length list
  unfolding triples_in short_bytes triples_needed
  count_read =
      let L = digits 4 (4 + 6 * length list) in
      let six : length (L ++ digits 2 7) ≡ 6 = rw (length-append, length_digits, length_digits) in
      rw (← append_assoc L (digits 2 7) (digits 2 (length list) ++ triples_bytes m bytes list))
      (number_there 2 (L ++ digits 2 7) _ (length list) 6 six (omega (arith, few)))

  -- a triple
  module _ (k : ℕ) (below : k < length list) where
    abbrev row : ℕ
    row = get_or list k 0

    front : List ℕ
    front = digits 4 (4 + 6 * length list) ++ digits 2 7 ++ digits 2 (length list) ++ triples_bytes m bytes (take k list)

    front_long : length front ≡ 8 + 6 * k
    unfolding front
    front_long =
        rw (length-append, length-append, length-append, length_digits, length_digits, length_digits, length_triples, length-take-le k list (omega arith)) (omega arith)

    rest : List ℕ
    rest = triples_bytes m bytes (drop (suc k) list)

    opened : short ≡ front ++ (digits 2 row ++ (digits 2 (long_Y bytes row) ++ (digits 2 (long_Z m bytes row) ++ rest)))
    unfolding front rest short_bytes triples_needed triples_bytes
    opened =
        let L = digits 4 (4 + 6 * length list) in
        let c = digits 2 (length list) in
        let triples : triples_bytes m bytes list ≡ triples_bytes m bytes (take k list) ++ triples_bytes m bytes (row ∷ drop (suc k) list)
        = ap (triples_bytes m bytes) (split_at list k 0 below) ∙ triples_append m bytes (take k list) (row ∷ drop (suc k) list) in
        rw (triples, append_assoc (L ++ digits 2 7 ++ c) (triples_bytes m bytes (take k list)), append_assoc (L ++ digits 2 7) c, append_assoc L (digits 2 7))

    row_below : row < m
    row_below = (listed m bytes m).below k below

    row_read : row_in short k ≡ row
    unfolding row_in
    row_read = rw opened (number_there 2 front _ row (8 + 6 * k) front_long (omega (arith, row_below, rows_most m s.m_fits)))

    Y-read : Y-in short k ≡ long_Y bytes row
    unfolding Y-in
    Y-read =
        let long : length (front ++ digits 2 row) ≡ 10 + 6 * k = rw (length-append, front_long, length_digits) (omega arith) in
        rw (opened, ← append_assoc front (digits 2 row))
        (number_there 2 (front ++ digits 2 row) _ (long_Y bytes row) (10 + 6 * k) long (omega (arith, s.Y-most row row_below)))

    Z-read : Z-in short k ≡ long_Z m bytes row
    unfolding Z-in
    Z-read =
        let Y = digits 2 (long_Y bytes row) in
        let long : length (front ++ digits 2 row ++ Y) ≡ 12 + 6 * k = rw (length-append, length-append, front_long, length_digits, length_digits) (omega arith) in
        rw (opened, ← append_assoc front (digits 2 row), ← append_assoc (front ++ digits 2 row) Y)
        (number_there 2 (front ++ digits 2 row ++ Y) _ (long_Z m bytes row) (12 + 6 * k) long (omega (arith, s.Z-most row row_below)))

  -- it is sound
  pub short_is_sound : ShortSound n m short
  unfolding Weighs triples_needed
  short_is_sound =
      let l = listed m bytes m in
      record {
        numbered = kind_read;
        n_fits = s.n_fits;
        m_fits = s.m_fits;
        stated = rw count_read stated_read;
        long = rw count_read (length_short m bytes);
        few = rw count_read few;
        few_by_rows = rw count_read (rows_few m bytes m);
        rows_below = λ k h. let b = rw count_read at h in rw (row_read k b) (row_below k b);
        rows_rise = λ k h.
            (let b = rw count_read at h in
            let a : k < length list = omega arith in
            rw (row_read k a, row_read (suc k) b) (l.rise k b));
        weighty = λ k h. let b = rw count_read at h in rw (Y-read k b, Z-read k b) (l.weigh k b);
        Y-most = λ k h. let b = rw count_read at h in rw (Y-read k b) (s.Y-most (row k b) (row_below k b));
        Z-most = λ k h. let b = rw count_read at h in rw (Z-read k b) (s.Z-most (row k b) (row_below k b));
      }

  -- every row finds its own multipliers
  Y-found : (i : ℕ) → i < m → Y-after short (triples_in short) i ≡ long_Y bytes i
  unfolding found
  Y-found i below =
      rw count_read (weight_same (row_in short) (λ k. get_or list k 0) (Y-in short) (λ k. long_Y bytes (get_or list k 0)) (length list) i (λ k b. (row_read k b, Y-read k b)))
      ∙ found_all m bytes (long_Y bytes) (λ j y z. y) i m ∙ rw (lt-ltb i m below)

  Z-found : (i : ℕ) → i < m → Z-after short (triples_in short) i ≡ long_Z m bytes i
  unfolding found
  Z-found i below =
      rw count_read (weight_same (row_in short) (λ k. get_or list k 0) (Z-in short) (λ k. long_Z m bytes (get_or list k 0)) (length list) i (λ k b. (row_read k b, Z-read k b)))
      ∙ found_all m bytes (long_Z m bytes) (λ j y z. z) i m ∙ rw (lt-ltb i m below)

  pub short_done : first (sound_short n m) (bytes_alone (short_bytes m bytes)) ≡ done
  short_done = sound_done n m (short_bytes m bytes) short_is_sound

  -- lengthened it is the record again
  pub shorten_lengthen : Bytes bytes → long_bytes n m (short_bytes m bytes) ≡ bytes
  unfolding long_Y long_Z
  shorten_lengthen all =
      let Ys = u16s_same m (Y-after short (triples_in short)) (long_Y bytes) Y-found ∙ u16s_read m bytes 6 all (omega (arith, s.long)) in
      let Zs = u16s_same m (Z-after short (triples_in short)) (long_Z m bytes) Z-found ∙ u16s_read m bytes (6 + 2 * m) all (omega (arith, s.long)) in
      let stated = ap (digits 4) (sym s.stated) ∙ number_read 4 bytes 0 all (omega (arith, s.long)) in
      let kind = ap (digits 2) (sym s.numbered) ∙ number_read 2 bytes 4 all (omega (arith, s.long)) in
      rw (long_runs n m short, Ys, Zs, stated, kind) (sym (in_four bytes 4 2 (2 * m) (2 * m) (omega (arith, s.long))))

  -- every multiplier is kept
  pub keeps_every_multiplier : (Y-for m (short_bytes m bytes) ≡ tabulate m (λ i. pos (long_Y bytes i))) × (Z-for m (short_bytes m bytes) ≡ tabulate m (λ i. pos (long_Z m bytes i)))
  unfolding Y-for Z-for
  keeps_every_multiplier = (tabulate_same m _ _ (λ i below. ap pos (Y-found i below)), tabulate_same m _ _ (λ i below. ap pos (Z-found i below)))

  -- the values that a reading of the record gives are those of the short one
  pub keeps_the_values : (room : ℕ) → R.list (ranking_given bytes n m room) ≡ ranking_values (Y-for m (short_bytes m bytes)) (Z-for m (short_bytes m bytes))
  unfolding long_Y long_Z ranking_values
  keeps_the_values room =
      list_is n m bytes room s.numbered ∙ run_values bytes (m + m) 6 ∙ halves
      ∙ sym (rw (keeps_every_multiplier.0, keeps_every_multiplier.1))
    where
      halves : tabulate (m + m) (λ i. pos (little_at 2 bytes (6 + 2 * i)))
          ≡ tabulate m (λ i. pos (little_at 2 bytes (6 + 2 * i))) ++ tabulate m (λ i. pos (little_at 2 bytes (6 + 2 * m + 2 * i)))
      halves = tabulate_parts m m (λ i. pos (little_at 2 bytes (6 + 2 * i))) ∙ ap (λ zs. tabulate m (λ i. pos (little_at 2 bytes (6 + 2 * i))) ++ zs)
          (tabulate_same m _ _ (λ i below. let at : 6 + 2 * (m + i) ≡ 6 + 2 * m + 2 * i = omega arith in ap (λ p. pos (little_at 2 bytes p)) at))

  pub short_is_shorter : (length (short_bytes m bytes) < length bytes) ↔ (6 * triples_needed m bytes + 2 < 4 * m)
  short_is_shorter = (λ h. omega (arith, length_short m bytes, s.long), λ h. omega (arith, length_short m bytes, s.long))

-- The triples of the rows that have weight, one after another, make the short record of a kind 2 one.
use mathlib.Core.Path.{◌≡◌, refl, sym, ap, ◌∙◌}
use Prim.Native.Nat.{ℕ, zero, suc, ◌+◌, ◌*◌, ◌≤◌}
use mathlib.Core.Bool.{Bool, true, false, not, cond, ◌&&◌, false≢true}
use mathlib.Core.List.{List, [], ◌∷◌, ◌++◌, map, append_assoc, append-nil}
use native.Mathlib.Numerals.{add-one}
use native.Mathlib.Omega.{arith}
use lib.Dec.{eqb}
use lib.ListN.{length, take, drop, length-append, take-append-drop}
use lib.Seq.{length-take-le}
use borrow.Author.Tests.{eq-eqb, ne_eqb}
use Rattle.std.specs.List.{filter, range_with_len}
use Rattle.std.proofs.lemmas.List.{map-id}
use Rattle.std.proofs.lemmas.List.FromFn.{filter_of_map_range_with_len_more}
use Rattle.endian.specs.Numbers.{little_at, digits}
use Rattle.endian.proofs.Laws.{length_digits}
use Rattle.refusal.proofs.TestLaws.{either}
use Rattle.record_short.specs.Conversions.{long_Y, long_Z, rows_with_weight, triples_bytes, triples_needed, short_bytes}
use Rattle.record_short.proofs.ShortBytes.{triples_append, length_triples}
use Rattle.record_short_write.specs.Rooms.{row_weighs, listed, with_row, with_rows}
use Rattle.record_short_write.proofs.RoomLaws.{Begun, begun_more}

-- ---- one row

module _ (m : ℕ) (bytes : List ℕ) (i : ℕ) where
  pub weighs_by_Y : (y : ℕ) → y ≡ little_at 2 bytes (6 + 2 * i) → (y ≡ 0 → ⊥) → true ≡ row_weighs m bytes i
  unfolding row_weighs long_Y
  weighs_by_Y y read some = rw (← read, ne_eqb _ _ some)

  pub weighs_by_Z : (y z : ℕ) → y ≡ little_at 2 bytes (6 + 2 * i) → z ≡ little_at 2 bytes (6 + 2 * m + 2 * i) → y ≡ 0 → not (eqb z 0) ≡ row_weighs m bytes i
  unfolding row_weighs long_Y long_Z
  weighs_by_Z y z y-read z-read none = rw (← y-read, ← z-read, eq-eqb _ _ none)

  -- what the weight says
  abbrev without_weight : Bool
  without_weight = eqb (long_Y bytes i) 0 && eqb (long_Z m bytes i) 0

  pub none_listed : row_weighs m bytes i ≡ false → listed m bytes i ≡ []
  unfolding row_weighs listed
  none_listed h = either without_weight (λ e. rw e) (λ e. absurd (false≢true (sym (rw e at h))))

  pub one_listed : row_weighs m bytes i ≡ true → listed m bytes i ≡ i ∷ []
  unfolding row_weighs listed
  one_listed h = either without_weight (λ e. absurd (false≢true (rw e at h))) (λ e. rw e)

  -- nothing is put of a row without weight
  pub row_stays : (at : ℕ) (room : List ℕ) → listed m bytes i ≡ [] → room ≡ with_row m bytes i at room
  unfolding with_row triples_bytes
  row_stays at room none = let here : at + 6 * 0 ≡ at = omega arith in rw (none, here, append-nil) (sym (take-append-drop at room))

  -- three numbers, one after another
  pub row_put : (at y z : ℕ) (room r1 r2 r3 : List ℕ) → at ≤ length room → listed m bytes i ≡ i ∷ [] → y ≡ little_at 2 bytes (6 + 2 * i)
      → z ≡ little_at 2 bytes (6 + 2 * m + 2 * i) → r1 ≡ take at room ++ digits 2 i ++ drop (at + 2) room
      → r2 ≡ take (at + 2) r1 ++ digits 2 y ++ drop (at + 2 + 2) r1 → r3 ≡ take (at + 4) r2 ++ digits 2 z ++ drop (at + 4 + 2) r2
      → r3 ≡ with_row m bytes i at room
  unfolding with_row triples_bytes long_Y long_Z
  row_put at y z room r1 r2 r3 inside one y-read z-read row_there Y-there Z-there =
      let front = take at room in
      let zero_long : length front ≡ at = length-take-le at room inside in
      let start : Begun room front room = rw zero_long (sym (take-append-drop at room)) in
      let one_long : length (front ++ digits 2 i) ≡ at + 2 = rw (length-append, zero_long, length_digits) in
      let two_long : length (front ++ digits 2 i ++ digits 2 y) ≡ at + 4 = rw (length-append, one_long, length_digits) (omega arith) in
      let three_long : length (front ++ digits 2 i ++ digits 2 y ++ digits 2 z) ≡ at + 6 = rw (length-append, two_long, length_digits) (omega arith) in
      let first = begun_more room front (digits 2 i) room at 2 start zero_long (length_digits 2 i) row_there in
      let second = begun_more room (front ++ digits 2 i) (digits 2 y) r1 (at + 2) 2 first one_long (length_digits 2 y) Y-there in
      let third = begun_more room (front ++ digits 2 i ++ digits 2 y) (digits 2 z) r2 (at + 4) 2 second two_long (length_digits 2 z) Z-there in
      let joined : front ++ digits 2 i ++ digits 2 y ++ digits 2 z ≡ front ++ (digits 2 i ++ (digits 2 y ++ (digits 2 z ++ [])))
      = rw (append-nil (digits 2 z), append_assoc (front ++ digits 2 i) (digits 2 y) (digits 2 z), append_assoc front (digits 2 i) (digits 2 y ++ digits 2 z)) in
      third ∙ rw (three_long, joined, one, ← y-read, ← z-read)

-- ---- all rows

one_filtered : (m : ℕ) (bytes : List ℕ) (i : ℕ) → cond (eqb (long_Y bytes i) 0 && eqb (long_Z m bytes i) 0) [] (i ∷ []) ≡ cond (row_weighs m bytes i) (i ∷ []) []
unfolding row_weighs
one_filtered m bytes i = either (without_weight m bytes i) (λ e. rw e) (λ e. rw e)

rows_in_order : (m : ℕ) (bytes : List ℕ) (count : ℕ) → rows_with_weight m bytes count ≡ filter (row_weighs m bytes) (map (λ i. i) (range_with_len 0 count))
unfolding rows_with_weight
rows_in_order m bytes zero = refl
rows_in_order m bytes (suc count) =
    rw (rows_in_order m bytes count, one_filtered m bytes count)
    (sym (rw add-one at (filter_of_map_range_with_len_more (row_weighs m bytes) (λ i. i) 0 count count (omega arith))))

pub rows_filtered : (m : ℕ) (bytes : List ℕ) (count : ℕ) → rows_with_weight m bytes count ≡ filter (row_weighs m bytes) (range_with_len 0 count)
rows_filtered m bytes count = rows_in_order m bytes count ∙ ap (filter (row_weighs m bytes)) (map-id (range_with_len 0 count))

rows_joined : (m : ℕ) (bytes front : List ℕ) (i : ℕ)
    → front ++ triples_bytes m bytes (rows_with_weight m bytes i) ++ triples_bytes m bytes (listed m bytes i)
    ≡ front ++ triples_bytes m bytes (rows_with_weight m bytes (i + 1))
unfolding rows_with_weight listed
rows_joined m bytes front i =
    rw (add-one i, triples_append m bytes (rows_with_weight m bytes i) (listed m bytes i)) (append_assoc front _ _)

module _ (m : ℕ) (bytes room : List ℕ) (head : 8 ≤ length room) where
  rows_begun : (count : ℕ) → Begun room (take 8 room ++ triples_bytes m bytes (rows_with_weight m bytes count)) (with_rows m bytes count room)
  unfolding with_rows
  rows_begun count = rw (length-append, length-take-le 8 room head, length_triples)

  pub rows_none : room ≡ with_rows m bytes 0 room
  unfolding with_rows rows_with_weight triples_bytes
  rows_none = rw append-nil (sym (take-append-drop 8 room))

  pub rows_next : (i : ℕ) (then : List ℕ) → then ≡ with_row m bytes i (8 + 6 * length (rows_with_weight m bytes i)) (with_rows m bytes i room)
      → then ≡ with_rows m bytes (i + 1) room
  unfolding with_row
  rows_next i then put =
      let front = take 8 room ++ triples_bytes m bytes (rows_with_weight m bytes i) in
      let long : length front ≡ 8 + 6 * length (rows_with_weight m bytes i) = rw (length-append, length-take-le 8 room head, length_triples) in
      let more = begun_more room front (triples_bytes m bytes (listed m bytes i)) (with_rows m bytes i room) (8 + 6 * length (rows_with_weight m bytes i))
      (6 * length (listed m bytes i)) (rows_begun i) long (length_triples m bytes (listed m bytes i)) put in
      more ∙ same ∙ sym (rows_begun (i + 1))
    where
      same : (take 8 room ++ triples_bytes m bytes (rows_with_weight m bytes i) ++ triples_bytes m bytes (listed m bytes i))
          ++ drop (length (take 8 room ++ triples_bytes m bytes (rows_with_weight m bytes i) ++ triples_bytes m bytes (listed m bytes i))) room
          ≡ (take 8 room ++ triples_bytes m bytes (rows_with_weight m bytes (i + 1))) ++ drop (length (take 8 room ++ triples_bytes m bytes (rows_with_weight m bytes (i + 1)))) room
      same = ap (λ front. front ++ drop (length front) room) (rows_joined m bytes (take 8 room) i)

-- ---- the record

pub short_room : (m : ℕ) (bytes room r1 r2 r3 r4 : List ℕ) (count : ℕ) → count ≡ triples_needed m bytes
    → r1 ≡ take 0 room ++ digits 4 (4 + 6 * count) ++ drop 4 room → r2 ≡ take 4 r1 ++ digits 2 7 ++ drop 6 r1
    → r3 ≡ take 6 r2 ++ digits 2 count ++ drop 8 r2 → r4 ≡ with_rows m bytes m r3 → r4 ≡ short_bytes m bytes ++ drop (8 + 6 * count) room
unfolding with_rows short_bytes triples_needed
short_room m bytes room r1 r2 r3 r4 count is stated kind counted rows =
    let L = digits 4 (4 + 6 * count) in
    let six : length (L ++ digits 2 7) ≡ 6 = rw (length-append, length_digits, length_digits) in
    let eight : length (L ++ digits 2 7 ++ digits 2 count) ≡ 8 = rw (length-append, six, length_digits) in
    let triples = triples_bytes m bytes (rows_with_weight m bytes m) in
    let first = begun_more room [] L room 0 4 refl refl (length_digits 4 (4 + 6 * count)) stated in
    let second = begun_more room L (digits 2 7) r1 4 2 first (length_digits 4 (4 + 6 * count)) (length_digits 2 7) kind in
    let third = begun_more room (L ++ digits 2 7) (digits 2 count) r2 6 2 second six (length_digits 2 count) counted in
    let last = begun_more room (L ++ digits 2 7 ++ digits 2 count) triples r3 8 (6 * length (rows_with_weight m bytes m)) third eight
    (length_triples m bytes (rows_with_weight m bytes m)) rows in
    let long : length (L ++ digits 2 7 ++ digits 2 count ++ triples) ≡ 8 + 6 * count = rw (length-append, eight, length_triples, is) in
    last ∙ rw (long, append_assoc L (digits 2 7) (digits 2 count), append_assoc L _ triples, append_assoc (digits 2 7) (digits 2 count) triples, ← is)

-- Zeros, and then the triples at their rows' places, make the kind 2 record of a short one.
use mathlib.Core.Path.{◌≡◌, refl, ap, ◌∙◌}
use Prim.Native.Nat.{ℕ, zero, suc, ◌+◌, ◌*◌, ◌<◌}
use mathlib.Core.List.{List, [], ◌++◌, append_assoc}
use native.Mathlib.Omega.{arith}
use lib.ListN.{length, take, drop, replicate, length-append, length-replicate}
use Rattle.endian.specs.Numbers.{digits}
use Rattle.endian.proofs.Laws.{length_digits}
use Rattle.refusal.specs.Places.{Throughout}
use Rattle.record_short.specs.ShortRecords.{triples_in, row_in, Y-in, Z-in, weight_of, long_bytes}
use Rattle.record_short.proofs.NumberRuns.{u16s, length_u16s, u16s_parts, u16s_zeros, u16s_put}
use Rattle.record_short.proofs.LongRecords.{Y-after, Z-after, long_runs}
use Rattle.record_short_write.specs.Rooms.{put_at, with_triple, with_triples}
use Rattle.record_short_write.proofs.RoomLaws.{begun_more}

module _ (m : ℕ) (bytes : List ℕ) where
  -- a room that holds, after its head, the weights of the first `count` triples
  Holding : List ℕ → List ℕ → ℕ → List ℕ
  Holding head rest count = head ++ (u16s m (Y-after bytes count) ++ (u16s m (Z-after bytes count) ++ rest))

  one_more : (head rest : List ℕ) (count : ℕ) → length head ≡ 6 → row_in bytes count < m
      → with_triple m bytes count (Holding head rest count) ≡ Holding head rest (suc count)
  unfolding Holding with_triple put_at weight_of
  one_more head rest count six below =
      let row = row_in bytes count in
      let Ys = u16s m (Y-after bytes (suc count)) in
      let long : length (head ++ Ys) + 2 * row ≡ 6 + 2 * row + 2 * m = rw (length-append, length_u16s) (omega arith) in
      rw (
        u16s_put head (u16s m (Z-after bytes count) ++ rest) m (Y-after bytes count) row (Y-in bytes count) (6 + 2 * row) below (omega arith),
        ← append_assoc head Ys (u16s m (Z-after bytes count) ++ rest),
        u16s_put (head ++ Ys) rest m (Z-after bytes count) row (Z-in bytes count) (6 + 2 * row + 2 * m) below long,
      )
      (append_assoc head Ys (u16s m (Z-after bytes (suc count)) ++ rest))

  all_triples : (head rest : List ℕ) (count : ℕ) → length head ≡ 6 → Throughout count (λ k. row_in bytes k < m)
      → with_triples m bytes count (Holding head rest 0) ≡ Holding head rest count
  unfolding with_triples
  all_triples head rest zero six below = refl
  all_triples head rest (suc count) six below =
      ap (with_triple m bytes count) (all_triples head rest count six (λ k early. below k (omega arith))) ∙ one_more head rest count six (below count (omega arith))

  zeros_hold : (head rest : List ℕ) → (head ++ replicate (4 * m) 0) ++ rest ≡ Holding head rest 0
  unfolding Holding weight_of
  zeros_hold head rest =
      let four : 4 * m ≡ 2 * (m + m) = omega arith in
      rw (four, ← u16s_zeros (m + m), u16s_parts m m (λ i. 0), append_assoc, append_assoc)

  -- the room after length and kind, the zeros and the triples
  pub long_room : (n : ℕ) (room r1 r2 r3 r4 : List ℕ) → Throughout (triples_in bytes) (λ k. row_in bytes k < m)
      → r1 ≡ take 0 room ++ digits 4 (2 + 4 * m) ++ drop 4 room → r2 ≡ take 4 r1 ++ digits 2 2 ++ drop 6 r1
      → r3 ≡ take 6 r2 ++ replicate (4 * m) 0 ++ drop (6 + 4 * m) r2 → r4 ≡ with_triples m bytes (triples_in bytes) r3
      → r4 ≡ long_bytes n m bytes ++ drop (6 + 4 * m) room
  unfolding Holding
  long_room n room r1 r2 r3 r4 below stated kind zeros triples =
      let head = digits 4 (2 + 4 * m) ++ digits 2 2 in
      let six : length head ≡ 6 = rw (length-append, length_digits, length_digits) in
      let first = begun_more room [] (digits 4 (2 + 4 * m)) room 0 4 refl refl (length_digits 4 (2 + 4 * m)) stated in
      let second = begun_more room (digits 4 (2 + 4 * m)) (digits 2 2) r1 4 2 first (length_digits 4 (2 + 4 * m)) (length_digits 2 2) kind in
      let third = begun_more room head (replicate (4 * m) 0) r2 6 (4 * m) second six (length-replicate (4 * m) 0) zeros in
      let long : length (head ++ replicate (4 * m) 0) ≡ 6 + 4 * m = rw (length-append, six, length-replicate) in
      let rest = drop (6 + 4 * m) room in
      triples ∙ ap (with_triples m bytes (triples_in bytes)) (third ∙ ap (λ k. (head ++ replicate (4 * m) 0) ++ drop k room) long ∙ zeros_hold head rest)
      ∙ all_triples head rest (triples_in bytes) six below
      ∙ rw (long_runs n m bytes, append_assoc, append_assoc, append_assoc, append_assoc)

-- Triples within the limits, and the conversions: the kind 2 record that is written for the ranking which they stand for is shortened to their bytes, and
-- these are lengthened to that record. So what is said of triples in values is said of every old ranking that is moved.
use mathlib.Core.Path.{◌≡◌, ap}
use Prim.Native.Nat.{ℕ, ◌+◌, ◌*◌}
use mathlib.Core.List.{List, [], ◌∷◌, ◌++◌}
use native.Mathlib.Omega.{arith}
use lib.ListN.{length}
use Rattle.endian.specs.Numbers.{Bytes, digits}
use Rattle.endian.proofs.Laws.{bytes_join, bytes_digits}
use Rattle.record.specs.Contents.{CountsIn, ranking_values}
use Rattle.record.specs.Writers as W
use Rattle.record_short.specs.Conversions.{short_bytes}
use Rattle.record_short.specs.ShortRecords.{long_bytes}
use Rattle.record_short.proofs.LengthenShorten.{lengthen_shorten}
use Rattle.theory.specs.Rankings.{Ranking}
use Rattle.verdict_paths.specs.PathValues.{framed, joined}
use Rattle.verdict_short.specs.ShortContents.{stood_for}
use Rattle.verdict_short.specs.ShortValues.{Triple, TriplesIn, triple_bytes, triples_record, ranking_by}
use Rattle.verdict_short.proofs.ShortReadBack.{triples_sound, triples_read_back}

-- ---- they are bytes

one_triple : (t : Triple) → Bytes (triple_bytes t)
unfolding triple_bytes
one_triple t =
    let row = digits 2 t.row in
    let Y = digits 2 t.Y in
    let Z = digits 2 t.Z in
    bytes_join row (Y ++ Z) (bytes_digits 2 t.row) (bytes_join Y Z (bytes_digits 2 t.Y) (bytes_digits 2 t.Z))

each_triple : (ts : List Triple) → Bytes (joined triple_bytes ts)
unfolding joined
each_triple [] place = omega arith
each_triple (t ∷ ts) place = bytes_join (triple_bytes t) (joined triple_bytes ts) (one_triple t) (each_triple ts) place

triples_are_bytes : (ts : List Triple) → Bytes (triples_record ts)
unfolding triples_record framed
triples_are_bytes ts =
    let L = digits 4 (4 + 6 * length ts) in
    let kind = digits 2 7 in
    let count = digits 2 (length ts) in
    let all = joined triple_bytes ts in
    bytes_join L (kind ++ (count ++ all)) (bytes_digits 4 (4 + 6 * length ts))
    (bytes_join kind (count ++ all) (bytes_digits 2 7) (bytes_join count all (bytes_digits 2 (length ts)) (each_triple ts)))

module _ (n m : ℕ) (ts : List Triple) (few : CountsIn n m) (h : TriplesIn m ts) where
  -- the kind 2 record of the ranking that they stand for
  abbrev pub long_record : List ℕ
  long_record = W.record_bytes (W.writer 2 n m (ranking_values (ranking_by m ts).Y (ranking_by m ts).Z) [])

  pub triples_lengthened : long_bytes n m (triples_record ts) ≡ long_record
  unfolding long_bytes stood_for ranking_values
  triples_lengthened =
      let same = triples_read_back n m ts few h in
      rw (ap (λ (c : Ranking). c.Y) same, ap (λ (c : Ranking). c.Z) same)

  pub shortened_to_triples : short_bytes m long_record ≡ triples_record ts
  shortened_to_triples = rw triples_lengthened at (lengthen_shorten n m (triples_record ts) (triples_sound n m ts few h) (triples_are_bytes ts))

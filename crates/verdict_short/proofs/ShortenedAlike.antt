-- "Old rankings are moved to kind 7 and back [..] and the verdict is that of the kind 2 record": a ranking of kind 2 that is sound for a sound loop's n
-- and m, moved to kind 7, has the same answers in judging and bound, number, place, record, outcome, list and bound, with every list and every state.
use mathlib.Core.Path.{◌≡◌, sym, ◌∙◌}
use Prim.Native.Nat.{ℕ}
use mathlib.Core.List.{List}
use native.Mathlib.Omega.{arith}
use lib.IntN.{ℤ}
use borrow.Author.Tests.{ne_eqb}
use Rattle.endian.specs.Numbers.{Bytes, little_at}
use Rattle.refusal.specs.Tests.{done, first}
use Rattle.record.specs.Readers.{counts_read, sound}
use Rattle.record_short.specs.Conversions.{ranking_given, short_bytes}
use Rattle.record_short.proofs.LongSound.{LongSound, long_sound}
use Rattle.record_short.proofs.ShortenLengthen.{short_done, shorten_lengthen}
use Rattle.verdict.specs.Pairs.{loop_record}
use Rattle.verdict_paths.proofs.PathDemands.{kind_1_by_rows}
use Rattle.verdict_settling.specs.AnswersByKind.{of_settling}
use Rattle.verdict_short.specs.Answers.{answered, rank_answered, bounded_answered}
use Rattle.verdict_short.specs.ShortJudging.{ShortPair, variables_of, rows_for, long_of, of_short, short_pair}
use Rattle.verdict_short.proofs.LongJudged.{ShortPairSound, judged_as_sound}
use Rattle.verdict_short.proofs.ShortBridges.{answered_of_rows, bounded_of_rows}

module _ (loopbytes ranking : List ℕ) (all : Bytes ranking) (loop_sound : first sound (loop_record loopbytes) ≡ done) where
  abbrev n : ℕ
  n = (counts_read (loop_record loopbytes)).n

  abbrev m : ℕ
  m = (counts_read (loop_record loopbytes)).m

  abbrev p : ShortPair
  p = short_pair loopbytes (short_bytes m ranking)

  module _ (room : ℕ) (told : first sound (ranking_given ranking n m room) ≡ done) where
    was_sound : LongSound n m ranking
    was_sound = long_sound n m ranking room told

    moved : ShortPairSound p
    unfolding variables_of rows_for
    moved = record { loop_sound = loop_sound; certificate_sound = short_done n m ranking was_sound }

    stands_for_it : long_of p ≡ ranking
    unfolding long_of variables_of rows_for
    stands_for_it = shorten_lengthen n m ranking was_sound all

    pub shortened_answered_alike : (lent : List ℤ)
        → (answered loopbytes (short_bytes m ranking) lent ≡ answered loopbytes ranking lent)
        × (rank_answered loopbytes (short_bytes m ranking) lent ≡ rank_answered loopbytes ranking lent)
        × (bounded_answered loopbytes (short_bytes m ranking) lent ≡ bounded_answered loopbytes ranking lent)
    unfolding of_settling of_short
    shortened_answered_alike lent =
        let two : little_at 2 ranking 4 ≡ 2 = was_sound.numbered in
        let no_8 = ne_eqb (little_at 2 ranking 4) 8 (λ e. omega (arith, two, e)) in
        let no_7 = ne_eqb (little_at 2 ranking 4) 7 (λ e. omega (arith, two, e)) in
        let short = rw stands_for_it at (judged_as_sound p moved lent) in
        let long = answered_of_rows loopbytes ranking lent (kind_1_by_rows loopbytes loop_sound) no_8 no_7 in
        (short.0 ∙ sym long.0, short.1 ∙ sym long.1, short.2 ∙ sym (bounded_of_rows loopbytes ranking lent no_8 no_7))

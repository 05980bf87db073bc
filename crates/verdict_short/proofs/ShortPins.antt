-- What the statements about short rankings ask for is met by something and not by everything, and each statement reaches records that are written
-- out: triples within the limits and not, S1 in values, an old ranking moved to kind 7, a loop that has an exclusion, and one of several paths.
use mathlib.Core.Path.{◌≡◌, refl, ap}
use mathlib.Core.Bool.{Bool, true, ◌&&◌}
use mathlib.Core.List.{List, [], ◌∷◌}
use Prim.Native.Nat.{ℕ, ◌+◌, ◌≤◌, ◌<◌}
use native.Mathlib.Omega.{arith}
use lib.Dec.{ltb}
use lib.IntN.{ℤ}
use lib.ListN.{length, replicate}
use borrow.Author.Tests.{ltb-true}
use Rattle.endian.specs.Numbers.{Bytes}
use Rattle.endian.proofs.Laws.{bytes_cons}
use Rattle.refusal.proofs.TestLaws.{both_true}
use Rattle.record.specs.Contents.{rows_values, row_values}
use Rattle.record.specs.Ranges.{either_way, multipliers, state_entries}
use Rattle.record.specs.Readers.{counts_read}
use Rattle.record.specs.Samples as Records
use Rattle.record.proofs.KindLaws.{loop_only, loop_known}
use Rattle.record.proofs.SoundRecords.{Sound, sound_says}
use Rattle.record_short.specs.Conversions.{short_bytes}
use Rattle.record_short.proofs.ShortEdges.{S1-short}
use Rattle.theory.specs.Rankings.{RankingHolds}
use Rattle.theory.specs.Fails.{RankingFails}
use Rattle.theory.specs.Loops.{over}
use Rattle.theory.specs.Samples as Rows
use Rattle.verdict.specs.Contents.{loop_in}
use Rattle.verdict.specs.Pairs.{loop_record}
use Rattle.verdict.specs.Samples.{P, S1, S7, ends_without_rank, loop_bytes}
use Rattle.verdict.specs.Stages.{refusal_of}
use Rattle.verdict.proofs.InValues.{LoopGiven, loop_writer, bytes_in}
use Rattle.verdict.specs.declared.Bounded.{Bounded}
use Rattle.verdict.specs.declared.Verdict.{Verdict}
use Rattle.verdict.proofs.PartsInRange.{counts_in, loop_parts}
use Rattle.verdict.proofs.StatesInRange.{StateIn}
use Rattle.verdict_paths.specs.PathSampleBytes.{two_counters_bytes}
use Rattle.verdict_paths.specs.PathValues.{making}
use Rattle.verdict_paths.proofs.PathsReadBack.{counted_between}
use Rattle.whole.specs.Sums.{Each}
use Rattle.verdict_short.specs.Answers.{answered, bounded_answered}
use Rattle.verdict_short.specs.AnswersComputing.{computing}
use Rattle.verdict_short.specs.ShortJudging.{of_short}
use Rattle.verdict_short.specs.ShortValues.{Triple, TripleIn, Rising, TriplesIn, triple_bytes, triples_record, weight_at, ranking_by}
use Rattle.verdict_short.proofs.LongHeld.{small_in}
use Rattle.verdict_short.proofs.ShortDemands.{short_never_excluded, paths_with_short, paths_never_bounded_either}
use Rattle.verdict_short.proofs.ShortInValues.{short_in_values, short_accepted, short_told_in_values}
use Rattle.verdict_short.proofs.ShortInValues.{short_bounded_in_values, short_bound_in_values, short_told_bound_in_values}
use Rattle.verdict_short.proofs.ShortSamples.{second_short, three, at_5_1, S1-holds, second_short_fails}
use Rattle.verdict_short.proofs.ShortenedAlike.{shortened_answered_alike}

-- ---- triples within the limits

abbrev triple : ℕ → ℕ → ℕ → Triple
triple row Y Z = record { row = row; Y = Y; Z = Z }

abbrev pub S1-triples : List Triple
S1-triples = triple 0 1 0 ∷ triple 1 0 1 ∷ triple 2 0 1 ∷ []

abbrev pub second_triples : List Triple
second_triples = triple 0 1 0 ∷ triple 1 0 1 ∷ []

small_triple : (m row Y Z : ℕ) → row < m → Y ≤ 60000 → Z ≤ 60000 → 0 < Y + Z → TripleIn m (triple row Y Z)
small_triple m row Y Z below Y-most Z-most some =
    record { below = below; Y-in = small_in Y Y-most; Z-in = small_in Z Z-most; weighs = λ zeros. omega (arith, zeros.0, zeros.1) }

pub S1-triples-in : TriplesIn 3 S1-triples
unfolding Each Rising
S1-triples-in =
    record {
      each = (
        small_triple 3 0 1 0 (omega arith) (omega arith) (omega arith) (omega arith),
        (
          small_triple 3 1 0 1 (omega arith) (omega arith) (omega arith) (omega arith),
          (small_triple 3 2 0 1 (omega arith) (omega arith) (omega arith) (omega arith), tt),
        ),
      );
      rise = ((omega arith, (omega arith, tt)), ((omega arith, tt), (tt, tt)));
    }

second_triples_in : TriplesIn 3 second_triples
unfolding Each Rising
second_triples_in =
    record {
      each = (
        small_triple 3 0 1 0 (omega arith) (omega arith) (omega arith) (omega arith),
        (small_triple 3 1 0 1 (omega arith) (omega arith) (omega arith) (omega arith), tt),
      );
      rise = ((omega arith, tt), (tt, tt));
    }

-- not a row that the loop has not, nor one twice, nor two that fall, nor one without weight, nor a multiplier past its end
pub row_past_the_last : TriplesIn 3 (triple 3 1 0 ∷ []) → ⊥
unfolding Each
row_past_the_last h = omega (arith, h.each.0.below)

pub row_twice : TriplesIn 3 (triple 1 1 0 ∷ triple 1 0 1 ∷ []) → ⊥
unfolding Each Rising
row_twice h = omega (arith, h.rise.0.0)

pub rows_fall : TriplesIn 3 (triple 2 1 0 ∷ triple 1 0 1 ∷ []) → ⊥
unfolding Each Rising
rows_fall h = omega (arith, h.rise.0.0)

pub without_weight : TriplesIn 3 (triple 0 0 0 ∷ []) → ⊥
unfolding Each
without_weight h = h.each.0.weighs (refl, refl)

pub past_its_end : (TriplesIn 3 (triple 0 60001 0 ∷ []) → ⊥) × (TriplesIn 3 (triple 0 0 60001 ∷ []) → ⊥)
unfolding Each multipliers
past_its_end = (
  λ h. omega (arith, (counted_between 0 60000 60001 h.each.0.Y-in).1),
  λ h. omega (arith, (counted_between 0 60000 60001 h.each.0.Z-in).1),
)

-- ---- in values: the bytes made of P and of S1's triples are those written out, and the statements in values reach them

abbrev room_of_46 : List ℕ
room_of_46 = replicate 46 0

pub made_as_written :
    (bytes_in (loop_writer 2 3 (Rows.P).rows room_of_46) room_of_46 ≡ P)
    × (triples_record S1-triples ≡ S1-short)
    × (triples_record second_triples ≡ second_short)
    × (ranking_by 3 S1-triples ≡ Rows.S1)
    × (ranking_by 3 second_triples ≡ Rows.ranking (1 ∷ 0 ∷ 0 ∷ []) (0 ∷ 1 ∷ 0 ∷ []))
unfolding
    computing making bytes_in triple_bytes triples_record weight_at ranking_by S1-short second_short P Records.P Rows.P Rows.S1 rows_values row_values
made_as_written = (refl, refl, refl, refl, refl)

P-sound : Sound (loop_record P)
unfolding computing P Records.P
P-sound = sound_says (loop_record P) refl

P-counts : ((counts_read (loop_record P)).n ≡ 2) × ((counts_read (loop_record P)).m ≡ 3) × (loop_in (loop_record P) ≡ Rows.P)
unfolding computing P Records.P Rows.P
P-counts = (refl, refl, refl)

P-given : LoopGiven 2 3 (Rows.P).rows room_of_46
unfolding loop_record
P-given =
    record {
      counts_in = rw (P-counts.0, P-counts.1) at (counts_in (loop_record P) P-sound (loop_known _ P-sound.wanted));
      rows_in = rw (P-counts.0, P-counts.1, P-counts.2) at (loop_parts (loop_record P) P-sound (loop_only _ P-sound.wanted));
      fits = omega arith;
    }

room_for_rank : 2 ≤ length three
room_for_rank = omega arith

state_is_in : StateIn (record { n = 2; state = at_5_1 })
unfolding Each state_entries either_way
state_is_in = record { counted = refl; each = search }

holds_by_triples : RankingHolds (over 2 (Rows.P).rows) (ranking_by 3 S1-triples)
unfolding Rows.P
holds_by_triples = rw made_as_written.3 S1-holds

-- accepted, and so the conditions hold: by judging and by bound
pub S1-holds-by-bytes : RankingHolds Rows.P Rows.S1 × RankingHolds Rows.P Rows.S1
unfolding Rows.P
S1-holds-by-bytes =
    let judged = short_accepted 2 3 (Rows.P).rows room_of_46 S1-triples P-given S1-triples-in three room_for_rank holds_by_triples in
    let bounded = short_bound_in_values 2 3 (Rows.P).rows room_of_46 S1-triples P-given S1-triples-in at_5_1 state_is_in holds_by_triples in (
      rw made_as_written.3
          at ((short_in_values 2 3 (Rows.P).rows room_of_46 S1-triples P-given S1-triples-in three room_for_rank).0 (ap (λ (v : Verdict). v.number) judged.0)),
      rw made_as_written.3
          at ((short_bounded_in_values 2 3 (Rows.P).rows room_of_46 S1-triples P-given S1-triples-in at_5_1 state_is_in
          ).0 (ap (λ (b : Bounded). b.verdict.number) bounded)),
    )

-- told, and so it fails first there; and as it does, it is told
pub second_told_in_values :
    (answered (bytes_in (loop_writer 2 3 (Rows.P).rows room_of_46) room_of_46) (triples_record second_triples) three ≡ refusal_of 2 22 1)
    × (bounded_answered (bytes_in (loop_writer 2 3 (Rows.P).rows room_of_46) room_of_46) (triples_record second_triples) at_5_1
    ≡ record { verdict = refusal_of 2 22 1; bound = 0 })
unfolding Rows.P
second_told_in_values =
    let fails = rw (← made_as_written.4) at second_short_fails in (
      (short_told_in_values 2 3 (Rows.P).rows room_of_46 second_triples P-given second_triples_in three room_for_rank 22 1 (omega arith)).1 fails,
      (short_told_bound_in_values 2 3 (Rows.P).rows room_of_46 second_triples P-given second_triples_in at_5_1 state_is_in 22 1 (omega arith)).1 fails,
    )

pub second_fails_in_values : RankingFails Rows.P (ranking_by 3 second_triples) 22 1 × RankingFails Rows.P (ranking_by 3 second_triples) 22 1
unfolding Rows.P
second_fails_in_values = (
  (short_told_in_values 2 3 (Rows.P).rows room_of_46 second_triples P-given second_triples_in three room_for_rank 22 1 (omega arith)
      ).0 second_told_in_values.0,
  (short_told_bound_in_values 2 3 (Rows.P).rows room_of_46 second_triples P-given second_triples_in at_5_1 state_is_in 22 1 (omega arith)
      ).0 second_told_in_values.1,
)

-- ---- S1 moved to kind 7 is S1 as a short ranking, and has its answers with every list

abbrev small : List ℕ → Bool
small [] = true
small (b ∷ bs) = ltb b 256 && small bs

small_bytes : (bs : List ℕ) → small bs ≡ true → Bytes bs
small_bytes [] h place = omega arith
small_bytes (b ∷ bs) h place =
    let both = both_true (ltb b 256) (small bs) h in
    bytes_cons b bs (ltb-true b 256 both.0) (small_bytes bs both.1) place

S1-bytes : Bytes S1
unfolding S1 Records.S1
S1-bytes = small_bytes S1 refl

pub S1-moved : (short_bytes 3 S1 ≡ S1-short) × ((lent : List ℤ) → answered P S1-short lent ≡ answered P S1 lent)
unfolding computing S1-short P S1 Records.P Records.S1
S1-moved = (refl, λ lent. (shortened_answered_alike P S1 S1-bytes refl 0 refl lent).0)

-- ---- a loop that has an exclusion has no short ranking; one of several paths is judged and bounded with none

pub S7-loop-has-none : (certificate : List ℕ) (lent : List ℤ) → of_short certificate ≡ true → (answered ends_without_rank certificate lent).number ≡ 0 → ⊥
unfolding computing ends_without_rank S7 Records.S7 loop_bytes rows_values row_values
S7-loop-has-none certificate lent short h = short_never_excluded ends_without_rank certificate short lent h S7 [] refl refl

pub paths_and_short : (lent state : List ℤ)
    → (answered two_counters_bytes S1-short lent ≡ refusal_of 2 4 4)
    × (bounded_answered two_counters_bytes S1-short state ≡ record { verdict = refusal_of 1 4 4; bound = 0 })
unfolding computing two_counters_bytes S1-short
paths_and_short lent state = (
  paths_with_short two_counters_bytes S1-short lent refl (record { a_length = omega arith; a_kind = omega arith; stated = refl }) refl,
  paths_never_bounded_either two_counters_bytes S1-short state (record { a_length = omega arith; a_kind = omega arith; stated = refl }) refl,
)

-- How a batch fills a row, whatever it puts for a verdict: what the row and the rank numbers hold after i records, from one turn to the next, and that this is what
-- the call leaves after the last; a refusal counts no record, so that it leaves all as it was.
use mathlib.Core.Path.{◌≡◌, refl, sym, ap, ◌∙◌}
use Prim.Native.Nat.{ℕ, suc, ◌+◌, ◌*◌, ◌-◌, ◌≤◌, ◌<◌}
use mathlib.Core.List.{List, [], ◌++◌, map}
use native.Mathlib.Nat.{mul-le-mul_left}
use native.Mathlib.Omega.{arith}
use lib.IntN.{ℤ}
use lib.ListN.{length, get_or, set, take, drop, length-map, length-take, length-append, length-drop, get_or-map}
use lib.Seq.{take_all, paste-suc}
use borrow.Author.Tests.{leb-true}
use Rattle.record_parting.specs.Parting.{taken, first_record, records}
use Rattle.record_parting.proofs.PartingLaws.{taken_within}
use Rattle.record_parting.proofs.PartingPlaces.{place_of, place_within, place_before, record_there}
use Rattle.refusal.specs.Tests.{done}
use Rattle.refusal.proofs.TestLaws.{done_passes}
use Rattle.verdict.specs.Stages.{Said, agreed, refusal, said}
use Rattle.verdict.specs.declared.Verdict.{Verdict}
use Rattle.verdict.proofs.StageLaws.{said_agrees}
use Rattle.verdict_short.specs.Answers.{answered, rank_answered}
use Rattle.verdict_batch.specs.Batches.{loop_told, variables, count, numbers_needed, enough_room, batching, batch_of, Batch}
use Rattle.verdict_batch.specs.Batches.{verdicts_in_turn, ranks_in_turn, stretch, with_stretch, answer, batch_answers, filled, ranked}
use Rattle.verdict_batch.specs.declared.Batched.{Batched}
use Rattle.verdict_batch.proofs.InTurn.{verdicts_length, as_one_by_one, ranks_length, so_far, one_turn}

-- what is known where there is a record to judge
pub record Entered (b : Batch) (judged : ℕ) : Type 0 where
  pub loop_sound : loop_told b.loopbytes ≡ done
  pub count_is : judged ≡ count b
  pub few : count b ≤ 32
  pub placed : count b ≤ b.places
  pub numbered : numbers_needed b ≤ b.numbers

pub entered : (b : Batch) (r : Batched) → r ≡ batch_answers b → 0 < r.count → Entered b r.count
unfolding batch_answers answer enough_room batching
entered b r is some = by_said (said batching b) refl
  where
    by_said : (s : Said) → said batching b ≡ s → Entered b r.count
    by_said agreed e =
        let passes = said_agrees batching b e in
        let room = done_passes enough_room b passes.1.0 in
        record {
          loop_sound = passes.0;
          count_is = ap (λ x. x.count) (rw e at is);
          few = leb-true (count b) 32 room.0;
          placed = leb-true (count b) b.places room.1.0;
          numbered = leb-true (numbers_needed b) b.numbers room.1.1.0;
        }
    by_said (refusal about number place) e = let none : r.count ≡ 0 = ap (λ x. x.count) (rw e at is) in absurd (omega (arith, none))

-- a store at i takes the first i places filled to the first i + 1
one_store : {X : Type 0} (row front : List X) (i : ℕ) (z : X) → i < length row → i < length front
    → set (take i front ++ drop i row) i (get_or front i z) ≡ take (suc i) front ++ drop (suc i) row
one_store row front i z placed less =
    let here : 0 + i ≡ i = omega arith in
    let next : 0 + suc i ≡ suc i = omega arith in
    rw (here, next) at (paste-suc row 0 front i z (omega (arith, placed)) less)

module _ {X : Type 0} (f : Verdict → X) (loopbytes bytes : List ℕ) (row : List X) (ranks : List ℤ) where
  abbrev b : Batch
  b = batch_of loopbytes bytes (length row) (length ranks)

  abbrev verdicts : List Verdict
  verdicts = verdicts_in_turn loopbytes (records bytes) ranks

  -- ---- after i records

  abbrev pub row_at : ℕ → List X
  row_at i = take i (map f verdicts) ++ drop i row

  abbrev pub ranks_at : ℕ → List ℤ
  ranks_at i = so_far loopbytes i (records bytes) ranks

  -- ---- one turn

  module _ (judged i : ℕ) (known : Entered b judged) (less : i < judged) where
    abbrev place : ℕ
    place = place_of bytes i

    there : i < length (records bytes)
    unfolding count
    there = omega (arith, known.count_is)

    room : variables loopbytes * length (records bytes) ≤ length ranks
    unfolding numbers_needed count
    room = known.numbered

    pub starts : place < length bytes
    starts = place_before bytes i there

    -- the record's bytes are those up to where it ends
    pub record_is : (end : ℕ) → end ≡ place + taken (drop place bytes) → take (end - place) (drop place bytes) ≡ get_or (records bytes) i []
    unfolding first_record
    record_is end is =
        let size : end - place ≡ taken (drop place bytes) = omega (arith, is) in
        ap (λ k. take k (drop place bytes)) size ∙ sym (record_there bytes i there)

    pub ends : (end : ℕ) → end ≡ place + taken (drop place bytes) → (place ≤ end) × (end ≤ length bytes)
    ends end is = (omega (arith, is), omega (arith, is, taken_within (drop place bytes), length-drop place bytes, place_within bytes i))

    -- there is a stretch for it
    pub stretched : variables loopbytes * i + variables loopbytes ≤ length ranks
    stretched =
        let all : variables loopbytes * suc i ≤ variables loopbytes * length (records bytes) = mul-le-mul_left (variables loopbytes) there in
        let more : variables loopbytes * suc i ≡ variables loopbytes * i + variables loopbytes = omega arith in
        omega (arith, all, more, room)

    pub row_turn : (z v : Verdict) (c : List ℕ) → c ≡ get_or (records bytes) i [] → v ≡ answered loopbytes c (stretch (variables loopbytes) i (ranks_at i))
        → set (row_at i) i (f v) ≡ row_at (suc i)
    unfolding count
    row_turn z v c c-is is =
        let n = variables loopbytes in
        let lent = (one_turn loopbytes i (records bytes) ranks there room).0 in
        let v_is : v ≡ get_or verdicts i z = is ∙ ap (λ x. answered loopbytes c x) lent ∙ ap (λ x. answered loopbytes x (stretch n i ranks)) c-is ∙ sym (as_one_by_one loopbytes i (records bytes) ranks z there) in
        let long : length (map f verdicts) ≡ length (records bytes) = length-map verdicts f ∙ verdicts_length loopbytes (records bytes) ranks in
        ap (set (row_at i) i) (ap f v_is ∙ sym (get_or-map f verdicts i z))
        ∙ one_store row (map f verdicts) i (f z) (omega (arith, known.placed, there)) (omega (arith, long, there))

    pub ranks_turn : (c : List ℕ) → c ≡ get_or (records bytes) i []
        → with_stretch (variables loopbytes) i (rank_answered loopbytes c (stretch (variables loopbytes) i (ranks_at i))) (ranks_at i) ≡ ranks_at (suc i)
    ranks_turn c c-is =
        let n = variables loopbytes in
        let turn = one_turn loopbytes i (records bytes) ranks there room in
        ap (λ x. with_stretch n i (rank_answered loopbytes c x) (ranks_at i)) turn.0
        ∙ ap (λ x. with_stretch n i (rank_answered loopbytes x (stretch n i ranks)) (ranks_at i)) c-is
        ∙ sym turn.1

  -- ---- one turn, as the code takes it: from the state after i records to that after i + 1

  pub record State (i from : ℕ) (rows : List X) (numbers : List ℤ) : Type 0 where
    pub from_is : from ≡ place_of bytes i
    pub rows_are : rows ≡ row_at i
    pub numbers_are : numbers ≡ ranks_at i

  module _ (r : Batched) (is : r ≡ batch_answers b) (i from : ℕ) (rows : List X) (numbers : List ℤ) (at : State i from rows numbers) (less : i < r.count) where
    known : Entered b r.count
    known = entered b r is (omega arith)

    numbers_long : length numbers ≡ length ranks
    numbers_long = ap length at.numbers_are ∙ ranks_length loopbytes (take i (records bytes)) ranks

    rows_long : length rows ≡ length row
    unfolding count
    rows_long =
        let long : length (map f verdicts) ≡ length (records bytes) = length-map verdicts f ∙ verdicts_length loopbytes (records bytes) ranks in
        ap length at.rows_are
        ∙ length-append (take i (map f verdicts)) (drop i row)
        ∙ omega (arith, length-take i (map f verdicts), length-drop i row, long, known.count_is, known.placed)

    -- what the calls of a turn ask
    pub record Asked : Type 0 where
      pub loop_sound : loop_told loopbytes ≡ done
      pub starts_within : from ≤ length bytes
      pub few_before : i < 32
      pub row_there : i < length rows
      pub stretch_there : variables loopbytes * i + variables loopbytes ≤ length numbers

    pub asked : Asked
    unfolding count
    asked =
        record {
          loop_sound = known.loop_sound;
          starts_within = omega (arith, at.from_is, starts r.count i known less);
          few_before = omega (arith, known.count_is, known.few);
          row_there = omega (arith, rows_long, known.count_is, known.placed);
          stretch_there = omega (arith, numbers_long, stretched r.count i known less);
        }

    module _ (end : ℕ) (end_is : end ≡ from + taken (drop from bytes)) where
      end_there : end ≡ place_of bytes i + taken (drop (place_of bytes i) bytes)
      end_there = end_is ∙ ap (λ k. k + taken (drop k bytes)) at.from_is

      pub ends_within : (from ≤ end) × (end ≤ length bytes)
      ends_within = let w = ends r.count i known less end end_there in (omega (arith, at.from_is, w.0), w.1)

      certificate_is : take (end - from) (drop from bytes) ≡ get_or (records bytes) i []
      certificate_is = ap (λ k. take (end - k) (drop k bytes)) at.from_is ∙ record_is r.count i known less end end_there

      pub next_state : (v : Verdict) (put : X) (after : List ℤ) → put ≡ f v
          → v ≡ answered loopbytes (take (end - from) (drop from bytes)) (stretch (variables loopbytes) i numbers)
          → after ≡ with_stretch (variables loopbytes) i (rank_answered loopbytes (take (end - from) (drop from bytes)) (stretch (variables loopbytes) i numbers)) numbers
          → State (i + 1) end (set rows i put) after
      next_state v put after put_is v_is after_is =
          let n = variables loopbytes in
          let c = take (end - from) (drop from bytes) in
          let next : i + 1 ≡ suc i = omega arith in
          let told : v ≡ answered loopbytes c (stretch n i (ranks_at i)) = v_is ∙ ap (λ x. answered loopbytes c (stretch n i x)) at.numbers_are in
          rw next
          (record {
            from_is = end_there;
            rows_are = ap (λ x. set x i put) at.rows_are ∙ ap (set (row_at i) i) put_is ∙ row_turn r.count i known less v v c certificate_is told;
            numbers_are =
                after_is
                ∙ ap (λ x. with_stretch n i (rank_answered loopbytes c (stretch n i x)) x) at.numbers_are
                ∙ ranks_turn r.count i known less c certificate_is;
          })

  -- ---- after the last

  pub all_filled : (r : Batched) → r ≡ batch_answers b
      → (row_at r.count ≡ filled (said batching b) (map f verdicts) row)
      × (ranks_at r.count ≡ ranked (said batching b) (ranks_in_turn loopbytes (records bytes) ranks) ranks)
  unfolding batch_answers answer filled ranked ranks_in_turn count
  all_filled r is = by_said (said batching b) (ap (λ x. x.count) is)
    where
      by_said : (s : Said) → r.count ≡ (answer s (length (records bytes))).count
          → (row_at r.count ≡ filled s (map f verdicts) row)
          × (ranks_at r.count ≡ ranked s (ranks_in_turn loopbytes (records bytes) ranks) ranks)
      by_said agreed e =
          let long : length (map f verdicts) ≡ length (records bytes) = length-map verdicts f ∙ verdicts_length loopbytes (records bytes) ranks in
          let all = take_all (length (records bytes)) (map f verdicts) (omega (arith, long)) in
          (rw (e, all, long) refl, rw (e, take_all (length (records bytes)) (records bytes) (omega arith)) refl)
      by_said (refusal about number place) e = rw e (refl, refl)

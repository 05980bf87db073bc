-- The round trips of the two calls: with room enough, what one wrote is moved back by the other, and the first bytes stand in the room again.
-- And a refused call changes nothing and answers 0 but for number and place.
use mathlib.Core.Path.{◌≡◌, refl, sym, ap, ◌∙◌}
use Prim.Native.Nat.{ℕ, ◌+◌, ◌*◌, ◌≤◌}
use mathlib.Core.List.{List, ◌++◌}
use native.Mathlib.Omega.{arith}
use lib.ListN.{length, take, drop}
use lib.Seq.{take-append_seam}
use borrow.Author.Tests.{le-leb}
use Rattle.endian.specs.Numbers.{Bytes}
use Rattle.refusal.specs.Tests.{Told, done, refused, number}
use Rattle.refusal.proofs.TestLaws.{done_passes, passes_done, passes_append, append_passes, zero_done}
use Rattle.record.specs.declared.Writing.{Writing}
use Rattle.record.specs.Readers.{sound}
use Rattle.record_paths.specs.PathFields.{is_kind, holds_counts, is_long, fields_fit}
use Rattle.record_short.specs.Conversions.{ranking_given, triples_needed, short_bytes, shortening, lengthening, converted, put_first}
use Rattle.record_short.specs.Conversions.{shortening_told, lengthening_told, shortens, shortened_room, lengthens, lengthened_room}
use Rattle.record_short.specs.ShortRecords.{sound_short, long_bytes}
use Rattle.record_short.proofs.LengthenShorten.{long_is_sound, lengthen_shorten}
use Rattle.record_short.proofs.LongSound.{LongSound, long_sound, long_done}
use Rattle.record_short.proofs.ShortBytes.{length_short}
use Rattle.record_short.proofs.ShortSound.{ShortSound, short_sound, sound_done, sound_short_bytes}
use Rattle.record_short.proofs.ShortenLengthen.{short_is_sound, shorten_lengthen}

-- a call is done, and the room then begins with these bytes and is as it was past them
pub record Holds (answer : Writing) (room after bytes : List ℕ) : Type 0 where
  pub answers : answer ≡ record { number = 0; place = 0; written = length bytes }
  pub room_holds : after ≡ bytes ++ drop (length bytes) room

-- what is told of an answer
number_told : (t : Told) (bytes : List ℕ) → number t ≡ (converted t bytes).number
unfolding number converted
number_told done bytes = refl
number_told (refused k p) bytes = refl

module _ (bytes : List ℕ) (n m : ℕ) (room : List ℕ) where
  -- ---- what a call that tells 0 did

  pub shortened : shortening_told bytes n m room ≡ done → Holds (shortens bytes n m room) room (shortened_room bytes n m room) (short_bytes m bytes)
  unfolding shortens shortened_room converted put_first
  shortened told = rw told (record { answers = refl; room_holds = refl })

  pub lengthened : lengthening_told bytes n m room ≡ done → Holds (lengthens bytes n m room) room (lengthened_room bytes n m room) (long_bytes n m bytes)
  unfolding lengthens lengthened_room converted put_first
  lengthened told = rw told (record { answers = refl; room_holds = refl })

  shorten_told : (shortens bytes n m room).number ≡ 0 → shortening_told bytes n m room ≡ done
  unfolding shortens shortening_told shortening sound
  shorten_told zero = zero_done shortening (ranking_given bytes n m (length room)) refl (number_told (shortening_told bytes n m room) (short_bytes m bytes) ∙ zero)

  lengthen_told : (lengthens bytes n m room).number ≡ 0 → lengthening_told bytes n m room ≡ done
  unfolding lengthens lengthening_told lengthening sound_short is_kind holds_counts is_long fields_fit
  lengthen_told zero =
      zero_done (lengthening n m) (ranking_given bytes n m (length room)) refl (number_told (lengthening_told bytes n m room) (long_bytes n m bytes) ∙ zero)

  -- it was given a sound record
  was_long : shortening_told bytes n m room ≡ done → LongSound n m bytes
  unfolding shortening_told shortening
  was_long told =
      let r = ranking_given bytes n m (length room) in
      long_sound n m bytes (length room) (passes_done sound r (append_passes sound _ r (done_passes shortening r told)).0)

  was_short : lengthening_told bytes n m room ≡ done → ShortSound n m bytes
  unfolding lengthening_told lengthening ranking_given
  was_short told =
      let r = ranking_given bytes n m (length room) in
      let passes = (append_passes (sound_short n m) _ r (done_passes (lengthening n m) r told)).0 in
      short_sound n m bytes (sym (sound_short_bytes n m r) ∙ passes_done (sound_short n m) r passes)

  -- ---- a sound record with room for it

  long_goes : LongSound n m bytes → 8 + 6 * triples_needed m bytes ≤ length room → shortening_told bytes n m room ≡ done
  unfolding shortening_told shortening ranking_given
  long_goes s enough =
      let r = ranking_given bytes n m (length room) in
      passes_done shortening r (passes_append sound _ r (done_passes sound r (long_done n m bytes (length room) s)) (le-leb _ _ enough, tt))

  short_goes : ShortSound n m bytes → 6 + 4 * m ≤ length room → lengthening_told bytes n m room ≡ done
  unfolding lengthening_told lengthening ranking_given
  short_goes s enough =
      let r = ranking_given bytes n m (length room) in
      passes_done (lengthening n m) r
      (passes_append (sound_short n m) _ r (done_passes (sound_short n m) r (sound_short_bytes n m r ∙ sound_done n m bytes s)) (le-leb _ _ enough, tt))

-- the bytes that a call wrote
taken : (answer : Writing) (room after bytes : List ℕ) → Holds answer room after bytes → take answer.written after ≡ bytes
taken answer room after bytes h = rw (h.answers, h.room_holds) (take-append_seam bytes (drop (length bytes) room))

-- ---- there and back

module _ (bytes : List ℕ) (n m : ℕ) (room next : List ℕ) (all : Bytes bytes) (fits : length bytes ≤ length next) where
  pub shorten_then_lengthen : (shortens bytes n m room).number ≡ 0
      → (let short = take (shortens bytes n m room).written (shortened_room bytes n m room) in
      Holds (lengthens short n m next) next (lengthened_room short n m next) bytes)
  shorten_then_lengthen zero =
      let told = shorten_told bytes n m room zero in
      let s = was_long bytes n m room told in
      let short = taken _ room _ (short_bytes m bytes) (shortened bytes n m room told) in
      let there = short_goes (short_bytes m bytes) n m next (short_is_sound n m bytes s) (omega (arith, s.long)) in
      rw short (rw (shorten_lengthen n m bytes s all) at (lengthened (short_bytes m bytes) n m next there))

  pub lengthen_then_shorten : (lengthens bytes n m room).number ≡ 0
      → (let longer = take (lengthens bytes n m room).written (lengthened_room bytes n m room) in
      Holds (shortens longer n m next) next (shortened_room longer n m next) bytes)
  lengthen_then_shorten zero =
      let told = lengthen_told bytes n m room zero in
      let s = was_short bytes n m room told in
      let longer = taken _ room _ (long_bytes n m bytes) (lengthened bytes n m room told) in
      let again = lengthen_shorten n m bytes s all in
      let enough : 8 + 6 * triples_needed m (long_bytes n m bytes) ≤ length next = omega (arith, ap length again, length_short m (long_bytes n m bytes)) in
      let there = long_goes (long_bytes n m bytes) n m next (long_is_sound n m bytes s) enough in
      rw longer (rw again at (shortened (long_bytes n m bytes) n m next there))

-- ---- refused calls

refused_so : (t : Told) (bytes room : List ℕ) → ((converted t bytes).number ≡ 0 → ⊥) → ((converted t bytes).written ≡ 0) × (put_first t bytes room ≡ room)
unfolding converted put_first
refused_so done bytes room some = absurd (some refl)
refused_so (refused k p) bytes room some = (refl, refl)

module _ (bytes : List ℕ) (n m : ℕ) (room : List ℕ) where
  pub refused_shorten : ((shortens bytes n m room).number ≡ 0 → ⊥) → ((shortens bytes n m room).written ≡ 0) × (shortened_room bytes n m room ≡ room)
  unfolding shortens shortened_room
  refused_shorten some = refused_so (shortening_told bytes n m room) (short_bytes m bytes) room some

  pub refused_lengthen : ((lengthens bytes n m room).number ≡ 0 → ⊥) → ((lengthens bytes n m room).written ≡ 0) × (lengthened_room bytes n m room ≡ room)
  unfolding lengthens lengthened_room
  refused_lengthen some = refused_so (lengthening_told bytes n m room) (long_bytes n m bytes) room some

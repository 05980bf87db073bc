-- The ways through judging by the certificate's kind, one for each return: not short, or too short to have a kind; a short record that is refused; and one that is
-- judged as the record it stands for.
use mathlib.Core.Path.{◌≡◌, sym, ap, ◌∙◌}
use Prim.Native.Nat.{ℕ, ◌+◌, ◌*◌, ◌≤◌}
use mathlib.Core.Bool.{Bool, true, false, ◌&&◌}
use mathlib.Core.List.{List, ◌++◌}
use native.Mathlib.Omega.{arith}
use lib.Dec.{leb}
use lib.IntN.{ℤ}
use lib.ListN.{length, take}
use lib.Seq.{take_at}
use borrow.Author.Tests.{leb-true, leb-false}
use Rattle.endian.specs.Numbers.{little_at}
use Rattle.judge.specs.SoundPairs.{LoopSound, CertificateSound}
use Rattle.record.specs.Layouts.{Kind, ranking, kind_of}
use Rattle.record.specs.Readers.{framing, stated_length, kind_number, kind, counts_read, fields, list_start, count_list, list, arguments_fit, sound}
use Rattle.record_paths.specs.PathFields.{bytes_alone}
use Rattle.record_short.specs.ShortRecords.{sound_short, long_bytes}
use Rattle.record_short.specs.Conversions.{ranking_given}
use Rattle.record_short.proofs.LengthenShorten.{long_is_sound, long_is_done}
use Rattle.record_short.proofs.LongRecords.{length_long}
use Rattle.record_short.proofs.ShortSound.{ShortSound, short_sound}
use Rattle.record_short_write.specs.Rooms.{Lengthens}
use Rattle.record_short_write.proofs.ConversionWays.{sound_lengthens}
use Rattle.record_check.proofs.FrameWays.{stopped, right}
use Rattle.refusal.specs.Faults.{result_of}
use Rattle.refusal.specs.Tests.{done, first}
use Rattle.refusal.specs.declared.Fault.{Fault}
use Rattle.refusal.proofs.FaultLaws.{told_refused, told_done}
use Rattle.refusal.proofs.TestLaws.{either, passes_done, done_passes}
use Rattle.verdict.specs.Bounding.{bounds, bound_of}
use Rattle.verdict.specs.Judging.{judges, rank_after, judge_of}
use Rattle.verdict.specs.Pairs.{certificate_record}
use Rattle.verdict.specs.Stages.{refusal_of}
use Rattle.verdict.proofs.StageLaws.{by_told}
use Rattle.verdict_short.specs.ShortJudging.{ShortPair, variables_of, rows_for, long_of, of_short, short_pair, judged_or_short, ranked_or_short, bounded_or_short}
use Rattle.verdict_short.proofs.ShortAsLong.{by_long, short_as_long, short_refused, unframed_alike}

-- ---- not known to be short

framed_long : (bytes : List ℕ) → first framing (bytes_alone bytes) ≡ done → 6 ≤ length bytes
unfolding bytes_alone stated_length
framed_long bytes h =
    let passes = done_passes framing (bytes_alone bytes) h in
    let two : 2 ≤ little_at 4 bytes 0 = leb-true _ _ passes.1.0 in
    let there : 4 + little_at 4 bytes 0 ≤ length bytes = leb-true _ _ passes.1.1.0 in
    omega arith

pub as_it_is : (loopbytes certificate : List ℕ) (lent : List ℤ) → (leb 6 (length certificate) && of_short certificate) ≡ false
    → (judged_or_short loopbytes certificate lent ≡ judges (judge_of loopbytes certificate lent))
    × (ranked_or_short loopbytes certificate lent ≡ rank_after (judge_of loopbytes certificate lent) lent)
    × (bounded_or_short loopbytes certificate lent ≡ bounds (bound_of loopbytes certificate lent))
as_it_is loopbytes certificate lent none =
    either (leb 6 (length certificate))
    (λ long. by_long loopbytes certificate (rw long at none) lent)
    (λ short.
    by_told (first framing (bytes_alone certificate))
    (λ framed. absurd (omega (arith, framed_long certificate framed, leb-false 6 (length certificate) short)))
    (λ k q told. unframed_alike loopbytes certificate k q told lent))

-- ---- a record that is sound for one call is so for every call that wants its kind

wanted_done : (bytes : List ℕ) (n m : ℕ) → first sound (ranking_given bytes n m 0) ≡ done → (wants : Kind → Bool) → wants (kind_of (little_at 2 bytes 4)) ≡ true
    → first sound (record { bytes = bytes; wants = wants; n = n; m = m; room = 0 }) ≡ done
unfolding sound ranking_given stated_length kind_number kind counts_read fields list_start count_list list arguments_fit
wanted_done bytes n m told wants wanted =
    let h = done_passes sound (ranking_given bytes n m 0) told in
    passes_done sound (record { bytes = bytes; wants = wants; n = n; m = m; room = 0 })
    (h.0, (h.1.0, (h.1.1.0, (h.1.1.1.0, (wanted, h.1.1.1.1.1)))))

-- ---- known to be short, for a sound loop

module _ (loopbytes : List ℕ) (n m : ℕ) (l : LoopSound loopbytes n m) (certificate : List ℕ) (short : of_short certificate ≡ true) where
  abbrev p : ShortPair
  p = short_pair loopbytes certificate

  -- the record is read with the loop's n and m
  read_so : first (sound_short n m) (bytes_alone certificate) ≡ first (sound_short (variables_of p) (rows_for p)) (bytes_alone certificate)
  unfolding variables_of rows_for
  read_so = rw (l.n_is, l.m_is)

  pub refused_so : (f : Fault) → stopped f ≡ result_of (first (sound_short n m) (bytes_alone certificate)) tt → (lent : List ℤ)
      → (judged_or_short loopbytes certificate lent ≡ refusal_of 2 f.number f.place) × (ranked_or_short loopbytes certificate lent ≡ lent)
      × (bounded_or_short loopbytes certificate lent ≡ record { verdict = refusal_of 2 f.number f.place; bound = 0 })
  refused_so f is lent =
      let told = told_refused (first (sound_short n m) (bytes_alone certificate)) tt f is in
      short_refused loopbytes certificate l.told short f.number f.place (sym read_so ∙ told) lent

  module _ (is : right ≡ result_of (first (sound_short n m) (bytes_alone certificate)) tt) where
    sound_so : first (sound_short n m) (bytes_alone certificate) ≡ done
    sound_so = told_done (first (sound_short n m) (bytes_alone certificate)) tt tt is

    pub short_is_sound : ShortSound n m certificate
    short_is_sound = short_sound n m certificate sound_so

    pub can_lengthen : Lengthens m certificate
    can_lengthen = sound_lengthens n m certificate short_is_sound

    -- the front of a buffer that it was lengthened into
    pub long_there : (room rest : List ℕ) → room ≡ long_bytes n m certificate ++ rest → take (6 + 4 * m) room ≡ long_of p
    unfolding long_of variables_of rows_for
    long_there room rest after = rw (after, take_at (long_bytes n m certificate) rest (6 + 4 * m) (length_long n m certificate), l.n_is, l.m_is)

    pub judged_as_long : (lent : List ℤ) → (judged_or_short loopbytes certificate lent ≡ judges (judge_of loopbytes (long_of p) lent))
        × (ranked_or_short loopbytes certificate lent ≡ rank_after (judge_of loopbytes (long_of p) lent) lent)
        × (bounded_or_short loopbytes certificate lent ≡ bounds (bound_of loopbytes (long_of p) lent))
    judged_as_long lent = short_as_long loopbytes certificate l.told (sym read_so ∙ sound_so) short lent

    -- the record that it stands for is sound, for every call that wants kind 2
    long_told : first sound (ranking_given (long_of p) n m 0) ≡ done
    unfolding long_of variables_of rows_for
    long_told = rw (← l.n_is, ← l.m_is) (long_is_done n m certificate short_is_sound 0)

    long_kind : kind_of (little_at 2 (long_of p) 4) ≡ ranking
    unfolding long_of variables_of rows_for kind_of
    long_kind = rw (← l.n_is, ← l.m_is, (long_is_sound n m certificate short_is_sound).numbered)

    pub long_is_ranking : (wants : Kind → Bool) → wants ranking ≡ true → CertificateSound wants loopbytes (long_of p) ranking
    unfolding certificate_record kind kind_number
    long_is_ranking wants wanted =
        record {
          told = rw (← l.n_is, ← l.m_is) (wanted_done (long_of p) n m long_told wants (ap wants long_kind ∙ wanted));
          kind_is = long_kind;
        }

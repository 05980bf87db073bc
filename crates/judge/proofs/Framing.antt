-- What the tests of L against the bytes tell of a judging's records: the refusal, or that the record is open for its kind.
use mathlib.Core.Path.{◌≡◌}
use Prim.Native.Nat.{ℕ}
use mathlib.Core.Bool.{Bool, true, false, ◌&&◌}
use mathlib.Core.List.{List, []}
use lib.IntN.{pos}
use lib.ListN.{drop}
use Rattle.endian.specs.Numbers.{little_at}
use Rattle.record.specs.declared.Wanted.{Wanted}
use Rattle.record.specs.Layouts.{Kind, kind_of, is_known}
use Rattle.record.specs.Ranges.{variables, rows, within}
use Rattle.record.specs.Readers.{framing, stated_length, kind_number, kind, sound, loop_reader}
use Rattle.record.specs.Wants.{wants_of}
use Rattle.record.proofs.KindLaws.{no_loop}
use Rattle.record.proofs.SoundRecords.{counts_in_range}
use Rattle.refusal.specs.declared.Fault.{Fault}
use Rattle.refusal.specs.Faults.{result_of}
use Rattle.refusal.specs.Tests.{refused, first}
use Rattle.refusal.proofs.FaultLaws.{told_refused}
use Rattle.refusal.proofs.TestLaws.{first_told}
use Rattle.record_check.specs.Checks.{certificate_check}
use Rattle.record_check.specs.Framing.{Framed}
use Rattle.record_check.proofs.BodyWays.{unwanted}
use Rattle.record_check.proofs.CertificateWays.{certificate_unwanted}
use Rattle.record_check.proofs.FrameWays.{stopped, right, frame_passes}
use Rattle.verdict.specs.Pairs.{loop_record, certificate_record}
use Rattle.judge.specs.SoundPairs.{LoopSound}
use Rattle.judge.proofs.Entered.{loop_refused, certificate_refused}
use Rattle.judge.proofs.SoundSizes.{loop_kind, loop_says}

-- ---- the frame

module _ (bytes : List ℕ) where
  pub frame_told : (f : Fault) → stopped f ≡ result_of (first framing (loop_reader bytes [])) tt → first framing (loop_reader bytes []) ≡ refused f.number f.place
  frame_told f is = told_refused (first framing (loop_reader bytes [])) tt f is

  pub well_framed : right ≡ result_of (first framing (loop_reader bytes [])) tt → Framed bytes
  unfolding loop_reader
  well_framed is = frame_passes (loop_reader bytes []) is

-- a record whose frame is refused is refused so, whatever it is
module _ (bytes : List ℕ) (k p : ℕ) (told : first framing (loop_reader bytes []) ≡ refused k p) where
  pub loop_alike : first sound (loop_record bytes) ≡ refused k p
  unfolding sound loop_record loop_reader stated_length first
  loop_alike = first_told framing (drop 4 sound) (loop_record bytes) k p told

  pub certificate_alike : (wants : Kind → Bool) (loopbytes : List ℕ) → first sound (certificate_record wants (loop_record loopbytes) bytes) ≡ refused k p
  unfolding sound certificate_record loop_reader stated_length first
  certificate_alike wants loopbytes = first_told framing (drop 4 sound) (certificate_record wants (loop_record loopbytes) bytes) k p told

-- a loop record of another kind than 1
pub unwanted_loop : (bytes : List ℕ) → Framed bytes → (little_at 2 bytes 4 ≡ 1 → ⊥) → first sound (loop_record bytes) ≡ refused 4 4
unfolding loop_reader kind kind_number
unwanted_loop bytes f other =
    loop_refused bytes (record { number = 4; place = 4 }) (unwanted (loop_reader bytes []) f (no_loop (little_at 2 bytes 4) other))

-- ---- a certificate for a sound loop, past its frame

-- the loop's counts are in range
pub counts_fit : (loopbytes : List ℕ) (n m : ℕ) → LoopSound loopbytes n m → (within variables (pos n) && within rows (pos m)) ≡ true
unfolding is_known
counts_fit loopbytes n m l = rw (l.n_is, l.m_is) (counts_in_range (loop_record loopbytes) (loop_says loopbytes n m l) (rw (loop_kind loopbytes n m l)))

module _ (loopbytes : List ℕ) (n m : ℕ) (l : LoopSound loopbytes n m) (certificate : List ℕ) (f : Framed certificate) where
  -- a kind that is not wanted
  pub unwanted_told : (wanted : Wanted) → wants_of wanted (kind_of (little_at 2 certificate 4)) ≡ false
      → first sound (certificate_record (wants_of wanted) (loop_record loopbytes) certificate) ≡ refused 4 4
  unfolding certificate_check
  unwanted_told wanted none =
      certificate_refused (wants_of wanted) loopbytes n m l certificate (record { number = 4; place = 4 }) (certificate_unwanted wanted certificate n m f none)

-- What a check's answer tells of a settling's record: that it is sound, or the refusal.
use Rattle.std.specs.Prelude.{Ok, Err}
use mathlib.Core.Path.{◌≡◌, ◌∙◌}
use Prim.Native.Nat.{ℕ}
use mathlib.Core.List.{List}
use lib.ListN.{drop}
use Rattle.refusal.specs.Faults.{result_of}
use Rattle.refusal.specs.Tests.{done, refused, first}
use Rattle.refusal.specs.declared.Fault.{Fault}
use Rattle.refusal.proofs.FaultLaws.{told_done, told_refused}
use Rattle.refusal.proofs.TestLaws.{first_told}
use Rattle.record.specs.Readers.{framing}
use Rattle.record_paths.specs.PathFields.{bytes_alone}
use Rattle.record_settling.specs.SettlingRecords.{sound_settling}
use Rattle.record_settling.proofs.SettlingSound.{settling_sound}
use Rattle.verdict_settling.specs.AnswersByKind.{pair_of}
use Rattle.verdict_settling.specs.SettlingJudging.{SettlingPair, certificate_told}
use Rattle.judge.specs.SoundPairs.{LoopSound}
use Rattle.judge_settling.specs.SettlingHeld.{SettlingIn}
use Rattle.judge_settling.proofs.SettlingContentsHeld.{variables_are, rows_are, settling_there}

-- ---- the check

module _ (loopbytes certificate : List ℕ) (n m : ℕ) (l : LoopSound loopbytes n m) where
  pub told_alike : certificate_told (pair_of loopbytes certificate) ≡ first (sound_settling n m) (bytes_alone certificate)
  told_alike = rw (variables_are loopbytes certificate n m l, rows_are loopbytes certificate n m l)

  module _ {A : Type 0} (given : A) where
    pub certificate_refused : (f : Fault) → Err f ≡ result_of (first (sound_settling n m) (bytes_alone certificate)) given
        → certificate_told (pair_of loopbytes certificate) ≡ refused f.number f.place
    certificate_refused f is = told_alike ∙ told_refused _ given f is

    pub certificate_sound : (x : A) → Ok x ≡ result_of (first (sound_settling n m) (bytes_alone certificate)) given
        → certificate_told (pair_of loopbytes certificate) ≡ done
    certificate_sound x is = told_alike ∙ told_done _ given x is

    pub certificate_there : (x : A) → Ok x ≡ result_of (first (sound_settling n m) (bytes_alone certificate)) given → SettlingIn certificate n m
    certificate_there x is = settling_there loopbytes certificate n m l (settling_sound n m certificate (told_done _ given x is))

-- a certificate whose frame is refused is refused so
module _ (bytes : List ℕ) (k q : ℕ) (told : first framing (bytes_alone bytes) ≡ refused k q) where
  pub settling_alike : (p : SettlingPair) → p.certificate ≡ bytes → certificate_told p ≡ refused k q
  unfolding sound_settling
  settling_alike p is = rw is (first_told framing (drop 4 (sound_settling _ _)) (bytes_alone bytes) k q told)

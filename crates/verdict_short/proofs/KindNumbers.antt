-- The kinds of records by the numbers in their bytes, as code reads them and the definitions ask for them; and the frame, which is one for all kinds.
use mathlib.Core.Path.{◌≡◌, refl}
use Prim.Native.Nat.{ℕ}
use mathlib.Core.Bool.{true, false}
use mathlib.Core.List.{List, []}
use borrow.Author.Tests.{eq-eqb, ne_eqb, eqb-true}
use Rattle.endian.specs.Numbers.{little_at}
use Rattle.record.specs.Readers.{framing, stated_length, loop_reader}
use Rattle.record_paths.specs.PathFields.{bytes_alone}
use Rattle.refusal.specs.Tests.{first}
use Rattle.verdict_paths.specs.JudgingByLoop.{of_paths}
use Rattle.verdict_settling.specs.AnswersByKind.{of_settling}
use Rattle.verdict_short.specs.ShortJudging.{of_short}

module _ (certificate : List ℕ) where
  pub seven : little_at 2 certificate 4 ≡ 7 → of_short certificate ≡ true
  unfolding of_short
  seven is = eq-eqb (little_at 2 certificate 4) 7 is

  pub eight : little_at 2 certificate 4 ≡ 8 → of_settling certificate ≡ true
  unfolding of_settling
  eight is = eq-eqb (little_at 2 certificate 4) 8 is

  pub eight_not_short : of_settling certificate ≡ true → of_short certificate ≡ false
  unfolding of_settling of_short
  eight_not_short e = rw (eqb-true (little_at 2 certificate 4) 8 e)

  pub none_of_them : (little_at 2 certificate 4 ≡ 7 → ⊥) → (little_at 2 certificate 4 ≡ 8 → ⊥) → (of_short certificate ≡ false) × (of_settling certificate ≡ false)
  unfolding of_settling of_short
  none_of_them no_seven no-eight = (ne_eqb (little_at 2 certificate 4) 7 no_seven, ne_eqb (little_at 2 certificate 4) 8 no-eight)

pub five : (loopbytes : List ℕ) → little_at 2 loopbytes 4 ≡ 5 → of_paths loopbytes ≡ true
unfolding of_paths
five loopbytes is = eq-eqb (little_at 2 loopbytes 4) 5 is

pub not_five : (loopbytes : List ℕ) → (little_at 2 loopbytes 4 ≡ 5 → ⊥) → of_paths loopbytes ≡ false
unfolding of_paths
not_five loopbytes other = ne_eqb (little_at 2 loopbytes 4) 5 other

-- the frame is one for all records
pub frame_alone : (bytes : List ℕ) → first framing (loop_reader bytes []) ≡ first framing (bytes_alone bytes)
unfolding first stated_length loop_reader bytes_alone
frame_alone bytes = refl

-- Wrong programs for `room_needed`, which its promise shuts out: one that is a byte short, and one that goes on past 65,536 bytes. And texts that no smaller
-- formula may forget: that of no input at all, and one with several bytes for each byte of input. Assumes nothing.
use mathlib.Core.Path.{◌≡◌, refl}
use Prim.Native.Nat.{ℕ, zero, suc, ◌+◌, ◌*◌, ◌≤◌, ◌<◌, min}
use mathlib.Core.List.{List, [], ◌∷◌, ◌++◌}
use native.Mathlib.Omega.{arith}
use lib.ListN.{length}
use Rattle.record.specs.Samples as Records
use Rattle.verdict.specs.Samples.{P}
use Rattle.sheet_text.specs.Computing.{computing}
use Rattle.sheet_text.specs.Sheets.{sheet_text, worst}

-- it differs at every size
pub byte_short : (size : ℕ) → 47 * min size 65_536 + 305 ≡ worst size → ⊥
byte_short size same = omega arith

-- it differs at every size past the limit, 65,537 first
pub without_limit : (size : ℕ) → 65_536 < size → 47 * size + 306 ≡ worst size → ⊥
without_limit size long same = omega arith

-- the text of no input has 17 bytes, so that much room is needed for every size
pub empty_text : length (sheet_text []) ≡ 17
unfolding computing
empty_text = refl

-- P and 200 records of 6 bytes (L and the kind alone), 1,246 bytes in all, have more than twice as much text: a line has 14 bytes at least
unfoldable pub bare_records : ℕ → List ℕ
bare_records zero = []
bare_records (suc k) = 2 ∷ 0 ∷ 0 ∷ 0 ∷ 2 ∷ 0 ∷ bare_records k

pub long_text : (length (P ++ bare_records 200) ≡ 1_246) × (length (sheet_text (P ++ bare_records 200)) ≡ 3_101)
unfolding computing P Records.P bare_records
long_text = (refl, refl)

-- the room that is promised holds both
pub both_fit : (17 ≤ worst 0) × (3_101 ≤ worst 1_246)
both_fit = (omega arith, omega arith)

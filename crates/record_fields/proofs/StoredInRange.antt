-- One comparison of unsigned numbers tells whether a stored number is in range: what the code tests is what `fits` says.
use mathlib.Core.Path.{◌≡◌, refl, sym, ◌∙◌}
use Prim.Native.Nat.{ℕ, suc, ◌+◌, ◌*◌, ◌-◌, ◌%◌, ◌≤◌, ◌<◌}
use mathlib.Core.Bool.{Bool, true, false, ◌&&◌}
use mathlib.Core.List.{List}
use native.Mathlib.Decide.{dec_le, dec_lt}
use native.Mathlib.Nat.{mod-eq_of_lt, add-mod_right}
use native.Mathlib.Omega.{arith}
use lib.Dec.{leb}
use lib.IntN.{pos}
use borrow.Author.Tests.{le-leb, lt-leb}
use Rattle.endian.specs.Numbers.{little_at, signed}
use Rattle.endian.proofs.Laws.{signed_low, signed_high}
use Rattle.record.specs.Fields.{width, number}
use Rattle.record.specs.Layouts.{row_count, entry, right_side, multiplier, scale, direction}
use Rattle.record.specs.Ranges.{◌to◌, either_way, rows, entries, right_sides, multipliers, scales, directions, within}
use Rattle.record_fields.specs.Runs.{field_number_at, fits}

-- two comparisons that hold together
leb_same : (a b c d : ℕ) → (a ≤ b → c ≤ d) → (c ≤ d → a ≤ b) → leb a b ≡ leb c d
leb_same a b c d there back =
    elim (dec_le a b) [
      | yes h ↦ le-leb a b h ∙ sym (le-leb c d (there h))
      | no h ↦ lt-leb a b (omega arith) ∙ sym (lt-leb c d (elim (dec_le c d) [ yes k ↦ absurd (h (back k)) | no k ↦ omega arith ]))
    ]

and_true : (b : Bool) → b ≡ (b && true)
and_true true = refl
and_true false = refl

-- from -most to most: the stored number moved up by `most` is at most twice that
within_either : (half less x : ℕ) → suc less < half → x < 2 * half
    → leb ((x + suc less) % (2 * half)) (2 * suc less) ≡ within (either_way (suc less)) (signed half x)
unfolding within either_way
within_either half less x small stored =
    elim (dec_lt x half) [
      | yes low ↦
          let here : x + suc less < 2 * half = omega arith in
          rw (signed_low half x low, mod-eq_of_lt here) (leb_same (x + suc less) (2 * suc less) x (suc less) (λ h. omega arith) (λ h. omega arith))
      | no high ↦
          let above : half ≤ x = omega arith in
          rw (signed_high half x above stored)
          (elim (dec_lt (x + suc less) (2 * half)) [
            | yes short ↦ rw (mod-eq_of_lt short) (leb_same (x + suc less) (2 * suc less) (2 * half - suc x) less (λ h. omega arith) (λ h. omega arith) ∙ and_true (leb (2 * half - suc x) less))
            | no long ↦
                let past : x + suc less ≡ (x + suc less - 2 * half) + 2 * half = omega arith in
                let here : x + suc less - 2 * half < 2 * half = omega arith in
                rw (past, add-mod_right, mod-eq_of_lt here)
                (leb_same (x + suc less - 2 * half) (2 * suc less) (2 * half - suc x) less (λ h. omega arith) (λ h. omega arith) ∙ and_true (leb (2 * half - suc x) less))
          ])
    ]

-- ---- what the code tests of the number x that is stored at a place

module _ (bytes : List ℕ) (place x : ℕ) where
  pub entry_fits : x ≡ little_at 2 bytes place → x < 65536 → leb ((x + 30000) % 65536) 60000 ≡ fits entry bytes place
  unfolding fits field_number_at number width entry entries little_at
  entry_fits read small = rw (← read) (within_either 32768 29999 x (omega arith) small)

  pub right_side_fits : x ≡ little_at 4 bytes place → x < 4294967296 → leb ((x + 2000000000) % 4294967296) 4000000000 ≡ fits right_side bytes place
  unfolding fits field_number_at number width right_side right_sides little_at
  right_side_fits read small = rw (← read) (within_either 2147483648 1999999999 x (omega arith) small)

  pub direction_fits : x ≡ little_at 4 bytes place → x < 4294967296 → leb ((x + 60000) % 4294967296) 120000 ≡ fits direction bytes place
  unfolding fits field_number_at number width direction directions little_at
  direction_fits read small = rw (← read) (within_either 2147483648 59999 x (omega arith) small)

  pub multiplier_fits : x ≡ little_at 2 bytes place → within (0 to 60000) (pos x) ≡ fits multiplier bytes place
  unfolding fits field_number_at number width multiplier multipliers little_at
  multiplier_fits read = rw (← read)

  pub scale_fits : x ≡ little_at 2 bytes place → within (1 to 60000) (pos x) ≡ fits scale bytes place
  unfolding fits field_number_at number width scale scales little_at
  scale_fits read = rw (← read)

  pub row_count_fits : x ≡ little_at 2 bytes place → within rows (pos x) ≡ fits row_count bytes place
  unfolding fits field_number_at number width row_count little_at
  row_count_fits read = rw (← read)

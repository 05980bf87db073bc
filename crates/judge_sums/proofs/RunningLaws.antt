-- Running sums: what `Total::plus` asks and what it leaves, over plain numbers; one term more; and a term 0. A loop that carries a total has the invariant
-- `SumOf i most term t.sum`: it starts by `sum_none`, and each turn is kept by `sum_more`.
use Prim.Native.Nat.{ℕ, ◌+◌, ◌*◌, ◌^◌, ◌≤◌, ◌<◌}
use mathlib.Core.Path.{◌≡◌, refl, sym, ◌∙◌}
use native.Mathlib.Omega.{arith}
use lib.IntN.{ℤ, pos, nat_abs, ◌+ℤ◌, ◌*ℤ◌, +ℤ_idr, zero-*ℤ}
use mir.Syntax.{w64}
use mir.Val.{to_z, of_z}
use Rattle.whole.specs.Ready.{Ready}
use Rattle.whole.proofs.Size.{abs_add, abs_product, back, ready_by}
use Rattle.whole.proofs.Tables.{total_none, total_more}
use Rattle.judge_sums.specs.Places.{Lifts}
use Rattle.judge_sums.specs.Running.{CanGrow, Adds, SumOf}

pub sum_none : (most : ℕ) (term : ℕ → ℤ) {s : ℤ} → s ≡ pos 0 → SumOf 0 most term s
sum_none most term h = record { is = h ∙ total_none term; small = rw h (omega arith) }

pub sum_more : (most : ℕ) (term : ℕ → ℤ) (i : ℕ) {s r : ℤ} → SumOf i most term s → Adds most (term i) s r → SumOf (i + 1) most term r
sum_more most term i {s} h more =
    record {
      is = total_more i term h.is more.is;
      small = rw more.is (omega (arith, abs_add s (term i), h.small, more.small));
    }

-- ---- `Total::plus` of two numbers k and e that are known by their bounds. As arguments of a call they stand as `to_z w64 (of_z w64 k)`

module _ (k e : ℤ) (a b : ℕ) (left : nat_abs k ≤ a) (right : nat_abs e ≤ b) (fits : a + b + a * b < 2 ^ 62) where
  arguments : (to_z w64 (of_z w64 k) ≡ k) × (to_z w64 (of_z w64 e) ≡ e)
  arguments = (back {z = k} (omega arith), back {z = e} (omega arith))

  pub may_add : (s : ℤ) → CanGrow s → Ready s (to_z w64 (of_z w64 k)) (to_z w64 (of_z w64 e))
  may_add s small = rw (arguments.0, arguments.1) (ready_by s k e {d = 2 ^ 62} (omega arith) left right (omega arith))

  -- the numbers may have been read from bytes
  pub added : {s r k' e' : ℤ} → k ≡ k' → e ≡ e' → r ≡ s +ℤ to_z w64 (of_z w64 k) *ℤ to_z w64 (of_z w64 e) → Adds (a * b) (k' *ℤ e') s r
  added here there sum = rw (← here, ← there) (record { is = rw (arguments.0, arguments.1) at sum; small = abs_product k e left right })

-- ---- lifted entries

pub lifted_added : (multiplier : ℕ) {entry : ℤ} (lifted : ℤ) {s r : ℤ} → multiplier < 65536 → lifted ≡ entry +ℤ pos 32768 → nat_abs lifted ≤ 65535 → nat_abs entry ≤ 32768
    → r ≡ s +ℤ to_z w64 (of_z w64 (pos multiplier)) *ℤ to_z w64 (of_z w64 lifted) → Lifts multiplier entry s r
lifted_added multiplier {entry} lifted {s} {r} few is small entry-small sum =
    let more : Adds (65535 * 65535) (pos multiplier *ℤ lifted) s r = added (pos multiplier) lifted 65535 65535 (omega arith) small (omega arith) refl refl sum in
    record { is = rw is at more.is; small = abs_product (pos multiplier) entry {a = 65535} {b = 32768} (omega arith) entry-small }

-- a multiplier 0 adds nothing
pub adds_nothing : (most : ℕ) {k : ℕ} → k ≡ 0 → (e s : ℤ) → Adds most (pos k *ℤ e) s s
adds_nothing most h e s = rw (h, zero-*ℤ e) (record { is = sym (+ℤ_idr s); small = omega arith })

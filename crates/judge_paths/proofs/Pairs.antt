-- A test at each of n places, asked at two of them at a time, and at the last one alone where n is odd.
use Prim.Native.Nat.{ℕ, ◌+◌, ◌*◌, ◌-◌, ◌<◌}
use mathlib.Core.Path.{◌≡◌, sym, ◌∙◌}
use mathlib.Core.Bool.{Bool, true, false, ◌&&◌}
use native.Mathlib.Omega.{arith}
use borrow.Author.Count.{below_more}
use Rattle.refusal.proofs.TestLaws.{either, both_true}
use Rattle.theory_paths.specs.PathConditions.{every}
use Rattle.theory_paths.proofs.PathLaws.{every_holds, every_fails}

module _ (holds : ℕ → Bool) where
  pub two_more : (k : ℕ) → ((i : ℕ) → i < 2 * k → holds i ≡ true) → (holds (2 * k) && holds (2 * k + 1)) ≡ true
      → (i : ℕ) → i < 2 * (k + 1) → holds i ≡ true
  two_more k before both i below =
      let two = both_true (holds (2 * k)) (holds (2 * k + 1)) both in
      below_more (λ j. holds j ≡ true) (2 * k + 1) (below_more (λ j. holds j ≡ true) (2 * k) before two.0) two.1 i (omega arith)

  pub two_fail : (n k : ℕ) → 2 * k + 1 < n → (holds (2 * k) && holds (2 * k + 1)) ≡ false → every n holds ≡ false
  two_fail n k inside fails =
      either (holds (2 * k)) (λ first. every_fails n holds (2 * k + 1) inside (rw first at fails))
      (λ first. every_fails n holds (2 * k) (omega arith) first)

  pub last_decides : (n : ℕ) → 0 < n → ((i : ℕ) → i < n - 1 → holds i ≡ true) → every n holds ≡ holds (n - 1)
  last_decides n some before =
      either (holds (n - 1)) (λ last. every_holds n holds (λ i below. below_more (λ j. holds j ≡ true) (n - 1) before last i (omega arith)) ∙ sym last)
      (λ last. every_fails n holds (n - 1) (omega arith) last ∙ sym last)

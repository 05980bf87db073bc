-- A ranking's totals as the judge holds them, and what its conditions tell of them (`RankedBy`).
use Rattle.std.specs.Prelude.{ℕ, ◌≡◌, ℤ, Bool, true}
use Rattle.refusal.specs.Places.{Throughout}
use Rattle.refusal.specs.Tests.{Told}
use Rattle.judge_ranking.specs.declared.lifted.Lifted.{Lifted}
use Rattle.judge_ranking.specs.declared.lifted.Totals.{Totals}
use Rattle.judge_ranking.specs.RankedBy.{now_in_sums, next_in_sums, holds_at, column_told, columns_told, totals_told}

-- total j over A, and over A'
abbrev pub now_total : Lifted → ℕ → ℤ
now_total t j = now_in_sums t.sums.now t.lift j

abbrev pub next_total : Lifted → ℕ → ℤ
next_total t j = next_in_sums t.sums.now t.lift t.n j

-- one of the first three conditions at column j, all three at the columns before one
abbrev pub condition_holds : ℕ → Totals → ℕ → Bool
condition_holds number t = holds_at number t.y.sums.now t.y.lift t.z.sums.now t.z.lift t.y.n

abbrev pub HoldBefore : ℕ → Totals → Type 0
HoldBefore count t =
    Throughout count (λ j. (condition_holds 21 t j ≡ true) × (condition_holds 22 t j ≡ true) × (condition_holds 23 t j ≡ true))

-- what is told of one of them, of all three, and of the fourth too, with Zb
abbrev pub condition_tells : ℕ → Totals → Told
condition_tells number t = column_told number t.y.sums.now t.y.lift t.z.sums.now t.z.lift t.y.n

abbrev pub conditions_tell : Totals → Told
conditions_tell t = columns_told t.y.sums.now t.y.lift t.z.sums.now t.z.lift t.y.n

abbrev pub totals_tell : Totals → ℤ → Told
totals_tell t zb = totals_told t.y.sums.now t.y.lift t.z.sums.now t.z.lift t.y.n zb

-- Four rows more for the totals under a list of multipliers, term by term. The rows, multipliers and totals are those of `judge_sums`.
use Rattle.std.specs.Prelude.{ℕ, ◌+◌, ◌*◌, ◌<◌, List, ◌≡◌, ℤ, nat_abs}
use Rattle.endian.specs.Numbers.{little_at}
use Rattle.judge_fours.specs.declared.four.Four.{Four}
use Rattle.judge_sums.specs.Places.{entry_at, Lifts, Grown, Sided}

-- ---- multipliers

-- they lie one after another from a place on
pub record FourAt (bytes : List ℕ) (place : ℕ) (four : Four) : Type 0 where
  pub first : four.first ≡ little_at 2 bytes place
  pub second : four.second ≡ little_at 2 bytes (place + 2)
  pub third : four.third ≡ little_at 2 bytes (place + 4)
  pub fourth : four.fourth ≡ little_at 2 bytes (place + 6)

-- ---- four rows more. Their entries of one column, and their right sides, stand `stride` apart from a place on

-- a column's total
pub record LiftsFour (four : Four) (rows : List ℕ) (place stride : ℕ) (before after : ℤ) : Type 0 where
  pub one : ℤ
  pub two : ℤ
  pub three : ℤ
  pub first : Lifts four.first (entry_at rows place) before one
  pub second : Lifts four.second (entry_at rows (place + stride)) one two
  pub third : Lifts four.third (entry_at rows (place + 2 * stride)) two three
  pub fourth : Lifts four.fourth (entry_at rows (place + 3 * stride)) three after

-- the first `width` totals, for rows over n variables from a place on
abbrev pub FourAdded : Four → List ℕ → ℕ → ℕ → ℕ → List ℤ → List ℤ → Type 0
FourAdded four rows row n = Grown (λ k. LiftsFour four rows (row + 2 * k) (4 * n + 4))

-- what stands beside the columns
pub record SidedFour (four : Four) (rows : List ℕ) (place stride : ℕ) (lift right lift' right' : ℤ) : Type 0 where
  pub lift_one : ℤ
  pub lift_two : ℤ
  pub lift_three : ℤ
  pub right_one : ℤ
  pub right_two : ℤ
  pub right_three : ℤ
  pub first : Sided four.first rows place lift right lift_one right_one
  pub second : Sided four.second rows (place + stride) lift_one right_one lift_two right_two
  pub third : Sided four.third rows (place + 2 * stride) lift_two right_two lift_three right_three
  pub fourth : Sided four.fourth rows (place + 3 * stride) lift_three right_three lift' right'

-- four terms of a size more fit 64 bits
abbrev pub FourFit : ℕ → ℤ → Type 0
FourFit most sum = nat_abs sum + 4 * most < 4611686018427387904

-- What a running sum has become: one term more, or all of them. Sizes go along, so that whoever adds further knows that it fits.
use Rattle.std.specs.Prelude.{ℕ, ◌*◌, ◌≤◌, ◌<◌, ◌≡◌, ℤ, nat_abs, ◌+ℤ◌}
use Rattle.whole.specs.Sums.{total}

-- a term more fits 64 bits
abbrev pub CanGrow : ℤ → Type 0
CanGrow sum = nat_abs sum < 4611686018427387904

-- a difference of two such, and a term more, fit 64 bits
abbrev pub Modest : ℤ → Type 0
Modest sum = nat_abs sum < 1152921504606846976

-- `after` is `before` and one term, which is no larger than `most`
pub record Adds (most : ℕ) (term before after : ℤ) : Type 0 where
  pub is : after ≡ before +ℤ term
  pub small : nat_abs term ≤ most

-- `sum` is term 0 + .. + term (count - 1), and no larger than `count` times `most`
pub record SumOf (count most : ℕ) (term : ℕ → ℤ) (sum : ℤ) : Type 0 where
  pub is : sum ≡ total count term
  pub small : nat_abs sum ≤ count * most

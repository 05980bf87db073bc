-- Where a condition fails first, as a loop that goes along all places meets it: one place more, and what it tells at the end.
use Rattle.std.specs.Prelude.{Some, None}
use Rattle.std.specs.Option.{option_or}
use mathlib.Core.Path.{◌≡◌, sym, ◌∙◌}
use mathlib.Core.Bool.{Bool, true, false}
use Prim.Native.Nat.{ℕ, ◌+◌, ◌<◌}
use native.Mathlib.Omega.{arith}
use borrow.Author.Tests.{eq-eqb, ne_eqb}
use Rattle.refusal.specs.Tests.{done, refused}
use Rattle.refusal.specs.Places.{Throughout, before_failing, told_each}
use Rattle.refusal.proofs.PlaceLaws.{all-or-first, before_all, before_stays, before_grows, before_ends, told_none, told_there}
use Rattle.judge_conditions.specs.Remembered.{first_failing}

module _ (n : ℕ) (holds : ℕ → Bool) where
  is_none : before_failing n holds ≡ n → first_failing n holds ≡ None
  unfolding first_failing
  is_none h = rw (eq-eqb _ _ h)

  is_some : before_failing n holds < n → first_failing n holds ≡ Some (before_failing n holds)
  unfolding first_failing
  is_some h = rw (ne_eqb (before_failing n holds) n (λ e. omega arith))

  pub none_failing : Throughout n (λ j. holds j ≡ true) → None ≡ first_failing n holds
  none_failing all = sym (is_none (before_all n holds all))

  -- what it tells
  pub told_nothing : (number : ℕ) → None ≡ first_failing n holds → told_each number n holds ≡ done
  told_nothing number h = all-or-first n holds (told_none number n holds) (λ some. let e = is_some some in cc)

  pub told_remembered : (number r : ℕ) → Some r ≡ first_failing n holds → told_each number n holds ≡ refused number r
  told_remembered number r h =
      all-or-first n holds
      (λ all. let e = is_none all in cc)
      (λ some. let e = is_some some in let same : before_failing n holds ≡ r = cc in rw same at (told_there number n holds some))

-- one place more
module _ (n : ℕ) (holds : ℕ → Bool) where
  pub first_stays : holds n ≡ true → first_failing n holds ≡ first_failing (n + 1) holds
  first_stays here =
      all-or-first n holds
      (λ all. is_none n holds all ∙ sym (is_none (n + 1) holds (before_grows n holds all here)))
      (λ some.
      let same = before_stays n holds some in
      is_some n holds some ∙ sym (rw same at (is_some (n + 1) holds (omega arith))))

  pub first_comes : holds n ≡ false → option_or (first_failing n holds) (Some n) ≡ first_failing (n + 1) holds
  first_comes here =
      all-or-first n holds
      (λ all.
      let same = before_ends n holds all here in
      rw (is_none n holds all) (sym (rw same at (is_some (n + 1) holds (omega arith)))))
      (λ some.
      let same = before_stays n holds some in
      rw (is_some n holds some) (sym (rw same at (is_some (n + 1) holds (omega arith)))))

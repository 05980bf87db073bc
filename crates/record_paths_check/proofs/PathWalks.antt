-- A walk along paths that tests and sums at once: before each turn all paths so far passed the test.
use Rattle.std.specs.Prelude.{Result, Ok, Err}
use mathlib.Core.Path.{◌≡◌, refl, sym, ◌∙◌}
use Prim.Native.Nat.{ℕ, ◌+◌, ◌*◌, ◌≤◌, ◌<◌}
use mathlib.Core.Bool.{Bool, true, false}
use native.Mathlib.Decide.{dec_lt}
use native.Mathlib.Omega.{arith}
use borrow.Author.Tests.{eq-eqb, ne_eqb}
use Rattle.refusal.specs.declared.Fault.{Fault}
use Rattle.refusal.specs.Places.{Throughout, before_failing}
use Rattle.refusal.specs.Tests.{done, refused}
use Rattle.refusal.proofs.FaultLaws.{told_done, told_given, told_refused, gives, refuses}
use Rattle.refusal.proofs.PlaceLaws.{before_all, before_first, all-or-first, holds_before}
use Rattle.refusal.proofs.TestLaws.{never}
use Rattle.record_paths.specs.PathFields.{sum_of}
use Rattle.record_paths.proofs.PathSums.{sum_none, sum_next, sum_most}
use Rattle.record_paths_check.specs.PathChecks.{told_along, walked}

-- what a walk gives
abbrev pub given : Result ℕ Fault → Result ℕ Fault
given r = r

module _ (paths : ℕ) (holds : ℕ → Bool) (has : ℕ → ℕ) where
  pub record SoFar (j sum : ℕ) : Type 0 where
    pub inside : j ≤ paths
    pub passing : Throughout j (λ i. holds i ≡ true)
    pub summed : sum ≡ sum_of j has

  pub walk_start : SoFar 0 0
  walk_start = record { inside = omega arith; passing = λ i below. absurd (omega arith); summed = sym (sum_none has) }

  module _ (j sum : ℕ) (w : SoFar j sum) where
    pub walk_more : j < paths → holds j ≡ true → SoFar (j + 1) (sum + has j)
    walk_more below here =
        record {
          inside = omega arith;
          passing = λ i early. elim (dec_lt i j) [ yes h ↦ w.passing i h | no h ↦ let same : i ≡ j = omega arith in rw same here ];
          summed = rw (sum_next has j, w.summed);
        }

    -- a sum of small parts is small
    pub walk_small : (most : ℕ) → ((i : ℕ) → i < j → holds i ≡ true → has i ≤ most) → sum ≤ j * most
    walk_small most small = rw w.summed (sum_most has j most (λ i below. small i below (w.passing i below)))

    pub walk_stops : (number place : ℕ) → j < paths → holds j ≡ false
        → given (Err (record { number = number; place = place + 2 * j })) ≡ walked number place paths holds has
    unfolding walked told_along
    walk_stops number place below here =
        let stop = before_first paths holds j below here w.passing in
        refuses (sum_of paths has) (rw (stop, ne_eqb j paths (λ e. omega arith)))

    pub walk_ends : (number place : ℕ) → paths ≤ j → given (Ok sum) ≡ walked number place paths holds has
    unfolding walked told_along
    walk_ends number place last =
        let all : j ≡ paths = omega (arith, w.inside) in
        let every = before_all paths holds (rw all at w.passing) in
        rw (w.summed, all) (gives (sum_of paths has) (rw (every, eq-eqb paths paths refl)))

-- ---- what a walk says

module _ (number place paths : ℕ) (holds : ℕ → Bool) where
  pub along_refused : {k p : ℕ} → told_along number place paths holds ≡ refused k p
      → (before_failing paths holds < paths) × (refused number (place + 2 * before_failing paths holds) ≡ refused k p)
  unfolding told_along
  along_refused told =
      all-or-first paths holds
      (λ all. absurd (never (sym told ∙ rw (eq-eqb _ _ all))))
      (λ below. (below, sym (rw (ne_eqb (before_failing paths holds) paths (λ e. omega arith))) ∙ told))

  along_done : told_along number place paths holds ≡ done → before_failing paths holds ≡ paths
  unfolding told_along
  along_done told =
      all-or-first paths holds
      (λ all. all)
      (λ below.
      let some : told_along number place paths holds ≡ refused number (place + 2 * before_failing paths holds)
      = rw (ne_eqb (before_failing paths holds) paths (λ e. omega arith)) in
      absurd (never (sym some ∙ told)))

  module _ (has : ℕ → ℕ) where
    -- that stopped early
    pub walk_refused : (f : Fault) → given (Err f) ≡ walked number place paths holds has → told_along number place paths holds ≡ refused f.number f.place
    unfolding walked
    walk_refused f is = told_refused (told_along number place paths holds) (sum_of paths has) f is

    -- that came to the end
    module _ (sum : ℕ) (is : given (Ok sum) ≡ walked number place paths holds has) where
      pub all_pass : before_failing paths holds ≡ paths
      unfolding walked
      all_pass = along_done (told_done (told_along number place paths holds) (sum_of paths has) sum is)

      pub whole_sum : sum ≡ sum_of paths has
      unfolding walked
      whole_sum = told_given (told_along number place paths holds) (sum_of paths has) sum is

      pub whole_small : (most : ℕ) → ((i : ℕ) → i < paths → holds i ≡ true → has i ≤ most) → sum ≤ paths * most
      whole_small most small = rw whole_sum (sum_most has paths most (λ i below. small i below (holds_before paths holds i (rw all_pass below))))

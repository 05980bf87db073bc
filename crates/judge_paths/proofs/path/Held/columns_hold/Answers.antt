-- `judge_paths::Held::columns_hold` meets its contract: the columns are asked in turn, from the first on.
use Rattle.std.proofs.Common.{ℕ, zero, suc, ◌≡◌, ◌+◌, Bool, ◌&&◌, refl, ap, ◌∙◌, rules, tests, arith}
use mathlib.Core.Path.{ap₂}
use Rattle.std.specs.List.{list_all, range_with_len}
use Rattle.std.proofs.lemmas.Iterator.{YieldsList-from_range}
use Rattle.std.proofs.lemmas.Iterator.Search.{all_from_yields_List}
use Rattle.theory_paths.specs.PathConditions.{every}
use Rattle.judge_paths.specs.PathHeld.{column_meets}
use Rattle.judge_paths.proofs.path.Held.columns_hold.Goals as goal

all_in_turn : (n start : ℕ) (holds test : ℕ → Bool) → ((j : ℕ) → holds (start + j) ≡ test j) → list_all holds (range_with_len start n) ≡ every n test
unfolding every
all_in_turn zero start holds test same = refl
all_in_turn (suc n) start holds test same =
    ap₂ (λ x y. x && y) (ap holds (omega arith) ∙ same 0) (all_in_turn n (start + 1) holds (λ j. test (suc j)) (λ j. ap holds (omega arith) ∙ same (suc j)))

pub returns : goal.returns
returns c =
    let n = c.args.sums.n in
    let holds = column_meets c.args.sums c.args.self in
    all_from_yields_List holds _ _ c.all.result c.all.ensures.ran (YieldsList-from_range 0 n n refl (omega arith)) (λ x b q k. search (rules, tests))
    ∙ all_in_turn n 0 holds holds (λ j. ap holds (omega arith))

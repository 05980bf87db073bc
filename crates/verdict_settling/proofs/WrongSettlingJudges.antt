-- Wrong judges of settlings, each with a named input on which it differs from the definition: one that refuses everything, one that accepts
-- everything, one that refuses a settling because an exclusion is accepted, one that leaves the rank list, one that bounds by the rank, one whose
-- bound is smaller, and one that does not look at the rise: the curve without its fall runs for ever, so no settling is accepted for it.
use mathlib.Core.Path.{◌≡◌, refl, sym, ap, ◌∙◌}
use Prim.Native.Nat.{ℕ, ◌<◌, ◌≤◌}
use mathlib.Core.Bool.{true}
use mathlib.Core.List.{List, [], ◌∷◌}
use native.Mathlib.Omega.{arith}
use lib.IntN.{ℤ, pos, nat_abs}
use lib.ListN.{get_or}
use Rattle.refusal.specs.Tests.{done}
use Rattle.theory.specs.Conditions.{ranking_told}
use Rattle.theory.specs.Loops.{Loop, Run, Endless, over}
use Rattle.theory.specs.Rankings.{bound}
use Rattle.theory.specs.Samples.{row}
use Rattle.theory_settling.specs.SettlingSamples.{curve_settles, curve_run, curve}
use Rattle.theory_settling.specs.SettlingTable as Rows
use Rattle.theory_settling.specs.Settlings.{longer, unsettled_steps}
use Rattle.theory_settling.proofs.SettlingSampleTheorems.{curve_runs, settling_bound_attained}
use Rattle.verdict.specs.Samples.{−}
use Rattle.verdict.specs.declared.Verdict.{Verdict}
use Rattle.verdict_paths.proofs.PathVerdictEdges.{put}
use Rattle.whole.specs.Sums.{dot, Each}
use Rattle.verdict_settling.specs.AnswersByKind.{settles, pair_of, judged_by_kind, rank_by_kind, bounded_by_kind}
use Rattle.verdict_settling.specs.AnswersComputing.{computing}
use Rattle.verdict_settling.specs.SettlingJudging.{loop_of}
use Rattle.verdict_settling.specs.SettlingSampleBytes.{curve_bytes, curve_settling_bytes, curve_exclusion_bytes}
use Rattle.verdict_settling.proofs.SettlingDemands.{settling_ends_bytes}
use Rattle.verdict_settling.proofs.SettlingSamples.{three, at_0_5, too_soon_bytes, curve_answers, both_accepted}

-- the curve's settling is accepted, so a judge that refuses everything is wrong there; and one that refuses what is excluded too
pub refuses_everything : (verdict : Verdict) → (verdict.number ≡ 0 → ⊥) → verdict ≡ judged_by_kind curve_bytes curve_settling_bytes three → ⊥
refuses_everything verdict refuses h = refuses (ap (λ (a : Verdict). a.number) h ∙ both_accepted.0)

pub refuses_what_is_excluded : (judge : List ℕ → List ℕ → Verdict)
    → ((judge curve_bytes curve_exclusion_bytes).number ≡ 0 → (judge curve_bytes curve_settling_bytes).number ≡ 0 → ⊥)
    → judge curve_bytes curve_exclusion_bytes ≡ judged_by_kind curve_bytes curve_exclusion_bytes []
    → judge curve_bytes curve_settling_bytes ≡ judged_by_kind curve_bytes curve_settling_bytes three → ⊥
refuses_what_is_excluded judge never h k =
    never (ap (λ (a : Verdict). a.number) (h ∙ both_accepted.1)) (ap (λ (a : Verdict). a.number) k ∙ both_accepted.0)

-- one with its threshold too low is refused, so a judge that accepts everything is wrong there
pub accepts_everything : (verdict : Verdict) → verdict.number ≡ 0 → verdict ≡ judged_by_kind curve_bytes too_soon_bytes three → ⊥
accepts_everything verdict accepts h =
    let z : ◌≡◌ {A = ℕ} 24 0 = sym (ap (λ (a : Verdict). a.number) (h ∙ curve_answers.6)) ∙ accepts in omega arith

-- the rank is put into the list
pub untouched_list : rank_by_kind curve_bytes curve_settling_bytes three ≡ three → ⊥
untouched_list h = let z : ◌≡◌ {A = ℕ} 1 7 = ap (λ (l : List ℤ). nat_abs (get_or l 0 (pos 0))) (sym curve_answers.2 ∙ h) in omega arith

-- the rank (1, 0) from 0 down by 1 gives 1 at (0, 5), where a run takes 6 steps before the threshold
pub bounds_by_the_rank : (bound (pos 1 ∷ pos 0 ∷ []) (pos 0) (pos 1) at_0_5 ≡ 1)
    × (bound (pos 1 ∷ pos 0 ∷ []) (pos 0) (pos 1) at_0_5 ≡ (bounded_by_kind curve_bytes curve_settling_bytes at_0_5).bound → ⊥)
unfolding computing curve_bytes curve_settling_bytes
bounds_by_the_rank = (refl, λ h. let z : ◌≡◌ {A = ℕ} 1 6 = h in omega arith)

-- a smaller one is passed by a run
pub smaller_bound : (steps : ℕ) → steps < 6 → ((ys : List (List ℤ)) → Run curve at_0_5 ys → unsettled_steps curve_settles at_0_5 ys ≤ steps) → ⊥
smaller_bound steps small kept = omega (arith, kept curve_run curve_runs, settling_bound_attained.0)

-- ---- without the rise

-- y stays or falls by 1: the fourth row's right side is 0
abbrev resting_bytes : List ℕ
resting_bytes = put 4 54 0 curve_bytes

unfoldable pub resting : Loop
resting =
    over 2
    (row (− 1 ∷ pos 0 ∷ []) (pos 0 ∷ pos 0 ∷ []) (pos 0) ∷
    row (− 1 ∷ − 1 ∷ []) (pos 1 ∷ pos 0 ∷ []) (pos 0) ∷
    row (pos 1 ∷ pos 1 ∷ []) (− 1 ∷ pos 0 ∷ []) (pos 0) ∷
    row (pos 0 ∷ − 1 ∷ []) (pos 0 ∷ pos 1 ∷ []) (pos 0) ∷
    row (pos 0 ∷ pos 1 ∷ []) (pos 0 ∷ − 1 ∷ []) (pos 1) ∷ [])

resting_held : (certificate : List ℕ) → loop_of (pair_of resting_bytes certificate) ≡ resting
unfolding computing put curve_bytes resting
resting_held certificate = refl

-- (0, 0), (0, 0), ..
resting_endless : Endless resting (λ i. pos 0 ∷ pos 0 ∷ [])
unfolding resting Each dot
resting_endless i = search

-- past the threshold the ranking holds of it as of the curve; it runs for ever; and no settling at all is accepted for it
pub looks_at_the_ranking_alone :
    (ranking_told (longer resting curve_settles) curve_settles.ranking ≡ done)
    × ((certificate : List ℕ) (lent : List ℤ) → settles resting_bytes certificate ≡ true
    → (judged_by_kind resting_bytes certificate lent).number ≡ 0 → ⊥)
unfolding computing Rows.computing resting
looks_at_the_ranking_alone = (
  refl,
  λ certificate lent e h.
      settling_ends_bytes resting_bytes certificate lent e h (λ i. pos 0 ∷ pos 0 ∷ []) (rw (resting_held certificate) resting_endless),
)

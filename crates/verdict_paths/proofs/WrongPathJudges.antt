-- Wrong judges of several paths, each with a named input on which it differs from the definition: one that refuses everything, one that accepts
-- everything, one that fills the rank list, and one that judges the paths one by one: each path of ping-pong alone is a loop whose argument
-- is accepted, and the two together run for ever, so no certificate is accepted for them.
use mathlib.Core.Path.{◌≡◌, refl, sym, ap, ◌∙◌}
use Prim.Native.Nat.{ℕ}
use mathlib.Core.List.{List, [], ◌∷◌}
use native.Mathlib.Omega.{arith}
use lib.IntN.{ℤ, pos}
use Rattle.theory_paths.specs.Lexicographics.{Lexicographic}
use Rattle.theory_paths.specs.OnePath.{alone}
use Rattle.theory_paths.specs.PathSamples.{component_of, part_of, argument, x_to_y, y_to_x}
use Rattle.verdict.specs.Stages.{shows}
use Rattle.verdict.specs.declared.Outcome.TheVariants as Outcomes
use Rattle.verdict.specs.declared.Verdict.{Verdict}
use Rattle.verdict_paths.specs.JudgingByLoop.{judged, rank_judged}
use Rattle.verdict_paths.specs.JudgingComputing.{computing}
use Rattle.verdict_paths.specs.PathJudging.{path_judges}
use Rattle.verdict_paths.specs.PathSampleBytes.{two_counters_bytes, two_counters_argument_bytes, ping_pong_bytes}
use Rattle.verdict_paths.specs.PathValues.{branches_bytes, argument_bytes, making}
use Rattle.verdict_paths.proofs.PathSamples.{counters, to_and_fro, counters_accepted_back, to_and_fro_told, counters_leave_list}
use Rattle.verdict_paths.proofs.PathSamples.{ping_pong_never_accepted}

-- two counters is accepted, so a judge that refuses everything is wrong there
pub refuses_everything : (verdict : Verdict) → (verdict.number ≡ 0 → ⊥) → verdict ≡ path_judges counters → ⊥
refuses_everything verdict refuses h = refuses (ap (λ (a : Verdict). a.number) (h ∙ counters_accepted_back))

-- ping-pong is refused, so a judge that accepts everything is wrong there
pub accepts_everything : (verdict : Verdict) → verdict.number ≡ 0 → verdict ≡ path_judges to_and_fro → ⊥
accepts_everything verdict accepts h =
    let z : ◌≡◌ {A = ℕ} 53 0 = sym (ap (λ (a : Verdict). a.number) (h ∙ to_and_fro_told)) ∙ accepts in omega arith

-- one that puts anything else into a list of two places
pub fills_the_list : (after : List ℤ) → (after ≡ pos 77 ∷ pos 77 ∷ [] → ⊥)
    → after ≡ rank_judged two_counters_bytes two_counters_argument_bytes (pos 77 ∷ pos 77 ∷ []) → ⊥
fills_the_list after changed h = changed (h ∙ counters_leave_list (pos 77 ∷ pos 77 ∷ []))

-- ---- one by one

-- one component, r, that is 1 at least and falls by 1, by the first and the second row
abbrev by_guard_and_fall : List ℤ → Lexicographic
by_guard_and_fall r =
    argument (component_of r (pos 1) (pos 1) ∷ []) (part_of 0 (1 ∷ 0 ∷ 0 ∷ 0 ∷ 0 ∷ []) (0 ∷ 1 ∷ 0 ∷ 0 ∷ 0 ∷ []) [] ∷ [])

-- either path of ping-pong as a record of its own is accepted
pub each_alone :
    let first = alone 2 x_to_y in
    let second = alone 2 y_to_x in
    (judged (branches_bytes first) (argument_bytes first (by_guard_and_fall (pos 1 ∷ pos 0 ∷ []))) [] ≡ shows Outcomes.Lexicographic)
    × (judged (branches_bytes second) (argument_bytes second (by_guard_and_fall (pos 0 ∷ pos 1 ∷ []))) [] ≡ shows Outcomes.Lexicographic)
unfolding computing making
each_alone = (refl, refl)

-- so a judge that accepts a loop whenever each path alone is accepted is wrong for every certificate of ping-pong
pub one_by_one : (verdict : Verdict) → verdict.number ≡ 0 → (certificate : List ℕ) (lent : List ℤ)
    → verdict ≡ judged ping_pong_bytes certificate lent → ⊥
one_by_one verdict accepts certificate lent h =
    ping_pong_never_accepted certificate lent (sym (ap (λ (a : Verdict). a.number) h) ∙ accepts)

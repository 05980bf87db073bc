-- Wrong judges of short rankings, each with a named input on which it differs from the definition: one that refuses everything, one with a single
-- verdict, one that judges the bytes as they lie, one that leaves the rank list, one that hands back a larger bound, one that takes the triples for
-- the first rows whatever their row numbers are, and one that takes Z for Y.
use mathlib.Core.Path.{◌≡◌, sym, ap, ◌∙◌}
use Prim.Native.Nat.{ℕ, ◌<◌}
use mathlib.Core.List.{List, ◌++◌}
use native.Mathlib.Omega.{arith}
use lib.IntN.{ℤ, pos, nat_abs}
use lib.ListN.{get_or}
use Rattle.record.specs.Samples as Records
use Rattle.record.proofs.EdgeInputs.{two, four, filed}
use Rattle.record_short.proofs.ShortEdges.{S1-short, triple, short}
use Rattle.verdict.specs.Judging.{judges, judge_of}
use Rattle.verdict.specs.Samples.{P}
use Rattle.verdict.specs.declared.Verdict.{Verdict}
use Rattle.verdict_short.specs.Answers.{answered, rank_answered, bounded_answered}
use Rattle.verdict_short.specs.AnswersComputing.{computing}
use Rattle.verdict_short.proofs.ShortSamples.{none_short, second_short, three, at_5_1, S1-short-answers, refused_short_answers}

number_of : {a b : Verdict} → a ≡ b → a.number ≡ b.number
number_of e = ap (λ (v : Verdict). v.number) e

-- S1 is accepted as a short ranking, so a judge that refuses everything is wrong there, and so is one that refuses kind 7 with 4
pub refuses_everything : (verdict : Verdict) → (verdict.number ≡ 0 → ⊥) → verdict ≡ answered P S1-short three → ⊥
refuses_everything verdict refuses h = refuses (number_of (h ∙ S1-short-answers.1))

-- and one without triples is not, so no single verdict serves both
pub one_verdict : (verdict : Verdict) → verdict ≡ answered P S1-short three → verdict ≡ answered P none_short three → ⊥
one_verdict verdict h k =
    let z : ◌≡◌ {A = ℕ} 0 24 = sym (number_of (h ∙ S1-short-answers.1)) ∙ number_of (k ∙ refused_short_answers.0) in omega arith

-- as it lies its kind is not wanted
pub judged_as_it_lies : judges (judge_of P S1-short three) ≡ answered P S1-short three → ⊥
unfolding computing S1-short P Records.P
judged_as_it_lies h = let z : ◌≡◌ {A = ℕ} 4 0 = number_of h in omega arith

-- the rank is put into the list
pub untouched_list : rank_answered P S1-short three ≡ three → ⊥
untouched_list h = let z : ◌≡◌ {A = ℕ} 1 7 = ap (λ (l : List ℤ). nat_abs (get_or l 0 (pos 0))) (sym S1-short-answers.2 ∙ h) in omega arith

-- the bound at (5, 1) is 3 and no larger
pub made_up_bound : (bound : ℕ) → 3 < bound → bound ≡ (bounded_answered P S1-short at_5_1).bound → ⊥
unfolding computing S1-short P Records.P
made_up_bound bound large h = omega arith

-- rows 0 and 1 fail in column 1, rows 0 and 2 with the same multipliers in column 0
pub rows_left_out : (judge : List ℕ → List ℕ → Verdict) → judge P second_short ≡ judge P (short 2 (triple 0 1 0 ++ triple 2 0 1))
    → ((certificate : List ℕ) → judge P certificate ≡ answered P certificate three) → ⊥
unfolding computing two four filed triple short second_short P Records.P
rows_left_out judge same right =
    let z : ◌≡◌ {A = ℕ} 1 0 =
    ap (λ (v : Verdict). v.place) (sym (right second_short) ∙ (same ∙ right (short 2 (triple 0 1 0 ++ triple 2 0 1)))) in
    omega arith

-- row 1 under Z alone fails in (Y - Z)A, under Y alone in YA'
pub weights_exchanged : (judge : List ℕ → List ℕ → Verdict) → judge P (short 1 (triple 1 0 1)) ≡ judge P (short 1 (triple 1 1 0))
    → ((certificate : List ℕ) → judge P certificate ≡ answered P certificate three) → ⊥
unfolding computing two four filed triple short P Records.P
weights_exchanged judge same right =
    let z : ◌≡◌ {A = ℕ} 22 21 = number_of (sym (right (short 1 (triple 1 0 1))) ∙ (same ∙ right (short 1 (triple 1 1 0)))) in omega arith

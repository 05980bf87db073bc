-- The wrong judges that 01 lists, each with a named input on which it differs from the definition: one that refuses everything, one with a single
-- verdict, one that hands back a large made-up bound, and one that leaves the rank list untouched.
use mathlib.Core.Path.{◌≡◌, refl, sym, ap, ◌∙◌}
use Prim.Native.Nat.{ℕ, ◌<◌}
use mathlib.Core.List.{List, [], ◌∷◌}
use native.Mathlib.Omega.{arith}
use lib.IntN.{ℤ, pos, nat_abs}
use lib.ListN.{get_or}
use Rattle.record.specs.Contents.{ranking_values}
use Rattle.record.specs.Samples as Records
use Rattle.verdict.specs.Bounding.{bounds, bound_of}
use Rattle.verdict.specs.Computing.{computing}
use Rattle.verdict.specs.Judging.{judges, rank_after, judge_of}
use Rattle.verdict.specs.Samples.{P, S1, S3, ranking_bytes}
use Rattle.verdict.specs.declared.Verdict.{Verdict}

-- a rank list of two places
abbrev pub two_places : List ℤ
two_places = pos 77 ∷ pos 77 ∷ []

accepts_S1 : (judges (judge_of P S1 two_places)).number ≡ 0
unfolding computing P S1 Records.P Records.S1
accepts_S1 = refl

refuses_S3 : (judges (judge_of P S3 two_places)).number ≡ 24
unfolding computing P S3 Records.P ranking_bytes ranking_values
refuses_S3 = refl

-- S1 is accepted, so a judge that refuses everything is wrong there
pub refuses_everything : (verdict : Verdict) → (verdict.number ≡ 0 → ⊥) → verdict ≡ judges (judge_of P S1 two_places) → ⊥
refuses_everything verdict refuses h = refuses (ap (λ (a : Verdict). a.number) h ∙ accepts_S1)

-- S1 is accepted and S3 is not, so no single verdict serves both
pub one_verdict : (verdict : Verdict) → verdict ≡ judges (judge_of P S1 two_places) → verdict ≡ judges (judge_of P S3 two_places) → ⊥
one_verdict verdict h k =
    let z : ◌≡◌ {A = ℕ} 0 24 = sym (ap (λ (a : Verdict). a.number) h ∙ accepts_S1) ∙ (ap (λ (a : Verdict). a.number) k ∙ refuses_S3) in
    omega arith

-- the bound at (5, 1) is 3 and no larger
pub made_up_bound : (bound : ℕ) → 3 < bound → bound ≡ (bounds (bound_of P S1 (pos 5 ∷ pos 1 ∷ []))).bound → ⊥
unfolding computing P S1 Records.P Records.S1
made_up_bound bound large h = omega arith

-- S1's rank is put into the list
pub untouched_list : rank_after (judge_of P S1 two_places) two_places ≡ two_places → ⊥
unfolding computing P S1 Records.P Records.S1
untouched_list h = let z : ◌≡◌ {A = ℕ} 1 77 = ap (λ (l : List ℤ). nat_abs (get_or l 0 (pos 0))) h in omega arith

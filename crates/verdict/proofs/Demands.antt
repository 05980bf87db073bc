-- Demand 3 about bytes: what follows, by the theory, when judging accepts a certificate's bytes for a loop's bytes. The loop is the one that its bytes
-- hold (`loop_in`); runs and steps are those of the theory, over whole numbers of any size.
use mathlib.Core.Path.{◌≡◌, refl, sym, ap, ◌∙◌}
use Prim.Native.Nat.{ℕ, ◌≤◌}
use mathlib.Core.Bool.{Bool, true, false}
use mathlib.Core.List.{List}
use native.Mathlib.Omega.{arith}
use lib.IntN.{ℤ, pos}
use lib.ListN.{length}
use Rattle.whole.specs.Sums.{Each, NonNeg}
use Rattle.whole.proofs.EachLaws.{each_then}
use Rattle.whole.proofs.Solve.{v, le_fact}
use Rattle.record.specs.Contents.{In}
use Rattle.record.specs.Layouts.{ranking, exclusion, lasso}
use Rattle.record.specs.Ranges.{◌to◌, multipliers, scales}
use Rattle.record.specs.Readers.{counts_read, sound}
use Rattle.record.proofs.KindLaws.{wanted_no_loop}
use Rattle.record.proofs.SoundRecords.{Sound, sound_says, arguments_read}
use Rattle.refusal.specs.Tests.{done, number, first}
use Rattle.refusal.proofs.TestLaws.{number_avoided}
use Rattle.verdict.proofs.StageLaws.{silent_said}
use Rattle.theory.specs.Exclusions as Exclusions
use Rattle.theory.specs.Lassos as Lassos
use Rattle.theory.specs.Loops.{Loop, Step, Run}
use Rattle.theory.specs.Rankings as Rankings
use Rattle.theory.proofs.ExclusionTheorems.{exclusion_excludes, not_both}
use Rattle.theory.proofs.LassoTheorems.{lasso_bounds_runs}
use Rattle.theory.proofs.RankingTheorems.{ranking_bounds_runs}
use Rattle.verdict.specs.Contents.{loop_in, ranking_in, exclusion_in, lasso_in, parts}
use Rattle.verdict.specs.Judging.{Judging, judges, judge_of, certificates_judged}
use Rattle.verdict.specs.Outcomes.{grade_of}
use Rattle.verdict.specs.Pairs.{Pair, loop_record, certificate_record, pair_kind}
use Rattle.verdict.specs.declared.Grade.TheVariants.{Whole, Fractions}
use Rattle.verdict.specs.Bounding.{Bounding, given_state, bounding, bounds, bound_of}
use Rattle.verdict.specs.StateTests.{state_tests}
use Rattle.verdict.proofs.BoundAnswers.{number_bounded, invariant_holds, bounded_exactly_when_ranking, bounded_exactly_when_lasso, ranking_bound_is, lasso_bound_is}
use Rattle.verdict.proofs.Accepted.{lasso_conditions, accepted_exactly_when_ranking, accepted_exactly_when_exclusion, accepted_exactly_when_lasso}
use Rattle.verdict.proofs.ConditionLaws.{conditions_silent}
use Rattle.verdict.proofs.PartsInRange.{ranking_parts, exclusion_parts, lasso_parts}

-- ---- what the ranges give

pub nonneg_all : (zs : List ℤ) → Each (In multipliers) zs → Each NonNeg zs
unfolding multipliers ◌to◌
nonneg_all zs h = each_then (In multipliers) NonNeg zs (λ z in_range. in_range.least) h

-- a scale is at least 1
pub scale_positive : (k : ℕ) → In scales (pos k) → 1 ≤ k
unfolding scales ◌to◌
scale_positive k h = omega (arith, le_fact (v (pos 1)) (v (pos k)) h.least)

-- ---- the records of a judge

-- a certificate goes by the loop's counts
pub same_counts : (l c : List ℕ) → Sound (certificate_record certificates_judged (loop_record l) c)
    → ((counts_read (certificate_record certificates_judged (loop_record l) c)).n ≡ (counts_read (loop_record l)).n)
    × ((counts_read (certificate_record certificates_judged (loop_record l) c)).m ≡ (counts_read (loop_record l)).m)
unfolding certificate_record
same_counts l c s = arguments_read (certificate_record certificates_judged (loop_record l) c) (wanted_no_loop _ _ s.wanted)

-- the grade is whole only where the step is
whole_grade : (c : Exclusions.Exclusion) → grade_of c ≡ Whole → Exclusions.step_is_whole c ≡ true
unfolding grade_of
whole_grade c h = by_test (Exclusions.step_is_whole c) refl
  where
    other_grade : Fractions ≡ Whole → ⊥
    other_grade e = let z : ◌≡◌ {A = ℕ} 0 1 = cc in omega arith

    by_test : (t : Bool) → Exclusions.step_is_whole c ≡ t → Exclusions.step_is_whole c ≡ true
    by_test true e = e
    by_test false e = absurd (other_grade (rw e at h))

-- what the theory asks of an exclusion
record ExclusionFacts (l : Loop) (d : Exclusions.Exclusion) : Type 0 where
  size : Exclusions.OfSize l d
  positive : 1 ≤ d.q
  holds : Exclusions.ExclusionHolds l d

-- ---- of any sound certificate

module _ (p : Pair) (certificate_sound : first sound p.certificate_is ≡ done) where
  -- multipliers are not below 0
  pub ranking_nonneg : pair_kind p ≡ ranking → Rankings.NonNegative (ranking_in p.certificate_is)
  unfolding pair_kind
  ranking_nonneg e =
      let Parts-in = ranking_parts p.certificate_is (sound_says _ certificate_sound) e in
      (nonneg_all _ Parts-in.Y-in.each, nonneg_all _ Parts-in.Z-in.each)

  -- a lasso that meets its conditions keeps its promise
  pub lasso_promise : pair_kind p ≡ lasso → Lassos.LassoHolds (loop_in p.loop_is) (lasso_in p.certificate_is)
      → let l = loop_in p.loop_is in let c = lasso_in p.certificate_is in
      Lassos.LassoPromise l c (Rankings.rank (Lassos.longer l c) c.ranking) (Rankings.start (Lassos.longer l c) c.ranking) (Rankings.fall (Lassos.longer l c) c.ranking)
  unfolding pair_kind parts
  lasso_promise e holds =
      let p_in = lasso_parts p.certificate_is (sound_says _ certificate_sound) e in
      lasso_bounds_runs _ _
      (nonneg_all _ p_in.T-in.each, nonneg_all _ p_in.H-in.each, (nonneg_all _ p_in.Y-in.each, nonneg_all _ p_in.Z-in.each))
      (scale_positive _ p_in.k_in) (scale_positive _ p_in.k2_in) holds

-- ---- accepted by judging

module _ (l c : List ℕ) (lent : List ℤ) where
  abbrev j : Judging
  j = judge_of l c lent

  -- an accepted ranking: no run has more steps than the bound of its first state, and none is endless
  pub ranking_ends : pair_kind j.records ≡ ranking → (judges j).number ≡ 0
      → let loop_is = loop_in j.records.loop_is in let ranks = ranking_in j.records.certificate_is in
      Rankings.Bounds loop_is (λ x. Unit {0}) (Rankings.rank loop_is ranks) (Rankings.start loop_is ranks) (Rankings.fall loop_is ranks)
  ranking_ends e h =
      let a = (accepted_exactly_when_ranking j e).0 h in
      ranking_bounds_runs _ _ (ranking_nonneg j.records a.both_sound.certificate_sound e) a.holds

  -- an accepted lasso: the same from the x' of every stem step, which meets the invariant
  pub lasso_ends : pair_kind j.records ≡ lasso → (judges j).number ≡ 0
      → let loop_is = loop_in j.records.loop_is in let c = lasso_in j.records.certificate_is in
      Lassos.LassoPromise loop_is c (Rankings.rank (Lassos.longer loop_is c) c.ranking) (Rankings.start (Lassos.longer loop_is c) c.ranking) (Rankings.fall (Lassos.longer loop_is c) c.ranking)
  lasso_ends e h =
      let a = (accepted_exactly_when_lasso j e).0 h in
      lasso_promise j.records a.both_sound.certificate_sound e a.holds

  exclusion_facts : pair_kind j.records ≡ exclusion → (judges j).number ≡ 0 → ExclusionFacts (loop_in j.records.loop_is) (exclusion_in j.records.certificate_is)
  unfolding pair_kind judge_of loop_in
  exclusion_facts e h =
      let a = (accepted_exactly_when_exclusion j e).0 h in
      let s = sound_says _ a.both_sound.certificate_sound in
      let p = exclusion_parts j.records.certificate_is s e in
      let n_same = (same_counts l c s).0 in
      record {
        size = record { U-entries = p.U-in.counted ∙ n_same; V-entries = p.V-in.counted ∙ n_same; W-entries = p.W-in.counted ∙ n_same };
        positive = scale_positive _ p.q_in;
        holds = a.holds;
      }

  -- an accepted exclusion: no linear ranking function over fractions, nor over whole numbers if its grade is whole
  pub exclusion_rules_out : pair_kind j.records ≡ exclusion → (judges j).number ≡ 0
      → ((r : List ℤ) (δ0 δ : ℤ) → Rankings.RanksFractions (loop_in j.records.loop_is) r δ0 δ → ⊥)
      × (grade_of (exclusion_in j.records.certificate_is) ≡ Whole → (r : List ℤ) (δ0 δ : ℤ) → Rankings.RanksWhole (loop_in j.records.loop_is) r δ0 δ → ⊥)
  exclusion_rules_out e h =
      let f = exclusion_facts e h in
      let out = exclusion_excludes _ _ f.size f.positive f.holds in
      (out.0, λ whole. out.1 (whole_grade _ whole))

-- no loop's bytes have both a ranking and an exclusion accepted
pub never_both : (l c d : List ℕ) (lent lent' : List ℤ)
    → pair_kind (judge_of l c lent).records ≡ ranking → (judges (judge_of l c lent)).number ≡ 0
    → pair_kind (judge_of l d lent').records ≡ exclusion → (judges (judge_of l d lent')).number ≡ 0 → ⊥
unfolding judge_of
never_both l c d lent lent' e h e' h' =
    let a = (accepted_exactly_when_ranking (judge_of l c lent) e).0 h in
    let g = exclusion_facts l d lent' e' h' in
    not_both _ _ _ (ranking_nonneg (judge_of l c lent).records a.both_sound.certificate_sound e) a.holds g.size g.positive g.holds

-- ---- accepted by the bound call

module _ (l c : List ℕ) (state : List ℤ) where
  abbrev b : Bounding
  b = bound_of l c state

  -- no run from the state has more steps than the bound that is told
  pub ranking_bound_kept : pair_kind b.records ≡ ranking → (bounds b).verdict.number ≡ 0
      → (ys : List (List ℤ)) → Run (loop_in b.records.loop_is) state ys → length ys ≤ (bounds b).bound
  unfolding ranking_in bound_of
  ranking_bound_kept e h ys run =
      let a = (bounded_exactly_when_ranking b e).0 h in
      rw (ranking_bound_is b e h) ((ranking_bounds_runs _ _ (ranking_nonneg b.records a.both_sound.certificate_sound e) a.holds).steps state ys tt run)

  -- of a lasso, from a state that meets the invariant, as the bound call tests
  pub lasso_bound_kept : pair_kind b.records ≡ lasso → (bounds b).verdict.number ≡ 0
      → (ys : List (List ℤ)) → Run (loop_in b.records.loop_is) state ys → length ys ≤ (bounds b).bound
  unfolding bound_of
  lasso_bound_kept e h ys run =
      let a = (bounded_exactly_when_lasso b e).0 h in
      rw (lasso_bound_is b e h) ((lasso_promise b.records a.both_sound.certificate_sound e a.holds).from_invariant.steps state ys a.starts run)

  -- the x' of a stem step is never refused with 11
  pub after_stem_never_11 : pair_kind b.records ≡ lasso
      → (x : List ℤ) → Step (Lassos.stem_of (loop_in b.records.loop_is) (lasso_in b.records.certificate_is)) 1 x state
      → (bounds b).verdict.number ≡ 11 → ⊥
  unfolding bounding sound state_tests bound_of number
  after_stem_never_11 e x after h =
      silent_said 11 bounding b (λ z. omega arith) (
        number_avoided 11 sound b.records.loop_is (λ z. omega arith) refl,
        λ loop_sound. (
          number_avoided 11 sound b.records.certificate_is (λ z. omega arith) refl,
          λ certificate_sound. (
            number_avoided 11 state_tests (given_state b) (λ z. omega arith) refl,
            λ state_done. (
              conditions_silent b.records 11 (λ z. omega arith) (omega arith),
              λ conditions_done. (
                λ told_11.
                    let holds = (lasso_conditions b.records e).0 conditions_done in
                    let meets = (lasso_promise b.records certificate_sound e holds).started x state after in
                    absurd (let z : 0 ≡ 11 = sym (ap number ((invariant_holds b e).1 meets)) ∙ told_11 in omega arith),
                λ told_done. tt,
              ),
            ),
          ),
        ),
      )
      (number_bounded b ∙ h)

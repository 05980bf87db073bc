-- Demand 3 about bytes, for kind 8: where the bound call answers 0, no run from the state has more steps from states where g·x < t than the bound
-- that is told; where judging or bound answers 0, or shows a settling, no run of the loop goes on for ever, and from a state where g·x >= t the
-- rank, start and fall that are told bound the steps that are left. The loop and the settling are those that the bytes hold; runs are over whole
-- numbers of any size. And a loop of kind 5 is neither judged nor bounded with a settling.
use mathlib.Core.Path.{◌≡◌, refl, sym, ap, ◌∙◌}
use Prim.Native.Nat.{ℕ, ◌≤◌}
use mathlib.Core.Bool.{true, false, false≢true}
use mathlib.Core.List.{List, []}
use native.Mathlib.Omega.{arith}
use lib.Dec.{eqb}
use lib.IntN.{ℤ}
use lib.ListN.{length, take, drop}
use lib.Seq.{take_at}
use borrow.Author.Tests.{eq-eqb, eqb-true}
use Rattle.endian.specs.Numbers.{little_at}
use Rattle.refusal.specs.Tests.{done, refused, first}
use Rattle.refusal.proofs.TestLaws.{either, failed, first_then}
use Rattle.record.specs.Layouts.{Kind, loop, ranking, exclusion, lasso, other, kind_of, is_loop}
use Rattle.record.specs.Readers.{kind_number, kind, framing, sound}
use Rattle.record_paths.specs.PathFields.{bytes_alone}
use Rattle.record_paths.specs.PathLoops.{sound_paths}
use Rattle.record_paths.proofs.PathsSound.{paths_sound}
use Rattle.theory.specs.Loops.{Run, Endless}
use Rattle.theory.specs.Rankings.{rank, start, fall, bound}
use Rattle.theory_settling.specs.Settlings.{SettlingHolds, SettlingPromise, Settled, longer, unsettled_steps}
use Rattle.theory_settling.proofs.SettlingTheorems.{settling_promise}
use Rattle.verdict.specs.Bounding.{Bounding, bounding, bounded, bounds, bound_of}
use Rattle.verdict.specs.Claims.{ranking_claim, exclusion_claim, lasso_claim, no_claim}
use Rattle.verdict.specs.Contents.{loop_in}
use Rattle.verdict.specs.Judging.{Judging, judging, judges}
use Rattle.verdict.specs.Pairs.{Pair, loop_record, claim, outcome_of}
use Rattle.verdict.specs.Stages.{Said, agreed, refusal, said, refusal_of, verdict_of}
use Rattle.verdict.specs.declared.Bounded.{Bounded}
use Rattle.verdict.specs.declared.Outcome.{Outcome}
use Rattle.verdict.specs.declared.Outcome.TheVariants as Outcomes
use Rattle.verdict.specs.declared.Verdict.{Verdict}
use Rattle.verdict.proofs.StageLaws.{stage_refused}
use Rattle.verdict.proofs.ToldExactly.{bounded_verdict}
use Rattle.verdict_paths.specs.JudgingByLoop.{of_paths, judged}
use Rattle.verdict_paths.specs.PathJudging.{PathPair, path_judging, path_judges}
use Rattle.verdict_paths.proofs.PathDemands.{Framed, framed_passes, paths_with_another, by_paths, by_rows}
use Rattle.whole.proofs.Tables.{length_tabulate}
use Rattle.verdict_settling.specs.AnswersByKind.{of_settling, settles, pair_of, judging_of, bounding_of}
use Rattle.verdict_settling.specs.AnswersByKind.{judged_by_kind, rank_by_kind, bounded_by_kind}
use Rattle.verdict_settling.specs.SettlingJudging.{SettlingPair, variables_of, loop_of, settling_of, settling_rank}
use Rattle.verdict_settling.specs.SettlingJudging.{SettlingJudging, settling_judges}
use Rattle.verdict_settling.specs.SettlingJudging.{SettlingBounding, settling_bounding, settling_bounds}
use Rattle.verdict_settling.proofs.SettlingAccepted.{SettlingSound, settling_accepted_exactly_when, settling_bounded_exactly_when}
use Rattle.verdict_settling.proofs.SettlingAccepted.{settling_answers, settling_bound_is, refused_settling, refused_settling_bound}
use Rattle.verdict_settling.proofs.SettlingBridges.{judged_settling, judged_as_before, bounded_settling, bounded_as_before}
use Rattle.verdict_settling.proofs.SettlingBridges.{paths_no_settles}
use Rattle.verdict_settling.proofs.SettlingInRange.{sound_nonneg, sound_scale}

-- ---- the promise, of a pair

-- with the rank, start and fall of the loop with the added row
abbrev pub Promised : SettlingPair → Type 0
Promised p =
    let l = longer (loop_of p) (settling_of p) in
    let c = (settling_of p).ranking in
    SettlingPromise (loop_of p) (settling_of p) (rank l c) (start l c) (fall l c)

promised : (p : SettlingPair) → SettlingSound p → SettlingHolds (loop_of p) (settling_of p) → Promised p
promised p s holds = settling_promise (loop_of p) (settling_of p) (sound_nonneg p s) (sound_scale p s) holds

pub judged_promise : (j : SettlingJudging) → (settling_judges j).number ≡ 0 → Promised j.records
judged_promise j h = let a = (settling_accepted_exactly_when j).0 h in promised j.records a.both_sound a.holds

pub bounded_promise : (b : SettlingBounding) → (settling_bounds b).verdict.number ≡ 0 → Promised b.records
bounded_promise b h = let a = (settling_bounded_exactly_when b).0 h in promised b.records a.both_sound a.holds

-- ---- an outcome shown is one of the kind judged

no_settling : {δ0 δ : ℤ} → Outcomes.Nothing ≡ Outcomes.Settling δ0 δ → ⊥
no_settling e = let z : ◌≡◌ {A = ℕ} 0 1 = cc in omega arith

-- no certificate of kinds 1 to 4 shows a settling
no_claim_settling : (k : Kind) (p : Pair) (δ0 δ : ℤ) → outcome_of k p ≡ Outcomes.Settling δ0 δ → ⊥
unfolding outcome_of claim ranking_claim exclusion_claim lasso_claim no_claim
no_claim_settling loop p δ0 δ e = no_settling e
no_claim_settling ranking p δ0 δ e = let z : ◌≡◌ {A = ℕ} 0 1 = cc in omega arith
no_claim_settling exclusion p δ0 δ e = let z : ◌≡◌ {A = ℕ} 0 1 = cc in omega arith
no_claim_settling lasso p δ0 δ e = let z : ◌≡◌ {A = ℕ} 0 1 = cc in omega arith
no_claim_settling other p δ0 δ e = no_settling e

-- what is said shows the outcome or nothing
said_never_settling : (s : Said) (o : Outcome) (δ0 δ : ℤ) → (o ≡ Outcomes.Settling δ0 δ → ⊥) → (verdict_of s o).outcome ≡ Outcomes.Settling δ0 δ → ⊥
unfolding verdict_of
said_never_settling agreed o δ0 δ none e = none e
said_never_settling (refusal about k q) o δ0 δ none e = no_settling e

rows_never_settling : (j : Judging) (δ0 δ : ℤ) → (judges j).outcome ≡ Outcomes.Settling δ0 δ → ⊥
unfolding judges
rows_never_settling j δ0 δ h = said_never_settling (said judging j) _ δ0 δ (no_claim_settling _ j.records δ0 δ) h

bounds_never_settling : (b : Bounding) (δ0 δ : ℤ) → (bounds b).verdict.outcome ≡ Outcomes.Settling δ0 δ → ⊥
unfolding bounds
bounds_never_settling b δ0 δ h =
    said_never_settling (said bounding b) _ δ0 δ (no_claim_settling _ b.records δ0 δ)
    (ap (λ (v : Verdict). v.outcome) (sym (bounded_verdict (said bounding b) _ _)) ∙ h)

paths_never_settling : (p : PathPair) (δ0 δ : ℤ) → (path_judges p).outcome ≡ Outcomes.Settling δ0 δ → ⊥
unfolding path_judges
paths_never_settling p δ0 δ h =
    said_never_settling (said path_judging p) _ δ0 δ (λ e. let z : ◌≡◌ {A = ℕ} 0 1 = cc in omega arith) h

judged_never_settling : (loopbytes certificate : List ℕ) (lent : List ℤ) (δ0 δ : ℤ)
    → (judged loopbytes certificate lent).outcome ≡ Outcomes.Settling δ0 δ → ⊥
judged_never_settling l c lent δ0 δ h =
    either (of_paths l)
    (λ e. paths_never_settling _ δ0 δ (rw (by_paths l c lent e).0 at h))
    (λ e. rows_never_settling _ δ0 δ (rw (by_rows l c lent e).0 at h))

-- what is shown is accepted
shown_accepted : (j : SettlingJudging) (δ0 δ : ℤ) → (settling_judges j).outcome ≡ Outcomes.Settling δ0 δ → (settling_judges j).number ≡ 0
shown_accepted j δ0 δ h =
    either (eqb (settling_judges j).number 0)
    (λ e. eqb-true _ _ e)
    (λ e. absurd (no_settling (sym (refused_settling j [] (λ z. false≢true (sym e ∙ eq-eqb _ _ z))).0 ∙ h)))

shown_bounded : (b : SettlingBounding) (δ0 δ : ℤ) → (settling_bounds b).verdict.outcome ≡ Outcomes.Settling δ0 δ
    → (settling_bounds b).verdict.number ≡ 0
shown_bounded b δ0 δ h =
    either (eqb (settling_bounds b).verdict.number 0)
    (λ e. eqb-true _ _ e)
    (λ e. absurd (no_settling (sym (refused_settling_bound b (λ z. false≢true (sym e ∙ eq-eqb _ _ z))).0 ∙ h)))

-- and is that start and fall
same_shown : {a b c d : ℤ} → Outcomes.Settling a b ≡ Outcomes.Settling c d → (a ≡ c) × (b ≡ d)
same_shown e = (cc, cc)

-- ---- of judging's answer

module _ (loopbytes certificate : List ℕ) (lent : List ℤ) where
  abbrev pair : SettlingPair
  pair = pair_of loopbytes certificate

  -- from the number 0: the promise, and so no run is endless
  pub accepted_settling_promise : settles loopbytes certificate ≡ true → (judged_by_kind loopbytes certificate lent).number ≡ 0 → Promised pair
  accepted_settling_promise e h =
      judged_promise (judging_of loopbytes certificate lent) (rw (judged_settling loopbytes certificate lent e).0 at h)

  pub settling_ends_bytes : settles loopbytes certificate ≡ true → (judged_by_kind loopbytes certificate lent).number ≡ 0
      → (state : ℕ → List ℤ) → Endless (loop_of pair) state → ⊥
  settling_ends_bytes e h = (accepted_settling_promise e h).ends

  -- a settling is shown of what is judged as one, and accepted
  pub shown_settles : (δ0 δ : ℤ) → (judged_by_kind loopbytes certificate lent).outcome ≡ Outcomes.Settling δ0 δ
      → (settles loopbytes certificate ≡ true) × ((judged_by_kind loopbytes certificate lent).number ≡ 0)
  shown_settles δ0 δ h =
      either (settles loopbytes certificate)
      (λ e.
      let answer = (judged_settling loopbytes certificate lent e).0 in
      (e, rw answer (shown_accepted (judging_of loopbytes certificate lent) δ0 δ (rw answer at h))))
      (λ e. absurd (judged_never_settling loopbytes certificate lent δ0 δ (rw (judged_as_before loopbytes certificate lent e).0 at h)))

  -- so an accepted answer that shows anything else is of older kinds
  pub accepted_as_before : ((δ0 δ : ℤ) → (judged_by_kind loopbytes certificate lent).outcome ≡ Outcomes.Settling δ0 δ → ⊥)
      → (judged_by_kind loopbytes certificate lent).number ≡ 0 → settles loopbytes certificate ≡ false
  accepted_as_before none h =
      either (settles loopbytes certificate)
      (λ e.
      let answer = (judged_settling loopbytes certificate lent e).0 in
      let shows_it = (settling_answers (judging_of loopbytes certificate lent) lent (rw answer at h)).verdict_is in
      absurd (none _ _ (ap (λ (a : Verdict). a.outcome) (answer ∙ shows_it))))
      (λ e. e)

  -- the rank is what the list's first n are
  rank_told : settles loopbytes certificate ≡ true → (judged_by_kind loopbytes certificate lent).number ≡ 0
      → take (variables_of pair) (rank_by_kind loopbytes certificate lent) ≡ settling_rank pair
  unfolding settling_rank rank variables_of loop_of loop_in
  rank_told e h =
      let by = judged_settling loopbytes certificate lent e in
      let a = settling_answers (judging_of loopbytes certificate lent) lent (rw by.0 at h) in
      rw (by.1, a.list_is) (take_at _ _ _ (length_tabulate _ _))

  -- from the outcome alone: the promise with the start and fall that are shown and the rank that the list holds
  pub shown_settling_promise : (δ0 δ : ℤ) → (judged_by_kind loopbytes certificate lent).outcome ≡ Outcomes.Settling δ0 δ
      → SettlingPromise (loop_of pair) (settling_of pair) (take (variables_of pair) (rank_by_kind loopbytes certificate lent)) δ0 δ
  unfolding settling_rank
  shown_settling_promise δ0 δ h =
      let (e, zero_told) = shown_settles δ0 δ h in
      let answer = (judged_settling loopbytes certificate lent e).0 in
      let told = (settling_answers (judging_of loopbytes certificate lent) lent (rw answer at zero_told)).verdict_is in
      let same = same_shown (sym h ∙ ap (λ (a : Verdict). a.outcome) (answer ∙ told)) in
      rw (rank_told e zero_told, same.0, same.1) (accepted_settling_promise e zero_told)

  pub shown_settling_ends : (δ0 δ : ℤ) → (judged_by_kind loopbytes certificate lent).outcome ≡ Outcomes.Settling δ0 δ
      → (state : ℕ → List ℤ) → Endless (loop_of pair) state → ⊥
  shown_settling_ends δ0 δ h = (shown_settling_promise δ0 δ h).ends

  -- from a state where g·x >= t, no more steps are left than by the rank, start and fall that are told
  pub settled_rest_bounded : (δ0 δ : ℤ) → (judged_by_kind loopbytes certificate lent).outcome ≡ Outcomes.Settling δ0 δ
      → (x : List ℤ) (ys : List (List ℤ)) → Settled (settling_of pair) x → Run (loop_of pair) x ys
      → length ys ≤ bound (take (variables_of pair) (rank_by_kind loopbytes certificate lent)) δ0 δ x
  settled_rest_bounded δ0 δ h = (shown_settling_promise δ0 δ h).rest_bounded

-- ---- of bound's answer

module _ (loopbytes certificate : List ℕ) (state : List ℤ) where
  abbrev the_pair : SettlingPair
  the_pair = pair_of loopbytes certificate

  pub bounded_settling_promise : of_settling certificate ≡ true → (bounded_by_kind loopbytes certificate state).verdict.number ≡ 0 → Promised the_pair
  bounded_settling_promise e h =
      bounded_promise (bounding_of loopbytes certificate state) (rw (bounded_settling loopbytes certificate state e) at h)

  -- "from x, at most t - g·x steps (0 if that is negative) are taken from states where g·x < t": no more than the bound that is told
  pub settling_bound_kept : of_settling certificate ≡ true → (bounded_by_kind loopbytes certificate state).verdict.number ≡ 0
      → (ys : List (List ℤ)) → Run (loop_of the_pair) state ys
      → unsettled_steps (settling_of the_pair) state ys ≤ (bounded_by_kind loopbytes certificate state).bound
  settling_bound_kept e h ys run =
      let answer = bounded_settling loopbytes certificate state e in
      let told = settling_bound_is (bounding_of loopbytes certificate state) (rw answer at h) in
      rw (answer, told) ((bounded_settling_promise e h).settles state ys run)

  -- "and no run goes on for ever"
  pub settling_ends_bound : of_settling certificate ≡ true → (bounded_by_kind loopbytes certificate state).verdict.number ≡ 0
      → (states : ℕ → List ℤ) → Endless (loop_of the_pair) states → ⊥
  settling_ends_bound e h = (bounded_settling_promise e h).ends

  -- a settling is shown by bound of certificates of kind 8 alone
  pub shown_bound_settles : (δ0 δ : ℤ) → (bounded_by_kind loopbytes certificate state).verdict.outcome ≡ Outcomes.Settling δ0 δ
      → (of_settling certificate ≡ true) × ((bounded_by_kind loopbytes certificate state).verdict.number ≡ 0)
  shown_bound_settles δ0 δ h =
      either (of_settling certificate)
      (λ e.
      let answer = bounded_settling loopbytes certificate state e in
      (e, rw answer (shown_bounded (bounding_of loopbytes certificate state) δ0 δ (rw answer at h))))
      (λ e. absurd (bounds_never_settling _ δ0 δ (rw (bounded_as_before loopbytes certificate state e) at h)))

  pub shown_bound_kept : (δ0 δ : ℤ) → (bounded_by_kind loopbytes certificate state).verdict.outcome ≡ Outcomes.Settling δ0 δ
      → (ys : List (List ℤ)) → Run (loop_of the_pair) state ys
      → unsettled_steps (settling_of the_pair) state ys ≤ (bounded_by_kind loopbytes certificate state).bound
  shown_bound_kept δ0 δ h = let (e, zero_told) = shown_bound_settles δ0 δ h in settling_bound_kept e zero_told

  pub bounded_otherwise : ((δ0 δ : ℤ) → (bounded_by_kind loopbytes certificate state).verdict.outcome ≡ Outcomes.Settling δ0 δ → ⊥)
      → (bounded_by_kind loopbytes certificate state).verdict.number ≡ 0 → of_settling certificate ≡ false
  bounded_otherwise none h =
      either (of_settling certificate)
      (λ e.
      let answer = bounded_settling loopbytes certificate state e in
      let shows_it = settling_bound_is (bounding_of loopbytes certificate state) (rw answer at h) in
      absurd (none _ _ (ap (λ (a : Bounded). a.verdict.outcome) (answer ∙ shows_it))))
      (λ e. e)

-- ---- loops of kind 5: judging refuses the certificate, and bound the loop, each with 4 at byte 4

pub paths_with_settling : (loopbytes certificate : List ℕ) (lent : List ℤ) → first sound_paths (bytes_alone loopbytes) ≡ done → Framed certificate
    → of_settling certificate ≡ true → judged_by_kind loopbytes certificate lent ≡ refusal_of 2 4 4
unfolding of_paths of_settling
paths_with_settling l c lent loop_sound f eight =
    let five : of_paths l ≡ true = eq-eqb _ _ (paths_sound l loop_sound).numbered in
    let number_8 : little_at 2 c 4 ≡ 8 = eqb-true _ _ eight in
    (judged_as_before l c lent (paths_no_settles l c five)).0 ∙ paths_with_another l c lent loop_sound f (λ six. omega (arith, number_8, six))

-- whatever the certificate and the state
pub paths_never_bounded : (loopbytes certificate : List ℕ) (state : List ℤ) → Framed loopbytes → of_paths loopbytes ≡ true
    → bounded_by_kind loopbytes certificate state ≡ record { verdict = refusal_of 1 4 4; bound = 0 }
unfolding of_paths settling_bounds settling_bounding bounds bounding bound_of bounded verdict_of sound loop_record kind kind_number kind_of is_loop
paths_never_bounded l c state f five =
    let number_5 : little_at 2 l 4 ≡ 5 = eqb-true _ _ five in
    let r = loop_record l in
    let unwanted : is_loop (kind_of (little_at 2 l 4)) ≡ false = rw number_5 in
    let kind_told : first sound r ≡ refused 4 4 = first_then framing _ r (framed_passes l f r refl) ∙ failed 4 _ _ _ r unwanted in
    either (of_settling c)
    (λ e. bounded_settling l c state e ∙ rw (stage_refused 1 _ (drop 1 settling_bounding) (bounding_of l c state) 4 4 kind_told))
    (λ e. bounded_as_before l c state e ∙ rw (stage_refused 1 _ (drop 1 bounding) (bound_of l c state) 4 4 kind_told))

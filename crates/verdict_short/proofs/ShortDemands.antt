-- Demands 2 and 3 about bytes, for kind 7: where judging answers 0 for a certificate of kind 7, no run of the loop that the bytes hold has more steps
-- than the bound by the rank, start and fall that are told, and none goes on for ever; where the bound call answers 0, none from the state has more
-- steps than the bound that is told. No exclusion is accepted for the same loop. Runs are over whole numbers of any size. And a loop of kind 5 is
-- neither judged nor bounded with a short ranking.
use mathlib.Core.Path.{◌≡◌, refl, sym, ap, ◌∙◌}
use Prim.Native.Nat.{ℕ, ◌≤◌}
use mathlib.Core.Bool.{true, false}
use mathlib.Core.List.{List}
use native.Mathlib.Omega.{arith}
use lib.IntN.{ℤ}
use lib.ListN.{length, take}
use lib.Seq.{take_at}
use borrow.Author.Tests.{eq-eqb, ne_eqb, eqb-true}
use Rattle.endian.specs.Numbers.{little_at}
use Rattle.refusal.specs.Tests.{done, refused, first}
use Rattle.refusal.proofs.TestLaws.{either, failed, first_then}
use Rattle.record.specs.Layouts.{kind_of, is_loop}
use Rattle.record.specs.Readers.{kind_number, kind, framing, sound}
use Rattle.record_paths.specs.PathFields.{bytes_alone}
use Rattle.record_paths.specs.PathLoops.{sound_paths}
use Rattle.record_paths.proofs.PathsSound.{paths_sound}
use Rattle.theory.specs.Loops.{Run, Endless}
use Rattle.theory.specs.Rankings.{RankingHolds, NonNegative, Bounds, rank, start, fall}
use Rattle.theory.proofs.RankingTheorems.{ranking_bounds_runs}
use Rattle.verdict.specs.Contents.{loop_in}
use Rattle.verdict.specs.Judging.{judge_of}
use Rattle.verdict.specs.Pairs.{loop_record, certificate_record, pair_kind}
use Rattle.verdict.specs.Stages.{refusal_of}
use Rattle.verdict.specs.declared.Outcome.TheVariants as Outcomes
use Rattle.verdict.specs.declared.Verdict.{Verdict}
use Rattle.verdict.proofs.Demands.{nonneg_all, never_both}
use Rattle.verdict_paths.specs.JudgingByLoop.{of_paths}
use Rattle.verdict_paths.proofs.PathDemands.{Framed, framed_passes, kind_1_by_rows, paths_with_another, by_paths}
use Rattle.verdict_settling.specs.AnswersByKind.{of_settling}
use Rattle.verdict_settling.proofs.SettlingDemands.{paths_never_bounded}
use Rattle.whole.proofs.Tables.{length_tabulate}
use Rattle.verdict_short.specs.Answers.{answered, rank_answered, bounded_answered}
use Rattle.verdict_short.specs.ShortContents.{stood_for, loop_of, ranking_of}
use Rattle.verdict_short.specs.ShortJudging.{ShortPair, variables_of, rows_for, long_of, of_short, short_pair}
use Rattle.verdict_short.proofs.LongHeld.{stood_for_in}
use Rattle.verdict_short.proofs.LongJudged.{ShortPairSound, certificate_says, judged_as_sound, long_kind}
use Rattle.verdict_short.proofs.ShortAccepted.{judged_zero_sound, short_accepted_exactly_when, short_answers}
use Rattle.verdict_short.proofs.ShortAccepted.{short_bounded_exactly_when, short_bound_is}
use Rattle.verdict_short.proofs.ShortAsLong.{loop_refused_alike}
use Rattle.verdict_short.proofs.ShortBridges.{answered_of_paths, answered_of_rows, bounded_short, bounded_as_before}

-- ---- the promise, of a sound pair

sound_nonneg : (p : ShortPair) → ShortPairSound p → NonNegative (ranking_of p)
unfolding ranking_of stood_for
sound_nonneg p s =
    let held = stood_for_in (variables_of p) (rows_for p) p.certificate (certificate_says p s) in
    (nonneg_all _ held.Y-in.each, nonneg_all _ held.Z-in.each)

-- with the rank, start and fall of the multipliers that it stands for
abbrev pub Promised : ShortPair → Type 0
Promised p =
    let l = loop_of p in
    let c = ranking_of p in
    Bounds l (λ x. Unit {0}) (rank l c) (start l c) (fall l c)

promised : (p : ShortPair) → ShortPairSound p → RankingHolds (loop_of p) (ranking_of p) → Promised p
promised p s holds = ranking_bounds_runs _ _ (sound_nonneg p s) holds

same_shown : {a b c d : ℤ} → Outcomes.Ranking a b ≡ Outcomes.Ranking c d → (a ≡ c) × (b ≡ d)
same_shown e = (cc, cc)

module _ (loopbytes certificate : List ℕ) (short : of_short certificate ≡ true) where
  abbrev p : ShortPair
  p = short_pair loopbytes certificate

  -- ---- of judging's answer

  module _ (lent : List ℤ) (accepted : (answered loopbytes certificate lent).number ≡ 0) where
    pub short_promise : Promised p
    short_promise = let a = (short_accepted_exactly_when loopbytes certificate short lent).0 accepted in promised p a.both_sound a.holds

    pub short_ends : (state : ℕ → List ℤ) → Endless (loop_of p) state → ⊥
    short_ends state endless = short_promise.ends state tt endless

    -- the rank is what the list's first n are
    rank_told : take (variables_of p) (rank_answered loopbytes certificate lent) ≡ rank (loop_of p) (ranking_of p)
    unfolding rank variables_of loop_of loop_in
    rank_told =
        let a = short_answers loopbytes certificate short lent accepted in
        rw a.list_is (take_at _ _ _ (length_tabulate _ _))

    -- so the promise holds with the start and fall that are shown and the rank that the list holds
    pub short_promise_as_told : (δ0 δ : ℤ) → (answered loopbytes certificate lent).outcome ≡ Outcomes.Ranking δ0 δ
        → Bounds (loop_of p) (λ x. Unit {0}) (take (variables_of p) (rank_answered loopbytes certificate lent)) δ0 δ
    short_promise_as_told δ0 δ shown =
        let told = (short_answers loopbytes certificate short lent accepted).verdict_is in
        let same = same_shown (sym shown ∙ ap (λ (a : Verdict). a.outcome) told) in
        rw (rank_told, same.0, same.1) short_promise

    -- and an exclusion of the same loop is not accepted
    pub short_never_excluded : (excluding : List ℕ) (lent' : List ℤ) → little_at 2 excluding 4 ≡ 3
        → (answered loopbytes excluding lent').number ≡ 0 → ⊥
    unfolding of_short of_settling judge_of pair_kind certificate_record kind kind_number kind_of
    short_never_excluded excluding lent' three h =
        let s = judged_zero_sound loopbytes certificate short lent accepted in
        let rows = kind_1_by_rows loopbytes s.loop_sound in
        let no_8 = ne_eqb (little_at 2 excluding 4) 8 (λ e. omega (arith, three, e)) in
        let no_7 = ne_eqb (little_at 2 excluding 4) 7 (λ e. omega (arith, three, e)) in
        let long = rw (judged_as_sound p s lent).0 at accepted in
        let other = rw (answered_of_rows loopbytes excluding lent' rows no_8 no_7).0 at h in
        never_both loopbytes (long_of p) excluding lent lent' (long_kind p s lent) long (rw three) other

  -- ---- of bound's answer

  module _ (state : List ℤ) (accepted : (bounded_answered loopbytes certificate state).verdict.number ≡ 0) where
    pub bounded_short_promise : Promised p
    bounded_short_promise =
        let a = (short_bounded_exactly_when loopbytes certificate short state).0 accepted in promised p a.both_sound a.holds

    -- no run from the state has more steps than the bound that is told
    pub short_bound_kept : (ys : List (List ℤ)) → Run (loop_of p) state ys → length ys ≤ (bounded_answered loopbytes certificate state).bound
    short_bound_kept ys run =
        rw (short_bound_is loopbytes certificate short state accepted) (bounded_short_promise.steps state ys tt run)

    pub short_ends_bound : (states : ℕ → List ℤ) → Endless (loop_of p) states → ⊥
    short_ends_bound states endless = bounded_short_promise.ends states tt endless

-- ---- loops of kind 5: judging refuses the certificate, and bound the loop, each with 4 at byte 4

pub paths_with_short : (loopbytes certificate : List ℕ) (lent : List ℤ) → first sound_paths (bytes_alone loopbytes) ≡ done → Framed certificate
    → of_short certificate ≡ true → answered loopbytes certificate lent ≡ refusal_of 2 4 4
unfolding of_paths of_short
paths_with_short l c lent loop_sound f short =
    let five : of_paths l ≡ true = eq-eqb _ _ (paths_sound l loop_sound).numbered in
    let seven : little_at 2 c 4 ≡ 7 = eqb-true _ _ short in
    (answered_of_paths l c lent five).0
    ∙ sym (by_paths l c lent five).0
    ∙ paths_with_another l c lent loop_sound f (λ six. omega (arith, seven, six))

-- whatever the certificate and the state
pub paths_never_bounded_either : (loopbytes certificate : List ℕ) (state : List ℤ) → Framed loopbytes → of_paths loopbytes ≡ true
    → bounded_answered loopbytes certificate state ≡ record { verdict = refusal_of 1 4 4; bound = 0 }
unfolding of_paths sound loop_record kind kind_number kind_of is_loop
paths_never_bounded_either l c state f five =
    let number_5 : little_at 2 l 4 ≡ 5 = eqb-true _ _ five in
    let r = loop_record l in
    let unwanted : is_loop (kind_of (little_at 2 l 4)) ≡ false = rw number_5 in
    let kind_told : first sound r ≡ refused 4 4 = first_then framing _ r (framed_passes l f r refl) ∙ failed 4 _ _ _ r unwanted in
    either (of_short c)
    (λ e. bounded_short l c state e ∙ (loop_refused_alike l c 4 4 kind_told state).2)
    (λ e. bounded_as_before l c state e ∙ paths_never_bounded l c state f five)

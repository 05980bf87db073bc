-- Demand 3 about bytes, for kinds 5 and 6: where the judge answers 0 for a loop of several paths, or shows a lexicographic argument, no run through
-- the paths that the bytes hold goes on for ever. Nothing lent is changed. Every other loop record is judged as before (`by_rows`), so what
-- crate `verdict` proves of `judges` and `rank_after` is said of the public call's answer; and kinds 5 and 6 are judged only together.
use mathlib.Core.Path.{◌≡◌, refl, sym, ap, ◌∙◌}
use mathlib.Core.Bool.{true, false, false≢true}
use mathlib.Core.List.{List}
use Prim.Native.Nat.{ℕ, ◌+◌, ◌≤◌}
use native.Mathlib.Omega.{arith}
use lib.Dec.{eqb}
use lib.IntN.{ℤ}
use lib.ListN.{length, drop}
use borrow.Author.Tests.{le-leb, eq-eqb, ne_eqb, eqb-true}
use Rattle.endian.specs.Numbers.{little_at}
use Rattle.refusal.specs.Tests.{done, refused, first}
use Rattle.refusal.proofs.TestLaws.{either, Passes, failed, first_then, first_told, done_passes}
use Rattle.record.specs.Layouts.{Kind, loop, ranking, exclusion, lasso, other, kind_of, is_loop}
use Rattle.record.specs.Readers.{Reader, stated_length, kind_number, kind, framing, sound}
use Rattle.record.specs.Wants.{wants_of}
use Rattle.record_paths.specs.PathCertificates.{sound_lexicographic}
use Rattle.record_paths.specs.PathFields.{bytes_alone, is_kind}
use Rattle.record_paths.specs.PathLoops.{sound_paths}
use Rattle.record_paths.proofs.PathsSound.{paths_sound}
use Rattle.theory_paths.specs.Lexicographics.{Ends}
use Rattle.theory_paths.proofs.LexicographicTheorems.{lexicographic_ends}
use Rattle.verdict.specs.Claims.{ranking_claim, exclusion_claim, lasso_claim, no_claim}
use Rattle.verdict.specs.Judging.{Judging, judging, judges, rank_after, judge_of}
use Rattle.verdict.specs.Pairs.{Pair, loop_record, certificate_record, claim, outcome_of}
use Rattle.verdict.specs.Stages.{Said, agreed, refusal, said, refusal_of, verdict_of}
use Rattle.verdict.specs.declared.Outcome.{Outcome}
use Rattle.verdict.specs.declared.Outcome.TheVariants.{Nothing, Lexicographic}
use Rattle.verdict.specs.declared.Verdict.{Verdict}
use Rattle.verdict.proofs.StageLaws.{stage_done, stage_refused}
use Rattle.verdict_paths.specs.JudgingByLoop.{of_paths, judged, rank_judged}
use Rattle.verdict_paths.specs.PathContents.{branches_in}
use Rattle.verdict_paths.specs.PathJudging.{PathPair, counts_of, path_judging, path_judges}
use Rattle.verdict_paths.proofs.PathsAccepted.{paths_accepted_exactly_when, accepted_paths_show, refused_paths_show_nothing}
use Rattle.verdict_paths.proofs.PathsInRange.{sound_well_formed}

-- ---- an outcome shown is one of the kind judged

no_lexicographic : Nothing ≡ Lexicographic → ⊥
no_lexicographic e = let z : ◌≡◌ {A = ℕ} 0 1 = cc in omega arith

-- no certificate of kinds 1 to 4 shows a lexicographic argument
no_claim_lexicographic : (k : Kind) (p : Pair) → outcome_of k p ≡ Lexicographic → ⊥
unfolding outcome_of claim ranking_claim exclusion_claim lasso_claim no_claim
no_claim_lexicographic loop p e = no_lexicographic e
no_claim_lexicographic ranking p e = let z : ◌≡◌ {A = ℕ} 0 1 = cc in omega arith
no_claim_lexicographic exclusion p e = let z : ◌≡◌ {A = ℕ} 0 1 = cc in omega arith
no_claim_lexicographic lasso p e = let z : ◌≡◌ {A = ℕ} 0 1 = cc in omega arith
no_claim_lexicographic other p e = no_lexicographic e

rows_never_lexicographic : (j : Judging) → (judges j).outcome ≡ Lexicographic → ⊥
unfolding judges verdict_of
rows_never_lexicographic j h = by_said (said judging j) _ (no_claim_lexicographic _ j.records) h
  where
    by_said : (s : Said) (o : Outcome) → (o ≡ Lexicographic → ⊥) → (verdict_of s o).outcome ≡ Lexicographic → ⊥
    by_said agreed o none e = none e
    by_said (refusal about k q) o none e = no_lexicographic e

-- what is shown is accepted
shown_is_accepted : (p : PathPair) → (path_judges p).outcome ≡ Lexicographic → (path_judges p).number ≡ 0
shown_is_accepted p h =
    either (eqb (path_judges p).number 0)
    (λ e. eqb-true _ _ e)
    (λ e. absurd (no_lexicographic (sym (refused_paths_show_nothing p (λ z. false≢true (sym e ∙ eq-eqb _ _ z))) ∙ h)))

-- ---- the promise, of a pair

pub paths_end : (p : PathPair) → (path_judges p).number ≡ 0 → Ends (branches_in p.loopbytes)
paths_end p h =
    let a = (paths_accepted_exactly_when p).0 h in
    lexicographic_ends _ _ (sound_well_formed p a.both_sound) a.holds

-- ---- of the judge's answer

module _ (loopbytes certificate : List ℕ) (lent : List ℤ) where
  abbrev pair : PathPair
  pair = record { loopbytes = loopbytes; certificate = certificate }

  -- by the loop's kind
  pub by_paths : of_paths loopbytes ≡ true
      → (judged loopbytes certificate lent ≡ path_judges pair) × (rank_judged loopbytes certificate lent ≡ lent)
  unfolding judged rank_judged
  by_paths e = rw e (refl, refl)

  pub by_rows : of_paths loopbytes ≡ false
      → (judged loopbytes certificate lent ≡ judges (judge_of loopbytes certificate lent))
      × (rank_judged loopbytes certificate lent ≡ rank_after (judge_of loopbytes certificate lent) lent)
  unfolding judged rank_judged
  by_rows e = rw e (refl, refl)

  -- "no rank list is filled"
  pub paths_leave_list : of_paths loopbytes ≡ true → rank_judged loopbytes certificate lent ≡ lent
  paths_leave_list e = (by_paths e).1

  -- "no run through these paths goes on for ever": from the number 0
  pub accepted_ends : of_paths loopbytes ≡ true → (judged loopbytes certificate lent).number ≡ 0 → Ends (branches_in loopbytes)
  accepted_ends e h = paths_end pair (rw (by_paths e).0 at h)

  -- a lexicographic argument is shown of loops of several paths alone
  pub shown_of_paths : (judged loopbytes certificate lent).outcome ≡ Lexicographic → of_paths loopbytes ≡ true
  shown_of_paths h =
      either (of_paths loopbytes) (λ e. e) (λ e. absurd (rows_never_lexicographic (judge_of loopbytes certificate lent) (rw (by_rows e).0 at h)))

  -- and from the outcome
  pub shown_ends : (judged loopbytes certificate lent).outcome ≡ Lexicographic → Ends (branches_in loopbytes)
  shown_ends h = let e = shown_of_paths h in paths_end pair (shown_is_accepted pair (rw (by_paths e).0 at h))

  -- an accepted answer that shows anything else is of a loop of kind 1
  pub accepted_by_rows : (judged loopbytes certificate lent).number ≡ 0 → ((judged loopbytes certificate lent).outcome ≡ Lexicographic → ⊥)
      → of_paths loopbytes ≡ false
  accepted_by_rows h none =
      either (of_paths loopbytes)
      (λ e. absurd (none (ap (λ (a : Verdict). a.outcome) ((by_paths e).0 ∙ accepted_paths_show pair (rw (by_paths e).0 at h)))))
      (λ e. e)

-- ---- records that are well framed: the length is there and is what the bytes are

pub record Framed (bytes : List ℕ) : Type 0 where
  pub a_length : 4 ≤ length bytes
  pub a_kind : 2 ≤ little_at 4 bytes 0
  pub stated : length bytes ≡ 4 + little_at 4 bytes 0

pub framed_passes : (bytes : List ℕ) → Framed bytes → (r : Reader) → r.bytes ≡ bytes → Passes framing r
unfolding stated_length
framed_passes bytes f r e =
    let few : 4 + little_at 4 bytes 0 ≤ length bytes = omega (arith, f.stated) in
    let many : length bytes ≤ 4 + little_at 4 bytes 0 = omega (arith, f.stated) in
    rw e (le-leb _ _ f.a_length, (le-leb _ _ f.a_kind, (le-leb _ _ few, (le-leb _ _ many, tt))))

-- what is said is answered
pub said_refused : (s : Said) (o : Outcome) (about number place : ℕ) → s ≡ refusal about number place → verdict_of s o ≡ refusal_of about number place
unfolding verdict_of
said_refused s o a k q e = rw e

-- ---- kinds 5 and 6 are judged only together: a sound loop and a well framed certificate of the other sort give 4 at byte 4 of the certificate

pub paths_with_another : (loopbytes certificate : List ℕ) (lent : List ℤ) → first sound_paths (bytes_alone loopbytes) ≡ done → Framed certificate
    → (little_at 2 certificate 4 ≡ 6 → ⊥) → judged loopbytes certificate lent ≡ refusal_of 2 4 4
unfolding of_paths path_judges path_judging sound_lexicographic bytes_alone kind_number is_kind
paths_with_another loopbytes certificate lent loop_sound f another =
    let p : PathPair = record { loopbytes = loopbytes; certificate = certificate } in
    let five : of_paths loopbytes ≡ true = eq-eqb _ _ (paths_sound loopbytes loop_sound).numbered in
    let kind_told : first (sound_lexicographic (counts_of p)) (bytes_alone certificate) ≡ refused 4 4
    = first_then framing _ (bytes_alone certificate) (framed_passes certificate f (bytes_alone certificate) refl)
    ∙ failed 4 _ _ _ (bytes_alone certificate) (ne_eqb _ _ another) in
    (by_paths loopbytes certificate lent five).0
    ∙ said_refused _ _ 2 4 4 (stage_done 1 _ _ p loop_sound ∙ stage_refused 2 _ _ p 4 4 kind_told)

-- a sound loop of kind 1 is none of kind 5
pub kind_1_by_rows : (loopbytes : List ℕ) → first sound (loop_record loopbytes) ≡ done → of_paths loopbytes ≡ false
unfolding of_paths sound loop_record kind kind_number kind_of is_loop
kind_1_by_rows loopbytes loop_sound =
    either (eqb (little_at 2 loopbytes 4) 5)
    (λ e.
    let five : little_at 2 loopbytes 4 ≡ 5 = eqb-true _ _ e in
    absurd (false≢true (rw five at (done_passes sound (loop_record loopbytes) loop_sound).1.1.1.1.0)))
    (λ e. e)

pub rows_with_argument : (loopbytes certificate : List ℕ) (lent : List ℤ) → first sound (loop_record loopbytes) ≡ done → Framed certificate
    → little_at 2 certificate 4 ≡ 6 → judged loopbytes certificate lent ≡ refusal_of 2 4 4
unfolding judges judge_of judging sound certificate_record kind kind_number kind_of wants_of
rows_with_argument loopbytes certificate lent loop_sound f six =
    let j = judge_of loopbytes certificate lent in
    let r = j.records.certificate_is in
    let unwanted : wants_of (record { ranking = true; exclusion = true; lasso = true }) (kind_of (little_at 2 certificate 4)) ≡ false = rw six in
    let kind_told : first sound r ≡ refused 4 4
    = first_then framing _ r (framed_passes certificate f r refl) ∙ failed 4 _ _ _ r unwanted in
    (by_rows loopbytes certificate lent (kind_1_by_rows loopbytes loop_sound)).0
    ∙ said_refused _ _ 2 4 4 (stage_done 1 _ _ j loop_sound ∙ stage_refused 2 _ _ j 4 4 kind_told)

-- the two together
pub record OnlyTogether (loopbytes certificate : List ℕ) (lent : List ℤ) : Type 0 where
  pub five_alone : first sound_paths (bytes_alone loopbytes) ≡ done → (little_at 2 certificate 4 ≡ 6 → ⊥)
      → judged loopbytes certificate lent ≡ refusal_of 2 4 4
  pub six_alone : first sound (loop_record loopbytes) ≡ done → little_at 2 certificate 4 ≡ 6
      → judged loopbytes certificate lent ≡ refusal_of 2 4 4

pub only_together : (loopbytes certificate : List ℕ) (lent : List ℤ) → Framed certificate → OnlyTogether loopbytes certificate lent
only_together loopbytes certificate lent f =
    record {
      five_alone = λ loop_sound another. paths_with_another loopbytes certificate lent loop_sound f another;
      six_alone = λ loop_sound six. rows_with_argument loopbytes certificate lent loop_sound f six;
    }

-- ---- the choice by bytes 4 and 5 loses nothing: a loop record whose L does not fit its bytes is refused alike either way

pub frame_either_way : (loopbytes certificate : List ℕ) (lent : List ℤ) (number place : ℕ)
    → first framing (bytes_alone loopbytes) ≡ refused number place
    → (path_judges (record { loopbytes = loopbytes; certificate = certificate }) ≡ refusal_of 1 number place)
    × (judges (judge_of loopbytes certificate lent) ≡ refusal_of 1 number place)
unfolding path_judges path_judging sound_paths judges judge_of judging sound loop_record bytes_alone stated_length first
frame_either_way loopbytes certificate lent k q h =
    let p : PathPair = record { loopbytes = loopbytes; certificate = certificate } in
    let j = judge_of loopbytes certificate lent in
    let by_path : first sound_paths (bytes_alone loopbytes) ≡ refused k q = first_told framing (drop 4 sound_paths) (bytes_alone loopbytes) k q h in
    let by_row : first sound (loop_record loopbytes) ≡ refused k q = first_told framing (drop 4 sound) (loop_record loopbytes) k q h in (
      said_refused _ _ 1 k q (stage_refused 1 _ _ p k q by_path),
      said_refused _ _ 1 k q (stage_refused 1 _ _ j k q by_row),
    )

pub frame_refused : (loopbytes certificate : List ℕ) (lent : List ℤ) (number place : ℕ)
    → first framing (bytes_alone loopbytes) ≡ refused number place → judged loopbytes certificate lent ≡ refusal_of 1 number place
frame_refused loopbytes certificate lent k q h =
    let alike = frame_either_way loopbytes certificate lent k q h in
    either (of_paths loopbytes)
    (λ e. (by_paths loopbytes certificate lent e).0 ∙ alike.0)
    (λ e. (by_rows loopbytes certificate lent e).0 ∙ alike.1)

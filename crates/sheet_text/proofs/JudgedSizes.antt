-- What a judge answers of a sound loop and a certificate of at most 65,536 bytes is small: the number and place of a refusal, and the numbers of an accepted rank.
-- A short ranking's answer is that of the record that it stands for, which has 262 bytes at most, or the refusal of its own bytes. Assumes nothing.
use mathlib.Core.Path.{◌≡◌, refl, sym, ap, ◌∙◌}
use Prim.Native.Nat.{ℕ, ◌≤◌}
use mathlib.Core.Bool.{true, false≢true}
use mathlib.Core.List.{List, [], ◌∷◌, ◌++◌}
use native.Mathlib.Omega.{arith}
use lib.IntN.{ℤ}
use lib.ListN.{length, take, drop}
use lib.Seq.{take_at}
use Rattle.record.specs.Layouts.{Kind, loop, ranking, exclusion, lasso, other}
use Rattle.record.specs.Readers as R
use Rattle.record.specs.Readers.{Reader, sound}
use Rattle.record.proofs.KindLaws.{loop_only, wanted_known}
use Rattle.record.specs.Wants.{wants_of}
use Rattle.record.proofs.SoundRecords.{Sound, sound_says}
use Rattle.record_paths.specs.PathFields.{bytes_alone}
use Rattle.record_short.specs.ShortRecords.{sound_short}
use Rattle.record_short.proofs.LongRecords.{length_long}
use Rattle.refusal.specs.Tests.{Told, done, refused, first}
use Rattle.refusal.proofs.TestLaws.{either}
use Rattle.theory.specs.Loops.{Loop}
use Rattle.theory.specs.Rankings as Rankings
use Rattle.verdict.specs.Contents.{loop_in}
use Rattle.verdict.specs.Judging.{Judging, rank_room, judging, judges, rank_after, judge_of, certificates_judged}
use Rattle.verdict.specs.Pairs.{loop_record, certificate_record, pair_kind, variables_of, conditions}
use Rattle.verdict.specs.Stages.{Said, agreed, refusal, Stage, ◌says◌, said, verdict_of}
use Rattle.verdict.specs.declared.Verdict.{Verdict}
use Rattle.verdict.proofs.Accepted.{accepts_agrees, ranking_answers, lasso_answers, exclusion_answers}
use Rattle.verdict.proofs.ConditionLaws.{told_exactly_conditions, condition_told}
use Rattle.verdict.proofs.Demands.{same_counts}
use Rattle.verdict.proofs.PartsInRange.{loop_parts}
use Rattle.verdict.proofs.StageLaws.{by_told, stage_done, stage_refused}
use Rattle.verdict.proofs.SumsFit.{RankingSumsFit, rank_length}
use Rattle.verdict.proofs.SumsFitInBytes.{loop_small, ranking_sums_fit, lasso_sums_fit_in}
use Rattle.verdict_short.specs.ShortJudging as Short
use Rattle.verdict_short.specs.ShortJudging.{ShortPair, long_of, of_short, short_pair, judged_or_short, ranked_or_short}
use Rattle.verdict_short.proofs.ShortAsLong.{by_long, short_as_long, short_refused}
use Rattle.sheet_text.specs.Sheets.{lent, variables_in, rows_in}
use Rattle.sheet_text.proofs.ToldSizes.{SmallTold, first_small, sound_told, short_told}
use Rattle.sheet_text.proofs.LineSizes.{SmallRefusal, SmallRank, SmallVerdict}

-- ---- what is said is small

pub refused_small : (k p : ℕ) → SmallTold 65_536 (refused k p) → SmallRefusal k p
refused_small k p h = record { two_digits = h.0; near = h.1 }

abbrev SmallSaid : Said → Type 0
SmallSaid agreed = Unit {0}
SmallSaid (refusal about number place) = SmallRefusal number place

module _ {I : Type 0} where
  abbrev SmallStages : List (Stage I) → I → Type 0
  SmallStages [] i = Unit {0}
  SmallStages ((about says told) ∷ stages) i = SmallTold 65_536 (told i) × SmallStages stages i

  said_small : (stages : List (Stage I)) (i : I) → SmallStages stages i → SmallSaid (said stages i)
  unfolding said
  said_small [] i small = tt
  said_small ((about says told) ∷ stages) i small =
      by_told (told i)
      (λ e. rw (stage_done about told stages i e) (said_small stages i small.1))
      (λ k p e. rw (stage_refused about told stages i k p e) (refused_small k p (rw e at small.0)))

pub told_more : (size : ℕ) (t : Told) → size ≤ 65_536 → SmallTold size t → SmallTold 65_536 t
told_more size done more small = tt
told_more size (refused k p) more small = (small.0, omega (arith, small.1))

-- ---- the records of a judge

-- a loop whose bytes are sound
module _ (l : List ℕ) (loop_sound : first sound (loop_record l) ≡ done) where
  loop_is_sound : Sound (loop_record l)
  loop_is_sound = sound_says (loop_record l) loop_sound

  loop_kind : R.kind (loop_record l) ≡ loop
  unfolding loop_record
  loop_kind = loop_only _ loop_is_sound.wanted

  pub few_variables : variables_in l ≤ 16
  unfolding variables_in
  few_variables = (loop_small (loop_record l) loop_is_sound loop_kind).0

  pub few_rows : rows_in l ≤ 64
  unfolding rows_in
  few_rows = (loop_small (loop_record l) loop_is_sound loop_kind).1

-- ---- as a record of kinds 2 to 4

module _ (l c : List ℕ) (loop_sound : first sound (loop_record l) ≡ done) (near : length c ≤ 65_536) where
  abbrev j : Judging
  j = judge_of l c lent

  -- the certificate's record
  abbrev r : Reader
  r = certificate_record certificates_judged (loop_record l) c

  -- a condition's number is at most 46, and its place a column or a row of the loop
  conditions_small : SmallTold 65_536 (conditions j.records)
  unfolding judge_of loop_in variables_in rows_in
  conditions_small =
      by_told (conditions j.records) (λ e. rw e tt)
      (λ k p e.
      let told = condition_told 64 (pair_kind j.records) j.records k p (omega arith) (omega (arith, few_variables l loop_sound))
      (rw (loop_parts (loop_record l) (loop_is_sound l loop_sound) (loop_kind l loop_sound)).counted (few_rows l loop_sound))
      ((told_exactly_conditions j.records k p).0 e) in
      rw e (omega (arith, told.no_more), omega (arith, told.place_is)))

  said_is_small : SmallSaid (said judging j)
  unfolding judging judge_of rank_room conditions certificate_record variables_of variables_in
  said_is_small =
      said_small judging j (
        rw loop_sound tt,
        (
          told_more (length c) (first sound r) near (sound_told r (wanted_known _)),
          (
            first_small 65_536 rank_room j (λ e. (omega arith, omega (arith, few_variables l loop_sound)), λ e. tt),
            (conditions_small, tt),
          ),
        ),
      )

  -- an accepted certificate's record
  certificate_wanted : first sound r ≡ done → certificates_judged (R.kind r) ≡ true
  unfolding certificate_record
  certificate_wanted h = (sound_says r h).wanted

  -- the rank that is printed
  abbrev printed : List ℤ
  printed = take (variables_in l) (rank_after j lent)

  printed_small : (loop_is : Loop) (c : Rankings.Ranking) → loop_is.variables ≡ variables_in l → RankingSumsFit loop_is c
      → rank_after j lent ≡ Rankings.rank loop_is c ++ drop (variables_of j.records) lent → SmallRank printed (Rankings.start loop_is c) (Rankings.fall loop_is c)
  printed_small loop_is c same_n sums after =
      let size : length (Rankings.rank loop_is c) ≡ variables_in l = rank_length loop_is c ∙ same_n in
      let whole : printed ≡ Rankings.rank loop_is c = ap (take (variables_in l)) after ∙ take_at (Rankings.rank loop_is c) _ _ size in
      rw whole
      (record { sixteen = omega (arith, few_variables l loop_sound); rank_within = sums.rank_within; start_within = sums.start_within; fall_within = sums.fall_within })

  accepted_sound : (judges j).number ≡ 0 → first sound r ≡ done
  unfolding judging judge_of
  accepted_sound zero_told = ((accepts_agrees j).0 zero_told).1.0

  accepted_small : (judges j).number ≡ 0 → (k : Kind) → pair_kind j.records ≡ k → SmallVerdict (judges j).outcome (judges j).number (judges j).place printed
  unfolding pair_kind judge_of wants_of variables_in loop_in
  accepted_small zero_told loop e = absurd (false≢true (ap certificates_judged (sym e) ∙ certificate_wanted (accepted_sound zero_told)))
  accepted_small zero_told ranking e =
      let a = ranking_answers j lent e zero_told in
      let s = sound_says r (accepted_sound zero_told) in
      rw a.verdict_is (printed_small _ _ refl (ranking_sums_fit (loop_record l) r (loop_is_sound l loop_sound) s (loop_kind l loop_sound) e (same_counts l c s).1) a.list_is)
  accepted_small zero_told exclusion e = rw (exclusion_answers j lent e zero_told).0 tt
  accepted_small zero_told lasso e =
      let a = lasso_answers j lent e zero_told in
      let s = sound_says r (accepted_sound zero_told) in
      let same = same_counts l c s in
      rw a.verdict_is (printed_small _ _ refl (lasso_sums_fit_in (loop_record l) r (loop_is_sound l loop_sound) s (loop_kind l loop_sound) e same.0 same.1).1 a.list_is)
  accepted_small zero_told other e = absurd (false≢true (ap certificates_judged (sym e) ∙ certificate_wanted (accepted_sound zero_told)))

  said_so_small : (s : Said) → said judging j ≡ s → SmallVerdict (judges j).outcome (judges j).number (judges j).place printed
  unfolding judges verdict_of
  said_so_small agreed e = accepted_small (rw e) (pair_kind j.records) refl
  said_so_small (refusal about number place) e = rw e (rw e at said_is_small)

  pub judged_small : SmallVerdict (judges j).outcome (judges j).number (judges j).place printed
  judged_small = said_so_small (said judging j) refl

-- ---- as a short ranking, or as a record of kinds 2 to 4

module _ (l c : List ℕ) (loop_sound : first sound (loop_record l) ≡ done) (near : length c ≤ 65_536) where
  -- the two records
  abbrev pair : ShortPair
  pair = short_pair l c

  -- the verdict and the rank that is printed
  abbrev SmallLine : Verdict → List ℤ → Type 0
  SmallLine v ranks = SmallVerdict v.outcome v.number v.place (take (variables_in l) ranks)

  long_near : length (long_of pair) ≤ 65_536
  unfolding long_of Short.rows_for rows_in
  long_near = omega (arith, length_long (Short.variables_of pair) (Short.rows_for pair) c, few_rows l loop_sound)

  short_small : of_short c ≡ true → (t : Told) → first (sound_short (Short.variables_of pair) (Short.rows_for pair)) (bytes_alone c) ≡ t
      → SmallLine (judged_or_short l c lent) (ranked_or_short l c lent)
  short_small short done told =
      let answer = short_as_long l c loop_sound told short lent in
      rw (answer.0, answer.1) (judged_small l (long_of pair) loop_sound long_near)
  short_small short (refused number place) told =
      let answer = short_refused l c loop_sound short number place told lent in
      let small : SmallTold (length c) (refused number place) = rw told at (short_told (Short.variables_of pair) (Short.rows_for pair) c) in
      rw answer.0 (refused_small number place (told_more (length c) (refused number place) near small))

  pub certificate_small : SmallLine (judged_or_short l c lent) (ranked_or_short l c lent)
  certificate_small =
      either (of_short c)
      (λ short. short_small short _ refl)
      (λ long. let answer = by_long l c long lent in rw (answer.0, answer.1) (judged_small l c loop_sound near))

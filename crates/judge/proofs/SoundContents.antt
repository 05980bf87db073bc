-- Sound records hold, by places, the loop and the certificate of crate `verdict`; so what the conditions' code tells of the places it tells of the records.
use Rattle.std.specs.Prelude.{Result}
use mathlib.Core.Path.{◌≡◌, refl, ap, ◌∙◌}
use Prim.Native.Nat.{ℕ, ◌<◌}
use mathlib.Core.Bool.{Bool}
use mathlib.Core.List.{List}
use lib.IntN.{ℤ}
use Rattle.endian.specs.Numbers.{little_at}
use Rattle.record.proofs.SoundRecords.{sound_says}
use Rattle.record.specs.Layouts.{Kind, ranking, exclusion, lasso, is_loop, is_lasso}
use Rattle.record.specs.Readers.{Reader, counts_read}
use Rattle.refusal.specs.declared.Fault.{Fault}
use Rattle.judge_conditions.specs.LoopHeld.{loop_held}
use Rattle.judge_ranking.specs.RankedBy.{RankingBy}
use Rattle.judge_ranking.specs.RankingHeld.{ranking_held}
use Rattle.judge_ranking.specs.declared.Ranked.{Ranked}
use Rattle.judge_exclusion.specs.ExclusionHeld.{exclusion_held}
use Rattle.judge_lasso.specs.LassoBy.{LassoBy}
use Rattle.judge_lasso.specs.LassoHeld.{lasso_held}
use Rattle.theory.specs.Conditions.{exclusion_told}
use Rattle.verdict.specs.Contents.{loop_in, ranking_in, exclusion_in, lasso_in}
use Rattle.verdict.specs.Pairs as Pairs
use Rattle.judge.specs.SoundPairs as Pairs-of
use Rattle.verdict.specs.Pairs.{loop_record, certificate_record, Pair, pair_of, pair_kind}
use Rattle.verdict.proofs.Demands.{scale_positive}
use Rattle.verdict.proofs.PartsInRange.{exclusion_parts}
use Rattle.verdict.proofs.ConditionLaws.{conditions_ranking, conditions_exclusion, conditions_lasso}
use Rattle.judge.specs.SoundPairs.{first_row, LoopSound, CertificateSound, RankedOf}
use Rattle.judge.proofs.HeldByPlaces.{loop_is, ranking_is, exclusion_is, lasso_is}
use Rattle.judge.proofs.SoundSizes.{loop_kind, counts_are}

module _ (loopbytes : List ℕ) (n m : ℕ) (l : LoopSound loopbytes n m) where
  -- the loop
  pub loop_of : loop_in (loop_record loopbytes) ≡ loop_held loopbytes first_row n m
  unfolding loop_record
  loop_of = loop_is (loop_record loopbytes) (loop_kind loopbytes n m l) ∙ rw (← l.n_is, ← l.m_is)

  -- the certificate, whichever kinds are wanted
  module _ (wants : Kind → Bool) (certificate : List ℕ) where
    abbrev record_of : Reader
    record_of = certificate_record wants (loop_record loopbytes) certificate

    pub ranking_of : CertificateSound wants loopbytes certificate ranking → ranking_in record_of ≡ ranking_held certificate 6 m
    unfolding certificate_record is_loop
    ranking_of c = ranking_is record_of c.kind_is ∙ ap (ranking_held certificate 6) (counts_are loopbytes n m l wants certificate ranking c refl).1

    pub exclusion_of : CertificateSound wants loopbytes certificate exclusion → exclusion_in record_of ≡ exclusion_held certificate n
    unfolding certificate_record is_loop
    exclusion_of c = exclusion_is record_of c.kind_is ∙ ap (exclusion_held certificate) (counts_are loopbytes n m l wants certificate exclusion c refl).0

    pub q_positive : CertificateSound wants loopbytes certificate exclusion → 0 < little_at 2 certificate 6
    unfolding exclusion_held
    q_positive c =
        let held = exclusion_of c in
        let parts = exclusion_parts record_of (sound_says record_of c.told) c.kind_is in
        rw held at (scale_positive _ parts.q_in)

    pub lasso_of : (ms : ℕ) → CertificateSound wants loopbytes certificate lasso → ms ≡ (counts_read record_of).ms → lasso_in record_of ≡ lasso_held certificate n m ms
    unfolding certificate_record is_loop
    lasso_of ms c ms_is =
        let counts = counts_are loopbytes n m l wants certificate lasso c refl in
        lasso_is record_of c.kind_is ∙ rw (counts.0, counts.1, ← ms_is)

    -- ---- what is told of the places is told of the records

    abbrev p : Pair
    p = pair_of wants loopbytes certificate

    kind_told : (k : Kind) → CertificateSound wants loopbytes certificate k → pair_kind p ≡ k
    unfolding pair_kind
    kind_told k c = c.kind_is

    pub ranking_told_lem : CertificateSound wants loopbytes certificate ranking → (r : Result Ranked Fault) (before after : List ℤ)
        → RankingBy r (loop_held loopbytes first_row n m) (ranking_held certificate 6 m) before after → RankedOf r p before after
    unfolding Pairs-of.ranked_loop Pairs-of.ranking_of is_lasso
    ranking_told_lem c r before after by =
        let told = kind_told ranking c in
        rw (conditions_ranking p told, told, loop_of, ranking_of c) by

    pub lasso_told_lem : (ms : ℕ) → CertificateSound wants loopbytes certificate lasso → ms ≡ (counts_read record_of).ms → (r : Result Ranked Fault) (before after : List ℤ)
        → LassoBy r (loop_held loopbytes first_row n m) (lasso_held certificate n m ms) before after → RankedOf r p before after
    unfolding Pairs-of.ranked_loop Pairs-of.ranking_of is_lasso
    lasso_told_lem ms c ms_is r before after by =
        let told = kind_told lasso c in
        rw (conditions_lasso p told, told, loop_of, lasso_of ms c ms_is) by

    pub exclusion_told_lem : (c : CertificateSound wants loopbytes certificate exclusion)
        → exclusion_told (loop_held loopbytes first_row n m) (exclusion_held certificate n) ≡ Pairs.conditions p
    exclusion_told_lem c = rw (conditions_exclusion p (kind_told exclusion c), loop_of, exclusion_of c)

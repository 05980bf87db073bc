-- A certificate in a bound call: what the code's answers about its conditions and at the state mean for the definition. The kinds that have a rank share one
-- text, over the loop and the ranking that their rank is of.
use Rattle.std.specs.Prelude.{Result, Ok, Err}
use mathlib.Core.Path.{◌≡◌, refl, sym, ap, ap₂, ◌∙◌}
use Prim.Native.Nat.{ℕ, ◌≤◌}
use mathlib.Core.Bool.{true, false}
use mathlib.Core.List.{List, ◌++◌}
use native.Mathlib.Omega.{arith}
use lib.IntN.{ℤ, pos}
use lib.ListN.{length, take, drop, replicate}
use lib.Seq.{take-append_seam}
use lib.Signed.{◌<ℤ◌}
use Rattle.whole.specs.Sums.{sum}
use Rattle.whole.proofs.Tables.{length_tabulate}
use Rattle.whole.proofs.Solve.{v, neg, solve_lt, lt_fact}
use Rattle.record.specs.Layouts.{Kind, ranking, lasso, is_loop, is_lasso, has_rank}
use Rattle.record.proofs.SoundRecords.{sound_says}
use Rattle.refusal.specs.Tests.{Told, done, first}
use Rattle.refusal.specs.declared.Fault.{Fault}
use Rattle.refusal.proofs.FaultLaws.{told_done, told_given, told_refused}
use Rattle.theory.specs.Loops.{b, Loop}
use Rattle.theory.specs.Rankings as Rankings
use Rattle.judge_conditions.specs.LoopHeld.{loop_of}
use Rattle.judge_sums.specs.declared.rows.Rows.{Rows}
use Rattle.judge_lasso.specs.LassoBy.{LassoBy}
use Rattle.judge_lasso.specs.LassoHeld.{LassoIn, lasso_held}
use Rattle.judge_ranking.specs.RankedBy.{RankingBy, rank_put}
use Rattle.judge_ranking.specs.RankingHeld.{ranking_held}
use Rattle.judge_ranking.specs.declared.Ranked.{Ranked}
use Rattle.verdict.specs.Bounding.{Bounding, given_state, bounds, bound_of, certificates_bounded}
use Rattle.verdict.specs.Claims.{ranking_claim, lasso_claim}
use Rattle.verdict.specs.Contents.{loop_in}
use Rattle.verdict.specs.Pairs.{loop_record, Pair, pair_of, pair_kind, variables_of, claim, conditions}
use Rattle.verdict.specs.StateTests.{state_tests}
use Rattle.verdict.specs.Stages.{shows}
use Rattle.verdict.specs.declared.Bounded.{Bounded}
use Rattle.verdict.specs.declared.Outcome.{Outcome}
use Rattle.verdict.proofs.Accepted.{BothSound, ranking_conditions, lasso_conditions}
use Rattle.verdict.proofs.ClaimAnswers.{bounded_agreed, bounded_outside, bounded_fails}
use Rattle.verdict.proofs.SumsFit.{RankingSumsFit}
use Rattle.verdict.proofs.SumsFitInBytes.{ranking_sums_fit, lasso_sums_fit_in}
use Rattle.judge.specs.declared.sound_loop.SoundLoop.{SoundLoop}
use Rattle.judge.specs.SoundPairs.{first_row, CertificateSound, LassoSound, ranked_loop, ranking_of, start_of, fall_of, RankedOf, rank_outcome}
use Rattle.judge.proofs.JudgedKinds.{outcome_is}
use Rattle.judge.proofs.RankKinds.{by_rank}
use Rattle.judge.proofs.SoundSizes.{n_few, loop_kind, counts_are, lasso_long}
use Rattle.judge.proofs.SoundContents.{lasso_of, ranking_told_lem, lasso_told_lem}
use Rattle.judge_bound.specs.BoundShown.{no_bound, StateFits, BoundFits, invariant_held}
use Rattle.judge_bound.proofs.FittingStates.{state_long, state_within}

-- no entry is set before
abbrev pub blank : List ℤ
blank = replicate 16 (pos 0)

-- ---- rankings

falls : (loop : Loop) (c : Rankings.Ranking) → Rankings.RankingHolds loop c → pos 0 <ℤ Rankings.fall loop c
unfolding Rankings.fall
falls loop c h = let z = sum c.Z b loop.rows in solve_lt (v (pos 0)) (neg (v z)) (omega (arith, lt_fact (v z) (v (pos 0)) h.fourth))

rank_long : (loop : Loop) (c : Rankings.Ranking) → length (Rankings.rank loop c) ≡ loop.variables
unfolding Rankings.rank
rank_long loop c = length_tabulate loop.variables _

-- the rank in the front of a list
front : (loop : Loop) (c : Rankings.Ranking) (before entries : List ℤ) → entries ≡ Rankings.rank loop c ++ drop (length (Rankings.rank loop c)) before
    → take loop.variables entries ≡ Rankings.rank loop c
front loop c before entries put =
    ap (take loop.variables) put
    ∙ ap (λ k. take k (Rankings.rank loop c ++ drop (length (Rankings.rank loop c)) before)) (sym (rank_long loop c))
    ∙ take-append_seam (Rankings.rank loop c) (drop (length (Rankings.rank loop c)) before)

-- the bound by them is the certificate's
bound_is : (k : Kind) (p : Pair) → pair_kind p ≡ k → has_rank k ≡ true → (state : List ℤ)
    → Rankings.bound (Rankings.rank (ranked_loop p) (ranking_of p)) (start_of p) (fall_of p) state ≡ (claim k p).bound state
unfolding claim ranking_claim lasso_claim start_of fall_of ranked_loop ranking_of is_lasso
bound_is k p is h state =
    by_rank (λ k. pair_kind p ≡ k → Rankings.bound (Rankings.rank (ranked_loop p) (ranking_of p)) (start_of p) (fall_of p) state ≡ (claim k p).bound state) k h (λ e. rw e) (λ e. rw e) is

-- what a bound needs of the loop and the ranking that a pair's rank is of
pub record RankFacts (p : Pair) (n : ℕ) : Type 0 where
  pub counted : (ranked_loop p).variables ≡ n
  pub sizes : RankingSumsFit (ranked_loop p) (ranking_of p)
  pub holds_so : conditions p ≡ done → Rankings.RankingHolds (ranked_loop p) (ranking_of p)

-- ---- once the conditions of a certificate are asked

-- the rows are the loop's
abbrev pub RowsOf : SoundLoop → Rows → Type 0
RowsOf looped rows = (rows.bytes ≡ looped.bytes) × (rows.start ≡ first_row) × (rows.n ≡ looped.n) × (rows.count ≡ looped.m)

-- of a certificate of kind k, which has a rank: it is sound, the loop and the ranking that its rank is of are known, and the answer and the entries are theirs
pub record Asked (looped : SoundLoop) (certificate : List ℕ) (k : Kind) (answer : Result Ranked Fault) (entries : List ℤ) : Type 0 where
  pub ranked : has_rank k ≡ true
  pub sound : CertificateSound certificates_bounded looped.bytes.now certificate k
  pub facts : RankFacts (pair_of certificates_bounded looped.bytes.now certificate) looped.n
  pub by : RankedOf answer (pair_of certificates_bounded looped.bytes.now certificate) blank entries

module _ (looped : SoundLoop) (certificate : List ℕ) where
  abbrev p : Pair
  p = pair_of certificates_bounded looped.bytes.now certificate

  pub ranking_asked : CertificateSound certificates_bounded looped.bytes.now certificate ranking → (rows : Rows) → RowsOf looped rows → (answer : Result Ranked Fault) (entries : List ℤ)
      → RankingBy answer (loop_of rows) (ranking_held certificate 6 rows.count) blank entries → Asked looped certificate ranking answer entries
  unfolding has_rank ranked_loop ranking_of is_lasso loop_in loop_record is_loop pair_kind
  ranking_asked c rows are answer entries by =
      let l = looped.sound in
      let counts = counts_are _ _ _ l certificates_bounded certificate ranking c refl in
      record {
        ranked = refl;
        sound = c;
        facts = record {
          counted = rw c.kind_is (sym l.n_is);
          sizes = rw c.kind_is (ranking_sums_fit p.loop_is p.certificate_is (sound_says _ l.told) (sound_says _ c.told) (loop_kind _ _ _ l) c.kind_is (counts.1 ∙ l.m_is));
          holds_so = rw c.kind_is (ranking_conditions p c.kind_is).0;
        };
        by = ranking_told_lem _ _ _ l certificates_bounded certificate c answer blank entries (rw (are.0, are.1, are.2, are.3) at by);
      }

  pub ranking_speaks : (state : List ℤ) → (claim ranking p).speaks_of state ≡ true
  unfolding claim ranking_claim
  ranking_speaks state = refl

  module _ (ms : ℕ) (c : LassoSound certificates_bounded looped.bytes.now certificate ms) where
    pub lasso_asked : (rows : Rows) → RowsOf looped rows → (answer : Result Ranked Fault) (entries : List ℤ)
        → LassoBy answer (loop_of rows) (lasso_held certificate looped.n looped.m ms) blank entries → Asked looped certificate lasso answer entries
    unfolding has_rank ranked_loop ranking_of is_lasso loop_in loop_record is_loop pair_kind
    lasso_asked rows are answer entries by =
        let l = looped.sound in
        let sound = c.as_kind in
        let counts = counts_are _ _ _ l certificates_bounded certificate lasso sound refl in
        record {
          ranked = refl;
          sound = sound;
          facts = record {
            counted = rw sound.kind_is (sym l.n_is);
            sizes =
                rw sound.kind_is
                (lasso_sums_fit_in p.loop_is p.certificate_is (sound_says _ l.told) (sound_says _ sound.told) (loop_kind _ _ _ l) sound.kind_is (counts.0 ∙ l.n_is) (counts.1 ∙ l.m_is)).1;
            holds_so = rw sound.kind_is (λ h. ((lasso_conditions p sound.kind_is).0 h).ranked);
          };
          by = lasso_told_lem _ _ _ l certificates_bounded certificate ms sound c.ms_is answer blank entries (rw (are.0, are.1, are.2, are.3) at by);
        }

    pub lasso_there : LassoIn certificate looped.n looped.m ms
    lasso_there = lasso_long _ _ _ ms looped.sound certificates_bounded certificate c.as_kind c.ms_is

    pub lasso_speaks : (state : List ℤ) → (claim lasso p).speaks_of state ≡ invariant_held (lasso_held certificate looped.n looped.m ms) state
    unfolding invariant_held claim lasso_claim
    lasso_speaks state = rw (← lasso_of _ _ _ looped.sound certificates_bounded certificate ms c.as_kind c.ms_is)

  -- ---- the answers at a state that passes its tests

  module _ (state : List ℤ) (fits : StateFits state looped.n) where
    abbrev call : Bounding
    call = bound_of looped.bytes.now certificate state

    state_told : first state_tests (given_state call) ≡ done
    unfolding bound_of variables_of
    state_told = rw (← looped.sound.n_is) fits

    module _ {k : Kind} {answer : Result Ranked Fault} {entries : List ℤ} (asked : Asked looped certificate k answer entries) where
      kind_told : pair_kind p ≡ k
      unfolding pair_kind
      kind_told = asked.sound.kind_is

      both_sound : BothSound p
      both_sound = record { loop_sound = looped.sound.told; certificate_sound = asked.sound.told }

      claimed : (t : Told) → conditions p ≡ t → (claim k p).told ≡ t
      unfolding conditions
      claimed t told = ap (λ k. (claim k p).told) (sym kind_told) ∙ told

      -- where a condition fails
      pub refused_told : (f : Fault) → Err f ≡ answer → no_bound 2 f.number f.place ≡ bounds call
      unfolding bound_of
      refused_told f so =
          sym (bounded_fails call k both_sound kind_told state_told f.number f.place (claimed _ (told_refused (conditions p) _ f (so ∙ asked.by.shown))))

      -- where the conditions hold
      module _ (r : Ranked) (so : Ok r ≡ answer) where
        holds : conditions p ≡ done
        holds = told_done (conditions p) _ r (so ∙ asked.by.shown)

        shown : r ≡ record { start = start_of p; fall = fall_of p }
        unfolding start_of fall_of
        shown = told_given (conditions p) _ r (so ∙ asked.by.shown)

        rank_there : take (length state) entries ≡ Rankings.rank (ranked_loop p) (ranking_of p)
        unfolding rank_put
        rank_there =
            ap (λ k. take k entries) (state_long looped.n state fits ∙ sym asked.facts.counted)
            ∙ front (ranked_loop p) (ranking_of p) blank entries (rw holds at asked.by.put)

        start_is : r.start ≡ Rankings.start (ranked_loop p) (ranking_of p)
        unfolding start_of
        start_is = ap (λ r. r.start) shown

        fall_is : r.fall ≡ Rankings.fall (ranked_loop p) (ranking_of p)
        unfolding fall_of
        fall_is = ap (λ r. r.fall) shown

        pub ranked_fits : length entries ≡ 16 → BoundFits entries r.start r.fall state × (length state ≤ 16)
        ranked_fits long = (
          record {
            long = long;
            entries_small = rw rank_there (λ i. omega (arith, asked.facts.sizes.rank_within i));
            above_fits = rw (rank_there, start_is) (omega (arith, asked.facts.sizes.above_start state (state_within looped.n state fits)));
            falls = rw fall_is (falls _ _ (asked.facts.holds_so holds));
          },
          omega (arith, state_long looped.n state fits, n_few _ _ _ looped.sound),
        )

        -- a state at which the invariant fails, and one at which it holds
        pub outside : (claim k p).speaks_of state ≡ false → no_bound 2 11 0 ≡ bounds call
        unfolding bound_of
        outside fails = sym (bounded_outside call k both_sound kind_told state_told (claimed done holds) fails)

        pub spoken : (claim k p).speaks_of state ≡ true
            → ◌≡◌ {A = Bounded} (record { verdict = shows (rank_outcome k r.start r.fall); bound = Rankings.bound (take (length state) entries) r.start r.fall state }) (bounds call)
        unfolding bound_of
        spoken speaks =
            rw (shown, rank_there)
            (ap₂ (λ (o : Outcome) (k : ℕ). record { verdict = shows o; bound = k }) (outcome_is k p kind_told asked.ranked) (bound_is k p kind_told asked.ranked state)
            ∙ sym (bounded_agreed call k both_sound kind_told state_told (claimed done holds) speaks))

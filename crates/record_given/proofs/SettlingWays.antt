-- The ways through the order for a writing from the counts up to the room, over plain numbers: what is answered at each return, and what that says.
use Rattle.std.specs.Prelude.{Ok, Err}
use mathlib.Core.Path.{◌≡◌, refl, sym, ap, ◌∙◌}
use Prim.Native.Nat.{ℕ, ◌+◌, ◌≤◌}
use mathlib.Core.List.{[]}
use native.Mathlib.Omega.{arith}
use lib.ListN.{length, drop}
use borrow.Author.Tests.{eq-eqb, ne_eqb}
use Rattle.refusal.specs.declared.Fault.{Fault}
use Rattle.refusal.specs.Faults.{result_of}
use Rattle.refusal.specs.Tests.{done, refused, first}
use Rattle.refusal.proofs.FaultLaws.{told_done, told_given, told_refused, refuses, handed_on, went_on}
use Rattle.refusal.proofs.TestLaws.{either, passed, failed, done_passes, first_then, first_told}
use Rattle.record.specs.Fields.{widths}
use Rattle.record.specs.declared.Counts.{Counts}
use Rattle.record.specs.Layouts.{is_lasso, length_of, ahead, listed}
use Rattle.record.specs.Writers.{Writer, kind, ms_given, counts_given, fields, numbers_ahead, argument_place, writing, writer}
use Rattle.record.proofs.Lengths.{length_most}
use Rattle.record_fields.specs.Runs.{value_count, list_fault, list_told}
use Rattle.record.proofs.CountLimits.{arguments_most, rows_cast}
use Rattle.record_fields.proofs.BodyParts.{count_law}
use Rattle.record_fields.proofs.ToldFaults.{list_told-test}
use Rattle.record_given.specs.Settled.{given, counting, settling, counted, settled}
use Rattle.record_given.proofs.CountingWays.{refusal}

module _ (w : Writer) where
  settles : {k p : ℕ} → first settling w ≡ refused k p → refusal k p ≡ settled w
  unfolding settled given
  settles h = refuses _ h

  -- the counts are refused
  pub pass_on : (f : Fault) → Err f ≡ counted w → Err f ≡ settled w
  unfolding counted given counting settling writing
  pass_on f is = settles (first_told counting (drop 4 settling) w f.number f.place (told_refused (first counting w) _ f is))

  pub counts_small : first counting w ≡ done → ((counts_given w).n ≤ 16) × ((counts_given w).m ≤ 64) × ((counts_given w).ms ≤ 64)
  unfolding counting writing counts_given
  counts_small told =
      let all = done_passes counting w told in
      let most = arguments_most w.n w.m all.1.0 in
      (most.0, most.1, either (is_lasso (kind w)) (λ lasso. rw lasso (rows_cast (ms_given w) (rw lasso at all.1.1.1.0)).1) (λ no. rw no (omega arith)))

  -- they are given
  module _ (c : Counts) (is : Ok c ≡ counted w) where
    all_counted : first counting w ≡ done
    unfolding counted given
    all_counted = told_done (first counting w) _ c is

    counts_are : c ≡ counts_given w
    unfolding counted given
    counts_are = told_given (first counting w) _ c is

    pub small : (c.n ≤ 16) × (c.m ≤ 64) × (c.ms ≤ 64)
    small = rw counts_are (counts_small all_counted)

    pub long_most : length_of (kind w) c ≤ 4914
    long_most = length_most (kind w) c small.0 small.1 small.2

    then : first settling w ≡ first (drop 4 settling) w
    unfolding counting settling writing
    then = first_then counting (drop 4 settling) w (done_passes counting w all_counted)

    fields_long : length (fields w) ≡ value_count (kind w) c
    unfolding fields
    fields_long = count_law (kind w) (counts_given w) ∙ ap (value_count (kind w)) (sym counts_are)

    pub wrong_count : (length w.list ≡ value_count (kind w) c → ⊥) → refusal 12 (value_count (kind w) c) ≡ settled w
    unfolding settling writing
    wrong_count h = rw (← fields_long) (settles (then ∙ failed _ _ _ _ w (ne_eqb _ _ (λ e. h (e ∙ fields_long)))))

    module _ (long : length w.list ≡ value_count (kind w) c) where
      -- what the values tell
      values_told : first settling w ≡ list_told (listed (kind w) c) w.list 0 (6 + widths (ahead (kind w)))
      unfolding settling writing list_fault fields
      values_told =
          let few : length (fields w) ≤ length w.list = omega (arith, long, fields_long) in
          rw counts_are
          (then ∙ passed _ _ _ _ w (eq-eqb _ _ (long ∙ sym fields_long)) ∙ list_told-test w.list (fields w) 0 (6 + widths (ahead (kind w))) _ _ w few refl refl)

      pub bad_value : (f : Fault) → Err f ≡ result_of (list_told (listed (kind w) c) w.list 0 (6 + widths (ahead (kind w)))) (tt {0}) → Err f ≡ settled w
      unfolding settled given
      bad_value f h = rw values_told (handed_on _ tt _ f h)

      pub all_settled : Ok (tt {0}) ≡ result_of (list_told (listed (kind w) c) w.list 0 (6 + widths (ahead (kind w)))) (tt {0}) → Ok c ≡ settled w
      unfolding settled given
      all_settled h = rw (values_told, ← counts_are) (went_on _ tt tt c h)

-- a writing's tests but the last say nothing of the room
pub any_room : (w : Writer) → settled (writer w.kind_number w.n w.m w.list []) ≡ settled w
unfolding settled given settling writing first kind ms_given counts_given fields numbers_ahead argument_place writer
any_room w = refl

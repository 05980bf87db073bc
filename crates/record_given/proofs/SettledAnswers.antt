-- How a writer uses what `settle` answers: `settled_refused` says what a refusal means for 01's order, and `settled_done` and `says` what it
-- means that counts are given.
use Rattle.std.specs.Prelude.{Ok, Err}
use mathlib.Core.Path.{◌≡◌, refl, ◌∙◌}
use Prim.Native.Nat.{◌≤◌}
use mathlib.Core.Bool.{true}
use lib.ListN.{length, drop}
use borrow.Author.Tests.{eqb-true}
use Rattle.refusal.specs.declared.Fault.{Fault}
use Rattle.refusal.specs.Tests.{done, refused, first}
use Rattle.refusal.proofs.FaultLaws.{told_done, told_given, told_refused}
use Rattle.refusal.proofs.TestLaws.{passes_done, done_passes, append_passes}
use Rattle.record.specs.Fields.{in_range}
use Rattle.record.specs.declared.Counts.{Counts}
use Rattle.record.specs.Layouts.{is_known, listed}
use Rattle.record.specs.Writers.{Writer, kind, counts_given, fields, writing}
use Rattle.record.proofs.KindLaws.{written_known}
use Rattle.record_fields.specs.Runs.{value_count}
use Rattle.record_fields.proofs.BodyParts.{count_law}
use Rattle.record_given.specs.Settled.{given, counting, settling, settled}
use Rattle.record_given.proofs.SettlingWays.{counts_small}

-- what came to a writer makes a record with these counts
pub record Settled (w : Writer) (c : Counts) : Type 0 where
  pub known : is_known (kind w) ≡ true
  pub variables : c.n ≤ 16
  pub rows : c.m ≤ 64
  pub stem_rows : c.ms ≤ 64
  pub counts_are : c ≡ counts_given w
  pub long : length w.list ≡ value_count (kind w) c
  pub fit : in_range (listed (kind w) c) w.list ≡ true

module _ (w : Writer) where
  pub settled_refused : (f : Fault) → Err f ≡ settled w → first settling w ≡ refused f.number f.place
  unfolding settled given
  settled_refused f is = told_refused (first settling w) _ f is

  module _ (c : Counts) (is : Ok c ≡ settled w) where
    pub settled_done : first settling w ≡ done
    unfolding settled given
    settled_done = told_done (first settling w) _ c is

    pub says : Settled w c
    unfolding settled settling counting writing given fields
    says =
        let all = done_passes settling w settled_done in
        let small = counts_small w (passes_done counting w (append_passes counting (drop 4 settling) w all).0) in
        rw (told_given (first settling w) _ c is)
        (record {
          known = written_known (kind w) all.0;
          variables = small.0;
          rows = small.1;
          stem_rows = small.2;
          counts_are = refl;
          long = eqb-true _ _ all.1.1.1.1.0 ∙ count_law (kind w) (counts_given w);
          fit = all.1.1.1.1.1.0;
        })

-- What a writer's tests say of what came to it, `Writable`.
use mathlib.Core.Path.{◌≡◌}
use Prim.Native.Nat.{◌+◌, ◌≤◌}
use mathlib.Core.Bool.{true, not, ◌||◌}
use lib.Dec.{leb}
use lib.IntN.{pos}
use lib.ListN.{length}
use borrow.Author.Tests.{leb-true, eqb-true}
use Rattle.refusal.proofs.TestLaws.{Passes, both_true}
use Rattle.record.specs.Fields.{in_range}
use Rattle.record.specs.Layouts.{is_lasso}
use Rattle.record.specs.Ranges.{variables, rows, within}
use Rattle.record.specs.Wants.{kinds_written}
use Rattle.record.specs.Writers as W
use Rattle.record.specs.Writers.{Writer, writing}

-- what a writer's tests say
pub record Writable (w : Writer) : Type 0 where
  pub known : kinds_written (W.kind w) ≡ true
  pub n_fits : within variables (pos w.n) ≡ true
  pub m_fits : within rows (pos w.m) ≡ true
  pub ms_there : (not (is_lasso (W.kind w)) || leb 1 (length w.list)) ≡ true
  pub ms_fits : (not (is_lasso (W.kind w)) || within rows (W.ms_given w)) ≡ true
  pub right_count : length w.list ≡ length (W.fields w)
  pub values_fit : in_range (W.fields w) w.list ≡ true
  pub fits_room : 4 + W.length_stated w ≤ w.room

pub writing_says : (w : Writer) → Passes writing w → Writable w
unfolding writing
writing_says w h =
    let counts_fit = both_true (within variables (pos w.n)) (within rows (pos w.m)) h.1.0 in
    record {
      known = h.0;
      n_fits = counts_fit.0;
      m_fits = counts_fit.1;
      ms_there = h.1.1.0;
      ms_fits = h.1.1.1.0;
      right_count = eqb-true _ _ h.1.1.1.1.0;
      values_fit = h.1.1.1.1.1.0;
      fits_room = leb-true _ _ h.1.1.1.1.1.1.0;
    }

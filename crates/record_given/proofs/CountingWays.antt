-- The ways through the first tests of the order for a writing, kind and counts, over plain numbers: what is answered at each return.
use Rattle.std.specs.Prelude.{Result, Ok, Err}
use mathlib.Core.Path.{◌≡◌, refl, ◌∙◌}
use Prim.Native.Nat.{ℕ, ◌≤◌, ◌<◌}
use mathlib.Core.Bool.{true, false, ◌&&◌}
use mathlib.Core.List.{List, [], ◌∷◌}
use lib.IntN.{ℤ, pos, nat_abs}
use lib.ListN.{length, drop}
use borrow.Author.Tests.{le-leb, lt-leb}
use Rattle.refusal.specs.declared.Fault.{Fault}
use Rattle.refusal.specs.Tests.{done, refused, first}
use Rattle.refusal.proofs.FaultLaws.{gives, refuses}
use Rattle.refusal.proofs.TestLaws.{passed, failed, passes_done}
use Rattle.record.specs.declared.Counts.{Counts}
use Rattle.record.specs.Fields.{width}
use Rattle.record.specs.Layouts.{kind_of, is_loop, is_lasso, variable_count, row_count, counts}
use Rattle.record.specs.Ranges.{variables, rows, within}
use Rattle.record.specs.Writers.{Writer, kind, ms_given, counts_given, numbers_ahead, argument_place, writing, writer}
use Rattle.record.specs.Wants.{kinds_written}
use Rattle.record_fields.proofs.FirstFaults.{before_next, before_here}
use Rattle.record_given.specs.Settled.{given, counting, counted}

-- a refusal of what gives anything
abbrev pub refusal : {A : Type 0} → ℕ → ℕ → Result A Fault
refusal number place = Err (record { number = number; place = place })

module _ (w : Writer) where
  tells : {k p : ℕ} → first counting w ≡ refused k p → refusal k p ≡ counted w
  unfolding counted given
  tells h = refuses _ h

  gave : {c : Counts} → first counting w ≡ done → c ≡ counts_given w → Ok c ≡ counted w
  unfolding counted given
  gave h is = rw is (gives _ h)

  pub unknown : kinds_written (kind w) ≡ false → refusal 4 4 ≡ counted w
  unfolding counting writing
  unknown h = tells (failed _ _ _ _ w h)

  module _ (written : kinds_written (kind w) ≡ true) where
    pub bad_arguments : (within variables (pos w.n) && within rows (pos w.m)) ≡ false → refusal 5 (argument_place w) ≡ counted w
    unfolding counting writing
    bad_arguments h = tells (passed _ _ _ _ w written ∙ failed _ _ _ _ w h)

    module _ (fit : (within variables (pos w.n) && within rows (pos w.m)) ≡ true) where
      past_arguments : first counting w ≡ first (drop 2 counting) w
      unfolding counting writing
      past_arguments = passed _ _ _ _ w written ∙ passed _ _ _ _ w fit

      pub plain_counted : is_lasso (kind w) ≡ false → Ok (record { n = w.n; m = w.m; ms = 0 }) ≡ counted w
      unfolding counting writing counts_given
      plain_counted no_lasso =
          gave (past_arguments ∙ passed _ _ _ _ w (rw no_lasso) ∙ passed _ _ _ _ w (rw no_lasso) ∙ passes_done [] w tt) (rw no_lasso)

      module _ (lasso : is_lasso (kind w) ≡ true) where
        pub no_ms : length w.list < 1 → refusal 12 1 ≡ counted w
        unfolding counting writing
        no_ms h = tells (past_arguments ∙ failed _ _ _ _ w (rw (lasso, lt-leb _ _ h)))

        module _ (some : 1 ≤ length w.list) where
          pub bad_ms : within rows (ms_given w) ≡ false → refusal 5 6 ≡ counted w
          unfolding counting writing
          bad_ms h = tells (past_arguments ∙ passed _ _ _ _ w (rw (lasso, le-leb _ _ some)) ∙ failed _ _ _ _ w (rw (lasso, h)))

          pub lasso_counted : within rows (ms_given w) ≡ true → Ok (record { n = w.n; m = w.m; ms = nat_abs (ms_given w) }) ≡ counted w
          unfolding counting writing counts_given
          lasso_counted h =
              gave (past_arguments ∙ passed _ _ _ _ w (rw (lasso, le-leb _ _ some)) ∙ passed _ _ _ _ w (rw (lasso, h)) ∙ passes_done [] w tt) (rw lasso)

-- kind 1, whose n and m have places
module _ (n m : ℕ) (zs : List ℤ) where
  a_loop : Writer
  a_loop = writer 1 n m zs []

  a_loop_written : kinds_written (kind a_loop) ≡ true
  unfolding a_loop writer kind kind_of kinds_written
  a_loop_written = refl

  pub loop_n : within variables (pos n) ≡ false → refusal 5 6 ≡ counted (writer 1 n m zs [])
  unfolding a_loop writer kind kind_of is_loop argument_place numbers_ahead counts variable_count
  loop_n h =
      rw (before_here variable_count (row_count ∷ []) (pos n) (pos m ∷ []) h) at (bad_arguments a_loop a_loop_written (rw h))

  module _ (n_fits : within variables (pos n) ≡ true) where
    pub loop_m : within rows (pos m) ≡ false → refusal 5 8 ≡ counted (writer 1 n m zs [])
    unfolding a_loop writer kind kind_of is_loop argument_place numbers_ahead counts variable_count row_count width
    loop_m h =
        rw (before_next variable_count (row_count ∷ []) (pos n) (pos m ∷ []) n_fits, before_here row_count [] (pos m) [] h) at
        (bad_arguments a_loop a_loop_written (rw (n_fits, h)))

    pub loop_counted : within rows (pos m) ≡ true → Ok (record { n = n; m = m; ms = 0 }) ≡ counted (writer 1 n m zs [])
    unfolding a_loop writer kind kind_of is_lasso
    loop_counted h = plain_counted a_loop a_loop_written (rw (n_fits, h)) refl

-- a certificate: n and m have none
pub certificate_arguments : (w : Writer) → kinds_written (kind w) ≡ true → is_loop (kind w) ≡ false
    → (within variables (pos w.n) && within rows (pos w.m)) ≡ false → refusal 5 0 ≡ counted w
unfolding argument_place
certificate_arguments w written no_loop h = rw no_loop at (bad_arguments w written h)

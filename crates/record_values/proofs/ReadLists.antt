-- The list of values of a record of each kind, as the code reads it.
use mathlib.Core.Path.{◌≡◌, refl, sym, ap, ◌∙◌}
use Prim.Native.Nat.{ℕ, ◌*◌}
use mathlib.Core.List.{List, [], ◌∷◌, ◌++◌}
use lib.ListN.{drop, replicate}
use Rattle.record.specs.Fields.{u16, width, widths, values}
use Rattle.record.specs.declared.Counts.{Counts}
use Rattle.record.specs.Layouts.{lasso, other, kind_of, is_loop, variable_count, row_count, multiplier, scale, direction, rows_of, counts, layout, ahead, listed}
use Rattle.record_fields.specs.Runs.{numbers}
use Rattle.record_fields.proofs.Forms.{values_run}
use Rattle.record_fields.proofs.BodyParts.{ranking_is, exclusion_is}
use Rattle.record_values.specs.ListsHeld.{list_of}

module _ (bytes : List ℕ) (kind : ℕ) (c : Counts) where
  pub list_1 : kind ≡ 1 → values (rows_of c.n c.m) (drop 10 bytes) ≡ list_of bytes kind c
  unfolding list_of kind_of listed ahead layout counts is_loop widths width variable_count row_count
  list_1 is = rw is

  pub list_2 : kind ≡ 2 → numbers u16 (2 * c.m) (drop 6 bytes) ≡ list_of bytes kind c
  unfolding list_of kind_of listed ahead counts is_loop widths multiplier
  list_2 is = rw is (values_run u16 multiplier (2 * c.m) (drop 6 bytes) refl ∙ ap (λ fs. values fs (drop 6 bytes)) (sym (ranking_is c)))

  pub list_3 : kind ≡ 3 → values ((scale ∷ []) ++ replicate (3 * c.n) direction) (drop 6 bytes) ≡ list_of bytes kind c
  unfolding list_of kind_of listed ahead counts is_loop widths
  list_3 is = rw is (ap (λ fs. values fs (drop 6 bytes)) (sym (exclusion_is c)))

  pub list_4 : kind ≡ 4 → values (listed lasso c) (drop 6 bytes) ≡ list_of bytes kind c
  unfolding list_of kind_of ahead is_loop widths
  list_4 is = rw is

  pub list_other : kind_of kind ≡ other → [] ≡ list_of bytes kind c
  unfolding list_of listed ahead counts layout is_loop values
  list_other is = rw is

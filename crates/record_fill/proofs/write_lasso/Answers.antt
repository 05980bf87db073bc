use Rattle.std.proofs.Common.{◌≡◌, ◌+◌, ◌*◌, ◌≤◌, true, List, [], ◌∷◌, ◌++◌, ℤ, length, drop, refl, sym, ap, ◌∙◌, arith}
use Rattle.std.proofs.lemmas.List.Edits.{sets}
use Rattle.record.specs.declared.Counts.{Counts}
use Rattle.record.specs.Fields.{u16, width, widths, bytes_of, in_range}
use Rattle.record.specs.Layouts.{lasso, is_loop, row_count, rows_of, counts, listed}
use Rattle.record.proofs.Lengths.{widths_rows}
use Rattle.record_fields.specs.Runs.{linear, weights, value_count}
use Rattle.record_fields.proofs.Forms.{weights_formed, weights_count}
use Rattle.record_fields.proofs.BodyParts.{widths_linear, length_linear, length_rows, lasso_is}
use Rattle.record_fields.proofs.Stores.{bytes_formed, held_formed, bytes_run, held_run, in_range_both, write_both}
use Rattle.record_fill.proofs.write_lasso.Goals as goal

-- a lasso's list: its count, its rows, the invariant and the weights
parts : (c : Counts) → listed lasso c ≡ row_count ∷ (rows_of c.n c.ms ++ (linear c.n ++ (weights c.ms ++ weights (3 * c.m + 3))))
unfolding listed counts is_loop
parts c = ap (λ fs. row_count ∷ fs) (lasso_is c)

-- the values of each part are in range
module _ (c : Counts) (zs : List ℤ) (there : value_count lasso c ≤ length zs) (fit : in_range (listed lasso c) zs ≡ true) where
  enough : 1 + (c.ms * (2 * c.n + 1) + (c.n + 1 + (c.ms + 3 * c.m + 5))) ≤ length zs
  unfolding value_count
  enough = omega (arith, there)

  count_fits : (in_range (row_count ∷ []) zs ≡ true) × (in_range (rows_of c.n c.ms ++ (linear c.n ++ (weights c.ms ++ weights (3 * c.m + 3)))) (drop 1 zs) ≡ true)
  count_fits = in_range_both (row_count ∷ []) (rows_of c.n c.ms ++ (linear c.n ++ (weights c.ms ++ weights (3 * c.m + 3)))) zs 0 1 refl (omega (arith, enough)) (rw (parts c) at fit)

  rows_fit : (in_range (rows_of c.n c.ms) (drop 1 zs) ≡ true) × (in_range (linear c.n ++ (weights c.ms ++ weights (3 * c.m + 3))) (drop (1 + c.ms * (2 * c.n + 1)) zs) ≡ true)
  rows_fit =
      in_range_both (rows_of c.n c.ms) (linear c.n ++ (weights c.ms ++ weights (3 * c.m + 3))) zs 1 (1 + c.ms * (2 * c.n + 1)) (ap (λ k. 1 + k) (sym (length_rows c.n c.ms)))
      (omega (arith, enough, length_rows c.n c.ms)) count_fits.1

  linear_fits : (in_range (linear c.n) (drop (1 + c.ms * (2 * c.n + 1)) zs) ≡ true)
      × (in_range (weights c.ms ++ weights (3 * c.m + 3)) (drop (1 + c.ms * (2 * c.n + 1) + (c.n + 1)) zs) ≡ true)
  linear_fits =
      in_range_both (linear c.n) (weights c.ms ++ weights (3 * c.m + 3)) zs (1 + c.ms * (2 * c.n + 1)) (1 + c.ms * (2 * c.n + 1) + (c.n + 1))
      (ap (λ k. 1 + c.ms * (2 * c.n + 1) + k) (sym (length_linear c.n))) (omega (arith, enough, length_linear c.n)) rows_fit.1

pub write_run-requires-clause-held : goal.write_run-requires-clause-held
unfolding row_count
write_run-requires-clause-held c =
    let a = c.args in
    held_run u16 row_count 1 a.values.now refl (count_fits a.counts a.values.now c.requires.there c.requires.fit).0

pub write_rows-requires-clause-fit : goal.write_rows-requires-clause-fit
write_rows-requires-clause-fit c = let a = c.args in (rows_fit a.counts a.values.now c.requires.there c.requires.fit).0

pub write_linear-requires-clause-fit : goal.write_linear-requires-clause-fit
write_linear-requires-clause-fit c = let a = c.args in (linear_fits a.counts a.values.now c.requires.there c.requires.fit).0

pub write_run-requires-2-clause-held : goal.write_run-requires-2-clause-held
write_run-requires-2-clause-held c =
    let a = c.args in
    let n = a.counts.n in
    let m = a.counts.m in
    let ms = a.counts.ms in
    held_formed u16 (weights ms ++ weights (3 * m + 3)) (ms + 3 * m + 5) (drop (1 + ms * (2 * n + 1) + (n + 1)) a.values.now) (weights_formed ms m) (weights_count ms m)
    (linear_fits a.counts a.values.now c.requires.there c.requires.fit).1

pub returns : goal.returns
unfolding widths width row_count
returns c =
    let a = c.args in
    let n = a.counts.n in
    let m = a.counts.m in
    let ms = a.counts.ms in
    let zs = a.values.now in
    let long = enough a.counts zs c.requires.there c.requires.fit in
    let place = 2 + ms * (4 * n + 4) in
    let index = 1 + ms * (2 * n + 1) in
    let count = c.write_run in
    let stem = c.write_rows in
    let invariant = c.write_linear in
    let last = weights ms ++ weights (3 * m + 3) in
    let from_invariant =
    write_both (linear n) last zs index (index + (n + 1)) (ap (λ k. index + k) (sym (length_linear n))) (omega (arith, long, length_linear n))
    place (place + (2 * n + 4)) stem.new.body invariant.new.body (ap (λ k. place + k) (sym (widths_linear n)))
    invariant.ensures
    (c.write_run-2.ensures ∙ ap (sets invariant.new.body (place + (2 * n + 4))) (bytes_formed u16 last (ms + 3 * m + 5) (drop (index + (n + 1)) zs) (weights_formed ms m) (weights_count ms m))) in
    let from_stem =
    write_both (rows_of n ms) (linear n ++ last) zs 1 index (ap (λ k. 1 + k) (sym (length_rows n ms))) (omega (arith, long, length_rows n ms))
    2 place count.new.body stem.new.body (ap (λ k. 2 + k) (sym (widths_rows n ms))) stem.ensures from_invariant in
    let all =
    write_both (row_count ∷ []) (rows_of n ms ++ (linear n ++ last)) zs 0 1 refl (omega (arith, long)) 0 2 a.body.now count.new.body refl
    (count.ensures ∙ ap (sets a.body.now 0) (bytes_run u16 row_count 1 zs refl)) from_stem in
    all ∙ ap (λ fs. sets a.body.now 0 (bytes_of fs zs)) (sym (parts a.counts))

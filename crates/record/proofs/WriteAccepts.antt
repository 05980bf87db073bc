-- `write-accepts`: for each kind, with n, m and ms within the limits, every part in its range and room enough, writing answers 0 and
-- tells the bytes of 01's formula. The parts and their ranges are those of specs/Contents.antt.
use mathlib.Core.Path.{◌≡◌, refl}
use Prim.Native.Nat.{ℕ, suc, ◌+◌, ◌*◌, ◌≤◌}
use mathlib.Core.Bool.{true, not, ◌||◌}
use mathlib.Core.List.{List, [], ◌∷◌}
use native.Mathlib.Omega.{arith}
use lib.Dec.{leb}
use lib.IntN.{ℤ}
use lib.ListN.{length, replicate}
use borrow.Author.Tests.{le-leb, eq-eqb}
use Rattle.whole.specs.Rows.{Row}
use Rattle.whole.specs.Sums.{Each}
use Rattle.refusal.proofs.TestLaws.{passes_done, true_both}
use Rattle.record.specs.Contents.{CountsIn, row_values, rows_values, RowIn, RowsIn, ranking_values, RankingIn, exclusion_values, ExclusionIn, LassoParts, lasso_values, LassoIn}
use Rattle.record.specs.Layouts.{kind_of, is_loop, is_lasso, row_count, entry, right_side, multiplier, scale, direction, row, rows_of, counts, layout, length_of, listed}
use Rattle.record.specs.Wants.{kinds_written}
use Rattle.record.specs.Ranges.{rows, within}
use Rattle.record.specs.Writers as W
use Rattle.record.specs.Writers.{Writer, writing}
use Rattle.record.proofs.FittingValues.{Fit, in_within, fit_none, fit_cons, fit_append, fit_same}

fit_row : (n : ℕ) (r : Row) → RowIn n r → Fit (row n) (row_values r)
unfolding row row_values entry right_side
fit_row n r h =
    fit_append (replicate n entry) r.now (fit_same entry n r.now h.now_in)
    (fit_append (replicate n entry) r.next (fit_same entry n r.next h.next_in)
    (fit_cons right_side h.right_in fit_none))

pub fit_rows : (n : ℕ) (rs : List Row) → Each (RowIn n) rs → Fit (rows_of n (length rs)) (rows_values rs)
unfolding rows_of rows_values Each
fit_rows n [] h = fit_none
fit_rows n (r ∷ rs) h = fit_append (row n) (row_values r) (fit_row n r h.0) (fit_rows n rs h.1)

-- ---- the four kinds

-- a writing is done and tells the record's bytes
abbrev pub Accepts : Writer → ℕ → Type 0
Accepts w bytes = W.writes w ≡ record { number = 0; place = 0; written = bytes }

-- every test holds where the counts are within the limits and the list fits its fields
accepts : (w : Writer) → kinds_written (W.kind w) ≡ true → CountsIn w.n w.m
    → (not (is_lasso (W.kind w)) || leb 1 (length w.list)) ≡ true → (not (is_lasso (W.kind w)) || within rows (W.ms_given w)) ≡ true
    → Fit (W.fields w) w.list → 4 + W.length_stated w ≤ w.room → Accepts w (4 + W.length_stated w)
unfolding writing W.writes W.answer
accepts w known limits there ms_fits fit room =
    rw
    (passes_done writing w (
      known,
      (
        true_both _ _ (in_within limits.n_in) (in_within limits.m_in),
        (
          there,
          (
            ms_fits,
            (
              eq-eqb _ _ fit.counted,
              (
                fit.ranged,
                (
                  le-leb _ _ room,
                  tt,
                ),
              ),
            ),
          ),
        ),
      ),
    ))

pub write_accepts_loop : (n m : ℕ) (rs : List Row) (room : List ℕ) → CountsIn n m → RowsIn n m rs → 4 + (6 + m * (4 * n + 4)) ≤ length room
    → Accepts (W.writer 1 n m (rows_values rs) room) (4 + (6 + m * (4 * n + 4)))
unfolding W.writer W.kind kind_of is_loop is_lasso kinds_written W.length_stated length_of W.fields W.counts_given listed layout
write_accepts_loop n m rs room limits h fits =
    accepts (W.writer 1 n m (rows_values rs) room) refl limits refl refl (rw (← h.counted) (fit_rows n rs h.each)) fits

pub write_accepts_ranking : (n m : ℕ) (Y Z : List ℤ) (room : List ℕ) → CountsIn n m → RankingIn m Y Z → 4 + (2 + 4 * m) ≤ length room
    → Accepts (W.writer 2 n m (ranking_values Y Z) room) (4 + (2 + 4 * m))
unfolding W.writer W.kind kind_of is_loop is_lasso kinds_written W.length_stated length_of W.fields W.counts_given listed counts layout ranking_values multiplier
write_accepts_ranking n m Y Z room limits h fits =
    accepts (W.writer 2 n m (ranking_values Y Z) room) refl limits refl refl
    (fit_append (replicate m multiplier) Y (fit_same multiplier m Y h.Y-in) (fit_same multiplier m Z h.Z-in)) fits

pub write_accepts_exclusion : (n m : ℕ) (q : ℤ) (U V' W' : List ℤ) (room : List ℕ) → CountsIn n m → ExclusionIn n q U V' W' → 4 + (4 + 12 * n) ≤ length room
    → Accepts (W.writer 3 n m (exclusion_values q U V' W') room) (4 + (4 + 12 * n))
unfolding W.writer W.kind kind_of is_loop is_lasso kinds_written W.length_stated length_of W.fields W.counts_given listed counts layout exclusion_values scale direction
write_accepts_exclusion n m q U V' W' room limits h fits =
    accepts (W.writer 3 n m (exclusion_values q U V' W') room) refl limits refl refl
    (fit_cons scale h.q_in
    (fit_append (replicate n direction) U (fit_same direction n U h.U-in)
    (fit_append (replicate n direction) V' (fit_same direction n V' h.V-in) (fit_same direction n W' h.W-in)))) fits

pub write_accepts_lasso : (n m : ℕ) (c : LassoParts) (room : List ℕ) → CountsIn n m → LassoIn n m c
    → 4 + (18 + 2 * n + length c.stem * (4 * n + 6) + 6 * m) ≤ length room
    → Accepts (W.writer 4 n m (lasso_values c) room) (4 + (18 + 2 * n + length c.stem * (4 * n + 6) + 6 * m))
unfolding W.writer W.kind kind_of is_loop is_lasso kinds_written W.length_stated length_of W.fields W.counts_given W.ms_given listed counts layout lasso_values row_count entry right_side scale multiplier
write_accepts_lasso n m c room limits h fits =
    accepts (W.writer 4 n m (lasso_values c) room) refl limits
    (le-leb 1 (length (lasso_values c)) (omega arith)) (in_within h.ms_in)
    (fit_cons row_count h.ms_in
    (fit_append (rows_of n (length c.stem)) (rows_values c.stem) (fit_rows n c.stem h.stem_in)
    (fit_append (replicate n entry) c.s (fit_same entry n c.s h.s_in)
    (fit_cons right_side h.s0_in
    (fit_cons scale h.k_in
    (fit_append (replicate (length c.stem) multiplier) c.T (fit_same multiplier (length c.stem) c.T h.T-in)
    (fit_cons scale h.k2_in
    (fit_append (replicate m multiplier) c.H (fit_same multiplier m c.H h.H-in)
    (fit_cons multiplier h.h0_in
    (fit_append (replicate (suc m) multiplier) c.Y (fit_same multiplier (suc m) c.Y h.Y-in) (fit_same multiplier (suc m) c.Z h.Z-in)))))))))))
    fits

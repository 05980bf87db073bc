-- The bytes of a body of each kind, as the code writes them.
use mathlib.Core.Path.{◌≡◌, refl, sym, ap, ◌∙◌}
use Prim.Native.Nat.{ℕ, ◌+◌, ◌*◌, ◌≤◌}
use mathlib.Core.Bool.{true, cond}
use mathlib.Core.List.{List, [], ◌∷◌, ◌++◌}
use native.Mathlib.Omega.{arith}
use lib.IntN.{ℤ, pos}
use lib.ListN.{length, replicate, length-append}
use Rattle.endian.specs.Numbers.{digits}
use Rattle.record.specs.Fields.{u16, stored, widths, bytes_of, in_range}
use Rattle.record.specs.declared.Counts.{Counts}
use Rattle.record.specs.Layouts.{Kind, loop, ranking, exclusion, lasso, other, kind_of, is_loop, is_known, variable_count, row_count, multiplier, scale, direction, rows_of, counts, layout, length_of, ahead, listed}
use Rattle.record.proofs.Lengths.{length_law}
use Rattle.record_fields.specs.Runs.{stores, all_held}
use Rattle.record_fields.proofs.BodyParts.{count_law, ranking_is, exclusion_is}
use Rattle.record_fields.proofs.Stores.{bytes_run, held_run, length_bytes}
use Rattle.record_fill.specs.Bodies.{body_bytes, Fitting}

module _ (kind : ℕ) (c : Counts) (zs : List ℤ) where
  pub bytes_1 : kind ≡ 1 → digits 2 c.n ++ (digits 2 c.m ++ bytes_of (rows_of c.n c.m) zs) ≡ body_bytes kind c zs
  unfolding body_bytes kind_of listed ahead layout counts is_loop bytes_of stored variable_count row_count digits
  bytes_1 is = rw is

  pub bytes_2 : kind ≡ 2 → stores u16 (2 * c.m) zs ≡ body_bytes kind c zs
  unfolding body_bytes kind_of listed ahead counts is_loop bytes_of multiplier
  bytes_2 is = rw is (bytes_run u16 multiplier (2 * c.m) zs refl ∙ ap (λ fs. bytes_of fs zs) (sym (ranking_is c)))

  pub bytes_3 : kind ≡ 3 → bytes_of ((scale ∷ []) ++ replicate (3 * c.n) direction) zs ≡ body_bytes kind c zs
  unfolding body_bytes kind_of listed ahead counts is_loop bytes_of
  bytes_3 is = rw is (ap (λ fs. bytes_of fs zs) (sym (exclusion_is c)))

  pub bytes_4 : kind ≡ 4 → bytes_of (listed lasso c) zs ≡ body_bytes kind c zs
  unfolding body_bytes kind_of ahead is_loop bytes_of
  bytes_4 is = rw is

  pub bytes_other : kind_of kind ≡ other → [] ≡ body_bytes kind c zs
  unfolding body_bytes listed ahead counts layout is_loop bytes_of
  bytes_other is = rw is

-- the values of each kind, in the ranges of the fields that the code writes
module _ (kind : ℕ) (c : Counts) (zs : List ℤ) (fit : in_range (listed (kind_of kind) c) zs ≡ true) where
  pub fit_1 : kind ≡ 1 → in_range (rows_of c.n c.m) zs ≡ true
  unfolding kind_of listed layout is_loop
  fit_1 is = rw is at fit

  pub fit_2 : kind ≡ 2 → all_held u16 (2 * c.m) zs ≡ true
  unfolding kind_of listed counts is_loop multiplier
  fit_2 is = held_run u16 multiplier (2 * c.m) zs refl (rw (is, ranking_is c) at fit)

  pub fit_3 : kind ≡ 3 → in_range ((scale ∷ []) ++ replicate (3 * c.n) direction) zs ≡ true
  unfolding kind_of listed counts is_loop
  fit_3 is = rw (is, exclusion_is c) at fit

-- the numbers ahead of the list are as many as their fields
ahead_long : (k : Kind) (n m : ℕ) → length (ahead k) ≡ length (cond (is_loop k) (pos n ∷ pos m ∷ []) [])
unfolding ahead counts is_loop
ahead_long loop n m = refl
ahead_long ranking n m = refl
ahead_long exclusion n m = refl
ahead_long lasso n m = refl
ahead_long other n m = refl

-- the body of a known kind is as long as the formula says
body_widths : (kind : ℕ) (c : Counts) (zs : List ℤ) → Fitting kind c zs → length (body_bytes kind c zs) ≡ widths (ahead (kind_of kind)) + widths (listed (kind_of kind) c)
unfolding body_bytes
body_widths kind c zs f =
    let k = kind_of kind in
    let front : length (ahead k) ≤ length (cond (is_loop k) (pos c.n ∷ pos c.m ∷ []) []) = omega (arith, ahead_long k c.n c.m) in
    let rest : length (listed k c) ≤ length zs = omega (arith, count_law k c, f.counted) in
    rw (length-append, length_bytes (ahead k) (cond (is_loop k) (pos c.n ∷ pos c.m ∷ []) []) front, length_bytes (listed k c) zs rest)

pub body_long : (kind : ℕ) (c : Counts) (zs : List ℤ) → Fitting kind c zs → is_known (kind_of kind) ≡ true
    → 2 + length (body_bytes kind c zs) ≡ length_of (kind_of kind) c
body_long kind c zs f known = omega (arith, body_widths kind c zs f, length_law (kind_of kind) c known)

-- What a sound record's values are, in the words of the theory: the loop that a loop record holds, and the ranking, exclusion or
-- lasso that a certificate holds for a loop of n variables and m rows. The order of the parts is that of 01, "Records on file".
use Rattle.std.specs.Prelude.{ℕ, zero, suc, ◌+◌, ◌*◌, List, [], ◌∷◌, ℤ, pos, nat_abs, take, drop, get_or}
use Rattle.record.specs.Contents.{LassoParts}
use Rattle.record.specs.Readers.{Reader, counts_read, list}
use Rattle.theory.specs.Exclusions.{Exclusion}
use Rattle.theory.specs.Lassos.{Lasso}
use Rattle.theory.specs.Loops.{Loop, over}
use Rattle.theory.specs.Rankings.{Ranking}
use Rattle.whole.specs.Rows.{Row}

-- rows over n variables, each n entries of A, n of A' and b
unfoldable pub rows_of_numbers : ℕ → ℕ → List ℤ → List Row
rows_of_numbers n zero zs = []
rows_of_numbers n (suc m) zs =
    record { now = take n zs; next = take n (drop n zs); right = get_or (drop (n + n) zs) 0 (pos 0) }
    ∷ rows_of_numbers n m (drop (n + n + 1) zs)

-- m multipliers Y, then m multipliers Z
unfoldable pub ranking_from : ℕ → List ℤ → Ranking
ranking_from m zs = record { Y = take m zs; Z = take m (drop m zs) }

-- q, then U, V, W, n entries each
unfoldable pub exclusion_from : ℕ → List ℤ → Exclusion
exclusion_from n zs =
    record {
      q = nat_abs (get_or zs 0 (pos 0));
      U = take n (drop 1 zs);
      «V» = take n (drop n (drop 1 zs));
      W = take n (drop n (drop n (drop 1 zs)));
    }

-- ms; ms stem rows; s; s0; k; T; k2; H; h0; Y, then Z
unfoldable pub lasso_from : ℕ → ℕ → ℕ → List ℤ → Lasso
lasso_from n m ms zs =
    let from_s = drop (ms * (n + n + 1)) (drop 1 zs) in
    let from_s0 = drop n from_s in
    let from_k2 = drop ms (drop 2 from_s0) in
    let from_h0 = drop m (drop 1 from_k2) in
    record {
      stem = rows_of_numbers n ms (drop 1 zs);
      s = take n from_s;
      s0 = get_or from_s0 0 (pos 0);
      k = nat_abs (get_or from_s0 1 (pos 0));
      T = take ms (drop 2 from_s0);
      k2 = nat_abs (get_or from_k2 0 (pos 0));
      H = take m (drop 1 from_k2);
      h0 = nat_abs (get_or from_h0 0 (pos 0));
      ranking = ranking_from (suc m) (drop 1 from_h0);
    }

-- ---- of the records that a judge gets

unfoldable pub loop_in : Reader → Loop
loop_in r = over (counts_read r).n (rows_of_numbers (counts_read r).n (counts_read r).m (list r))

unfoldable pub ranking_in : Reader → Ranking
ranking_in r = ranking_from (counts_read r).m (list r)

unfoldable pub exclusion_in : Reader → Exclusion
exclusion_in r = exclusion_from (counts_read r).n (list r)

unfoldable pub lasso_in : Reader → Lasso
lasso_in r = lasso_from (counts_read r).n (counts_read r).m (counts_read r).ms (list r)

-- a lasso's parts as crate `record` names them
unfoldable pub parts : Lasso → LassoParts
parts c =
    record {
      stem = c.stem;
      s = c.s;
      s0 = c.s0;
      k = pos c.k;
      T = c.T;
      k2 = pos c.k2;
      H = c.H;
      h0 = pos c.h0;
      Y = c.ranking.Y;
      Z = c.ranking.Z;
    }

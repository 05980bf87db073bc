-- What sound records of kinds 5 and 6 hold is within the limits, part by part (`BranchesIn`, `ArgumentIn`), and what is within the limits is
-- well-formed: no multiplier is below 0, every δ is 1 at least, every component number is below the count. So a sound pair is all that the theory asks.
use mathlib.Core.Path.{◌≡◌, refl, sym, ap, ◌∙◌}
use Prim.Native.Nat.{ℕ, ◌+◌, ◌*◌, ◌≤◌, ◌<◌}
use mathlib.Core.List.{List, [], ◌∷◌, append-nil}
use native.Mathlib.Nat.{mul-le-mul_left}
use native.Mathlib.Omega.{arith}
use lib.IntN.{pos}
use lib.ListN.{length, replicate}
use lib.Signed.{◌≤ℤ◌}
use borrow.Author.Tests.{le-leb}
use Rattle.refusal.specs.Places.{Throughout}
use Rattle.refusal.proofs.TestLaws.{true_both}
use Rattle.record.specs.Contents.{In, ListIn, RowsIn}
use Rattle.record.specs.Fields.{width}
use Rattle.record.specs.Layouts.{direction, right_side, multiplier, rows_of}
use Rattle.record.specs.Ranges.{◌to◌, within, variables, rows, multipliers}
use Rattle.record.proofs.FittingValues.{within_in}
use Rattle.record.proofs.Lengths.{widths_replicate, widths_rows}
use Rattle.record_paths.specs.PathCertificates.{Counted, counted, components_in, component_in, multipliers_before, all_multipliers}
use Rattle.record_paths.specs.PathCertificates.{component_place, list_place, component_fields, components_fields, certificate_fields}
use Rattle.record_paths.specs.PathFields.{path_counts, component_counts, falls, fall}
use Rattle.record_paths.specs.PathLoops.{variables_in, paths_in, rows_in, rows_before, all_rows, rows_place}
use Rattle.record_paths.proofs.PathSums.{sum_part}
use Rattle.record_paths.proofs.PathsSound.{PathsSound, paths_sound, LexicographicSound, lexicographic_sound}
use Rattle.theory_paths.specs.Lexicographics.{PathPart, Lexicographic, part_at, NonNegativePart, WellFormed}
use Rattle.theory_paths.specs.Paths.{Branches, rows_for}
use Rattle.verdict.proofs.Demands.{nonneg_all}
use Rattle.whole.specs.Sums.{Each, NonNeg}
use Rattle.whole.proofs.EachLaws.{each_then, each_by}
use Rattle.whole.proofs.Tables.{length_tabulate, tabulate_at, each_tabulate}
use Rattle.verdict_paths.specs.PathContents.{path_in, branches_in, component_held, list_held, part_held, lexicographic_in}
use Rattle.verdict_paths.specs.PathJudging.{PathPair, counts_of}
use Rattle.verdict_paths.specs.PathValues.{PathIn, BranchesIn, ComponentIn, PartIn, ArgumentIn}
use Rattle.verdict_paths.proofs.FieldsAtPlaces.{FitsAt, first_apart, first_in, fits_apart, parts_within, run_together, rows_together}
use Rattle.verdict_paths.proofs.FieldsAtPlaces.{components_together, components_wide, run_in, rows_are_in}
use Rattle.verdict_paths.proofs.PathsAccepted.{PairSound, paths_held, argument_held}

-- a count between two others
pub count_in : (least most k : ℕ) → least ≤ k → k ≤ most → In (least to most) (pos k)
unfolding within ◌to◌
count_in least most k few many = within_in (least to most) (pos k) (true_both _ _ (le-leb least k few) (le-leb k most many))

-- ---- kind 5

module _ (bytes : List ℕ) (s : PathsSound bytes) where
  rows_held : Throughout (paths_in bytes) (λ j. RowsIn (variables_in bytes) (rows_in bytes j) (path_in bytes j))
  unfolding path_in rows_place rows_before all_rows rows_of
  rows_held j below =
      let n = variables_in bytes in
      rows_are_in bytes n (rows_in bytes j) (rows_place bytes j)
      (parts_within bytes (rows_of n) (4 * n + 4) refl (rows_together n) (widths_rows n) (all_rows bytes) (rows_before bytes j)
      (rows_in bytes j) (10 + 2 * paths_in bytes) (sum_part (rows_in bytes) (paths_in bytes) j below) s.rows_fit)

  pub length_path : Throughout (paths_in bytes) (λ j. length (path_in bytes j) ≡ rows_in bytes j)
  length_path j below = (rows_held j below).counted

  path_is_in : Throughout (paths_in bytes) (λ j. PathIn (variables_in bytes) (path_in bytes j))
  unfolding rows
  path_is_in j below =
      record {
        m_in = rw (length_path j below) (count_in 0 64 (rows_in bytes j) (omega arith) (s.few_rows j below));
        each = (rows_held j below).each;
      }

  pub branches_are_in : BranchesIn (branches_in bytes)
  unfolding branches_in variables path_counts
  branches_are_in =
      record {
        n_in = count_in 1 16 (variables_in bytes) s.some_variables s.few_variables;
        count_in = rw length_tabulate (count_in 1 8 (paths_in bytes) s.some_paths s.few_paths);
        each = each_tabulate (PathIn (variables_in bytes)) (paths_in bytes) (path_in bytes) path_is_in;
      }

-- ---- kind 6

module _ (c : Counted) (bytes : List ℕ) (s : LexicographicSound c bytes) where
  parts_fit : FitsAt (components_fields c.n (components_in bytes)) bytes (component_place c 0)
      × FitsAt (replicate (all_multipliers c bytes) multiplier) bytes (component_place c (components_in bytes))
  unfolding component_place certificate_fields
  parts_fit =
      let both = fits_apart bytes (components_fields c.n (components_in bytes)) (replicate (all_multipliers c bytes) multiplier)
      (8 + 2 * c.paths) s.fields_in_range in
      let first : 8 + 2 * c.paths + 0 * (4 * c.n + 8) ≡ 8 + 2 * c.paths = omega arith in
      (rw first both.0, rw components_wide at both.1)

  component_is_in : Throughout (components_in bytes) (λ i. ComponentIn c.n (component_held c bytes i))
  unfolding component_held component_place components_fields component_fields direction right_side fall width
  component_is_in i below =
      let n = c.n in
      let fits = parts_within bytes (components_fields n) (4 * n + 8) refl (components_together n) (components_wide n) (components_in bytes) i 1
      (component_place c 0) (omega arith) parts_fit.0 in
      let there : component_place c 0 + i * (4 * n + 8) ≡ component_place c i = omega arith in
      let apart = fits_apart bytes (replicate n direction) (right_side ∷ fall ∷ []) (component_place c i) (rw (there, append-nil) at fits) in
      let wide : component_place c i + n * 4 ≡ component_place c i + 4 * n = omega arith in
      let last = rw (widths_replicate n direction, wide) at apart.1 in
      record {
        r_in = run_in bytes direction n (component_place c i) apart.0;
        δ0-in = first_in bytes right_side (fall ∷ []) (component_place c i + 4 * n) last;
        δ-in = first_in bytes fall [] (component_place c i + 4 * n + 4) (first_apart bytes right_side (fall ∷ []) (component_place c i + 4 * n) last).1;
      }

  list_is_in : Throughout c.paths (λ j. Throughout (2 + component_in bytes j) (λ k. ListIn multipliers (c.m j) (list_held c bytes j k)))
  unfolding list_held list_place multipliers_before all_multipliers multiplier width
  list_is_in j below k early =
      let m = c.m j in
      let before = multipliers_before c bytes j in
      let inside : before + m * k + m ≤ all_multipliers c bytes
      = omega (arith, mul-le-mul_left m early, sum_part (λ i. c.m i * (2 + component_in bytes i)) c.paths j below) in
      let fits = parts_within bytes (λ k. replicate k multiplier) 2 refl (run_together multiplier) (λ a. widths_replicate a multiplier)
      (all_multipliers c bytes) (before + m * k) m (component_place c (components_in bytes)) inside parts_fit.1 in
      let there : component_place c (components_in bytes) + (before + m * k) * 2 ≡ list_place c bytes j k = omega arith in
      run_in bytes multiplier m (list_place c bytes j k) (rw there at fits)

  part_is_in : Throughout c.paths (λ j. PartIn (components_in bytes) (c.m j) (part_held c bytes j))
  unfolding part_held
  part_is_in j below =
      record {
        there = s.component_there j below;
        bounded_in = list_is_in j below 0 (omega arith);
        ranking_in = list_is_in j below 1 (omega arith);
        counted = length_tabulate _ _;
        unaffecting_in =
            each_tabulate (ListIn multipliers (c.m j)) (component_in bytes j) (λ i. list_held c bytes j (2 + i))
            (λ i early. list_is_in j below (2 + i) (omega arith));
      }

module _ (loopbytes certificate : List ℕ) (loop : PathsSound loopbytes) (s : LexicographicSound (counted loopbytes) certificate) where
  -- the m of path j, as the certificate counts it
  rows_counted : Throughout (paths_in loopbytes) (λ j. length (rows_for (branches_in loopbytes) j) ≡ rows_in loopbytes j)
  unfolding branches_in
  rows_counted j below = ap length (tabulate_at (paths_in loopbytes) (path_in loopbytes) j [] below) ∙ length_path loopbytes loop j below

  pub argument_is_in : ArgumentIn (branches_in loopbytes) (lexicographic_in (counted loopbytes) certificate)
  unfolding branches_in lexicographic_in component_counts counted
  argument_is_in =
      record {
        count_in = rw length_tabulate (count_in 1 8 (components_in certificate) s.some_components s.few_components);
        components_in = each_tabulate _ _ _ (component_is_in (counted loopbytes) certificate s);
        parts_counted = length_tabulate _ _ ∙ sym (length_tabulate _ _);
        parts_in = λ j below.
            let there : j < paths_in loopbytes = rw length_tabulate at below in
            rw (rows_counted j there, length_tabulate, tabulate_at (paths_in loopbytes) (part_held (counted loopbytes) certificate) j _ there)
            (part_is_in (counted loopbytes) certificate s j there);
      }

-- ---- what is within the limits is well-formed

nonneg_part : (components m : ℕ) (part : PathPart) → PartIn components m part → NonNegativePart part
nonneg_part components m part h =
    record {
      bounded = nonneg_all _ h.bounded_in.each;
      ranking = nonneg_all _ h.ranking_in.each;
      unaffecting = each_then (ListIn multipliers m) (Each NonNeg) part.unaffecting (λ ys l. nonneg_all ys l.each) h.unaffecting_in;
    }

pub in_range_well_formed : (loop : Branches) (c : Lexicographic) → ArgumentIn loop c → WellFormed loop c
unfolding falls ◌to◌
in_range_well_formed loop c h =
    record {
      nonneg = each_by NonNegativePart c.parts _ (λ j below. nonneg_part _ _ (part_at c j) (h.parts_in j (omega (arith, h.parts_counted))));
      falls = each_then (ComponentIn loop.variables) (λ k. pos 1 ≤ℤ k.δ) c.components (λ k i. i.δ-in.least) h.components_in;
      numbered = λ j below. (h.parts_in j below).there;
    }

-- ---- a sound pair

module _ (p : PathPair) (both : PairSound p) where
  pub sound_branches : BranchesIn (paths_held p)
  sound_branches = branches_are_in p.loopbytes (paths_sound p.loopbytes both.loop_sound)

  pub sound_argument : ArgumentIn (paths_held p) (argument_held p)
  sound_argument =
      argument_is_in p.loopbytes p.certificate (paths_sound p.loopbytes both.loop_sound)
      (lexicographic_sound (counts_of p) p.certificate both.certificate_sound)

  pub sound_well_formed : WellFormed (paths_held p) (argument_held p)
  sound_well_formed = in_range_well_formed (paths_held p) (argument_held p) sound_argument

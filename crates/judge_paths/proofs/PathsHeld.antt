-- What sound records of kinds 5 and 6 hold, by places: the paths and the argument of crate `verdict_paths` are the weighted rows that the code reads, so what
-- it tells of a path by places it tells of the records.
use mathlib.Core.Path.{◌≡◌, refl, sym, ap, ◌∙◌}
use Prim.Native.Nat.{ℕ, ◌+◌, ◌*◌, ◌≤◌, ◌<◌}
use mathlib.Core.List.{List, [], append-nil}
use native.Mathlib.Nat.{mul-le-mul_right}
use native.Mathlib.Omega.{arith}
use lib.IntN.{ℤ, pos, negsuc, neg_ℤ}
use lib.ListN.{length, get_or}
use Rattle.endian.specs.Numbers.{little_at}
use Rattle.refusal.specs.Places.{Throughout}
use Rattle.refusal.specs.Tests.{Told, done, refused}
use Rattle.refusal.proofs.TestLaws.{either}
use Rattle.whole.specs.Sums.{tabulate}
use Rattle.whole.proofs.Tables.{length_tabulate, tabulate_at}
use Rattle.record.specs.Fields.{width, number}
use Rattle.record.specs.Layouts.{direction, rows_of}
use Rattle.record_fields.specs.Runs.{field_number_at}
use Rattle.record_paths.specs.PathFields.{fall, numbers_at}
use Rattle.record_paths.specs.PathLoops.{variables_in, paths_in, rows_in, rows_before, rows_place}
use Rattle.record_paths.specs.PathCertificates.{Counted, counted, components_in, component_in, component_place, multipliers_before, all_multipliers, list_place}
use Rattle.record_paths.proofs.PathSums.{sum_none, sum_next, sum_part}
use Rattle.record_paths.proofs.PathsSound.{PathsSound, LexicographicSound}
use Rattle.theory_paths.specs.Paths.{Branches, rows_for}
use Rattle.theory_paths.specs.Lexicographics.{Lexicographic, component_at, part_at, own, bounding, falling, not_rising}
use Rattle.theory_paths.specs.PathConditions.{every, weighs, path_told, lexicographic_told}
use Rattle.theory_paths.proofs.PathLaws.{every_same, path_51, path_52, path_53, path_done, paths_done, paths_refused}
use Rattle.judge_sums.specs.Lists.{multipliers_from, rights_from, rows_from}
use Rattle.judge_sums.specs.Places.{right_at}
use Rattle.judge_held.proofs.HeldRuns.{rows_held}
use Rattle.judge_held.proofs.NumbersHeld.{run_is, multipliers_are, start_is}
use Rattle.verdict_paths.specs.PathContents.{rows_at, path_in, branches_in, component_held, list_held, part_held, lexicographic_in}
use Rattle.judge_paths.specs.PathByPlaces.{weighted_by, bounded_by, falling_by, staying_by, path_told_by, PathIn}

-- ---- numbers and rows at a place

r_is : (k : ℕ) (bytes : List ℕ) (place : ℕ) → numbers_at direction k bytes place ≡ rights_from bytes place k
unfolding rights_from direction width number little_at right_at
r_is k bytes place = run_is direction k bytes place

rows_are : (n m : ℕ) (bytes : List ℕ) (place : ℕ) → rows_at n m bytes place ≡ rows_from bytes n place m
unfolding rows_at
rows_are n m bytes place = rw (← append-nil (rows_of n m)) (rows_held n m [] bytes place).0

fall_is : (bytes : List ℕ) (place : ℕ) → field_number_at fall bytes place ≡ right_at bytes place
unfolding field_number_at fall width number little_at right_at
fall_is bytes place = refl

-- ---- from path to path: where the rows and the lists of the next one start

pub rows_first : (loopbytes : List ℕ) → rows_place loopbytes 0 ≡ 10 + 2 * paths_in loopbytes
unfolding rows_place rows_before
rows_first loopbytes = rw (sum_none (rows_in loopbytes)) (omega arith)

pub rows_next : (loopbytes : List ℕ) (j : ℕ) → rows_place loopbytes (j + 1) ≡ rows_place loopbytes j + rows_in loopbytes j * (4 * variables_in loopbytes + 4)
unfolding rows_place rows_before
rows_next loopbytes j = rw (sum_next (rows_in loopbytes) j) (omega arith)

pub lists_first : (c : Counted) (certificate : List ℕ) → multipliers_before c certificate 0 ≡ 0
unfolding multipliers_before
lists_first c certificate = sum_none _

pub lists_next : (c : Counted) (certificate : List ℕ) (j : ℕ) → multipliers_before c certificate (j + 1) ≡ multipliers_before c certificate j + c.m j * (2 + component_in certificate j)
unfolding multipliers_before
lists_next c certificate j = sum_next _ j

-- the same with the numbers that were read
pub next_rows : (loopbytes : List ℕ) (j row m n : ℕ) → row ≡ rows_place loopbytes j → m ≡ rows_in loopbytes j → n ≡ variables_in loopbytes
    → row + m * (4 * n + 4) ≡ rows_place loopbytes (j + 1)
next_rows loopbytes j row m n row_here m_is n_is = rw (row_here, m_is, n_is) (sym (rows_next loopbytes j))

pub next_lists : (loopbytes certificate : List ℕ) (j place m component : ℕ)
    → place ≡ component_place (counted loopbytes) (components_in certificate) + 2 * multipliers_before (counted loopbytes) certificate j
    → m ≡ rows_in loopbytes j → component ≡ component_in certificate j
    → place + 2 * (m * (2 + component))
    ≡ component_place (counted loopbytes) (components_in certificate) + 2 * multipliers_before (counted loopbytes) certificate (j + 1)
unfolding counted
next_lists loopbytes certificate j place m component place_here m_is component_is =
    rw (place_here, m_is, component_is) (omega (arith, lists_next (counted loopbytes) certificate j))

-- where the components and the lists of the first path start
pub first_place : (loopbytes : List ℕ) (paths : ℕ) → paths ≡ paths_in loopbytes → 8 + 2 * paths ≡ component_place (counted loopbytes) 0
unfolding component_place counted
first_place loopbytes paths is = omega (arith, is)

pub first_list : (loopbytes certificate : List ℕ) (paths n components : ℕ) → paths ≡ paths_in loopbytes → n ≡ variables_in loopbytes → components ≡ components_in certificate
    → 8 + 2 * paths + components * (4 * n + 8)
    ≡ component_place (counted loopbytes) (components_in certificate) + 2 * multipliers_before (counted loopbytes) certificate 0
unfolding component_place counted
first_list loopbytes certificate paths n components paths-are n_is components-are =
    rw (paths-are, n_is, components-are) (omega (arith, lists_first (counted loopbytes) certificate))

pub lists_after : (loopbytes certificate : List ℕ) → LexicographicSound (counted loopbytes) certificate → 8 + 2 * paths_in loopbytes ≤ length certificate
unfolding counted
lists_after loopbytes certificate x = omega (arith, x.long)

-- ---- path j

module _ (loopbytes certificate : List ℕ) (l : PathsSound loopbytes) (x : LexicographicSound (counted loopbytes) certificate) (j : ℕ) (below : j < paths_in loopbytes) where
  abbrev c : Counted
  c = counted loopbytes

  abbrev B : Branches
  B = branches_in loopbytes

  abbrev L : Lexicographic
  L = lexicographic_in c certificate

  abbrev n : ℕ
  n = variables_in loopbytes

  abbrev m : ℕ
  m = rows_in loopbytes j

  abbrev component : ℕ
  component = component_in certificate j

  path_is : rows_for B j ≡ rows_from loopbytes n (rows_place loopbytes j) m
  unfolding branches_in path_in
  path_is = tabulate_at (paths_in loopbytes) (path_in loopbytes) j [] below ∙ rows_are n m loopbytes (rows_place loopbytes j)

  part_is : part_at L j ≡ part_held c certificate j
  unfolding lexicographic_in counted
  part_is = tabulate_at (paths_in loopbytes) (part_held c certificate) j _ below

  component_is : (i : ℕ) → i < components_in certificate → component_at L i ≡ component_held c certificate i
  unfolding lexicographic_in
  component_is i there = tabulate_at (components_in certificate) (component_held c certificate) i _ there

  own_there : component < components_in certificate
  unfolding counted
  own_there = x.component_there j below

  own_is : own L j ≡ component_held c certificate component
  unfolding part_held
  own_is = rw part_is (component_is component own_there)

  -- where the path's rows, its lists and the components stand
  module _ (row place first : ℕ) (row_here : row ≡ rows_place loopbytes j) (place_here : place ≡ component_place c (components_in certificate) + 2 * multipliers_before c certificate j)
      (first_here : first ≡ component_place c 0) where
    place_of : (i : ℕ) → component_place c i ≡ first + i * (4 * n + 8)
    unfolding component_place counted
    place_of i = omega (arith, first_here)

    -- list k, r of component i, and its δ0 and δ
    list_is : (k : ℕ) → list_held c certificate j k ≡ multipliers_from certificate (place + 2 * m * k) m
    unfolding list_held list_place counted
    list_is k = rw (← place_here) (multipliers_are m certificate (place + 2 * m * k))

    r_held : (i : ℕ) → (component_held c certificate i).r ≡ rights_from certificate (first + i * (4 * n + 8)) n
    unfolding component_held counted
    r_held i = rw (place_of i) (r_is n certificate (first + i * (4 * n + 8)))

    start_held : (i : ℕ) → (component_held c certificate i).δ0 ≡ right_at certificate (first + i * (4 * n + 8) + 4 * n)
    unfolding component_held counted
    start_held i = rw (place_of i) (start_is certificate (first + i * (4 * n + 8) + 4 * n))

    fall_held : (i : ℕ) → (component_held c certificate i).δ ≡ right_at certificate (first + i * (4 * n + 8) + 4 * n + 4)
    unfolding component_held counted
    fall_held i = rw (place_of i) (fall_is certificate (first + i * (4 * n + 8) + 4 * n + 4))

    -- weighted rows of the path that are held to -r·x + next·(r·x')
    weighted_is : (weights v : List ℤ) (next : ℕ) (limit : ℤ) (at i : ℕ) (limit' : ℤ) → weights ≡ multipliers_from certificate at m
        → v ≡ rights_from certificate (first + i * (4 * n + 8)) n → limit ≡ limit'
        → record { rows = rows_for B j; weights = weights; v = v; now = negsuc 0; next = pos next; limit = limit }
        ≡ weighted_by loopbytes row n m certificate at (first + i * (4 * n + 8)) next limit'
    unfolding weighted_by
    weighted_is weights v next limit at i limit' e f g = rw (path_is, e, f, g, row_here)

    bounding_is : bounding B L j ≡ bounded_by loopbytes row n m certificate place (first + component * (4 * n + 8))
    unfolding bounded_by part_held
    bounding_is =
        let here : place + 2 * m * 0 ≡ place = omega arith in
        weighted_is _ _ 0 _ place component _ (ap (λ p. p.bounded) part_is ∙ rw here at (list_is 0)) (ap (λ k. k.r) own_is ∙ r_held component)
        (ap (λ k. neg_ℤ k.δ0) own_is ∙ ap neg_ℤ (start_held component))

    falling_is : falling B L j ≡ falling_by loopbytes row n m certificate (place + 2 * m) (first + component * (4 * n + 8))
    unfolding falling_by part_held
    falling_is =
        let here : place + 2 * m * 1 ≡ place + 2 * m = omega arith in
        weighted_is _ _ 1 _ (place + 2 * m) component _ (ap (λ p. p.ranking) part_is ∙ rw here at (list_is 1)) (ap (λ k. k.r) own_is ∙ r_held component)
        (ap (λ k. neg_ℤ k.δ) own_is ∙ ap neg_ℤ (fall_held component))

    not_rising_is : (i : ℕ) → i < component → not_rising B L j i ≡ staying_by loopbytes row n m certificate (place + 4 * m) first i
    unfolding staying_by part_held
    not_rising_is i earlier =
        let here : place + 2 * m * (2 + i) ≡ place + 4 * m + 2 * m * i = omega arith in
        let list_there : get_or (tabulate component (λ i. list_held c certificate j (2 + i))) i [] ≡ list_held c certificate j (2 + i) =
        tabulate_at component (λ i. list_held c certificate j (2 + i)) i [] earlier in
        weighted_is _ _ 1 _ (place + 4 * m + 2 * m * i) i _ (ap (λ p. get_or p.unaffecting i []) part_is ∙ list_there ∙ rw here at (list_is (2 + i)))
        (ap (λ k. k.r) (component_is i (omega (arith, own_there))) ∙ r_held i) refl

    none_rises_is : every (part_at L j).component (λ i. weighs n (not_rising B L j i))
        ≡ every component (λ i. weighs n (staying_by loopbytes row n m certificate (place + 4 * m) first i))
    unfolding part_held
    none_rises_is = ap (λ p. every p.component (λ i. weighs n (not_rising B L j i))) part_is ∙ every_same component _ _ (λ i earlier. ap (weighs n) (not_rising_is i earlier))

    -- ---- what is told

    told_is : path_told_by loopbytes row n m certificate place first component j ≡ path_told n B L j
    unfolding path_told_by
    told_is =
        let own_place = first + component * (4 * n + 8) in
        let bounded = ap (weighs n) bounding_is in
        let ranking = ap (weighs n) falling_is in
        either (weighs n (bounded_by loopbytes row n m certificate place own_place))
        (λ e.
        either (weighs n (falling_by loopbytes row n m certificate (place + 2 * m) own_place))
        (λ f.
        either (every component (λ i. weighs n (staying_by loopbytes row n m certificate (place + 4 * m) first i)))
        (λ g. rw (e, f, g) (sym (path_done n B L j (bounded ∙ e) (ranking ∙ f) (none_rises_is ∙ g))))
        (λ g. rw (e, f, g) (sym (path_53 n B L j (bounded ∙ e) (ranking ∙ f) (none_rises_is ∙ g)))))
        (λ f. rw (e, f) (sym (path_52 n B L j (bounded ∙ e) (ranking ∙ f)))))
        (λ e. rw e (sym (path_51 n B L j (bounded ∙ e))))

    -- ---- what lies in the bytes

    -- the path's lists end with those of all paths at the latest
    lists_there : place + 2 * (m * (2 + component)) ≤ length certificate
    unfolding counted component_place multipliers_before all_multipliers
    lists_there = omega (arith, place_here, x.long, sum_part (λ i. rows_in loopbytes i * (2 + component_in certificate i)) (paths_in loopbytes) j below)

    components_there : first + (component + 1) * (4 * n + 8) ≤ length certificate
    unfolding counted component_place
    components_there = omega (arith, first_here, x.long, mul-le-mul_right (4 * n + 8) own_there)

    path_there : PathIn loopbytes row n m certificate place first component
    path_there =
        record {
          rows_there = record { inside = rw row_here (l.rows_inside j below); few = omega (arith, l.few_rows j below); narrow = omega (arith, l.few_variables) };
          few = l.few_rows j below;
          narrow = l.few_variables;
          shallow = omega (arith, own_there, x.few_components);
          lists_there = lists_there;
          components_there = components_there;
        }

-- ---- the same with the numbers that were read

-- path j stands there, and what is told of it by places is told of the records
pub record PathRead (loopbytes certificate : List ℕ) (j row n m place first component : ℕ) : Type 0 where
  pub there : PathIn loopbytes row n m certificate place first component
  pub told : path_told_by loopbytes row n m certificate place first component j
      ≡ path_told (variables_in loopbytes) (branches_in loopbytes) (lexicographic_in (counted loopbytes) certificate) j

pub path_read : (loopbytes certificate : List ℕ) → PathsSound loopbytes → LexicographicSound (counted loopbytes) certificate → (j row n m place first component : ℕ)
    → j < paths_in loopbytes → row ≡ rows_place loopbytes j → n ≡ variables_in loopbytes → m ≡ rows_in loopbytes j
    → place ≡ component_place (counted loopbytes) (components_in certificate) + 2 * multipliers_before (counted loopbytes) certificate j
    → first ≡ component_place (counted loopbytes) 0 → component ≡ component_in certificate j → PathRead loopbytes certificate j row n m place first component
path_read loopbytes certificate l x j row n m place first component below row_here n_is m_is place_here first_here component_is =
    rw (n_is, m_is, component_is)
    (record {
      there = path_there loopbytes certificate l x j below row place first row_here place_here first_here;
      told = told_is loopbytes certificate l x j below row place first row_here place_here first_here;
    })

-- ---- all paths

module _ (loopbytes certificate : List ℕ) where
  abbrev told_at : ℕ → Told
  told_at j = path_told (variables_in loopbytes) (branches_in loopbytes) (lexicographic_in (counted loopbytes) certificate) j

  counted_paths : length (branches_in loopbytes).paths ≡ paths_in loopbytes
  unfolding branches_in
  counted_paths = length_tabulate (paths_in loopbytes) (path_in loopbytes)

  pub all_hold : Throughout (paths_in loopbytes) (λ j. told_at j ≡ done) → lexicographic_told (branches_in loopbytes) (lexicographic_in (counted loopbytes) certificate) ≡ done
  unfolding branches_in
  all_hold h = paths_done (branches_in loopbytes) (lexicographic_in (counted loopbytes) certificate) (rw counted_paths h)

  pub one_fails : (j k p : ℕ) → j < paths_in loopbytes → Throughout j (λ i. told_at i ≡ done) → told_at j ≡ refused k p
      → lexicographic_told (branches_in loopbytes) (lexicographic_in (counted loopbytes) certificate) ≡ refused k p
  unfolding branches_in
  one_fails j k p below before fails = paths_refused (branches_in loopbytes) (lexicographic_in (counted loopbytes) certificate) j k p (rw counted_paths below) before fails

-- The bytes of an argument that is within the limits are a sound certificate for its loop, and they hold that argument: reading them with the loop's
-- counts gives the values back.
use mathlib.Core.Path.{◌≡◌, refl, sym, ap, ◌∙◌}
use Prim.Native.Nat.{ℕ, zero, suc, ◌+◌, ◌*◌, ◌≤◌, ◌<◌}
use mathlib.Core.List.{List, [], ◌∷◌, ◌++◌, append-nil}
use native.Mathlib.Nat.{mul-le-mul}
use native.Mathlib.Omega.{arith}
use lib.Dec.{ltb}
use lib.IntN.{ℤ, pos}
use lib.ListN.{length, get_or, replicate, length-append, length-replicate}
use borrow.Author.Tests.{le-leb, eq-eqb, lt-ltb}
use Rattle.endian.specs.Numbers.{little_at, digits}
use Rattle.endian.proofs.Laws.{length_digits}
use Rattle.refusal.specs.Places.{Throughout}
use Rattle.refusal.specs.Tests.{done, first}
use Rattle.refusal.proofs.PlaceLaws.{before_all}
use Rattle.refusal.proofs.TestLaws.{Passes, passes_done}
use Rattle.record.specs.Contents.{ListIn}
use Rattle.record.specs.Fields.{i32, width, stored, Field, bytes_of}
use Rattle.record.specs.Layouts.{direction, right_side, multiplier}
use Rattle.record.specs.Ranges.{multipliers}
use Rattle.record.specs.Readers.{stated_length, kind_number}
use Rattle.record.proofs.FieldLaws.{length_stored, length_bytes_of, bytes_of_append}
use Rattle.record.proofs.FittingValues.{Fit, in_within, fit_none, fit_cons, fit_append, fit_same}
use Rattle.record.proofs.Lengths.{widths_replicate}
use Rattle.record_fields.specs.Runs.{field_number_at}
use Rattle.record_paths.specs.PathCertificates.{Counted, components_in, component_in, before_missing, multipliers_before, all_multipliers}
use Rattle.record_paths.specs.PathCertificates.{component_place, list_place, component_fields, components_fields, certificate_fields}
use Rattle.record_paths.specs.PathCertificates.{certificate_length, sound_lexicographic}
use Rattle.record_paths.specs.PathFields.{component_counts, component_count, fall, numbers_at, sum_of, bytes_alone, is_kind, holds_counts, is_long, fields_fit}
use Rattle.record_paths.proofs.PathSums.{sum_most}
use Rattle.theory_paths.specs.Lexicographics.{Component, PathPart, Lexicographic, component_at, part_at}
use Rattle.theory_paths.specs.Paths.{Branches, rows_for}
use Rattle.whole.specs.Sums.{tabulate}
use Rattle.whole.proofs.EachLaws.{each_at}
use Rattle.verdict_paths.specs.PathContents.{component_held, list_held, part_held, lexicographic_in}
use Rattle.verdict_paths.specs.PathValues.{BranchesIn, ComponentIn, ArgumentIn, joined, framed}
use Rattle.verdict_paths.specs.PathValues.{component_bytes, list_bytes, lists_of, part_bytes, argument_bytes}
use Rattle.verdict_paths.proofs.FieldsAtPlaces.{FitsAt, none_fit, fits_both, parts_summed, run_together}
use Rattle.verdict_paths.proofs.FieldsAtPlaces.{components_together, component_wide, components_wide}
use Rattle.verdict_paths.proofs.PartsOfBytes.{Stands, stands_whole, stands_within, stands_apart, sum_same, sum_times, sum_alike}
use Rattle.verdict_paths.proofs.PartsOfBytes.{length_joined, joined_at, tabulate_back, number_read, fields_read, fields_fit_there, field_read}
use Rattle.verdict_paths.proofs.PartsOfBytes.{run_long, run_there, count_fits}
use Rattle.verdict_paths.proofs.PathsReadBack.{counted_between, n_between, paths_between, m_small}

-- what stands for those past the end of a list
abbrev no_part : PathPart
no_part = record { component = 0; bounded = []; ranking = []; unaffecting = [] }

abbrev no_component : Component
no_component = record { r = []; δ0 = pos 0; δ = pos 0 }

-- ---- one component

component_fits : (n : ℕ) (k : Component) → ComponentIn n k → Fit (component_fields n) (k.r ++ (k.δ0 ∷ k.δ ∷ []))
unfolding component_fields direction right_side fall
component_fits n k c =
    fit_append (replicate n direction) k.r (fit_same direction n k.r c.r_in) (fit_cons right_side c.δ0-in (fit_cons fall c.δ-in fit_none))

module _ (n : ℕ) (k : Component) (c : ComponentIn n k) {bytes : List ℕ} {place : ℕ} (s : Stands bytes place (component_bytes n k)) where
  component_parts : Stands bytes place (bytes_of (replicate n direction) k.r) × Stands bytes (place + 4 * n) (stored i32 k.δ0)
      × Stands bytes (place + 4 * n + 4) (stored i32 k.δ)
  unfolding component_bytes component_fields bytes_of right_side fall direction width
  component_parts =
      let long : length k.r ≡ length (replicate n direction) = c.r_in.counted ∙ sym (length-replicate n direction) in
      let r_long : length (bytes_of (replicate n direction) k.r) ≡ 4 * n
      = length_bytes_of (replicate n direction) k.r long ∙ widths_replicate n direction ∙ omega arith in
      let apart : component_bytes n k ≡ bytes_of (replicate n direction) k.r ++ (stored i32 k.δ0 ++ (stored i32 k.δ ++ []))
      = bytes_of_append (replicate n direction) (right_side ∷ fall ∷ []) k.r (k.δ0 ∷ k.δ ∷ []) long in
      let from_r = stands_apart (4 * n) (bytes_of (replicate n direction) k.r) _ r_long (rw apart at s) in
      let from-δ0 = stands_apart 4 (stored i32 k.δ0) _ (length_stored i32 k.δ0) from_r.1 in
      let from-δ = stands_apart 4 (stored i32 k.δ) [] (length_stored i32 k.δ) from-δ0.1 in
      (from_r.0, from-δ0.0, from-δ.0)

  component_there : (numbers_at direction n bytes place ≡ k.r) × (field_number_at right_side bytes (place + 4 * n) ≡ k.δ0)
      × (field_number_at fall bytes (place + 4 * n + 4) ≡ k.δ)
  unfolding numbers_at right_side fall direction
  component_there = (
    fields_read (replicate n direction) k.r (fit_same direction n k.r c.r_in) component_parts.0,
    field_read right_side k.δ0 (in_within c.δ0-in) component_parts.1,
    field_read fall k.δ (in_within c.δ-in) component_parts.2,
  )

-- ---- one list of multipliers

abbrev multipliers_of : ℕ → List Field
multipliers_of k = replicate k multiplier

module _ (count : ℕ) (ys : List ℤ) (l : ListIn multipliers count ys) where
  pub list_long : length (list_bytes ys) ≡ 2 * count
  unfolding list_bytes multiplier width
  list_long = run_long multiplier count ys l ∙ omega arith

  pub list_there : {bytes : List ℕ} {place : ℕ} → Stands bytes place (list_bytes ys)
      → (numbers_at multiplier count bytes place ≡ ys) × FitsAt (multipliers_of count) bytes place
  unfolding list_bytes multiplier
  list_there s = run_there multiplier count ys l s

-- ---- kind 6

module _ (loop : Branches) (a : Lexicographic) (h : BranchesIn loop) (g : ArgumentIn loop a) where
  abbrev n : ℕ
  n = loop.variables

  abbrev paths : ℕ
  paths = length loop.paths

  abbrev m : ℕ → ℕ
  m j = length (rows_for loop j)

  abbrev components : ℕ
  components = length a.components

  -- path j's component, its multipliers, and those of all paths
  abbrev owned : ℕ → ℕ
  owned j = (part_at a j).component

  abbrev weights : ℕ → ℕ
  weights j = m j * (2 + owned j)

  abbrev in_all : ℕ
  in_all = sum_of paths weights

  abbrev its_length : ℕ
  its_length = 4 + 2 * paths + 4 * components * (n + 2) + 2 * in_all

  abbrev bytes : List ℕ
  bytes = argument_bytes loop a

  -- ---- the limits

  few_components : (1 ≤ components) × (components ≤ 8)
  unfolding component_counts
  few_components = counted_between 1 8 components g.count_in

  length_small : its_length ≤ 10000
  length_small =
      let each_small : Throughout paths (λ j. weights j ≤ 64 * 9)
      = λ j below.
      let few : 2 + owned j ≤ 9 = omega (arith, (g.parts_in j below).there, few_components.1) in
      mul-le-mul (m_small loop h j below) few in
      let all_small : in_all ≤ paths * (64 * 9) = sum_most weights paths (64 * 9) each_small in
      let many : 4 * components ≤ 32 = omega (arith, few_components.1) in
      let wide : n + 2 ≤ 18 = omega (arith, (n_between loop h).1) in
      let product : 4 * components * (n + 2) ≤ 32 * 18 = mul-le-mul many wide in
      omega (arith, all_small, product, (paths_between loop h).1)

  -- ---- the lists of a path

  lists_count : Throughout paths (λ j. length (lists_of (part_at a j)) ≡ 2 + owned j)
  lists_count j below = let e = (g.parts_in j below).counted in omega (arith, e)

  list_given : Throughout paths (λ j. Throughout (2 + owned j) (λ k. ListIn multipliers (m j) (get_or (lists_of (part_at a j)) k [])))
  list_given j below zero early = (g.parts_in j below).bounded_in
  list_given j below (suc zero) early = (g.parts_in j below).ranking_in
  list_given j below (suc (suc i)) early =
      each_at (ListIn multipliers (m j)) (part_at a j).unaffecting i [] (g.parts_in j below).unaffecting_in
      (let e = (g.parts_in j below).counted in omega (arith, e))

  lists_before : (j : ℕ) → j < paths → (k : ℕ) → k ≤ 2 + owned j
      → sum_of k (λ i. length (list_bytes (get_or (lists_of (part_at a j)) i []))) ≡ 2 * m j * k
  lists_before j below k early =
      sum_same k _ (λ i. 2 * m j) (λ i l. list_long (m j) _ (list_given j below i (omega arith))) ∙ sum_alike k (2 * m j) ∙ omega arith

  part_long : Throughout paths (λ j. length (part_bytes (part_at a j)) ≡ weights j * 2)
  unfolding part_bytes
  part_long j below =
      length_joined list_bytes (lists_of (part_at a j)) []
      ∙ ap (λ k. sum_of k (λ i. length (list_bytes (get_or (lists_of (part_at a j)) i [])))) (lists_count j below)
      ∙ lists_before j below (2 + owned j) (omega arith) ∙ omega arith

  -- ---- components

  component_given : Throughout components (λ i. ComponentIn n (component_at a i))
  component_given i below = each_at (ComponentIn n) a.components i _ g.components_in below

  component_long : Throughout components (λ i. length (component_bytes n (component_at a i)) ≡ 4 * n + 8)
  unfolding component_bytes
  component_long i below =
      length_bytes_of (component_fields n) _ (component_fits n (component_at a i) (component_given i below)).counted ∙ component_wide n

  -- ---- where the parts stand

  owned_bytes : List ℕ
  owned_bytes = joined (λ part. digits 2 part.component) a.parts

  components_bytes : List ℕ
  components_bytes = joined (component_bytes n) a.components

  lists_bytes : List ℕ
  lists_bytes = joined part_bytes a.parts

  owned_before : (j : ℕ) → sum_of j (λ i. length (digits 2 (owned i))) ≡ 2 * j
  owned_before j = sum_same j _ (λ i. 2) (λ i below. length_digits 2 (owned i)) ∙ sum_alike j 2 ∙ omega arith

  components_before : (i : ℕ) → i ≤ components → sum_of i (λ k. length (component_bytes n (component_at a k))) ≡ i * (4 * n + 8)
  components_before i below = sum_same i _ (λ k. 4 * n + 8) (λ k early. component_long k (omega arith)) ∙ sum_alike i (4 * n + 8)

  parts_before : (j : ℕ) → j ≤ paths → sum_of j (λ i. length (part_bytes (part_at a i))) ≡ sum_of j weights * 2
  parts_before j below = sum_same j _ (λ i. weights i * 2) (λ i early. part_long i (omega arith)) ∙ sum_times j 2 weights

  owned_long : length owned_bytes ≡ 2 * paths
  unfolding owned_bytes
  owned_long =
      length_joined (λ part. digits 2 part.component) a.parts no_part ∙ owned_before (length a.parts) ∙ ap (λ k. 2 * k) g.parts_counted

  components_long : length components_bytes ≡ components * (4 * n + 8)
  unfolding components_bytes
  components_long = length_joined (component_bytes n) a.components no_component ∙ components_before components (omega arith)

  lists_long : length lists_bytes ≡ in_all * 2
  unfolding lists_bytes
  lists_long =
      length_joined part_bytes a.parts _
      ∙ ap (λ k. sum_of k (λ i. length (part_bytes (part_at a i)))) g.parts_counted ∙ parts_before paths (omega arith)

  record Parts : Type 0 where
    L-stands : Stands bytes 0 (digits 4 its_length)
    kind_stands : Stands bytes 4 (digits 2 6)
    count_stands : Stands bytes 6 (digits 2 components)
    owned_stand : Stands bytes 8 owned_bytes
    components_stand : Stands bytes (8 + 2 * paths) components_bytes
    lists_stand : Stands bytes (8 + 2 * paths + components * (4 * n + 8)) lists_bytes
    long : length bytes ≡ 4 + its_length

  parts : Parts
  unfolding argument_bytes framed owned_bytes components_bytes lists_bytes
  parts =
      let from_L = stands_apart 4 (digits 4 its_length) _ (length_digits 4 its_length) (stands_whole bytes) in
      let from_kind = stands_apart 2 (digits 2 6) _ (length_digits 2 6) from_L.1 in
      let from_count = stands_apart 2 (digits 2 components) _ (length_digits 2 components) from_kind.1 in
      let from_owned = stands_apart (2 * paths) owned_bytes _ owned_long from_count.1 in
      let from_components = stands_apart (components * (4 * n + 8)) components_bytes lists_bytes components_long from_owned.1 in
      record {
        L-stands = from_L.0;
        kind_stands = from_kind.0;
        count_stands = from_count.0;
        owned_stand = from_owned.0;
        components_stand = from_components.0;
        lists_stand = from_components.1;
        long = simp (length-append, length_digits, owned_long, components_long, lists_long) (omega arith);
      }

  -- ---- what is read of it alone

  L-read : little_at 4 bytes 0 ≡ its_length
  L-read = number_read 4 its_length (omega (arith, length_small)) parts.L-stands

  kind_read : little_at 2 bytes 4 ≡ 6
  kind_read = number_read 2 6 (omega arith) parts.kind_stands

  count_read : components_in bytes ≡ components
  unfolding components_in
  count_read = number_read 2 components (omega (arith, few_components.1)) parts.count_stands

  owned_read : Throughout paths (λ j. component_in bytes j ≡ owned j)
  unfolding component_in owned_bytes
  owned_read j below =
      let there = (g.parts_in j below).there in
      number_read 2 (owned j) (omega (arith, there, few_components.1))
      (rw (owned_before j)
      at (stands_within parts.owned_stand (joined_at (λ part. digits 2 part.component) a.parts no_part j (omega (arith, g.parts_counted)))))

  -- ---- where each component and each list stands

  abbrev component_from : ℕ → ℕ
  component_from i = 8 + 2 * paths + i * (4 * n + 8)

  abbrev list_from : ℕ → ℕ → ℕ
  list_from j k = component_from components + sum_of j weights * 2 + 2 * m j * k

  component_stands : Throughout components (λ i. Stands bytes (component_from i) (component_bytes n (component_at a i)))
  unfolding components_bytes
  component_stands i below =
      rw (components_before i (omega arith))
      at (stands_within parts.components_stand (joined_at (component_bytes n) a.components no_component i below))

  list_stands : Throughout paths (λ j. Throughout (2 + owned j) (λ k. Stands bytes (list_from j k) (list_bytes (get_or (lists_of (part_at a j)) k []))))
  unfolding lists_bytes part_bytes
  list_stands j below k early =
      let there = stands_within parts.lists_stand (joined_at part_bytes a.parts no_part j (omega (arith, g.parts_counted))) in
      let here = stands_within there (joined_at list_bytes (lists_of (part_at a j)) [] k (omega (arith, lists_count j below))) in
      rw (parts_before j (omega arith), lists_before j below k (omega arith)) at here

  -- ---- every number is in range

  components_fit_there : FitsAt (components_fields n components) bytes (component_from 0)
  unfolding components_fields component_bytes
  components_fit_there =
      let one_each : sum_of components (λ i. 1) ≡ components = sum_alike components 1 ∙ omega arith in
      rw one_each
      at (parts_summed bytes (components_fields n) (4 * n + 8) refl (components_together n) (components_wide n) (λ i. 1) components (component_from 0)
      (λ i below.
      let so_many : sum_of i (λ k. 1) ≡ i = sum_alike i 1 ∙ omega arith in
      let so_far : component_from 0 + i * (4 * n + 8) ≡ component_from i = omega arith in
      rw (so_many, so_far, append-nil)
      (fields_fit_there (component_fields n) _ (component_fits n (component_at a i) (component_given i below)) (component_stands i below))))

  list_fit_there : Throughout paths (λ j. Throughout (2 + owned j) (λ k. FitsAt (multipliers_of (m j)) bytes (list_from j k)))
  list_fit_there j below k early = (list_there (m j) _ (list_given j below k early) (list_stands j below k early)).1

  lists_fit_there : FitsAt (multipliers_of in_all) bytes (component_from components)
  unfolding multiplier width
  lists_fit_there =
      parts_summed bytes multipliers_of 2 refl (run_together multiplier) (λ k. widths_replicate k multiplier) weights paths (component_from components)
      (λ j below.
      let all_lists : sum_of (2 + owned j) (λ k. m j) ≡ weights j = sum_alike (2 + owned j) (m j) ∙ omega arith in
      rw (← all_lists)
      (parts_summed bytes multipliers_of 2 refl (run_together multiplier) (λ k. widths_replicate k multiplier) (λ k. m j) (2 + owned j)
      (component_from components + sum_of j weights * 2)
      (λ k early.
      let so_far : component_from components + sum_of j weights * 2 + sum_of k (λ i. m j) * 2 ≡ list_from j k = omega (arith, sum_alike k (m j)) in
      rw so_far (list_fit_there j below k early))))

  -- ---- with the loop's counts

  module _ (c : Counted) (same_n : c.n ≡ n) (same_paths : c.paths ≡ paths) (same_m : Throughout paths (λ j. c.m j ≡ m j)) where
    before_read : (j : ℕ) → j ≤ paths → multipliers_before c bytes j ≡ sum_of j weights
    unfolding multipliers_before
    before_read j below = sum_same j _ weights (λ i early. rw (same_m i (omega arith), owned_read i (omega arith)))

    component_place_is : (i : ℕ) → component_place c i ≡ component_from i
    unfolding component_place
    component_place_is i = rw (same_n, same_paths)

    list_place_is : (j : ℕ) → j < paths → (k : ℕ) → list_place c bytes j k ≡ list_from j k
    unfolding list_place
    list_place_is j below k =
        rw (component_place_is (components_in bytes), count_read, before_read j (omega arith), same_m j below) (omega arith)

    component_read : Throughout components (λ i. component_held c bytes i ≡ component_at a i)
    unfolding component_held
    component_read i below =
        let there = component_there n (component_at a i) (component_given i below) (component_stands i below) in
        rw (component_place_is i, same_n, there.0, there.1, there.2)

    list_read : Throughout paths (λ j. Throughout (2 + owned j) (λ k. list_held c bytes j k ≡ get_or (lists_of (part_at a j)) k []))
    unfolding list_held
    list_read j below k early =
        rw (list_place_is j below k, same_m j below) (list_there (m j) _ (list_given j below k early) (list_stands j below k early)).0

    part_read : Throughout paths (λ j. part_held c bytes j ≡ part_at a j)
    unfolding part_held
    part_read j below =
        let unaffecting_read : tabulate (owned j) (λ i. list_held c bytes j (2 + i)) ≡ (part_at a j).unaffecting
        = tabulate_back (owned j) (λ i. list_held c bytes j (2 + i)) (part_at a j).unaffecting [] (g.parts_in j below).counted
        (λ i early. let past_two : 2 + i ≡ suc (suc i) = omega arith in rw past_two (list_read j below (suc (suc i)) (omega arith))) in
        rw (owned_read j below, list_read j below 0 (omega arith), list_read j below 1 (omega arith), unaffecting_read)

    pub argument_read_back : lexicographic_in c bytes ≡ a
    unfolding lexicographic_in
    argument_read_back =
        let components_read = tabulate_back components (component_held c bytes) a.components no_component refl component_read in
        let parts_read = tabulate_back paths (part_held c bytes) a.parts no_part g.parts_counted part_read in
        rw (count_read, components_read)
        (ap (λ ps. record { components = a.components; parts = ps }) (ap (λ k. tabulate k (part_held c bytes)) same_paths ∙ parts_read))

    -- ---- they are sound

    length_is : certificate_length c bytes ≡ its_length
    unfolding certificate_length all_multipliers
    length_is =
        let all_read : multipliers_before c bytes c.paths ≡ in_all = ap (multipliers_before c bytes) same_paths ∙ before_read paths (omega arith) in
        rw (all_read, count_read, same_n, same_paths)

    none_missing : before_missing c bytes ≡ c.paths
    unfolding before_missing
    none_missing =
        before_all c.paths (λ j. ltb (component_in bytes j) (components_in bytes))
        (λ j below.
        let here : j < paths = rw same_paths at below in
        rw (owned_read j here, count_read) (lt-ltb _ _ (g.parts_in j here).there))

    count_fits_there : FitsAt (component_count ∷ []) bytes 6
    unfolding component_count components_in
    count_fits_there = count_fits bytes component_count [] 6 components refl count_read (in_within g.count_in) (none_fit bytes 8)

    fields_fit_all : FitsAt (certificate_fields c bytes) bytes (8 + 2 * c.paths)
    unfolding certificate_fields all_multipliers
    fields_fit_all =
        let all_read : multipliers_before c bytes c.paths ≡ in_all = ap (multipliers_before c bytes) same_paths ∙ before_read paths (omega arith) in
        let start : component_from 0 ≡ 8 + 2 * paths = omega arith in
        rw (all_read, count_read, same_n, same_paths)
        (fits_both bytes (components_fields n components) (multipliers_of in_all) (8 + 2 * paths)
        (rw start at components_fit_there) (rw components_wide lists_fit_there))

    argument_passes : Passes (sound_lexicographic c) (bytes_alone bytes)
    unfolding sound_lexicographic bytes_alone stated_length kind_number is_kind holds_counts is_long fields_fit
    argument_passes =
        let a_length : 4 ≤ length bytes = omega (arith, parts.long) in
        let a_kind : 2 ≤ its_length = omega arith in
        let few : 4 + its_length ≤ length bytes = omega (arith, parts.long) in
        let many : length bytes ≤ 4 + its_length = omega (arith, parts.long) in
        let one_count : 4 ≤ its_length = omega arith in
        let all_counts : 4 + 2 * c.paths ≤ its_length = omega (arith, same_paths) in
        rw (L-read, kind_read, length_is) (
          le-leb _ _ a_length,
          (
            le-leb _ _ a_kind,
            (
              le-leb _ _ few,
              (
                le-leb _ _ many,
                (
                  refl,
                  (
                    le-leb _ _ one_count,
                    (
                      count_fits_there,
                      (
                        le-leb _ _ all_counts,
                        (
                          eq-eqb _ _ none_missing,
                          (
                            eq-eqb its_length its_length refl,
                            (
                              fields_fit_all,
                              tt,
                            ),
                          ),
                        ),
                      ),
                    ),
                  ),
                ),
              ),
            ),
          ),
        )

    pub argument_sound : first (sound_lexicographic c) (bytes_alone bytes) ≡ done
    argument_sound = passes_done (sound_lexicographic c) (bytes_alone bytes) argument_passes

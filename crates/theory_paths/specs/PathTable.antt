-- What the conditions tell of the samples, of each part of a condition where it alone fails, and of two neighbours in the order that both
-- fail. A line is what is computed and what it has to be; `PathSampleTheorems` computes them.
use Rattle.std.specs.Prelude.{ℕ, List, [], ◌∷◌, ℤ, pos}
use Rattle.refusal.specs.Tests.{Told, done, refused, first}
use Rattle.whole.specs.Sums.{dot, sum, tabulate}
use Rattle.theory.specs.Conditions.{ranking_told, ranking_tests, ◌at_each◌unless◌}
use Rattle.theory_paths.specs.Paths.{path}
use Rattle.theory_paths.specs.PathConditions.{every, weighs, path_tests, path_by_path, lexicographic_tests, lexicographic_told}
use Rattle.theory_paths.specs.PathSamples.{component_of, part_of, argument, x_then_y, x_falls, y_falls, two_counters}
use Rattle.theory_paths.specs.PathSamples.{two_counters_argument, ping_pong, ping_pong_ranking, ping_pong_argument}
use Rattle.theory_paths.specs.PathSamples.{third_counter, third_owned, free, component_missing}
use Rattle.theory_paths.specs.PathSamples.{no_fall, downward, bounded_below_nought, level, ranking_below_nought, loose_ping_pong}
use Rattle.theory_paths.specs.PathSamples.{unaffecting_below_nought, to_and_fro}

-- two counters with other multipliers: bounded, ranking; then bounded, ranking, unaffecting
abbrev told_by : List ℕ → List ℕ → List ℕ → List ℕ → List (List ℕ) → Told
told_by Y Z Y₁ Z₁ U₁ = lexicographic_told two_counters (argument x_then_y (part_of 0 Y Z [] ∷ part_of 1 Y₁ Z₁ U₁ ∷ []))

-- with another δ0 and δ of x
abbrev told_of : ℤ → ℤ → Told
told_of δ0 δ =
    lexicographic_told two_counters
    (argument
    (component_of (pos 1 ∷ pos 0 ∷ []) δ0 δ ∷ component_of (pos 0 ∷ pos 1 ∷ []) (pos 1) (pos 1) ∷ [])
    two_counters_argument.parts)

-- the paths of two counters in the other order, the first one's multipliers for x not given
abbrev other_way_round : List ℕ → Told
other_way_round Y₁ =
    lexicographic_told (record { variables = 2; paths = y_falls ∷ x_falls ∷ [] })
    (argument x_then_y (part_of 1 (0 ∷ 1 ∷ 0 ∷ 0 ∷ []) (0 ∷ 0 ∷ 0 ∷ 1 ∷ []) [] ∷ part_of 0 Y₁ (0 ∷ 0 ∷ 1 ∷ []) [] ∷ []))

unfoldable pub told : List (Told × Told)
told =
    -- two counters; ping-pong, a path at a time and the two together; no path at all
    (lexicographic_told two_counters two_counters_argument, done) ∷
    (ranking_told (path ping_pong 0) ping_pong_ranking, done) ∷
    (ranking_told (path ping_pong 1) ping_pong_ranking, done) ∷
    (lexicographic_told ping_pong ping_pong_argument, refused 53 1) ∷
    (lexicographic_told (record { variables = 2; paths = [] }) (argument [] []), done) ∷
    -- 51: over A in either column, over A' in either column, over b
    (told_by (2 ∷ 0 ∷ 0 ∷ []) (0 ∷ 0 ∷ 1 ∷ []) (0 ∷ 1 ∷ 0 ∷ 0 ∷ []) (0 ∷ 0 ∷ 0 ∷ 1 ∷ []) ((0 ∷ 0 ∷ 1 ∷ 0 ∷ []) ∷ []), refused 51 0) ∷
    (told_by (1 ∷ 1 ∷ 0 ∷ []) (0 ∷ 0 ∷ 1 ∷ []) (0 ∷ 1 ∷ 0 ∷ 0 ∷ []) (0 ∷ 0 ∷ 0 ∷ 1 ∷ []) ((0 ∷ 0 ∷ 1 ∷ 0 ∷ []) ∷ []), refused 51 0) ∷
    (told_by (0 ∷ 0 ∷ 1 ∷ []) (0 ∷ 0 ∷ 1 ∷ []) (0 ∷ 1 ∷ 0 ∷ 0 ∷ []) (0 ∷ 0 ∷ 0 ∷ 1 ∷ []) ((0 ∷ 0 ∷ 1 ∷ 0 ∷ []) ∷ []), refused 51 0) ∷
    (told_by (1 ∷ 0 ∷ 0 ∷ []) (0 ∷ 0 ∷ 1 ∷ []) (0 ∷ 0 ∷ 0 ∷ 1 ∷ []) (0 ∷ 0 ∷ 0 ∷ 1 ∷ []) ((0 ∷ 0 ∷ 1 ∷ 0 ∷ []) ∷ []), refused 51 1) ∷
    (told_of (pos 2) (pos 1), refused 51 0) ∷
    (told_of (pos 0) (pos 1), done) ∷
    -- 52: over A, over A', over b
    (told_by (1 ∷ 0 ∷ 0 ∷ []) (0 ∷ 1 ∷ 1 ∷ []) (0 ∷ 1 ∷ 0 ∷ 0 ∷ []) (0 ∷ 0 ∷ 0 ∷ 1 ∷ []) ((0 ∷ 0 ∷ 1 ∷ 0 ∷ []) ∷ []), refused 52 0) ∷
    (told_by (1 ∷ 0 ∷ 0 ∷ []) (1 ∷ 0 ∷ 0 ∷ []) (0 ∷ 1 ∷ 0 ∷ 0 ∷ []) (0 ∷ 0 ∷ 0 ∷ 1 ∷ []) ((0 ∷ 0 ∷ 1 ∷ 0 ∷ []) ∷ []), refused 52 0) ∷
    (told_of (pos 1) (pos 2), refused 52 0) ∷
    (told_of (pos 1) (pos 0), done) ∷
    -- 53: over A, over A' (over b: ping-pong), and multipliers that are not given
    (told_by (1 ∷ 0 ∷ 0 ∷ []) (0 ∷ 0 ∷ 1 ∷ []) (0 ∷ 1 ∷ 0 ∷ 0 ∷ []) (0 ∷ 0 ∷ 0 ∷ 1 ∷ []) ((0 ∷ 1 ∷ 1 ∷ 0 ∷ []) ∷ []), refused 53 1) ∷
    (told_by (1 ∷ 0 ∷ 0 ∷ []) (0 ∷ 0 ∷ 1 ∷ []) (0 ∷ 1 ∷ 0 ∷ 0 ∷ []) (0 ∷ 0 ∷ 0 ∷ 1 ∷ []) ((1 ∷ 0 ∷ 0 ∷ 0 ∷ []) ∷ []), refused 53 1) ∷
    (told_by (1 ∷ 0 ∷ 0 ∷ []) (0 ∷ 0 ∷ 1 ∷ []) (0 ∷ 1 ∷ 0 ∷ 0 ∷ []) (0 ∷ 0 ∷ 0 ∷ 1 ∷ []) [], refused 53 1) ∷
    -- 53 of two earlier components: both hold; either alone fails; each by the other's multipliers
    (lexicographic_told third_counter (third_owned ((0 ∷ 1 ∷ 0 ∷ 0 ∷ []) ∷ (0 ∷ 0 ∷ 1 ∷ 0 ∷ []) ∷ [])), done) ∷
    (lexicographic_told third_counter (third_owned ((0 ∷ 0 ∷ 0 ∷ 0 ∷ []) ∷ (0 ∷ 0 ∷ 1 ∷ 0 ∷ []) ∷ [])), refused 53 0) ∷
    (lexicographic_told third_counter (third_owned ((0 ∷ 1 ∷ 0 ∷ 0 ∷ []) ∷ (0 ∷ 0 ∷ 0 ∷ 0 ∷ []) ∷ [])), refused 53 0) ∷
    (lexicographic_told third_counter (third_owned ((0 ∷ 0 ∷ 1 ∷ 0 ∷ []) ∷ (0 ∷ 1 ∷ 0 ∷ 0 ∷ []) ∷ [])), refused 53 0) ∷
    -- two that fail: 51 and 52 of a path; 52 and 53 of a path; 52 of a path and 51 of the next; 53 of a path and 51 of the next
    (told_by [] [] (0 ∷ 1 ∷ 0 ∷ 0 ∷ []) (0 ∷ 0 ∷ 0 ∷ 1 ∷ []) ((0 ∷ 0 ∷ 1 ∷ 0 ∷ []) ∷ []), refused 51 0) ∷
    (told_by (1 ∷ 0 ∷ 0 ∷ []) (0 ∷ 0 ∷ 1 ∷ []) (0 ∷ 1 ∷ 0 ∷ 0 ∷ []) [] [], refused 52 1) ∷
    (told_by (1 ∷ 0 ∷ 0 ∷ []) [] [] (0 ∷ 0 ∷ 0 ∷ 1 ∷ []) ((0 ∷ 0 ∷ 1 ∷ 0 ∷ []) ∷ []), refused 52 0) ∷
    (other_way_round (1 ∷ 0 ∷ 0 ∷ []), refused 53 0) ∷
    (other_way_round [], refused 53 0) ∷
    -- arguments that are not well-formed: the conditions do not see it
    (lexicographic_told free component_missing, done) ∷
    (lexicographic_told free no_fall, done) ∷
    (lexicographic_told downward bounded_below_nought, done) ∷
    (lexicographic_told level ranking_below_nought, done) ∷
    (lexicographic_told loose_ping_pong unaffecting_below_nought, done) ∷
    []

-- opens all that the table and the samples compute with
unfoldable pub computing : Unit {0}
unfolding
    told lexicographic_told lexicographic_tests path_by_path path_tests weighs every first sum dot tabulate ranking_told ranking_tests
    ◌at_each◌unless◌
    two_counters two_counters_argument ping_pong ping_pong_ranking ping_pong_argument third_counter to_and_fro
    free component_missing no_fall downward bounded_below_nought level ranking_below_nought loose_ping_pong unaffecting_below_nought
computing = tt

-- 02, Q-8: kind 8, "its parts in this order: g (as s), a threshold t (as s0), a scale k, m multipliers E, then Y and Z, m + 1 each." It is
-- read with the n and m of its loop and has no counts of its own.
use Rattle.std.specs.Prelude.{ℕ, suc, ◌+◌, ◌*◌, List, [], ◌∷◌, ◌++◌, replicate}
use Rattle.refusal.specs.Tests.{Test}
use Rattle.record.specs.Fields.{Field}
use Rattle.record.specs.Layouts.{entry, right_side, scale, multiplier}
use Rattle.record.specs.Readers.{Reader, framing}
use Rattle.record_paths.specs.PathFields.{is_kind, is_long, fields_fit}

-- where the parts stand
abbrev pub g_place : ℕ
g_place = 6

abbrev pub t_place : ℕ → ℕ
t_place n = g_place + 2 * n

abbrev pub k_place : ℕ → ℕ
k_place n = t_place n + 4

abbrev pub E-place : ℕ → ℕ
E-place n = k_place n + 2

abbrev pub Y-place : ℕ → ℕ → ℕ
Y-place n m = E-place n + 2 * m

abbrev pub Z-place : ℕ → ℕ → ℕ
Z-place n m = Y-place n m + 2 * suc m

-- g, t, k, E, Y, Z
unfoldable pub settling_fields : ℕ → ℕ → List Field
settling_fields n m =
    replicate n entry
    ++ (right_side ∷ scale ∷ replicate m multiplier
    ++ (replicate (suc m) multiplier
    ++ replicate (suc m) multiplier))

-- L = 12 + 2n + 6m
unfoldable pub settling_length : ℕ → ℕ → ℕ
settling_length n m = 12 + 2 * n + 6 * m

-- "Order for a record", of kind 8
unfoldable pub sound_settling : ℕ → ℕ → List (Test Reader)
sound_settling n m =
    framing ++
    (is_kind 8
    ∷ is_long (λ r. settling_length n m)
    ∷ fields_fit 6 (λ r. g_place) (λ r. settling_fields n m)
    ∷ [])

-- Values that fit a row of fields: one for each field, and each in its range. The first half puts a fit together part by part, the
-- second takes it apart again, so that what a sound record holds is known by its parts.
use mathlib.Core.Path.{◌≡◌, refl, ap}
use Prim.Native.Nat.{ℕ, zero, suc}
use mathlib.Core.Bool.{Bool, true, false, false≢true}
use mathlib.Core.List.{List, [], ◌∷◌, ◌++◌}
use native.Mathlib.Omega.{arith}
use lib.Dec.{T}
use lib.IntN.{ℤ, pos}
use lib.ListN.{length, replicate, take, drop, get_or}
use lib.Signed.{le_z, le_z_yes}
use Rattle.whole.specs.Sums.{Each}
use Rattle.refusal.proofs.TestLaws.{both_true, true_both}
use Rattle.record.specs.Contents.{In, ListIn}
use Rattle.record.specs.Fields.{Field, in_range}
use Rattle.record.specs.Ranges.{Range, within}
use Rattle.record.proofs.FieldLaws.{is_true}

-- values that fit a row of fields: one for each, and each in its range
pub record Fit (fs : List Field) (zs : List ℤ) : Type 0 where
  pub counted : length zs ≡ length fs
  pub ranged : in_range fs zs ≡ true

pub in_within : {range : Range} {z : ℤ} → In range z → within range z ≡ true
unfolding within
in_within {range} {z} h = true_both _ _ (is_true (le_z range.least z) h.least.le) (is_true (le_z z range.most) h.most.le)

pub fit_none : Fit [] []
unfolding in_range
fit_none = record { counted = refl; ranged = refl }

pub fit_cons : (f : Field) {fs : List Field} {z : ℤ} {zs : List ℤ} → In f.range z → Fit fs zs → Fit (f ∷ fs) (z ∷ zs)
unfolding in_range
fit_cons f h k = record { counted = ap suc k.counted; ranged = true_both _ _ (in_within h) k.ranged }

pub fit_append : (fs : List Field) {gs : List Field} (xs : List ℤ) {ys : List ℤ} → Fit fs xs → Fit gs ys → Fit (fs ++ gs) (xs ++ ys)
unfolding in_range
fit_append [] [] h k = k
fit_append [] (x ∷ xs) h k = absurd (omega (arith, h.counted))
fit_append (f ∷ fs) [] h k = absurd (omega (arith, h.counted))
fit_append (f ∷ fs) (x ∷ xs) h k =
    let parts = both_true (within f.range x) (in_range fs xs) h.ranged in
    let rest = fit_append fs xs (record { counted = omega (arith, h.counted); ranged = parts.1 }) k in
    record { counted = ap suc rest.counted; ranged = true_both _ _ parts.0 rest.ranged }

pub fit_same : (f : Field) (n : ℕ) (zs : List ℤ) → ListIn f.range n zs → Fit (replicate n f) zs
unfolding Each
fit_same f zero [] h = fit_none
fit_same f zero (z ∷ zs) h = absurd (omega (arith, h.counted))
fit_same f (suc n) [] h = absurd (omega (arith, h.counted))
fit_same f (suc n) (z ∷ zs) h = fit_cons f h.each.0 (fit_same f n zs (record { counted = omega (arith, h.counted); each = h.each.1 }))

-- ---- apart

true_T : (b : Bool) → b ≡ true → T b
true_T true h = tt
true_T false h = absurd (false≢true h)

pub within_in : (range : Range) (z : ℤ) → within range z ≡ true → In range z
unfolding within
within_in range z h =
    let both = both_true (le_z range.least z) (le_z z range.most) h in
    record { least = le_z_yes (true_T (le_z range.least z) both.0); most = le_z_yes (true_T (le_z z range.most) both.1) }

-- the first field and the rest
pub fit_head : (f : Field) (fs : List Field) (zs : List ℤ) → Fit (f ∷ fs) zs → In f.range (get_or zs 0 (pos 0)) × Fit fs (drop 1 zs)
unfolding in_range
fit_head f fs [] h = absurd (omega (arith, h.counted))
fit_head f fs (z ∷ zs) h =
    let both = both_true (within f.range z) (in_range fs zs) h.ranged in
    (within_in f.range z both.0, record { counted = omega (arith, h.counted); ranged = both.1 })

-- a run of fields and the rest
pub fit_run : (f : Field) (n : ℕ) (gs : List Field) (zs : List ℤ) → Fit (replicate n f ++ gs) zs → ListIn f.range n (take n zs) × Fit gs (drop n zs)
unfolding Each
fit_run f zero gs zs h = (record { counted = refl; each = tt }, h)
fit_run f (suc n) gs [] h = absurd (omega (arith, h.counted))
fit_run f (suc n) gs (z ∷ zs) h =
    let head = fit_head f (replicate n f ++ gs) (z ∷ zs) h in
    let rest = fit_run f n gs zs head.1 in
    (record { counted = ap suc rest.0.counted; each = (head.0, rest.0.each) }, rest.1)

-- `judge_paths::paths_fault` meets its contract: each turn tells path j, and goes on to where the next one lies.
use Rattle.std.proofs.Common.{ℕ, ◌≡◌, ◌+◌, ◌*◌, ◌<◌, List, sym, ap, ◌∙◌, arith, below_more}
use Rattle.std.proofs.lemmas.Result.{err_from_is_err_and}
use Rattle.endian.specs.Numbers.{little_at}
use Rattle.refusal.specs.Tests.{done, first}
use Rattle.refusal.proofs.FaultLaws.{told_done, told_refused, gives, refuses}
use Rattle.record_paths.specs.PathCertificates.{counted, components_in, component_in, component_place, multipliers_before, sound_lexicographic}
use Rattle.record_paths.specs.PathFields.{bytes_alone}
use Rattle.record_paths.specs.PathLoops.{variables_in, paths_in, rows_in, rows_place, sound_paths}
use Rattle.record_paths.proofs.PathsSound.{PathsSound, paths_sound, lexicographic_sound}
use Rattle.judge_paths.proofs.PathsHeld.{rows_first, lists_after, first_place, first_list, next_rows, next_lists, PathRead, path_read, all_hold, one_fails}
use Rattle.judge_paths.proofs.paths_fault.Goals as goal

-- ---- what was read of sound records

module _ (loopbytes certificate : List ℕ) (l : first sound_paths (bytes_alone loopbytes) ≡ done) (x : first (sound_lexicographic (counted loopbytes)) (bytes_alone certificate) ≡ done) where
  loop_sound : PathsSound loopbytes
  loop_sound = paths_sound loopbytes l

  -- path j, where it lies
  read : {j row n m place paths component : ℕ} → j < paths → n ≡ little_at 2 loopbytes 6 → paths ≡ little_at 2 loopbytes 8
      → m ≡ little_at 2 loopbytes (10 + 2 * j) → component ≡ little_at 2 certificate (8 + 2 * j)
      → row ≡ rows_place loopbytes j → place ≡ component_place (counted loopbytes) (components_in certificate) + 2 * multipliers_before (counted loopbytes) certificate j
      → PathRead loopbytes certificate j row n m place (8 + 2 * paths) component
  unfolding variables_in paths_in rows_in component_in
  read {j} {row} {n} {m} {place} {paths} {component} below n_is paths_are m_is component_is row_here place_here =
      path_read loopbytes certificate loop_sound (lexicographic_sound (counted loopbytes) certificate x) j row n m place (8 + 2 * paths) component
      (rw paths_are at below) row_here n_is m_is place_here (first_place loopbytes paths paths_are) component_is

pub u16_at-n-requires : goal.u16_at-n-requires
u16_at-n-requires c = omega (arith, (paths_sound _ c.requires.0).long)

pub u16_at-paths-requires : goal.u16_at-paths-requires
u16_at-paths-requires c = omega (arith, (paths_sound _ c.requires.0).long)

pub u16_at-requires : goal.u16_at-requires
u16_at-requires c = omega (arith, (lexicographic_sound _ _ c.requires.1).long)

pub loop-j-init : goal.loop-j-init
unfolding variables_in paths_in components_in
loop-j-init c =
    let a = c.args in
    let paths_are = c.u16_at-paths.ensures.0 in
    record {
      row_here = ap (λ p. 10 + 2 * p) paths_are ∙ sym (rows_first a.loopbytes.now);
      place_here = first_list a.loopbytes.now a.certificate.now _ _ _ paths_are c.u16_at-n.ensures.0 c.u16_at.ensures.0;
      before = λ i h. absurd (omega arith);
    }

pub u16_at-m-requires : goal.u16_at-m-requires
unfolding paths_in
u16_at-m-requires c = omega (arith, (paths_sound _ c.requires.0).long)

pub u16_at-component-requires : goal.u16_at-component-requires
unfolding paths_in
u16_at-component-requires c =
    let a = c.args in
    omega (arith, lists_after a.loopbytes.now a.certificate.now (lexicographic_sound _ _ c.requires.1))

pub invariant_of-rows : goal.invariant_of-rows
invariant_of-rows c =
    let kept = c.loop-j.invariant in
    let path =
    read _ _ c.requires.0 c.requires.1 c.loop-j-test.true c.u16_at-n.ensures.0 c.u16_at-paths.ensures.0 c.u16_at-m.ensures.0 c.u16_at-component.ensures.0
    kept.row_here kept.place_here in
    record { lie = path.there.rows_there }

pub invariant_of-path : goal.invariant_of-path
invariant_of-path c =
    let kept = c.loop-j.invariant in
    let path =
    read _ _ c.requires.0 c.requires.1 c.loop-j-test.true c.u16_at-n.ensures.0 c.u16_at-paths.ensures.0 c.u16_at-m.ensures.0 c.u16_at-component.ensures.0
    kept.row_here kept.place_here in
    record { lies = path.there }

pub returns-in_err-told : goal.returns-in_err-told
unfolding paths_in
returns-in_err-told c =
    let a = c.args in
    let kept = c.loop-j.invariant in
    let path =
    read _ _ c.requires.0 c.requires.1 c.loop-j-test.true c.u16_at-n.ensures.0 c.u16_at-paths.ensures.0 c.u16_at-m.ensures.0 c.u16_at-component.ensures.0
    kept.row_here kept.place_here in
    let fails = sym path.told ∙ told_refused _ _ c.in_err-told.field-0.0 c.in_err-told.ensures in
    let given = err_from_is_err_and c.from_residual.result c.from_residual.ensures.1 in
    rw (given.1, given.2) (refuses _ (one_fails a.loopbytes.now a.certificate.now c.loop-j.j _ _ (omega arith) kept.before fails))

pub loop-j-preserved : goal.loop-j-preserved
unfolding variables_in paths_in rows_in component_in
loop-j-preserved c =
    let a = c.args in
    let kept = c.loop-j.invariant in
    let path =
    read _ _ c.requires.0 c.requires.1 c.loop-j-test.true c.u16_at-n.ensures.0 c.u16_at-paths.ensures.0 c.u16_at-m.ensures.0 c.u16_at-component.ensures.0
    kept.row_here kept.place_here in
    record {
      row_here = next_rows a.loopbytes.now c.loop-j.j c.loop-j.row c.u16_at-m.result c.u16_at-n.result kept.row_here c.u16_at-m.ensures.0 c.u16_at-n.ensures.0;
      place_here = next_lists a.loopbytes.now a.certificate.now c.loop-j.j c.loop-j.place c.u16_at-m.result c.u16_at-component.result kept.place_here c.u16_at-m.ensures.0 c.u16_at-component.ensures.0;
      before = below_more _ c.loop-j.j kept.before (sym path.told ∙ told_done _ _ _ c.in_ok-told.ensures);
    }

pub returns : goal.returns
unfolding paths_in
returns c =
    let a = c.args in
    let end : c.loop-j.j ≡ paths_in a.loopbytes.now = omega arith in
    gives _ (all_hold a.loopbytes.now a.certificate.now (rw end at c.loop-j.invariant.before))

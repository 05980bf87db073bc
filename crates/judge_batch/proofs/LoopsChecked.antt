-- What a batch's check of its loop tells, for a loop of either kind: which judge it leads to, how long the bytes are, and that n stands at byte 6.
use mathlib.Core.Path.{◌≡◌, refl, sym, ◌∙◌}
use Prim.Native.Nat.{ℕ, ◌≤◌}
use mathlib.Core.Bool.{true, false}
use mathlib.Core.List.{List, []}
use native.Mathlib.Omega.{arith}
use lib.ListN.{length, drop}
use Rattle.endian.specs.Numbers.{little_at}
use Rattle.record.specs.Layouts.{is_loop}
use Rattle.record.specs.Readers.{framing, stated_length, counts_read, sound, loop_reader}
use Rattle.record_paths.specs.PathFields.{bytes_alone}
use Rattle.record_paths.specs.PathLoops.{variables_in, sound_paths}
use Rattle.record_paths.proofs.PathsSound.{paths_sound}
use Rattle.refusal.specs.Tests.{done, refused, first}
use Rattle.refusal.proofs.TestLaws.{either, first_told}
use Rattle.verdict.specs.Pairs.{loop_record}
use Rattle.verdict_paths.specs.JudgingByLoop.{of_paths}
use Rattle.judge.specs.SoundPairs.{LoopSound}
use Rattle.judge.proofs.SoundSizes.{loop_kind, n_few, rows_in}
use Rattle.judge.proofs.Framing.{loop_alike}
use Rattle.verdict_batch.specs.Batches.{loop_told, variables}

module _ (loopbytes : List ℕ) where
  -- ---- by the loop's kind, as the code asks it

  pub as_paths : of_paths loopbytes ≡ true → loop_told loopbytes ≡ first sound_paths (bytes_alone loopbytes)
  unfolding loop_told
  as_paths e = rw e

  pub as_rows : of_paths loopbytes ≡ false → loop_told loopbytes ≡ first sound (loop_record loopbytes)
  unfolding loop_told
  as_rows e = rw e

  -- a record whose frame is refused is refused so, whatever kind its bytes 4 and 5 tell
  pub as_framed : (k q : ℕ) → first framing (loop_reader loopbytes []) ≡ refused k q → loop_told loopbytes ≡ refused k q
  unfolding loop_reader bytes_alone sound_paths stated_length first
  as_framed k q told =
      either (of_paths loopbytes)
      (λ e. as_paths e ∙ first_told framing (drop 4 sound_paths) (bytes_alone loopbytes) k q told)
      (λ e. as_rows e ∙ loop_alike loopbytes k q told)

  -- ---- a sound loop

  module _ (told : loop_told loopbytes ≡ done) where
    -- of kind 1
    module _ (rows : first sound (loop_record loopbytes) ≡ done) where
      with_counts : LoopSound loopbytes (counts_read (loop_record loopbytes)).n (counts_read (loop_record loopbytes)).m
      with_counts = record { told = rows; n_is = refl; m_is = refl }

      pub sound_rows : LoopSound loopbytes (little_at 2 loopbytes 6) (little_at 2 loopbytes 8)
      unfolding counts_read loop_record is_loop
      sound_rows =
          let is = loop_kind loopbytes _ _ with_counts in
          record { told = rows; n_is = rw is; m_is = rw is }

    -- with the counts that were read
    pub rows_read : of_paths loopbytes ≡ false → {n m : ℕ} → n ≡ little_at 2 loopbytes 6 → m ≡ little_at 2 loopbytes 8 → LoopSound loopbytes n m
    rows_read rows n_is m_is =
        let sound = sound_rows (sym (as_rows rows) ∙ told) in
        record { told = sound.told; n_is = n_is ∙ sound.n_is; m_is = m_is ∙ sound.m_is }

    pub loop_long : 10 ≤ length loopbytes
    loop_long =
        either (of_paths loopbytes)
        (λ e. omega (arith, (paths_sound loopbytes (sym (as_paths e) ∙ told)).long))
        (λ e. omega (arith, (rows_in loopbytes _ _ (sound_rows (sym (as_rows e) ∙ told))).inside))

    pub few_variables : variables loopbytes ≤ 16
    unfolding variables variables_in
    few_variables =
        either (of_paths loopbytes)
        (λ e. (paths_sound loopbytes (sym (as_paths e) ∙ told)).few_variables)
        (λ e. n_few loopbytes _ _ (sound_rows (sym (as_rows e) ∙ told)))

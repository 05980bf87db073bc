-- No text is longer than the worst case: a certificate's line has at most 282 bytes, the first line at most 24, and each record but the last takes 6 bytes of
-- the input at least. Assumes nothing.
use mathlib.Core.Path.{◌≡◌, refl}
use Prim.Native.Nat.{ℕ, zero, suc, ◌+◌, ◌*◌, ◌^◌, ◌≤◌, ◌<◌, min}
use mathlib.Core.List.{List}
use native.Mathlib.Decide.{dec_lt}
use native.Mathlib.Omega.{arith}
use lib.ListN.{length, take, length-append, length-drop}
use Rattle.decimal.specs.Decimals.{decimal}
use Rattle.decimal.proofs.DecimalLaws.{decimal_length}
use Rattle.record.specs.Readers.{sound}
use Rattle.record.proofs.KindLaws.{loop_known}
use Rattle.refusal.specs.Tests.{Told, done, refused, first}
use Rattle.verdict.specs.Pairs.{loop_record}
use Rattle.verdict_short.specs.ShortJudging.{judged_or_short, ranked_or_short}
use Rattle.sheet_lines.specs.Words.{bytes, line}
use Rattle.record_parting.specs.Parting.{taken, first_record, after_first, records}
use Rattle.sheet_text.specs.Sheets.{lent, variables_in, rows_in, certificate_line, lines, judged, sheet_text, worst}
use Rattle.sheet_lines.proofs.LineLaws.{line_loop, length_pair}
use Rattle.record_parting.proofs.PartingLaws.{taken_all_or_six, first_length, rest_length, nothing_left, no_bytes, fewer}
use Rattle.sheet_text.proofs.TextLaws.{text_judged, text_too_long, lines_none, lines_more}
use Rattle.sheet_text.proofs.ToldSizes.{SmallTold, sound_told}
use Rattle.sheet_text.proofs.LineSizes.{refusal_size, verdict_size}
use Rattle.sheet_text.proofs.JudgedSizes.{told_more, refused_small, few_variables, few_rows, certificate_small}

-- ---- a certificate's line

pub certificate_size : (l c : List ℕ) → first sound (loop_record l) ≡ done → length c ≤ 65_536 → (count : ℕ) → count < 10 ^ 5 → length (certificate_line l count c) ≤ 282
unfolding certificate_line
certificate_size l c loop_sound near count few =
    verdict_size count (judged_or_short l c lent) (take (variables_in l) (ranked_or_short l c lent)) few (certificate_small l c loop_sound near)

-- ---- all lines

module _ (l : List ℕ) (loop_sound : first sound (loop_record l) ≡ done) where
  lines_step : (count : ℕ) (input : List ℕ) → 0 < length input → count + length input ≤ 65_537 → length input ≤ 65_536
      → length (lines l (suc count) (records (after_first input))) ≤ 47 * length (after_first input) + 282 → length (lines l count (records input)) ≤ 47 * length input + 282
  unfolding after_first
  lines_step count input some few short rest =
      let line_size : length (certificate_line l count (first_record input)) ≤ 282
      = certificate_size l (first_record input) loop_sound (omega (arith, first_length input)) count (omega arith) in
      rw (lines_more l count input some, length-append)
      (taken_all_or_six input
      (λ all. rw (nothing_left input all, lines_none) (omega arith))
      (λ six within. omega (arith, left six within)))
    where
      left : 6 ≤ taken input → taken input ≤ length input → length (after_first input) + 6 ≤ length input
      left six within = rw length-drop (omega arith)

  lines_size : (most count : ℕ) (input : List ℕ) → length input ≤ most → count + length input ≤ 65_537 → length input ≤ 65_536
      → length (lines l count (records input)) ≤ 47 * length input + 282
  lines_size zero count input enough few short = rw (no_bytes input enough, lines_none) (omega arith)
  lines_size (suc most) count input enough few short =
      elim (dec_lt 0 (length input)) [
        | yes some ↦
            let less : length (after_first input) < length input = fewer input some in
            lines_step count input some few short (lines_size most (suc count) (after_first input) (omega arith) (omega arith) (omega arith))
        | no none ↦ rw (no_bytes input (omega arith), lines_none) (omega arith)
      ]

-- ---- the text

loop_told : (l : List ℕ) → length l ≤ 65_536 → SmallTold 65_536 (first sound (loop_record l))
unfolding loop_record
loop_told l short = told_more (length l) (first sound (loop_record l)) short (sound_told (loop_record l) loop_known)

pub judged_size : (t : Told) (l rest : List ℕ) → first sound (loop_record l) ≡ t → length l ≤ 65_536 → length rest ≤ 65_536 → length (judged t l rest) ≤ 47 * length rest + 306
unfolding judged
judged_size done l rest e short rest_short =
    rw (length-append, line_loop)
    (omega (
      arith,
      length_pair (decimal (variables_in l)) (decimal (rows_in l)),
      decimal_length 1 (variables_in l) (omega (arith, few_variables l e)),
      decimal_length 1 (rows_in l) (omega (arith, few_rows l e)),
      lines_size l e (length rest) 1 rest (omega arith) (omega arith) rest_short,
    ))
judged_size (refused number place) l rest e short rest_short =
    let small : SmallTold 65_536 (refused number place) = rw e at (loop_told l short) in
    rw line_loop (omega (arith, refusal_size number place (refused_small number place small)))

-- no text is longer than the worst case of its input's length
pub never_longer : (input : List ℕ) → length (sheet_text input) ≤ worst (length input)
unfolding line bytes
never_longer input = by_length (dec_lt 65_536 (length input))
  where
    by_length : Dec (65_536 < length input) → length (sheet_text input) ≤ 47 * min (length input) 65_536 + 306
    by_length (yes long) = rw (text_too_long input long) (omega arith)
    by_length (no short) =
        let within : length input ≤ 65_536 = omega arith in
        let first_short = first_length input in
        let rest_short = rest_length input in
        rw (text_judged input within) (omega (arith, judged_size (first sound (loop_record (first_record input))) (first_record input) (after_first input) refl (omega arith) (omega arith)))

-- The whole text, case by case: too long, or judged; and the certificates' lines, one record after another, as a loop over the input makes them, a short ranking's too.
-- Assumes nothing.
use mathlib.Core.Path.{◌≡◌, refl, ap}
use Prim.Native.Nat.{ℕ, suc, ◌+◌, ◌≤◌, ◌<◌}
use mathlib.Core.Bool.{Bool, true, false}
use mathlib.Core.List.{List, [], ◌∷◌, ◌++◌}
use native.Mathlib.Omega.{arith}
use lib.Dec.{leb}
use native.Mathlib.Numerals.{add-one}
use lib.ListN.{length, take, drop, length-append}
use lib.Seq.{drop-drop}
use borrow.Author.Tests.{le-leb, lt-leb}
use Rattle.decimal.specs.Decimals.{decimal}
use Rattle.record.specs.Readers.{counts_read, sound}
use Rattle.record_paths.specs.PathFields.{bytes_alone}
use Rattle.record_short.specs.ShortRecords.{sound_short}
use Rattle.record_short.proofs.LengthenShorten.{long_is_sound}
use Rattle.record_short.proofs.ShortSound.{short_sound}
use Rattle.refusal.specs.Tests.{Told, done, refused, first}
use Rattle.refusal.proofs.TestLaws.{failed, passes_done}
use Rattle.verdict.specs.Pairs.{loop_record}
use Rattle.verdict_short.specs.ShortJudging.{variables_of, rows_for, long_of, of_short, short_pair}
use Rattle.verdict_short.proofs.ShortAsLong.{by_long, short_as_long}
use Rattle.sheet_lines.specs.Words.{bytes, line}
use Rattle.record_parting.specs.Parting.{taken, first_record, after_first, records}
use Rattle.sheet_text.specs.Sheets.{lent, variables_in, rows_in, certificate_line, lines, judged, sheet_text, worst, enough_room, answer, filled, sheet_of, sheet_answers, room_after}
use Rattle.sheet_lines.proofs.LineLaws.{loop_word, line_loop}
use Rattle.record_parting.proofs.PartingLaws.{records_none, records_more}

module _ (input : List ℕ) where
  -- the two texts
  abbrev judged_text : List ℕ
  judged_text = judged (first sound (loop_record (first_record input))) (first_record input) (after_first input)

  abbrev long_text : List ℕ
  long_text = line (bytes "input" ∷ bytes "too" ∷ bytes "long" ∷ [])

  choose : (t : Bool) → leb (length input) 65_536 ≡ t → sheet_text input ≡ elim t [ true ↦ judged_text | false ↦ long_text ]
  unfolding sheet_text
  choose t e = ap (λ (t : Bool). elim t [ true ↦ judged_text | false ↦ long_text ]) e

  pub text_judged : length input ≤ 65_536 → sheet_text input ≡ judged_text
  text_judged within = choose true (le-leb (length input) 65_536 within)

  pub text_too_long : 65_536 < length input → sheet_text input ≡ long_text
  text_too_long long = choose false (lt-leb (length input) 65_536 long)

module _ (loop : List ℕ) (count : ℕ) where
  pub lines_none : lines loop count (records []) ≡ []
  unfolding lines
  lines_none = ap (lines loop count) records_none

  -- the first certificate's line, and then the others
  pub lines_first : (certificates : List (List ℕ)) (certificate : List ℕ) (others : List (List ℕ)) → certificates ≡ certificate ∷ others
      → lines loop count certificates ≡ certificate_line loop count certificate ++ lines loop (count + 1) others
  unfolding lines
  lines_first certificates certificate others is = rw (is, add-one)

  pub lines_more : (input : List ℕ) → 0 < length input → lines loop count (records input) ≡ certificate_line loop count (first_record input) ++ lines loop (suc count) (records (after_first input))
  unfolding lines
  lines_more input some = ap (lines loop count) (records_more input some)

  -- the same at a place of the input, whose bytes from there on are a part, as a turn of the loop has them
  pub lines_turn : (input part : List ℕ) (from end : ℕ) → part ≡ drop from input → end ≡ taken (drop from input) → 0 < length (drop from input)
      → lines loop count (records (drop from input)) ≡ certificate_line loop count (take end part) ++ lines loop (count + 1) (records (drop (from + end) input))
  unfolding first_record after_first
  lines_turn input part from end part_is end_is some = rw (part_is, end_is, ← drop-drop (taken (drop from input)) from input, add-one) (lines_more (drop from input) some)

-- ---- a short ranking, sound for the loop's n and m, has the line of the record that it stands for

module _ (loop certificate : List ℕ) (loop_sound : first sound (loop_record loop) ≡ done) (short : of_short certificate ≡ true)
    (short_is_sound : first (sound_short (variables_of (short_pair loop certificate)) (rows_for (short_pair loop certificate))) (bytes_alone certificate) ≡ done) where
  abbrev long : List ℕ
  long = long_of (short_pair loop certificate)

  long_is_long : of_short long ≡ false
  unfolding of_short long_of
  long_is_long = rw (long_is_sound _ _ certificate (short_sound _ _ certificate short_is_sound)).numbered

  pub same_line : (count : ℕ) → certificate_line loop count certificate ≡ certificate_line loop count long
  unfolding certificate_line
  same_line count =
      let of_the_short = short_as_long loop certificate loop_sound short_is_sound short lent in
      let of_the_long = by_long loop long long_is_long lent in
      rw (of_the_short.0, of_the_short.1, of_the_long.0, of_the_long.1)

-- ---- the text, as the writers make it

module _ (loop rest : List ℕ) where
  -- `loop` comes first
  pub judged_first : (t : Told) → 5 ≤ length (judged t loop rest)
  unfolding judged
  judged_first done = rw (length-append, line_loop) (omega arith)
  judged_first (refused number place) = rw line_loop (omega arith)

  pub judged_sound : (n m : ℕ) → first sound (loop_record loop) ≡ done → n ≡ (counts_read (loop_record loop)).n → m ≡ (counts_read (loop_record loop)).m
      → judged (first sound (loop_record loop)) loop rest ≡ loop_word ++ (line (decimal n ∷ decimal m ∷ []) ++ lines loop 1 (records rest))
  unfolding judged variables_in rows_in
  judged_sound n m told n_is m_is = rw (told, n_is, m_is, line_loop)

  pub judged_refused : (number place : ℕ) → first sound (loop_record loop) ≡ refused number place
      → judged (first sound (loop_record loop)) loop rest ≡ loop_word ++ line (bytes "refused" ∷ decimal number ∷ decimal place ∷ [])
  unfolding judged
  judged_refused number place h = rw (h, line_loop)

-- `input too long`, with its newline
abbrev pub too_long_line : List ℕ
too_long_line = 105 ∷ 110 ∷ 112 ∷ 117 ∷ 116 ∷ 32 ∷ 116 ∷ 111 ∷ 111 ∷ 32 ∷ 108 ∷ 111 ∷ 110 ∷ 103 ∷ 10 ∷ []

pub text_too_long_line : (input : List ℕ) → 65_536 < length input → sheet_text input ≡ too_long_line
unfolding line bytes
text_too_long_line input long = text_too_long input long

-- the input parted at a place
pub text_parted : (input part : List ℕ) (end : ℕ) → length input ≤ 65_536 → part ≡ drop end input → end ≡ taken input
    → sheet_text input ≡ judged (first sound (loop_record (take end input))) (take end input) part
unfolding first_record after_first
text_parted input part end short part_is end_is = rw (part_is, end_is) (text_judged input short)

-- ---- the answer

module _ (input room : List ℕ) where
  pub no_room : length room < worst (length input)
      → (sheet_answers input room ≡ record { number = 7; place = worst (length input); written = 0 }) × (room_after input room ≡ room)
  unfolding sheet_answers room_after answer filled enough_room sheet_of
  no_room short =
      let told : first enough_room (sheet_of input room) ≡ refused 7 (worst (length input)) = failed 7 _ _ [] (sheet_of input room) (lt-leb (worst (length input)) (length room) short) in
      rw told (refl, refl)

  pub enough : worst (length input) ≤ length room
      → (sheet_answers input room ≡ record { number = 0; place = 0; written = length (sheet_text input) }) × (room_after input room ≡ sheet_text input ++ drop (length (sheet_text input)) room)
  unfolding sheet_answers room_after answer filled enough_room sheet_of
  enough fits =
      let told : first enough_room (sheet_of input room) ≡ done = passes_done enough_room (sheet_of input room) (le-leb (worst (length input)) (length room) fits, tt) in
      rw told (refl, refl)

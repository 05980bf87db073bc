-- Where record i of bytes end to end starts: the bytes from there on hold the records from i on. And the records in front that take one size each.
use mathlib.Core.Path.{◌≡◌, refl, sym, ap, ◌∙◌}
use Prim.Native.Nat.{ℕ, zero, suc, ◌+◌, ◌-◌, ◌*◌, ◌≤◌, ◌<◌}
use mathlib.Core.List.{List, [], ◌∷◌, ◌++◌}
use native.Mathlib.Omega.{arith}
use lib.Dec.{leb}
use lib.ListN.{length, get_or, drop, length-append, length-drop, drop_of_length-le}
use lib.Seq.{drop_at, drop-drop, drop-nil, get_or-drop}
use borrow.Author.Tests.{leb-true, leb-false}
use Rattle.endian.specs.Numbers.{little_at}
use Rattle.endian.proofs.Laws.{little_at_first}
use Rattle.refusal.proofs.TestLaws.{either}
use Rattle.record_parting.specs.Parting.{stated, taken, first_record, after_first, records}
use Rattle.record_parting.proofs.PartingLaws.{taken_within, taken_whole, records_none, records_more}

abbrev pub place_of : List ℕ → ℕ → ℕ
place_of bytes zero = 0
place_of bytes (suc i) = place_of bytes i + taken (drop (place_of bytes i) bytes)

module _ (bytes : List ℕ) where
  pub place_within : (i : ℕ) → place_of bytes i ≤ length bytes
  place_within zero = omega arith
  place_within (suc i) =
      let left = drop (place_of bytes i) bytes in
      omega (arith, place_within i, taken_within left, length-drop (place_of bytes i) bytes)

  -- without its first record
  records_tail : (left : List ℕ) → drop 1 (records left) ≡ records (drop (taken left) left)
  unfolding after_first
  records_tail [] = rw (records_none, drop-nil {A = ℕ} (taken [])) (sym records_none)
  records_tail (b ∷ left) = ap (drop 1) (records_more (b ∷ left) (omega arith))

  pub records_from : (i : ℕ) → drop i (records bytes) ≡ records (drop (place_of bytes i) bytes)
  records_from zero = refl
  records_from (suc i) =
      let place = place_of bytes i in
      let more : suc i ≡ i + 1 = omega arith in
      ap (λ k. drop k (records bytes)) more
      ∙ sym (drop-drop 1 i (records bytes))
      ∙ ap (drop 1) (records_from i)
      ∙ records_tail (drop place bytes)
      ∙ ap records (drop-drop (taken (drop place bytes)) place bytes)

  -- a record that is there starts before the bytes end, and is the first of those from its place on
  module _ (i : ℕ) (there : i < length (records bytes)) where
    pub place_before : place_of bytes i < length bytes
    place_before =
        either (leb (length bytes) (place_of bytes i))
        (λ e.
        let none : drop (place_of bytes i) bytes ≡ [] = drop_of_length-le bytes (leb-true _ _ e) in
        let no_more : length (drop i (records bytes)) ≡ 0 = ap length (records_from i ∙ ap records none ∙ records_none) in
        absurd (omega (arith, no_more, length-drop i (records bytes))))
        (λ e. leb-false _ _ e)

    pub record_there : get_or (records bytes) i [] ≡ first_record (drop (place_of bytes i) bytes)
    record_there =
        let left = drop (place_of bytes i) bytes in
        let same : i ≡ i + 0 = omega arith in
        ap (λ k. get_or (records bytes) k []) same
        ∙ sym (get_or-drop i (records bytes) 0 [])
        ∙ ap (λ rs. get_or rs 0 []) (records_from i ∙ records_more left (omega (arith, place_before, length-drop (place_of bytes i) bytes)))

  -- one record more from a place on than from its end on
  pub one_record_more : (from end : ℕ) → end ≡ from + taken (drop from bytes) → from < length bytes → length (records (drop from bytes)) ≡ suc (length (records (drop end bytes)))
  unfolding after_first
  one_record_more from end is before =
      let left = drop from bytes in
      ap length (records_more left (omega (arith, length-drop from bytes)))
      ∙ ap (λ rest. suc (length (records rest))) (drop-drop (taken left) from bytes ∙ ap (λ k. drop k bytes) (sym is))

-- what a record at a place states, and that it takes as many bytes, if they are there
stated_at : (bytes : List ℕ) (at : ℕ) → stated (drop at bytes) ≡ little_at 4 bytes at
unfolding stated little_at
stated_at bytes at = refl

pub takes_size : (bytes : List ℕ) (at size : ℕ) → 4 + little_at 4 bytes at ≡ size → 6 ≤ size → at + size ≤ length bytes → taken (drop at bytes) ≡ size
takes_size bytes at size states six there =
    let says = stated_at bytes at in
    let left = length-drop at bytes in
    taken_whole (drop at bytes) (omega (arith, left)) (omega (arith, says)) (omega (arith, left, says)) ∙ rw says states

-- so many records in front take `size` bytes each
abbrev pub Counted : List ℕ → ℕ → ℕ → Type 0
Counted bytes size alike = (alike ≤ alike * size) × (alike * size ≤ length bytes) × (alike + length (records (drop (alike * size) bytes)) ≡ length (records bytes))

-- one more, where the bytes after them begin with a record that states the size
pub counted_more : (bytes left first next : List ℕ) (size alike : ℕ) → 6 ≤ size → left ≡ drop (alike * size) bytes → left ≡ first ++ next → length first ≡ size
    → 4 + little_at 4 first 0 ≡ size → Counted bytes size alike → (next ≡ drop ((alike + 1) * size) bytes) × Counted bytes size (alike + 1)
unfolding stated
counted_more bytes left first next size alike six left_is parts long states counted =
    let at = alike * size in
    let room : length left ≡ size + length next = ap length parts ∙ length-append first next ∙ ap (λ k. k + length next) long in
    let bytes_left : length left ≡ length bytes - at = ap length left_is ∙ length-drop at bytes in
    let same : stated left ≡ little_at 4 first 0 = ap (λ (b : List ℕ). little_at 4 b 0) parts ∙ little_at_first 4 first next 0 (omega arith) in
    let here : little_at 4 bytes at ≡ little_at 4 first 0 = sym (stated_at bytes at) ∙ ap stated (sym left_is) ∙ same in
    let takes : taken (drop at bytes) ≡ size = takes_size bytes at size (ap (λ k. 4 + k) here ∙ states) six (omega arith) in
    let end : (alike + 1) * size ≡ at + size = omega arith in
    let next_is : next ≡ drop (at + size) bytes = sym (ap (drop size) (sym left_is ∙ parts) ∙ drop_at first next size long) ∙ drop-drop size at bytes in
    rw end (next_is, (omega arith, omega arith, omega (arith, counted.2, one_record_more bytes at (at + size) (rw takes) (omega arith))))

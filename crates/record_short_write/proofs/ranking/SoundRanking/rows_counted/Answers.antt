-- `record_short_write::SoundRanking::rows_counted` meets its contract: a row that has weight is one more, any other is none.
use Rattle.std.proofs.Common.{ℕ, true, false, List, ◌≡◌, ◌∙◌, ◌+◌, arith, length, sym, ap}
use native.Mathlib.Numerals.{add-one}
use Rattle.record_short.specs.Conversions.{rows_with_weight, triples_needed}
use Rattle.record_short.proofs.ShortBytes.{rows_more, rows_few}
use Rattle.record_short_write.specs.Rooms.{row_weighs, listed}
use Rattle.record_short_write.proofs.ShortRooms.{none_listed, one_listed}
use Rattle.record_short_write.proofs.ranking.SoundRanking.rows_counted.Goals as goal
use Rattle.record_short_write.proofs.ranking.SoundRanking.rows_counted.Goals.{then-has_weight, else-has_weight}

abbrev before : ℕ → List ℕ → ℕ → ℕ
before m bytes i = length (rows_with_weight m bytes i)

one_more : (m : ℕ) (bytes : List ℕ) (i : ℕ) → row_weighs m bytes i ≡ true → before m bytes i + 1 ≡ before m bytes (i + 1)
unfolding listed
one_more m bytes i weighs = rw (add-one i) (sym (rows_more m bytes i ∙ ap (λ (l : List ℕ). before m bytes i + length l) (one_listed m bytes i weighs)))

none_more : (m : ℕ) (bytes : List ℕ) (i : ℕ) → row_weighs m bytes i ≡ false → before m bytes i ≡ before m bytes (i + 1)
unfolding listed
none_more m bytes i weightless =
    rw (add-one i) (omega (arith, rows_more m bytes i, ap (λ (l : List ℕ). length l) (none_listed m bytes i weightless)))

pub loop-i-init : goal.loop-i-init
unfolding rows_with_weight
loop-i-init c = (omega arith, omega arith)

pub overflow_add-count : goal.overflow_add-count
overflow_add-count c = let a = c.args.self in omega (arith, c.loop-i.invariant.1, rows_few a.m a.bytes.now c.loop-i.i, a.lists.few_rows)

pub loop-i-preserved : goal.loop-i-preserved
loop-i-preserved c =
    let a = c.args.self in
    let i = c.loop-i.i in (
      omega (arith, c.loop-i-test.true),
      elim c.if-has_weight.branch [
        | then-has_weight w ↦ w.count-is ∙ ap (λ k. k + 1) c.loop-i.invariant.1 ∙ one_more a.m a.bytes.now i (sym c.has_weight.ensures ∙ w.if-has_weight.true)
        | else-has_weight w ↦ w.count-is ∙ c.loop-i.invariant.1 ∙ none_more a.m a.bytes.now i (sym c.has_weight.ensures ∙ w.if-has_weight.false)
      ],
    )

pub returns : goal.returns
unfolding triples_needed
returns c =
    let all : c.loop-i.i ≡ c.args.self.m = omega arith in
    c.loop-i.invariant.1 ∙ rw all

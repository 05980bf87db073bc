-- `judge_ranking::Totals::column_holds` meets its contract: the totals are compared by their bits.
use Rattle.std.proofs.Common.{pos, ◌+ℤ◌, ap, ap₂, ◌∙◌, arith}
use borrow.Author.Rules.{sfits_of}
use mir.Facts.{to_z-of_z, sfits_lit}
use Rattle.whole.specs.Same.{same_z}
use Rattle.judge_conditions.proofs.Compared.{bits_same, sum_fits}
use Rattle.judge_ranking.specs.RankedBy.{holds_at}
use Rattle.judge_ranking.proofs.lifted.Totals.column_holds.Goals as goal

pub returns : goal.returns
unfolding holds_at
returns c =
    let ya = c.now-ya in
    let za = c.now-za in
    let za2 = c.next-za2 in
    let third = sum_fits za.result za2.result (omega arith) (omega arith) in (
      bits_same {a = c.next.result} {b = pos 0} (sfits_of c.next.type_inv) (sfits_lit tt) ∙ ap (λ z. same_z z (pos 0)) c.next.ensures.0,
      bits_same {a = ya.result} {b = za.result} (sfits_of ya.type_inv) (sfits_of za.type_inv) ∙ ap₂ same_z ya.ensures.0 za.ensures.0,
      rw (to_z-of_z (sfits_of za.type_inv), to_z-of_z (sfits_of za2.type_inv), c.args.self.alike)
          (bits_same {a = za.result +ℤ za2.result} {b = pos 0} third (sfits_lit tt) ∙ ap₂ (λ x z. same_z (x +ℤ z) (pos 0)) za.ensures.0 za2.ensures.0),
    )

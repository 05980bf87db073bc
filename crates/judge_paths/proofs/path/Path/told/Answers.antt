-- `judge_paths::Path::told` meets its contract: the conditions are asked in their order.
use Rattle.std.proofs.Common.{sym, ◌∙◌, refl}
use Rattle.refusal.specs.Faults.{result_of}
use Rattle.judge_paths.specs.PathByPlaces.{path_told_by}
use Rattle.judge_paths.proofs.path.Path.told.Goals as goal

pub returns-then-not-bounded : goal.returns-then-not-bounded
unfolding result_of path_told_by
returns-then-not-bounded c =
    let bounded = sym c.own_holds-bounded.ensures.0 ∙ c.if-not-bounded.true in
    rw bounded (cc)

pub returns-then-not-ranking : goal.returns-then-not-ranking
unfolding result_of path_told_by
returns-then-not-ranking c =
    let own = c.own_holds-bounded.ensures in
    let bounded = sym own.0 ∙ c.if-not-bounded.false in
    let ranking = sym own.1 ∙ c.if-not-ranking.true in
    rw (bounded, ranking) (cc)

pub returns-then-not-none_rises : goal.returns-then-not-none_rises
unfolding result_of path_told_by
returns-then-not-none_rises c =
    let own = c.own_holds-bounded.ensures in
    let bounded = sym own.0 ∙ c.if-not-bounded.false in
    let ranking = sym own.1 ∙ c.if-not-ranking.false in
    let unaffecting = sym c.none_rises.ensures ∙ c.if-not-none_rises.true in
    rw (bounded, ranking, unaffecting) (cc)

pub returns : goal.returns
unfolding result_of path_told_by
returns c =
    let own = c.own_holds-bounded.ensures in
    let bounded = sym own.0 ∙ c.if-not-bounded.false in
    let ranking = sym own.1 ∙ c.if-not-ranking.false in
    let unaffecting = sym c.none_rises.ensures ∙ c.if-not-none_rises.false in
    rw (bounded, ranking, unaffecting) refl

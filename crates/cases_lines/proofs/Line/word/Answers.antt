-- What `position` tells is where the word ends.
use Rattle.std.proofs.Common.{◌≡◌, ℕ, ◌+◌, ◌≤◌, Bool, true, false, cond, eqb, length, None, Some, refl, sym, ◌∙◌, arith, rules, tests}
use Rattle.std.proofs.lemmas.Iterator.{YieldsList-from_slice}
use Rattle.std.proofs.lemmas.Iterator.Search.{position_from_yields_List}
use Rattle.std.proofs.lemmas.List.{take_rest, take_all, drop_all}
use Rattle.std.proofs.lemmas.Bool.{ltb-false}
use Rattle.cases_lines.specs.Words.{word_size, next_word, behind}
use Rattle.cases_lines.proofs.Line.word.Goals as goal

found : (b : Bool) (p end : ℕ) → Some end ≡ cond b (Some p) None → end ≡ p
found true p end e = cc
found false p end e = cc

missed : (b : Bool) (p : ℕ) → None ≡ cond b (Some p) None → b ≡ false
missed true p e = cc
missed false p e = refl

pub returns-in-Some-clause-word : goal.returns-in-Some-clause-word
unfolding next_word
returns-in-Some-clause-word c =
    let line = c.args.self.now.rest.now in
    let told = position_from_yields_List (λ byte. eqb byte 32) _ _ c.position.result c.position.ensures.ran (YieldsList-from_slice line cc) (λ x b q k. search (rules, tests)) in
    rw (found _ (word_size line) c.in-Some.end (sym c.in-Some.is ∙ told)) refl

pub returns-in-Some-clause-behind : goal.returns-in-Some-clause-behind
unfolding behind
returns-in-Some-clause-behind c =
    let line = c.args.self.now.rest.now in
    let told = position_from_yields_List (λ byte. eqb byte 32) _ _ c.position.result c.position.ensures.ran (YieldsList-from_slice line cc) (λ x b q k. search (rules, tests)) in
    rw (found _ (word_size line) c.in-Some.end (sym c.in-Some.is ∙ told)) (take_rest line (word_size line + 1))

pub returns-in-None-clause-word : goal.returns-in-None-clause-word
unfolding next_word
returns-in-None-clause-word c =
    let line = c.args.self.now.rest.now in
    let told = position_from_yields_List (λ byte. eqb byte 32) _ _ c.position.result c.position.ensures.ran (YieldsList-from_slice line cc) (λ x b q k. search (rules, tests)) in
    let end : length line ≤ word_size line = ltb-false _ _ (missed _ (word_size line) (sym c.in-None.is ∙ told)) in
    sym (take_all (word_size line) line end)

pub returns-in-None-clause-behind : goal.returns-in-None-clause-behind
unfolding behind
returns-in-None-clause-behind c =
    let line = c.args.self.now.rest.now in
    let told = position_from_yields_List (λ byte. eqb byte 32) _ _ c.position.result c.position.ensures.ran (YieldsList-from_slice line cc) (λ x b q k. search (rules, tests)) in
    let end : length line ≤ word_size line = ltb-false _ _ (missed _ (word_size line) (sym c.in-None.is ∙ told)) in
    sym (drop_all (word_size line + 1) line (omega (arith, end)))

use Rattle.std.proofs.Common.{rules, ◌≡◌, ◌∙◌, Some, None, sym}
use Rattle.program_places.specs.Statements.{hunk_word}
use Rattle.program_places.proofs.HunkWords.{words-last, words-more, words-none, words-none_last}
use Rattle.program_places.proofs.statements.hunk_words.Goals as goal

pub returns-in_err-ok_or-clause-value : goal.returns-in_err-ok_or-clause-value
returns-in_err-ok_or-clause-value c =
    let none : None ≡ hunk_word c.in-Some.field.now = search rules in
    rw (sym c.loop-field.invariant ∙ words-none c.args.n c.loop-field.words c.loop-field.rest.now c.in-Some.field.now c.in-Some.others.now c.in-Some.ensures none) (search rules)

pub loop-field-preserved : goal.loop-field-preserved
loop-field-preserved c =
    let word : Some c.in_ok-ok_or.field-0 ≡ hunk_word c.in-Some.field.now = search rules in
    let more = words-more c.args.n c.loop-field.words c.loop-field.rest.now c.in-Some.field.now c.in-Some.others.now c.in_ok-ok_or.field-0 c.in-Some.ensures word in
    rw c.in_ok-push.ensures (sym more ∙ c.loop-field.invariant)

pub returns-in_err-ok_or-2-clause-value : goal.returns-in_err-ok_or-2-clause-value
returns-in_err-ok_or-2-clause-value c =
    let none : None ≡ hunk_word c.loop-field.rest.now = search rules in
    rw (sym c.loop-field.invariant ∙ words-none_last c.args.n c.loop-field.words c.loop-field.rest.now c.in_default.ensures none) (search rules)

pub returns-clause-value : goal.returns-clause-value
returns-clause-value c =
    let word : Some c.in_ok-ok_or-2.field-0 ≡ hunk_word c.loop-field.rest.now = search rules in
    rw c.in_ok-push-2.ensures (sym c.loop-field.invariant ∙ words-last c.args.n c.loop-field.words c.loop-field.rest.now c.in_ok-ok_or-2.field-0 c.in_default.ensures word)

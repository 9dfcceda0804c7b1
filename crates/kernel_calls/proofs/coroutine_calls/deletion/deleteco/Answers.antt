use Rattle.std.proofs.Common.{◌≡◌, ◌∙◌, Ok, sym}
use Rattle.std.proofs.lemmas.Bool.{false≢true}
use Rattle.std.proofs.lemmas.Result.{err_from_is_err_and}
use Rattle.kernel_lists.specs.Coroutines.Refusals.{idle_answer}
use Rattle.kernel_calls.proofs.CoroutineCalls.CallersTask.{callers-stood}
use Rattle.kernel_calls.proofs.CoroutineCalls.DeletedCoroutine.{block-there, coded-ok, deleteco-made, deleteco-not_idle, deleteco-packet, ended-ok}
use Rattle.kernel_calls.proofs.coroutine_calls.deletion.deleteco.Goals as goal

pub check_idle-requires : goal.check_idle-requires
check_idle-requires g c = callers-stood c.args.store.now c.requires.0 c.caller-task.result c.requires.1.lists (c.caller-task.ensures c.requires.0 c.requires.1.lists c.requires.2)

pub returns-in_err-coded-clause-made : goal.returns-in_err-coded-clause-made
returns-in_err-coded-clause-made g c = λ l k is.
    let p = err_from_is_err_and c.from_residual.result c.from_residual.ensures.1 in
    deleteco-not_idle c.args.store.now (g.Q.KindKeeper.tells c.args.kinds.now) (g.Q.KindKeeper.room c.args.kinds.now) l k c.caller-task.result (c.caller-task.ensures l k.lists is) c.args.c
    c.from_residual.result _ p.0 c.check_idle.result p.1 p.2 c.check_idle.ensures (sym c.in_err-coded.was ∙ c.coded.ensures)

pub is_clear_behind-requires : goal.is_clear_behind-requires
is_clear_behind-requires g c =
    let answer : idle_answer c.args.store.now c.caller-task.result c.args.c ≡ Ok tt = sym c.check_idle.ensures ∙ coded-ok c.check_idle.result _ (sym c.in_ok-coded.was ∙ c.coded.ensures) in
    let b = block-there c.args.store.now (g.Q.KindKeeper.tells c.args.kinds.now) (g.Q.KindKeeper.room c.args.kinds.now) c.requires.0 c.requires.1 c.caller-task.result
    (c.caller-task.ensures c.requires.0 c.requires.1.lists c.requires.2) c.args.c answer
    in
    (c.requires.0, b.0, c.requires.1, b.1)

pub returns-then-not-is_clear_behind-clause-made : goal.returns-then-not-is_clear_behind-clause-made
returns-then-not-is_clear_behind-clause-made g c = λ l k is.
    let answer : idle_answer c.args.store.now c.caller-task.result c.args.c ≡ Ok tt = sym c.check_idle.ensures ∙ coded-ok c.check_idle.result _ (sym c.in_ok-coded.was ∙ c.coded.ensures) in
    let b = block-there c.args.store.now (g.Q.KindKeeper.tells c.args.kinds.now) (g.Q.KindKeeper.room c.args.kinds.now) l k c.caller-task.result (c.caller-task.ensures l k.lists is) c.args.c answer in
    deleteco-packet c.args.store.now (g.Q.KindKeeper.tells c.args.kinds.now) (g.Q.KindKeeper.room c.args.kinds.now) l k c.caller-task.result (c.caller-task.ensures l k.lists is) c.args.c answer b.0 b.1
    (λ unowned. false≢true (sym c.if-not-is_clear_behind.true ∙ (c.is_clear_behind.ensures l b.0 k b.1).1 unowned))

pub delete-requires : goal.delete-requires
delete-requires g c = callers-stood c.args.store.now c.requires.0 c.caller-task.result c.requires.1.lists (c.caller-task.ensures c.requires.0 c.requires.1.lists c.requires.2)

pub returns-clause-made : goal.returns-clause-made
returns-clause-made g c = λ l k is.
    let answer : idle_answer c.args.store.now c.caller-task.result c.args.c ≡ Ok tt = sym c.check_idle.ensures ∙ coded-ok c.check_idle.result _ (sym c.in_ok-coded.was ∙ c.coded.ensures) in
    let b = block-there c.args.store.now (g.Q.KindKeeper.tells c.args.kinds.now) (g.Q.KindKeeper.room c.args.kinds.now) l k c.caller-task.result (c.caller-task.ensures l k.lists is) c.args.c answer in
    deleteco-made c.args.store.now (g.Q.KindKeeper.tells c.args.kinds.now) (g.Q.KindKeeper.room c.args.kinds.now) l k c.caller-task.result (c.caller-task.ensures l k.lists is) c.args.c answer b.0 b.1
    c.delete.new.store (g.Q.KindKeeper.tells c.release.new.self) ((c.is_clear_behind.ensures l b.0 k b.1).0 c.if-not-is_clear_behind.false)
    (ended-ok c.delete.result _ _ c.unwrap.ensures c.delete.ensures.words) c.release.ensures.tells

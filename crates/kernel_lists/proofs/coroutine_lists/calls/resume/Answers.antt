use Rattle.std.proofs.Common.{◌∙◌, sym, subst, ◌∷◌, drop}
use Rattle.kernel_lists.specs.Coroutines.Active.{active_in}
use Rattle.kernel_lists.proofs.Coroutines.ActiveChanges.{replace-again}
use Rattle.kernel_lists.proofs.Coroutines.CoroutineLists.{Built}
use Rattle.kernel_lists.specs.TaskBlock.Lists.{coroutines_in}
use Rattle.kernel_lists.proofs.coroutine_lists.calls.resume.Goals as goal
use Rattle.kernel_lists.proofs.coroutine_lists.calls.resume.Goals.{After-replace}

after : (c : After-replace) → Built c.replace.new.store c.args.t (coroutines_in c.args.store.now c.args.t) (c.args.c ∷ drop 1 (active_in c.args.store.now c.args.t))
after c =
    subst (λ z. Built z c.args.t (coroutines_in c.args.store.now c.args.t) (c.args.c ∷ drop 1 (active_in c.args.store.now c.args.t))) (sym c.replace.ensures.words)
    (replace-again c.args.store.now c.args.t c.args.regs.now c.args.c c.requires (λ e. c.if-current-eq0.false (c.field-current.ensures ∙ e))
    (sym c.is_known.ensures ∙ c.if-not-is_known.false) (sym c.has_parent.ensures ∙ c.if-has_parent.false))

pub returns-clause-active : goal.returns-clause-active
returns-clause-active c = (after c).active

pub returns-clause-coroutines : goal.returns-clause-coroutines
returns-clause-coroutines c = (after c).list

pub returns-clause-valid : goal.returns-clause-valid
returns-clause-valid c = (after c).valid

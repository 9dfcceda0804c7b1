use Rattle.std.proofs.Common.{◌∙◌, sym, subst, drop}
use Rattle.kernel_lists.specs.Coroutines.Active.{active_in}
use Rattle.kernel_lists.proofs.Coroutines.ActiveChanges.{wait-again}
use Rattle.kernel_lists.proofs.Coroutines.CoroutineLists.{Built}
use Rattle.kernel_lists.specs.TaskBlock.Lists.{coroutines_in}
use Rattle.kernel_lists.proofs.coroutine_lists.calls.wait.Goals as goal
use Rattle.kernel_lists.proofs.coroutine_lists.calls.wait.Goals.{After-leave}

after : (c : After-leave) → Built c.leave.new.store c.args.t (coroutines_in c.args.store.now c.args.t) (drop 1 (active_in c.args.store.now c.args.t))
after c =
    subst (λ z. Built z c.args.t (coroutines_in c.args.store.now c.args.t) (drop 1 (active_in c.args.store.now c.args.t))) (sym c.leave.ensures.words)
    (wait-again c.args.store.now c.args.t c.args.regs.now.p c.args.regs.now.pc c.requires (λ e. c.if-field-eq0.false (c.field.ensures ∙ e)))

pub returns-clause-active : goal.returns-clause-active
returns-clause-active c = (after c).active

pub returns-clause-coroutines : goal.returns-clause-coroutines
returns-clause-coroutines c = (after c).list

pub returns-clause-valid : goal.returns-clause-valid
returns-clause-valid c = (after c).valid

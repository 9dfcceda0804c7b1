use Rattle.std.proofs.Common.{sym, subst, ◌∷◌}
use Rattle.kernel_lists.specs.Coroutines.Active.{active_in}
use Rattle.kernel_lists.proofs.Coroutines.ActiveChanges.{call-again}
use Rattle.kernel_lists.proofs.Coroutines.CoroutineLists.{Built}
use Rattle.kernel_lists.specs.TaskBlock.Lists.{coroutines_in}
use Rattle.kernel_lists.proofs.Coroutines.IdleAnswer.{IsIdle, idle}
use Rattle.kernel_lists.proofs.coroutine_lists.calls.call.Goals as goal
use Rattle.kernel_lists.proofs.coroutine_lists.calls.call.Goals.{After-enter}

after : (c : After-enter) → Built c.enter.new.store c.args.t (coroutines_in c.args.store.now c.args.t) (c.args.c ∷ active_in c.args.store.now c.args.t)
after c =
    let i : IsIdle c.args.store.now c.args.t c.args.c = idle c.args.store.now c.args.t c.args.c _ c.in_ok-check_idle.ensures in
    subst (λ z. Built z c.args.t (coroutines_in c.args.store.now c.args.t) (c.args.c ∷ active_in c.args.store.now c.args.t)) (sym c.enter.ensures.words)
    (call-again c.args.store.now c.args.t c.args.regs.now c.args.c c.requires i.known i.alone)

pub returns-clause-active : goal.returns-clause-active
returns-clause-active c = (after c).active

pub returns-clause-coroutines : goal.returns-clause-coroutines
returns-clause-coroutines c = (after c).list

pub returns-clause-valid : goal.returns-clause-valid
returns-clause-valid c = (after c).valid

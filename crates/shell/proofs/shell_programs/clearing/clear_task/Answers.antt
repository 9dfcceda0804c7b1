use Rattle.std.proofs.Common.{sym, ap, ◌∙◌}
use Rattle.std.specs.Prelude.{is_ok}
use Rattle.kernel_calls.specs.CallAnswers.Guests.{GuestAt}
use Rattle.kernel_calls.specs.CallAnswers.CallChange.{plain_answer}
use Rattle.kernel_model.specs.KernelRecord.Lists.{Lists}
use Rattle.kernel_calls.specs.TaskCalls.DeleteTask.{delete_task}
use Rattle.shell.proofs.ShellPrograms.ClearedTask.{cleared-none, cleared-other, cleared-refused, cleared-whole, deleted-keeper}
use Rattle.shell.proofs.shell_programs.clearing.clear_task.Goals as goal

pub returns-in_default-clause-cleared : goal.returns-in_default-clause-cleared
returns-in_default-clause-cleared g c = λ l k runs.
    cleared-none c.args.store.now l c.args.id (g.Q.KindKeeper.tells c.args.kinds.now) (g.Q.KindKeeper.room c.args.kinds.now) k c.guest.result (c.guest.ensures l k.lists) c.requires.guest (ap is_ok c.in_default.is)

pub returns-then-field-ne-SHELL-clause-cleared : goal.returns-then-field-ne-SHELL-clause-cleared
returns-then-field-ne-SHELL-clause-cleared g c = λ l k runs.
    let x : GuestAt l c.args.id c.in-Ok.task = c.in-Ok.ensures l k.lists in
    cleared-other c.args.store.now l c.args.id (g.Q.KindKeeper.tells c.args.kinds.now) (g.Q.KindKeeper.room c.args.kinds.now) k c.in-Ok.task x (λ e. c.if-field-ne-SHELL.true (c.field.ensures ∙ e))

pub unload_module-refusal-requires : goal.unload_module-refusal-requires
unload_module-refusal-requires g c =
    let l : Lists = c.requires.holds.0 in
    let k = c.requires.holds.1 in
    let x : GuestAt l c.args.id c.in-Ok.task = c.in-Ok.ensures l k.lists in (
      (delete_task l c.args.id).lists,
      deleted-keeper c.args.store.now l c.args.id (g.Q.KindKeeper.tells c.args.kinds.now) (g.Q.KindKeeper.room c.args.kinds.now) k c.in-Ok.task x (sym c.field.ensures ∙ c.if-field-ne-SHELL.false) c.field-module.result
          c.field-module.ensures c.delete_task.new.store (g.Q.KindKeeper.tells c.delete_task.new.kinds) c.delete_task.result (c.delete_task.ensures.made l k c.requires.holds.2)
          (g.Q.KindKeeper.room c.delete_task.new.kinds) c.delete_task.ensures.room,
    )

pub returns-then-is_ok-clause-cleared : goal.returns-then-is_ok-clause-cleared
returns-then-is_ok-clause-cleared g c = λ l k runs.
    let x : GuestAt l c.args.id c.in-Ok.task = c.in-Ok.ensures l k.lists in
    let made = c.delete_task.ensures.made l k runs in
    let here = (sym c.field.ensures ∙ c.if-field-ne-SHELL.false) in
    cleared-whole c.args.store.now l c.args.id (g.Q.KindKeeper.tells c.args.kinds.now) (g.Q.KindKeeper.room c.args.kinds.now) k c.in-Ok.task x here c.field-module.result
    c.field-module.ensures c.delete_task.new.store (g.Q.KindKeeper.tells c.delete_task.new.kinds) c.delete_task.result made c.unload_module-refusal.new.store (g.Q.KindKeeper.tells c.unload_module-refusal.new.kinds)
    (g.Q.KindKeeper.room c.unload_module-refusal.new.kinds) (plain_answer c.unload_module-refusal.result) (c.unload_module-refusal.ensures.room ∙ c.delete_task.ensures.room)
    (sym c.is_ok.ensures.value ∙ c.if-is_ok.true)
    (c.unload_module-refusal.ensures.made (delete_task l c.args.id).lists
    (deleted-keeper c.args.store.now l c.args.id (g.Q.KindKeeper.tells c.args.kinds.now) (g.Q.KindKeeper.room c.args.kinds.now) k c.in-Ok.task x here c.field-module.result
    c.field-module.ensures c.delete_task.new.store (g.Q.KindKeeper.tells c.delete_task.new.kinds) c.delete_task.result made (g.Q.KindKeeper.room c.delete_task.new.kinds) c.delete_task.ensures.room))

pub returns-else-is_ok-clause-cleared : goal.returns-else-is_ok-clause-cleared
returns-else-is_ok-clause-cleared g c = λ l k runs.
    let x : GuestAt l c.args.id c.in-Ok.task = c.in-Ok.ensures l k.lists in
    cleared-refused c.args.store.now l c.args.id (g.Q.KindKeeper.tells c.args.kinds.now) (g.Q.KindKeeper.room c.args.kinds.now) k c.in-Ok.task x (sym c.field.ensures ∙ c.if-field-ne-SHELL.false) c.field-module.result
    c.field-module.ensures c.delete_task.new.store (g.Q.KindKeeper.tells c.delete_task.new.kinds) c.delete_task.result (c.delete_task.ensures.made l k runs)
    (g.Q.KindKeeper.room c.delete_task.new.kinds) c.delete_task.ensures.room (sym c.is_ok.ensures.value ∙ c.if-is_ok.false)

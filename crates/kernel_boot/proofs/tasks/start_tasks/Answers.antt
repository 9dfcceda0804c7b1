use Rattle.std.proofs.Common.{◌∙◌, ℕ, List, sym}
use Rattle.std.proofs.lemmas.List.{at_drop_all}
use Rattle.session_text.specs.declared.sessions.SessionLine.{SessionLine}
use Rattle.kernel_model.specs.KernelRecord.StoreWithLists.{store_with_lists}
use Rattle.kernel_boot.specs.BootTasks.{start_tasks}
use Rattle.kernel_boot.proofs.StoresAfterCalls.{line-started}
use Rattle.kernel_boot.proofs.StartedTasks.{boot-form}
use Rattle.kernel_boot.proofs.tasks.start_tasks.Goals as goal

pub start_form-requires : goal.start_form-requires
start_form-requires g c =
    let before = c.loop-line.invariant.so_far c.requires.0 c.requires.1 c.requires.2 in
    (before.0, before.1, boot-form c.requires.0.version before.0.version c.args.lines.now c.loop-line.line-index c.line-item.result before.2 c.requires.2 c.loop-line-test.true c.line-item.is)

pub loop-line-preserved : goal.loop-line-preserved
loop-line-preserved g c = record {
  room = c.start_form.ensures.room ∙ c.loop-line.invariant.room;
  so_far = λ h k boot.
      let lines : List SessionLine = c.args.lines.now in
      let line : SessionLine = c.line-item.result in
      let i : ℕ = c.loop-line.line-index in
      let before = c.loop-line.invariant.so_far h k boot in
      let form = boot-form h.version before.0.version lines i line before.2 boot c.loop-line-test.true c.line-item.is in
      let next = line-started c.args.disc.now lines i line c.loop-line-test.true c.line-item.is c.loop-line.store c.start_form.new.store before.0 (g.Q.KindKeeper.tells c.start_form.new.kinds)
      (g.Q.KindKeeper.room c.start_form.new.kinds) c.start_form.result c.in_default.not-Err (c.start_form.ensures.started before.0 before.1 form) in
      (next.0, next.1, next.2 ∙ before.2, sym next.3 ∙ before.3);
}

pub returns-clause-started : goal.returns-clause-started
returns-clause-started g c = λ l k boot.
    let before = c.loop-line.invariant.so_far l k boot in (
      before.0,
      sym before.3 ∙ at_drop_all (λ ls. start_tasks c.args.disc.now ls (store_with_lists c.loop-line.store before.0)) c.args.lines.now c.loop-line.line-index c.loop-line-test.false,
      before.1,
    )

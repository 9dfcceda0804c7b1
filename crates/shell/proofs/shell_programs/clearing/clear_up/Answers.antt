use Rattle.std.proofs.Common.{◌∙◌, ◌+◌, ℕ, List, sym, refl, arith}
use Rattle.kernel_model.specs.KernelRecord.Lists.{Lists}
use Rattle.kernel_model.specs.KernelRecord.StoreWithLists.{store_with_lists}
use Rattle.shell.specs.ShellPrograms.ClearedTasks.{cleared, cleared_at}
use Rattle.shell.proofs.ShellPrograms.ClearedNumbers.{alive-cleared, first-numbers, last-number, next-number}
use Rattle.shell.proofs.ShellPrograms.StoresAfterCalls.{same-represents}
use Rattle.shell.proofs.ShellPrograms.ProgramNumbers.{highest-low_enough}
use Rattle.shell.proofs.shell_programs.clearing.clear_up.Goals as goal

pub overflow_add-id-end : goal.overflow_add-id-end
overflow_add-id-end g c = omega (arith, highest-low_enough c.args.store.now c.requires.0 c.requires.1.lists c.highest_id-id-end.result c.highest_id-id-end.ensures)

pub loop-id-init : goal.loop-id-init
loop-id-init g c = record {
  room = refl;
  so_far = λ h k runs. (h, k, runs, first-numbers c.args.store.now h (c.highest_id-id-end.result + 1) c.highest_id-id-end.result k.lists c.highest_id-id-end.ensures refl);
}

pub clear_task-requires-clause-holds : goal.clear_task-requires-clause-holds
clear_task-requires-clause-holds g c = (let before = c.loop-id.invariant.so_far c.requires.0 c.requires.1 c.requires.2 in (before.0, before.1, before.2))

pub loop-id-preserved : goal.loop-id-preserved
loop-id-preserved g c = record {
  room = c.clear_task.ensures.room ∙ c.loop-id.invariant.room;
  so_far = λ h k runs.
      let s : List ℕ = c.loop-id.store in
      let t : List ℕ = c.clear_task.new.store in
      let id : ℕ = c.loop-id.id in
      let before = c.loop-id.invariant.so_far h k runs in
      let l : Lists = before.0 in
      let x = c.clear_task.ensures.cleared l before.1 before.2 in (
        (cleared_at id (store_with_lists s l)).lists,
        x.keeper,
        alive-cleared id (store_with_lists s l) c.loop-id.auto.id before.2,
        next-number s t l (g.Q.KindKeeper.tells c.clear_task.new.kinds) (g.Q.KindKeeper.room c.clear_task.new.kinds) id (c.highest_id-id-end.result + 1) c.loop-id-test.true x ∙ before.3,
      );
}

pub returns-clause-cleared : goal.returns-clause-cleared
returns-clause-cleared g c = λ l k runs.
    let s : List ℕ = c.loop-id.store in
    let before = c.loop-id.invariant.so_far l k runs in
    same-represents s (g.Q.KindKeeper.tells c.loop-id.kinds) (g.Q.KindKeeper.room c.loop-id.kinds) before.0 (cleared (store_with_lists c.args.store.now l)) before.1
    (sym before.3 ∙ last-number (store_with_lists s before.0) c.loop-id.id (c.highest_id-id-end.result + 1) c.loop-id-test.false)

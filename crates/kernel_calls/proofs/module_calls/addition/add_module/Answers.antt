use Rattle.std.proofs.Common.{◌≡◌, ◌∙◌, ℕ, ◌+◌, ◌≤◌, cond, eqb, Bool, true, false, set, sym, ap, subst, arith}
use Rattle.std.proofs.lemmas.Result.{err_from_is_err_and}
use Rattle.kernel_lists.specs.HunkLoader.GlobalWords.{AreClear}
use Rattle.kernel_lists.specs.HunkLoader.ModuleHunks.{module_end}
use Rattle.kernel_lists.proofs.HunkLoader.HeldModuleLists.{held-modules}
use Rattle.kernel_lists.specs.TaskBlock.Versions.{module_index, most_modules}
use Rattle.kernel_model.specs.KernelRecord.Versions.{most_modules_of}
use Rattle.kernel_calls.proofs.CallAnswers.FoundTask.{reads}
use Rattle.kernel_calls.proofs.CallAnswers.MadeCalls.{handed-on}
use Rattle.kernel_calls.proofs.CallAnswers.ListedModules.{module-told}
use Rattle.kernel_calls.specs.ModuleCalls.AddModule.{add_module}
use Rattle.kernel_calls.proofs.ModuleCalls.AddedModule.{globals-changed}
use Rattle.kernel_calls.proofs.ModuleCalls.AdditionCall.{add-made, add-no_guest, add-packet, add-unchecked}
use Rattle.kernel_calls.proofs.ModuleCalls.AdditionTests.{checks-passed, most-told, room-is}
use Rattle.kernel_calls.proofs.ModuleCalls.TaskGlobals.{globals-clear, globals-told}
use Rattle.kernel_calls.proofs.module_calls.addition.add_module.Goals as goal

clash : (x : Bool) → x ≡ false → x ≡ true → ⊥
clash x e f = cc

most-few : (version : ℕ) → most_modules_of version ≤ 8
most-few version = elim (eqb version 2) as (λ b. cond b 8 1 ≤ 8) [ true ↦ omega arith | false ↦ omega arith ]

pub returns-in_err-task : goal.returns-in_err-task
returns-in_err-task g c = record {
  made = λ l k.
      let s = c.args.store.now in
      let p = err_from_is_err_and c.from_residual.result c.from_residual.ensures.1 in
      handed-on s s (g.Q.KindKeeper.tells c.args.kinds.now) c.from_residual.result p.0 c.in_err-task.field-0.0 (add_module s l c.args.id c.args.m) p.1 p.2
      (add-no_guest s (g.Q.KindKeeper.tells c.args.kinds.now) (g.Q.KindKeeper.room c.args.kinds.now) l c.args.id c.args.m k c.in_err-task.field-0.0 (c.in_err-task.ensures l k.lists));
}

pub returns-in_err-count : goal.returns-in_err-count
returns-in_err-count g c = record {
  made = λ l k.
      let s = c.args.store.now in
      let p = err_from_is_err_and c.from_residual-in_err-count.result c.from_residual-in_err-count.ensures.1 in
      let t = c.in_ok-task.ensures l k.lists in
      handed-on s s (g.Q.KindKeeper.tells c.args.kinds.now) c.from_residual-in_err-count.result p.0 c.in_err-count.field-0.0 (add_module s l c.args.id c.args.m) p.1 p.2
      (add-unchecked s (g.Q.KindKeeper.tells c.args.kinds.now) (g.Q.KindKeeper.room c.args.kinds.now) l c.args.id c.args.m k c.in_ok-task.task t c.in_err-count.field-0.0 (c.in_err-count.ensures l c.args.id t k.lists));
}

pub returns-then-not-are_unowned : goal.returns-then-not-are_unowned
returns-then-not-are_unowned g c = record {
  made = λ l k.
      let t = c.in_ok-task.ensures l k.lists in
      add-packet c.args.store.now (g.Q.KindKeeper.tells c.args.kinds.now) (g.Q.KindKeeper.room c.args.kinds.now) l c.args.id c.args.m k c.in_ok-task.task t (c.in_ok-count.ensures l c.args.id t k.lists).0
      c.field-globals.result c.field-globals.ensures (λ unowned. clash c.are_unowned.result c.if-not-are_unowned.true ((c.are_unowned.ensures l k).1 unowned));
}

pub init_globals-requires-clause-modules : goal.init_globals-requires-clause-modules
init_globals-requires-clause-modules g c = (held-modules c.args.store.now c.requires.0.modules (reads c.args.store.now c.requires.0 c.requires.1.lists).modules).modules

pub init_globals-requires-clause-listed : goal.init_globals-requires-clause-listed
init_globals-requires-clause-listed g c =
    let l = c.requires.0 in
    let h = c.requires.1.lists in
    let t = c.in_ok-task.ensures l h in
    module-told c.args.store.now l c.args.m h ∙ (checks-passed c.args.store.now l c.args.id c.args.m (c.in_ok-count.ensures l c.args.id t h).0).there

pub init_globals-requires-clause-clear : goal.init_globals-requires-clause-clear
init_globals-requires-clause-clear g c =
    let s = c.args.store.now in
    let l = c.requires.0 in
    let h = c.requires.1.lists in
    let t = c.in_ok-task.ensures l h in
    let there = (checks-passed s l c.args.id c.args.m (c.in_ok-count.ensures l c.args.id t h).0).there in
    subst (λ a. AreClear a c.args.m (module_end s c.args.m)) (sym (c.field-globals.ensures ∙ globals-told s l c.args.id c.in_ok-task.task h t)) (globals-clear s l c.args.id c.in_ok-task.task h t c.args.m there)

pub overflow_add-count : goal.overflow_add-count
overflow_add-count g c =
    let s = c.args.store.now in
    let l = c.requires.0 in
    let h = c.requires.1.lists in
    let t = c.in_ok-task.ensures l h in
    let e = c.in_ok-count.ensures l c.args.id t h in
    omega (arith, e.1, room-is s l c.args.id c.in_ok-task.task h t (checks-passed s l c.args.id c.args.m e.0).room, most-few l.version)

pub set_module_at-requires-clause-most : goal.set_module_at-requires-clause-most
set_module_at-requires-clause-most g c =
    let s = c.args.store.now in
    let l = c.requires.0 in
    let k = c.requires.1 in
    let t = c.in_ok-task.ensures l k.lists in
    let e = c.in_ok-count.ensures l c.args.id t k.lists in
    let unowned = (c.are_unowned.ensures l k).0 c.if-not-are_unowned.false in
    let first = globals-changed s l c.args.m c.field-globals.result k.lists unowned in
    let most = ap (λ z. most_modules z) c.init_globals.ensures ∙ most-told _ l first.lists in
    omega (arith, e.1, room-is s l c.args.id c.in_ok-task.task k.lists t (checks-passed s l c.args.id c.args.m e.0).room, most)

pub overflow_add-result : goal.overflow_add-result
overflow_add-result g c =
    let s = c.args.store.now in
    let l = c.requires.0 in
    let h = c.requires.1.lists in
    let t = c.in_ok-task.ensures l h in
    let e = c.in_ok-count.ensures l c.args.id t h in
    omega (arith, e.1, room-is s l c.args.id c.in_ok-task.task h t (checks-passed s l c.args.id c.args.m e.0).room, most-few l.version)

pub returns : goal.returns
returns g c = record {
  made = λ l k.
      let s = c.args.store.now in
      let t = c.in_ok-task.ensures l k.lists in
      let e = c.in_ok-count.ensures l c.args.id t k.lists in
      add-made s (g.Q.KindKeeper.tells c.args.kinds.now) (g.Q.KindKeeper.room c.args.kinds.now) l c.args.id c.args.m k c.in_ok-task.task t e.0 c.field-globals.result c.field-globals.ensures
      c.set_module_at.new.store c.in_ok-count.count ((c.are_unowned.ensures l k).0 c.if-not-are_unowned.false) e.1
      (c.set_module_at.ensures ∙ ap (λ z. set z (c.in_ok-task.task + module_index (c.in_ok-count.count + 1)) c.args.m) c.init_globals.ensures);
}

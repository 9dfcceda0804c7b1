use Rattle.std.proofs.Common.{◌≡◌, ℕ, suc, ◌+◌, ◌<◌, List, ◌∷◌, drop, drop-cons, get_or, length, sym, ap, ◌∙◌, subst, arith}
use Rattle.std.specs.List.{flat_map}
use Rattle.kernel_lists.specs.HunkLoader.Globals.{globals_in, with_globals}
use Rattle.kernel_calls.specs.TaskCalls.Private.NewTasks.{MaySetGlobals}
use Rattle.kernel_calls.proofs.TaskCalls.ModuleGlobals.{has-modules, next-globals, next-holds, next-may}
use Rattle.kernel_calls.proofs.task_calls.new_tasks.set_globals.Goals as goal

rest : (ms : List ℕ) (i : ℕ) → i < length ms → drop i ms ≡ get_or ms i 0 ∷ drop (i + 1) ms
rest ms i lt = (let one : suc i ≡ i + 1 = omega arith in drop-cons ms i 0 lt ∙ ap (λ z. get_or ms i 0 ∷ drop z ms) one)

pub init_globals-requires-clause-modules : goal.init_globals-requires-clause-modules
init_globals-requires-clause-modules c = has-modules c.loop-m.store c.loop-m.invariant.0 c.loop-m.invariant.1

pub init_globals-requires-clause-clear : goal.init_globals-requires-clause-clear
init_globals-requires-clause-clear c =
    let ms : List ℕ = c.args.modules.now in
    let i : ℕ = c.loop-m.m-index in
    (subst (λ z. MaySetGlobals c.loop-m.store c.loop-m.invariant.0 z c.args.g) (rest ms i c.loop-m-test.true) c.loop-m.invariant.2).clear.0

pub loop-m-preserved : goal.loop-m-preserved
loop-m-preserved c =
    let ms : List ℕ = c.args.modules.now in
    let i : ℕ = c.loop-m.m-index in
    let m : ℕ = get_or ms i 0 in
    let s : List ℕ = c.loop-m.store in
    let t : List ℕ = c.init_globals.new.store in
    let inv = c.loop-m.invariant in
    let g : ℕ = c.args.g in
    let may : MaySetGlobals s inv.0 (m ∷ drop (i + 1) ms) g = subst (λ z. MaySetGlobals s inv.0 z g) (rest ms i c.loop-m-test.true) inv.2 in (
      inv.0,
      next-holds s t inv.0 m (drop (i + 1) ms) g inv.1 may c.init_globals.ensures,
      next-may s t inv.0 m (drop (i + 1) ms) g inv.1 may c.init_globals.ensures,
      next-globals s t inv.0 m (drop (i + 1) ms) g inv.1 may c.init_globals.ensures
          ∙ ap (λ z. with_globals s g (flat_map (globals_in s) z)) (sym (rest ms i c.loop-m-test.true)) ∙ inv.3,
    )

use Rattle.std.proofs.Common.{◌∙◌, ℕ, List, Result, Ok, Err, sym, ap, subst, arith}
use Rattle.std.proofs.lemmas.Result.{err_from_is_err_and}
use Rattle.kernel_model.specs.KernelRecord.Lists.{Lists}
use Rattle.kernel_calls.specs.TaskCalls.CreateTask.{create_task}
use Rattle.kernel_boot.specs.BootTasks.{IsLeft, start_task}
use Rattle.kernel_model.specs.KernelRecord.StoreWithLists.{store_with_lists}
use Rattle.kernel_boot.proofs.StoresAfterCalls.{begun-is, created-is}
use Rattle.kernel_boot.proofs.StartedTasks.{guest-away, guest-created, may-create}
use Rattle.kernel_boot.proofs.tasks.start_task.Goals as goal

pub create_task_of-requires : goal.create_task_of-requires
create_task_of-requires g c =
    let d = c.args.disc.now in
    let s : List ℕ = c.args.store.now in
    let u : List ℕ = c.load_names.new.store in
    let l : Lists = c.requires.0 in
    let k = c.requires.1 in
    let may = c.requires.2 in
    let id : ℕ = c.args.id in
    let names : List (List ℕ) = c.args.names.now in
    let modules : List ℕ = c.as_slice.result.now in
    let away = guest-away l id c.guest.result (c.guest.ensures l k.lists) may.low (sym c.is_ok.ensures.value ∙ c.if-is_ok.false) in
    let x = c.in_ok-modules.ensures.loaded l k in
    (x.0, x.2, may-create d id names s u l x.0 c.in_ok-modules.modules.items modules may away c.as_slice.ensures.value x.1)

pub returns-in_err-id-clause-started : goal.returns-in_err-id-clause-started
returns-in_err-id-clause-started g c = λ l k may.
    let d = c.args.disc.now in
    let s : List ℕ = c.args.store.now in
    let u : List ℕ = c.load_names.new.store in
    let v : List ℕ = c.create_task_of.new.store in
    let id : ℕ = c.args.id in
    let pri : ℕ = c.args.pri in
    let stack : ℕ = c.args.stack in
    let names : List (List ℕ) = c.args.names.now in
    let modules : List ℕ = c.as_slice.result.now in
    let tells = g.Q.KindKeeper.tells c.create_task_of.new.kinds in
    let room : ℕ = g.Q.KindKeeper.room c.create_task_of.new.kinds in
    let away = guest-away l id c.guest.result (c.guest.ensures l k.lists) may.low (sym c.is_ok.ensures.value ∙ c.if-is_ok.false) in
    let x = c.in_ok-modules.ensures.loaded l k in
    let create = may-create d id names s u l x.0 c.in_ok-modules.modules.items modules may away c.as_slice.ensures.value x.1 in
    let loaded = x.1 ∙ ap (λ ms. Ok (ms, store_with_lists u x.0)) (sym c.as_slice.ensures.value) in
    let code : ℕ = c.in_err-id.field-0.0 in
    let p = err_from_is_err_and c.from_residual-in_err-id.result c.from_residual-in_err-id.ensures.1 in
    let made = c.in_err-id.ensures.made x.0 x.2 create in
    subst (λ (r : Result (Unit {0}) ℕ). IsLeft v tells room r (start_task d id pri stack names (store_with_lists s l))) (sym p.1)
    (created-is d id pri stack names s l away u v x.0 modules tells (Err code) loaded made ∙ ap Err (sym p.2))

pub begin_task-requires : goal.begin_task-requires
begin_task-requires g c =
    let d = c.args.disc.now in
    let s : List ℕ = c.args.store.now in
    let u : List ℕ = c.load_names.new.store in
    let l : Lists = c.requires.0 in
    let k = c.requires.1 in
    let may = c.requires.2 in
    let id : ℕ = c.args.id in
    let names : List (List ℕ) = c.args.names.now in
    let modules : List ℕ = c.as_slice.result.now in
    let away = guest-away l id c.guest.result (c.guest.ensures l k.lists) may.low (sym c.is_ok.ensures.value ∙ c.if-is_ok.false) in
    let x = c.in_ok-modules.ensures.loaded l k in
    let create = may-create d id names s u l x.0 c.in_ok-modules.modules.items modules may away c.as_slice.ensures.value x.1 in
    let made = c.in_ok-id.ensures.made x.0 x.2 create in (
      (create_task u x.0 id modules c.args.stack c.args.pri 0).lists,
      made.leaves.lists.lists,
      guest-created u x.0 id modules c.args.stack c.args.pri 0 c.in_ok-id.id may.low (sym made.leaves.answered),
    )

pub returns-clause-started : goal.returns-clause-started
returns-clause-started g c = λ l k may.
    let d = c.args.disc.now in
    let s : List ℕ = c.args.store.now in
    let u : List ℕ = c.load_names.new.store in
    let v : List ℕ = c.create_task_of.new.store in
    let w : List ℕ = c.begin_task.new.store in
    let id : ℕ = c.args.id in
    let pri : ℕ = c.args.pri in
    let stack : ℕ = c.args.stack in
    let names : List (List ℕ) = c.args.names.now in
    let modules : List ℕ = c.as_slice.result.now in
    let tells = g.Q.KindKeeper.tells c.create_task_of.new.kinds in
    let room : ℕ = g.Q.KindKeeper.room c.create_task_of.new.kinds in
    let away = guest-away l id c.guest.result (c.guest.ensures l k.lists) may.low (sym c.is_ok.ensures.value ∙ c.if-is_ok.false) in
    let x = c.in_ok-modules.ensures.loaded l k in
    let create = may-create d id names s u l x.0 c.in_ok-modules.modules.items modules may away c.as_slice.ensures.value x.1 in
    let loaded = x.1 ∙ ap (λ ms. Ok (ms, store_with_lists u x.0)) (sym c.as_slice.ensures.value) in
    let n : ℕ = c.in_ok-id.id in
    let made = c.in_ok-id.ensures.made x.0 x.2 create in
    let guest = guest-created u x.0 id modules stack pri 0 n may.low (sym made.leaves.answered) in
    begun-is d id pri stack names s l away u v x.0 modules tells (Ok n) loaded made w room n (λ i. Ok n) (omega (arith, x.2.enough, c.create_task_of.ensures.room)) guest
    (c.begin_task.ensures (create_task u x.0 id modules stack pri 0).lists made.leaves.lists.lists guest)

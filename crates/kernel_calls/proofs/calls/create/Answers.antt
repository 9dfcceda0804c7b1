use Rattle.std.proofs.Common.{◌≡◌, [], ◌∷◌, sym, ◌∙◌, subst}
use Rattle.kernel_calls.specs.CallAnswers.Guests.{GuestAt}
use Rattle.kernel_calls.specs.CallAnswers.CallChange.{IsMade}
use Rattle.kernel_calls.proofs.PacketCalls.CallerTask.{caller-number}
use Rattle.kernel_calls.specs.TaskCalls.CreateTask.{MayCreate, create_task}
use Rattle.kernel_calls.proofs.CreatedByCaller.{caller-creates}
use Rattle.kernel_calls.proofs.calls.create.Goals as goal

pub create_task-requires : goal.create_task-requires
create_task-requires g c =
    let l = c.requires.0 in
    let k = c.requires.1 in
    let at : GuestAt l l.running c.caller.result = c.caller.ensures l k.lists c.requires.2 in
    (l, k, subst (MayCreate l 0 (c.args.module ∷ [])) (sym (c.field-maker.ensures ∙ caller-number c.args.store.now l l.running c.caller.result k.lists at)) (caller-creates c.args.store.now l c.caller.result c.args.module k.lists at))

pub returns-clause-made : goal.returns-clause-made
returns-clause-made g c = λ l k calls.
    let s = c.args.store.now in
    let at : GuestAt l l.running c.caller.result = c.caller.ensures l k.lists calls in
    let maker : c.field-maker.result ≡ l.running = c.field-maker.ensures ∙ caller-number s l l.running c.caller.result k.lists at in
    subst (λ m. IsMade s c.create_task.new.store (g.Q.KindKeeper.tells c.create_task.new.kinds) c.create_task.result (create_task s l 0 (c.args.module ∷ []) c.args.highest c.args.priority m)) maker
    (c.create_task.ensures.made l k (subst (MayCreate l 0 (c.args.module ∷ [])) (sym maker) (caller-creates s l c.caller.result c.args.module k.lists at)))

use Rattle.std.proofs.Common.{◌∙◌, sym, subst, ap, arith}
use Rattle.kernel_lists.specs.GetvecChain.Run.{first_run, need}
use Rattle.kernel_lists.specs.GetvecChain.Tiling.{blocks_in}
use Rattle.kernel_model.specs.KernelRecord.ChangedStore.{Knows}
use Rattle.kernel_calls.specs.BlockCalls.FreeStore.{with_taken}
use Rattle.kernel_calls.proofs.CoroutineCalls.CallersTask.{callers-stood}
use Rattle.kernel_calls.proofs.CoroutineCalls.MadeCoroutine.{created-inside, createco-made, createco-refused}
use Rattle.kernel_calls.proofs.coroutine_calls.creation.createco.Goals as goal

pub returns-in_default-clause-made : goal.returns-in_default-clause-made
returns-in_default-clause-made g c = λ l k is.
    createco-refused c.args.store.now (g.Q.KindKeeper.tells c.tell_take.new.kinds) l c.args.function c.args.u k.lists
    (subst (λ q. Knows (g.Q.KindKeeper.tells q) l) (sym c.in_default.ensures.unchanged) k.knows)
    (ap (λ m. first_run (need m) (blocks_in c.args.store.now)) (sym c.max.ensures) ∙ c.in_default.ensures.no_room)

pub create-c-requires : goal.create-c-requires
create-c-requires g c = record {
  coroutines = callers-stood c.args.store.now c.requires.0 c.caller-task.result c.requires.1.lists (c.caller-task.ensures c.requires.0 c.requires.1.lists c.requires.2);
  first = ap (λ m. first_run (need m) (blocks_in c.args.store.now)) (sym c.max.ensures) ∙ c.in-Ok.ensures.first;
}

pub claim-requires : goal.claim-requires
claim-requires g c =
    let inside = created-inside c.args.store.now c.requires.0 c.caller-task.result c.requires.1.lists (c.caller-task.ensures c.requires.0 c.requires.1.lists c.requires.2)
    c.create-c.result c.args.function c.args.u c.create-c.new.store c.create-c.ensures.words
    in
    omega (arith, inside, c.requires.1.enough, c.tell_take.ensures.room)

pub returns-clause-made : goal.returns-clause-made
returns-clause-made g c = λ l k is.
    createco-made c.args.store.now c.create-c.new.store (g.Q.KindKeeper.tells c.tell_take.new.kinds) (g.Q.KindKeeper.tells c.claim.new.self) l c.caller-task.result k.lists
    (c.caller-task.ensures l k.lists is) c.create-c.result c.args.function c.args.u c.create-c.ensures.words
    (subst (λ u. Knows (g.Q.KindKeeper.tells c.tell_take.new.kinds) (with_taken u l)) c.max.ensures (c.in-Ok.ensures.knows l k))
    c.claim.ensures.tells

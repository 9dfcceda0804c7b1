use Rattle.std.proofs.Common.{◌≡◌, Option, Some, None, Result, Ok, Err, refl, ap, ◌∙◌, subst}
use Rattle.std.specs.Prelude.{IsOk, OnErr, OnOk}
use Rattle.kernel_lists.specs.declared.getvec_chain.pieces.Block.{Block}
use Rattle.kernel_lists.specs.GetvecChain.Give.{given_store}
use Rattle.kernel_lists.specs.GetvecChain.Tiling.{blocks_in, used_at}
use Rattle.kernel_calls.proofs.CallAnswers.FoundTask.{reads}
use Rattle.kernel_calls.proofs.TaskCalls.EndedTask.{in-chain, out-tiled, out-used, removed-made}
use Rattle.kernel_calls.proofs.task_calls.deletion.remove_task.Goals as goal

-- the block is given back
gives : {A E : Type 0} (r : Result A E) (o : Option Block) (b : Block) → OnErr r (o ≡ None) → o ≡ Some b → IsOk r
gives (Ok a) o b none some = refl
gives (Err e) o b none some = cc

pub unlink-requires-clause-tasks : goal.unlink-requires-clause-tasks
unlink-requires-clause-tasks g c = (reads c.args.store.now c.requires.0 c.requires.2.lists).tasks.tasks

pub unlink-requires-clause-task : goal.unlink-requires-clause-task
unlink-requires-clause-task g c = in-chain c.args.store.now c.requires.0 c.requires.1 c.args.task c.requires.2.lists c.requires.3

pub give-requires : goal.give-requires
give-requires g c = out-tiled c.args.store.now c.requires.0 c.requires.1 c.args.task c.requires.2.lists c.requires.3 c.unlink.new.store c.unlink.ensures.words

pub unwrap-requires : goal.unwrap-requires
unwrap-requires g c =
    gives c.give.result (used_at c.args.task (blocks_in c.unlink.new.store)) _ c.give.ensures.not_a_block
    (out-used c.args.store.now c.requires.0 c.requires.1 c.args.task c.requires.2.lists c.requires.3 c.unlink.new.store c.unlink.ensures.words)

pub returns-clause-made : goal.returns-clause-made
returns-clause-made g c = λ l id k e empty.
    removed-made c.args.store.now l id c.args.task k.lists e empty c.give.new.store c.head_words-head.result (g.Q.KindKeeper.tells c.args.kinds.now) (g.Q.KindKeeper.tells c.release.new.self)
    (subst (λ r. OnOk r (c.give.new.store ≡ given_store c.unlink.new.store c.args.task)) c.unwrap.ensures c.give.ensures.words ∙ ap (λ z. given_store z c.args.task) c.unlink.ensures.words)
    c.head_words-head.ensures k.knows c.release.ensures.tells

use Rattle.std.proofs.Common.{arith}
use Rattle.kernel_calls.proofs.CallAnswers.FoundTask.{reads}
use Rattle.kernel_calls.proofs.TaskCalls.EndedTask.{found-inside, head-fits, head-inside, some-found, some-words}
use Rattle.kernel_calls.proofs.task_calls.deletion.has_packet_inside.Goals as goal

pub block_of-requires : goal.block_of-requires
block_of-requires g c = (reads c.args.store.now c.requires.0 c.requires.2.lists).tiled

pub unwrap-block-requires : goal.unwrap-block-requires
unwrap-block-requires g c = some-found c.args.store.now c.requires.0 c.requires.1 c.args.task c.requires.2.lists c.requires.3 c.block_of.result c.block_of.ensures

pub overflow_add-task : goal.overflow_add-task
overflow_add-task g c =
    omega (
      arith,
      head-fits c.args.store.now c.requires.0 c.requires.1 c.args.task c.requires.2.lists c.requires.3 c.block_of.result c.unwrap-block.result c.head_words-head.result c.block_of.ensures c.unwrap-block.ensures
          c.head_words-head.ensures,
    )

pub overflow_sub-block : goal.overflow_sub-block
overflow_sub-block g c =
    some-words c.args.store.now c.requires.0 c.requires.1 c.args.task c.requires.2.lists c.requires.3 c.block_of.result c.unwrap-block.result c.head_words-head.result c.block_of.ensures c.unwrap-block.ensures
    c.head_words-head.ensures

pub overflow_sub-block-2 : goal.overflow_sub-block-2
overflow_sub-block-2 g c =
    head-inside c.args.store.now c.requires.0 c.requires.1 c.args.task c.requires.2.lists c.requires.3 c.block_of.result c.unwrap-block.result c.head_words-head.result c.block_of.ensures c.unwrap-block.ensures
    c.head_words-head.ensures

pub returns : goal.returns
returns g c = λ l id k e.
    found-inside c.args.store.now l id c.args.task k.lists e c.block_of.result c.unwrap-block.result c.head_words-head.result c.block_of.ensures c.unwrap-block.ensures c.head_words-head.ensures
    c.are_unowned.result (c.are_unowned.ensures l k)

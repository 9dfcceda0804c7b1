-- Valid lists, read off a store that holds the words which they own.
use Rattle.std.proofs.Common.{◌≡◌, ℕ, List, [], ◌++◌, length, cond, ap, subst, arith}
use Rattle.std.specs.List.{AllByRecursion}
use Rattle.kernel_lists.specs.OwnedWords.LinkedWords.{linked_words}
use Rattle.kernel_lists.specs.OwnedWords.Owned.{AreApart, AreInside, Holds, Pairs, owners}
use Rattle.kernel_lists.proofs.OwnedWords.OwnedWords.{Holds-left, owners-append}
use Rattle.kernel_lists.specs.PacketQueue.QueueWords.{HeldQueue, queue_words}
use Rattle.kernel_lists.proofs.TaskBlock.HeldTaskBlocks.{held-tasks}
use Rattle.kernel_lists.specs.Coroutines.CoroutineExchanges.{HoldsCoroutines}
use Rattle.kernel_model.specs.KernelRecord.Lists.{Lists}
use Rattle.kernel_model.specs.KernelRecord.Owned.{clock_head, keyboard_head, output_head, owned}
use Rattle.kernel_model.specs.KernelRecord.ReadsLists.{ReadsLists}
use Rattle.kernel_model.specs.KernelRecord.Residents.{fault_packet_words, key_arguments, key_words, pending_head, resident_words}
use Rattle.kernel_model.specs.KernelRecord.Task.{queue_head, task_address, task_id, task_words}
use Rattle.kernel_model.specs.KernelRecord.ValidLists.{AreValid}
use Rattle.kernel_model.specs.KernelRecord.ValidQueues.{IsValidPacket}
use Rattle.kernel_model.specs.KernelRecord.ValidQueues.Place.{Clock, Keyboard, Output, Pending, Work}
use Rattle.kernel_model.specs.KernelRecord.ValidTasks.{AreValidCoroutines}
use Rattle.kernel_model.proofs.KernelRecord.EachMember.{all-both, held-each}
use Rattle.kernel_model.proofs.KernelRecord.OwnedParts.{HoldsParts, holds-parts, owners-parts}
use Rattle.kernel_model.proofs.KernelRecord.ReadCoroutines.{holds-task, read-coroutines}
use Rattle.kernel_model.proofs.KernelRecord.ReadQueues.{packets-some, read-queue}
use Rattle.kernel_model.proofs.KernelRecord.ReadTasks.{ReadsBlocks, read-blocks, read-modules, read-tasks}
use Rattle.kernel_model.proofs.KernelRecord.RootCounts.{owners-nodes}
use Rattle.kernel_model.proofs.KernelRecord.TaskKind.{are_tasks, owners-task}
use Rattle.kernel_model.proofs.KernelRecord.TaskPlaces.{TaskPlace, task-places}

-- the words of the residents
abbrev pub resident_rest : Lists → Pairs
resident_rest l = key_words l.key ++ (key_arguments ++ fault_packet_words l.fault_packet_free)

pub read-lists : (s : List ℕ) (l : Lists) → AreValid l → length s ≡ l.size → Holds s (owned l) → ReadsLists s l
read-lists s l v size h =
    let parts : HoldsParts s l = holds-parts s l h in
    let blocks : ReadsBlocks s l = read-blocks s l v size h in
    let inside : AreInside s (owned l) = λ a some. omega (arith, size, v.owns.inside a some) in
    let chain : Pairs = linked_words task_address (task_words l.version) l.tasks 0 in
    let chain_apart : AreApart chain = λ a. omega (arith, v.owns.apart a, owners-nodes a l) in
    let chain_inside : AreInside s chain = λ a some. inside a (omega (arith, some, owners-nodes a l)) in
    let places : AllByRecursion (TaskPlace l) l.tasks = task-places l v in
    let tasks = read-tasks s l v size h in
    record {
      tiled = blocks.tiled;
      blocks = blocks.blocks;
      held_tasks = tasks;
      tasks = held-tasks task_address task_id (task_words l.version) (are_tasks l.version) s l.tasks tasks;
      modules = read-modules s l v size h;
      work =
          held-each task_address (task_words l.version) s (λ t. AllByRecursion (IsValidPacket l (Work t.id)) t.queue) (λ t. HeldQueue s (queue_head t.address) t.queue)
          (λ t n own apart within all.
          read-queue s (queue_head t.address) t.queue (task_words l.version t n) (holds-task s l.version t n own).queue (λ a. omega (arith, owners-task a l.version t n)) apart within
          (packets-some l (Work t.id) t.queue all))
          l.tasks 0 parts.chain.1 chain_apart chain_inside v.queues.tasks;
      coroutines =
          held-each task_address (task_words l.version) s (λ t. TaskPlace l t × AreValidCoroutines l t) (λ t. HoldsCoroutines s t.address t.coroutines)
          (λ t n own apart within all. read-coroutines s l t n blocks.tiled blocks.blocks own apart within all.0 all.1)
          l.tasks 0 parts.chain.1 chain_apart chain_inside (all-both (TaskPlace l) (AreValidCoroutines l) l.tasks places v.coroutines);
      clock = read-queue s clock_head l.clock (owned l) parts.clock (λ a. omega (arith, owners-parts a l)) v.owns.apart inside (packets-some l Clock l.clock v.queues.clock);
      keyboard = read-queue s keyboard_head l.keyboard (owned l) parts.keyboard (λ a. omega (arith, owners-parts a l)) v.owns.apart inside (packets-some l Keyboard l.keyboard v.queues.keyboard);
      output = read-queue s output_head l.output (owned l) parts.output (λ a. omega (arith, owners-parts a l)) v.owns.apart inside (packets-some l Output l.output v.queues.output);
      pending = λ residents.
          let queue : Pairs = queue_words pending_head l.pending in
          let whole : resident_words l ≡ queue ++ resident_rest l = ap (λ b. cond b (queue ++ resident_rest l) []) residents in
          let own : Holds s queue = Holds-left s queue (resident_rest l) (subst (Holds s) whole parts.residents) in
          read-queue s pending_head l.pending (owned l) own
          (λ a. omega (arith, owners-parts a l, ap (owners a) whole, owners-append a queue (resident_rest l))) v.owns.apart inside (packets-some l Pending l.pending v.queues.pending);
    }

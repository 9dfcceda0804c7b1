-- The parts of the kernel's owned words.
use Rattle.std.proofs.Common.{◌≡◌, ℕ, ◌+◌, List, ◌++◌, arith}
use Rattle.kernel_lists.specs.OwnedWords.LinkedWords.{headed_words}
use Rattle.kernel_lists.specs.OwnedWords.Owned.{Holds, Pairs, owners}
use Rattle.kernel_lists.proofs.OwnedWords.OwnedWords.{Holds-left, Holds-right, owners-append}
use Rattle.kernel_lists.specs.GetvecChain.BlockWords.{blocks_words}
use Rattle.kernel_lists.specs.HunkLoader.ModuleExchanges.{modules_words}
use Rattle.kernel_lists.specs.PacketQueue.QueueWords.{queue_words}
use Rattle.kernel_lists.specs.TaskBlock.ChainWords.{entries}
use Rattle.kernel_lists.specs.TaskBlock.HeldTasks.{address_with}
use Rattle.kernel_lists.specs.TaskBlock.RootWords.{first_task}
use Rattle.kernel_model.specs.KernelRecord.Lists.{Lists, address_of_task}
use Rattle.kernel_model.specs.KernelRecord.Owned.{clock_head, device_words, keyboard_head, output_head, owned, tasks_words}
use Rattle.kernel_model.specs.KernelRecord.Residents.{resident_words}
use Rattle.kernel_model.specs.KernelRecord.Root.{root_words}
use Rattle.kernel_model.specs.KernelRecord.Task.{task_address, task_id, task_words}
use Rattle.kernel_model.specs.KernelRecord.Versions.{highest_id_of}

abbrev pub root_part : Lists → Pairs
root_part l = root_words l (address_of_task l l.running)

abbrev pub table_part : Lists → Pairs
table_part l = entries (address_with task_address task_id l.tasks) 1 (highest_id_of l.version)

abbrev pub chain_part : Lists → Pairs
chain_part l = headed_words task_address (task_words l.version) first_task l.tasks 0

pub record HoldsParts (s : List ℕ) (l : Lists) : Type 0 where
  pub root : Holds s (root_part l)
  pub blocks : Holds s (blocks_words l.blocks)
  pub table : Holds s (table_part l)
  pub chain : Holds s (chain_part l)
  pub modules : Holds s (modules_words l.modules)
  pub clock : Holds s (queue_words clock_head l.clock)
  pub keyboard : Holds s (queue_words keyboard_head l.keyboard)
  pub output : Holds s (queue_words output_head l.output)
  pub residents : Holds s (resident_words l)

pub holds-parts : (s : List ℕ) (l : Lists) → Holds s (owned l) → HoldsParts s l
unfolding owned
holds-parts s l h =
    let clock : Pairs = queue_words clock_head l.clock in
    let keyboard : Pairs = queue_words keyboard_head l.keyboard in
    let output : Pairs = queue_words output_head l.output in
    let last : Pairs = device_words l ++ resident_words l in
    let modules : Pairs = modules_words l.modules ++ last in
    let tasks : Pairs = tasks_words l ++ modules in
    let blocks : Pairs = blocks_words l.blocks ++ tasks in
    let in_blocks = Holds-right s (root_part l) blocks h in
    let in_tasks = Holds-right s (blocks_words l.blocks) tasks in_blocks in
    let in_modules = Holds-right s (tasks_words l) modules in_tasks in
    let in_last = Holds-right s (modules_words l.modules) last in_modules in
    let own_tasks = Holds-left s (tasks_words l) modules in_tasks in
    let devices = Holds-left s (device_words l) (resident_words l) in_last in
    let others = Holds-right s clock (keyboard ++ output) devices in
    record {
      root = Holds-left s (root_part l) blocks h;
      blocks = Holds-left s (blocks_words l.blocks) tasks in_blocks;
      table = Holds-left s (table_part l) (chain_part l) own_tasks;
      chain = Holds-right s (table_part l) (chain_part l) own_tasks;
      modules = Holds-left s (modules_words l.modules) last in_modules;
      clock = Holds-left s clock (keyboard ++ output) devices;
      keyboard = Holds-left s keyboard output others;
      output = Holds-right s keyboard output others;
      residents = Holds-right s (device_words l) (resident_words l) in_last;
    }

pub owners-parts : (a : ℕ) (l : Lists) → owners a (owned l)
    ≡ owners a (root_part l) + (owners a (blocks_words l.blocks) + (owners a (table_part l) + (owners a (chain_part l) + (owners a (modules_words l.modules)
    + (owners a (queue_words clock_head l.clock) + (owners a (queue_words keyboard_head l.keyboard) + (owners a (queue_words output_head l.output) + owners a (resident_words l))))))))
unfolding owned
owners-parts a l =
    let clock : Pairs = queue_words clock_head l.clock in
    let keyboard : Pairs = queue_words keyboard_head l.keyboard in
    let output : Pairs = queue_words output_head l.output in
    let last : Pairs = device_words l ++ resident_words l in
    let modules : Pairs = modules_words l.modules ++ last in
    let tasks : Pairs = tasks_words l ++ modules in
    omega (
      arith,
      owners-append a (root_part l) (blocks_words l.blocks ++ tasks),
      owners-append a (blocks_words l.blocks) tasks,
      owners-append a (tasks_words l) modules,
      owners-append a (table_part l) (chain_part l),
      owners-append a (modules_words l.modules) last,
      owners-append a (device_words l) (resident_words l),
      owners-append a clock (keyboard ++ output),
      owners-append a keyboard output,
    )

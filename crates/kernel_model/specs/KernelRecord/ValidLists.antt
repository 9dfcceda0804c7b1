-- What holds of the kernel's lists at every moment, also inside a step. These are its invariants; comments cite them by these
-- numbers.
--
-- Blocks, the machine's numbers, modules (ValidBlocks):
--  1. The blocks follow one another from word 200 up to the end word, each of an even number of words, 2 or more.
--  2. The version is 1 or 2, and the size of the store and the period are those that a session may name.
--  3. Where there are residents the first block is theirs, of 88 words, or of 116 where a task reports faults.
--  4. Each module begins the data of a used block of the size that its words need.
--
-- Tasks and coroutines (ValidTasks):
--  5. No two tasks have the same number.
--  6. Priorities fall along the chain, so no two tasks have the same priority.
--  7. The tasks 1, 3 and 4 are there exactly where there are residents, and task 2 only where they are.
--  8. A task's priority is from 1 to 10,000, its maker's number from 0 to the highest, its saved C a byte, and its field that of a
--     task that runs, waits, was interrupted or is dead.
--  9. A guest's number is at most the highest, and its task block begins the data of a used block with room for its 1,001 globals
--     and its stack.
-- 10. A guest has from one module to the most that the version allows, and each is one of the list of modules.
-- 11. A guest's fault word says that it met none, or a fault other than 6, or one that was reported; it met none where no task
--     reports faults.
-- 12. A resident has the address and the priority of its number, no modules, stack, fault, saved registers and coroutines, and is
--     neither dead nor held.
-- 13. Each coroutine begins the data of a used block with room for its words up to its highest index, which is 16 or more.
-- 14. The active coroutines of a task are distinct, and are the task's.
--
-- Queues (ValidQueues):
-- 15. The five words of each queued packet are data of one used block.
-- 16. What is queued at a device is from a guest that is there, and what is queued for a resident, or waits for a line, from a task
--     that is there; but for the key packet.
-- 17. The key packet is at the keyboard, from the console, or at the console, from the keyboard, with type and second result 0.
-- 18. The fault packet is on the queue of task 2, with type 40 and results 0.
-- 19. Due ticks never fall along the clock's queue.
-- 20. No read waits for a line where there are no residents.
-- 21. The key packet's first result is kept exactly where there are residents and that packet is on no queue.
-- 22. The fault packet is free exactly where task 2 is there and that packet is on no queue.
-- 23. The running task is none, or one of the chain.
--
-- Owned words (Owned):
-- 24. No word is owned twice.
-- 25. Each word that is owned is one of the store.
use Rattle.std.specs.List.{AllByRecursion}
use Rattle.kernel_model.specs.KernelRecord.Lists.{Lists}
use Rattle.kernel_model.specs.KernelRecord.Owned.{OwnsApart}
use Rattle.kernel_model.specs.KernelRecord.ValidBlocks.{BlocksTile, AreValidNumbers, AreValidModules}
use Rattle.kernel_model.specs.KernelRecord.ValidQueues.{AreValidQueues}
use Rattle.kernel_model.specs.KernelRecord.ValidTasks.{AreValidCoroutines, AreValidTasks}

-- the lists satisfy all of these invariants
pub record AreValid (l : Lists) : Type 0 where
  -- invariant 1
  pub blocks : BlocksTile l
  -- invariants 2 and 3
  pub numbers : AreValidNumbers l
  -- invariant 4
  pub modules : AreValidModules l
  -- invariants 5 to 12
  pub tasks : AreValidTasks l
  -- invariants 13 and 14
  pub coroutines : AllByRecursion (AreValidCoroutines l) l.tasks
  -- invariants 15 to 23
  pub queues : AreValidQueues l
  -- invariants 24 and 25
  pub owns : OwnsApart l

-- The blocks change, and the lists stay valid.
use Rattle.std.proofs.Common.{◌≡◌, ℕ, ◌-◌, List, ◌++◌, true, refl}
use Rattle.std.specs.List.{AllByRecursion}
use Rattle.word_store.proofs.Elements.{all-back, all-front}
use Rattle.kernel_lists.specs.declared.getvec_chain.pieces.Block.{Block}
use Rattle.kernel_lists.specs.GetvecChain.Tiling.{Follow}
use Rattle.kernel_lists.specs.PacketQueue.QueueWords.{QueuedPacket}
use Rattle.kernel_model.specs.KernelRecord.Changes.{with_blocks}
use Rattle.kernel_model.specs.KernelRecord.Lists.{Lists, queued}
use Rattle.kernel_model.specs.KernelRecord.Owned.{OwnsApart}
use Rattle.kernel_model.specs.KernelRecord.Task.{Task, is_guest_id}
use Rattle.kernel_model.specs.KernelRecord.ValidBlocks.{AreData, HasBlock, last_module_word, last_resident_word}
use Rattle.kernel_model.specs.KernelRecord.ValidLists.{AreValid}
use Rattle.kernel_model.specs.KernelRecord.ValidQueues.{IsValidPacket, Place}
use Rattle.kernel_model.specs.KernelRecord.ValidQueues.Place.{Clock, Keyboard, Output, Pending, Work}
use Rattle.kernel_model.specs.KernelRecord.ValidTasks.{AreValidCoroutines, IsCoroutine, IsTask}
use Rattle.kernel_model.proofs.KernelRecord.AllThings.{all-from_both, all-pieces}
use Rattle.kernel_model.proofs.KernelRecord.QueuedPackets.{work_packets}
use Rattle.kernel_model.proofs.KernelRecord.RulesKept.{AreValidCoroutines-kept, AreValidTasks-same, IsTask-kept, IsValidPacket-more}

-- a block of any size that begins there is still one
abbrev pub KeepsBlock : List Block → List Block → ℕ → Type 0
KeepsBlock bs cs v = (u : ℕ) → HasBlock bs v u → HasBlock cs v u

-- a packet whose words are data of one used block is still such a one
abbrev pub KeepsData : List Block → List Block → QueuedPacket → Type 0
KeepsData bs cs p = AreData bs p.address 5 → AreData cs p.address 5

-- What other blocks have to meet: they follow one another, and the residents, each module, each guest, each coroutine and each
-- queued packet has its block.
pub record FitBlocks (l : Lists) (bs : List Block) : Type 0 where
  pub follow : Follow 200 bs (l.size - 2)
  pub residents : l.residents ≡ true → HasBlock bs 201 (last_resident_word l)
  pub modules : AllByRecursion (λ m. HasBlock bs m.address (last_module_word m)) l.modules
  pub guests : AllByRecursion (λ t. is_guest_id t.id ≡ true → KeepsBlock l.blocks bs t.address) l.tasks
  pub coroutines : AllByRecursion (λ t. AllByRecursion (λ c. KeepsBlock l.blocks bs c.address) t.coroutines.list) l.tasks
  pub packets : AllByRecursion (KeepsData l.blocks bs) (queued l)
  pub owns : OwnsApart (with_blocks bs l)

pub blocks-valid : (l : Lists) (bs : List Block) → AreValid l → FitBlocks l bs → AreValid (with_blocks bs l)
blocks-valid l bs v f =
    record {
      blocks = f.follow;
      numbers = record { version = v.numbers.version; size = v.numbers.size; period = v.numbers.period; residents = f.residents };
      modules = f.modules;
      tasks =
          AreValidTasks-same l m refl refl
          (all-from_both (IsTask l) (λ t. is_guest_id t.id ≡ true → KeepsBlock l.blocks bs t.address) (IsTask m) (λ t h keeps. IsTask-kept l m t refl refl (λ all. all) keeps h) l.tasks v.tasks.each f.guests)
          v.tasks;
      coroutines =
          all-from_both (AreValidCoroutines l) (λ t. AllByRecursion (λ c. KeepsBlock l.blocks bs c.address) t.coroutines.list) (AreValidCoroutines m)
          (λ t h keeps. AreValidCoroutines-kept l m t (λ all. coroutine t all keeps) h) l.tasks v.coroutines f.coroutines;
      queues =
          record {
            tasks =
                all-from_both (λ t. AllByRecursion (IsValidPacket l (Work t.id)) t.queue) (λ t. AllByRecursion (KeepsData l.blocks bs) t.queue) (λ t. AllByRecursion (IsValidPacket m (Work t.id)) t.queue)
                (λ t all keeps. stay (Work t.id) t.queue all keeps) l.tasks v.queues.tasks (all-pieces (KeepsData l.blocks bs) (λ t. t.queue) l.tasks (all-front (KeepsData l.blocks bs) (work_packets l.tasks) devices f.packets));
            clock = stay Clock l.clock v.queues.clock (all-front (KeepsData l.blocks bs) l.clock (l.keyboard ++ (l.output ++ l.pending)) on_devices);
            keyboard = stay Keyboard l.keyboard v.queues.keyboard (all-front (KeepsData l.blocks bs) l.keyboard (l.output ++ l.pending) on_last);
            output = stay Output l.output v.queues.output (all-front (KeepsData l.blocks bs) l.output l.pending (all-back (KeepsData l.blocks bs) l.keyboard (l.output ++ l.pending) on_last));
            pending = stay Pending l.pending v.queues.pending (all-back (KeepsData l.blocks bs) l.output l.pending (all-back (KeepsData l.blocks bs) l.keyboard (l.output ++ l.pending) on_last));
            due = v.queues.due;
            no_console = v.queues.no_console;
            key = v.queues.key;
            fault = v.queues.fault;
            running = v.queues.running;
          };
      owns = f.owns;
    }
  where
    m : Lists
    m = with_blocks bs l

    devices : List QueuedPacket
    devices = l.clock ++ (l.keyboard ++ (l.output ++ l.pending))

    on_devices : AllByRecursion (KeepsData l.blocks bs) devices
    on_devices = all-back (KeepsData l.blocks bs) (work_packets l.tasks) devices f.packets

    on_last : AllByRecursion (KeepsData l.blocks bs) (l.keyboard ++ (l.output ++ l.pending))
    on_last = all-back (KeepsData l.blocks bs) l.clock (l.keyboard ++ (l.output ++ l.pending)) on_devices

    coroutine : (t : Task) → AllByRecursion (IsCoroutine l) t.coroutines.list → AllByRecursion (λ c. KeepsBlock l.blocks bs c.address) t.coroutines.list → AllByRecursion (IsCoroutine m) t.coroutines.list
    coroutine t all keeps =
        all-from_both (IsCoroutine l) (λ c. KeepsBlock l.blocks bs c.address) (IsCoroutine m) (λ c h keep. record { block = keep c.highest h.block; high = h.high }) t.coroutines.list all keeps

    stay : (at : Place) (ps : List QueuedPacket) → AllByRecursion (IsValidPacket l at) ps → AllByRecursion (KeepsData l.blocks bs) ps → AllByRecursion (IsValidPacket m at) ps
    stay at ps all keeps = all-from_both (IsValidPacket l at) (KeepsData l.blocks bs) (IsValidPacket m at) (λ p h keep. IsValidPacket-more l m at p refl refl keep (λ i some. some) h) ps all keeps

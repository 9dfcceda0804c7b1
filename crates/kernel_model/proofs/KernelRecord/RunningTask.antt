-- Another task runs, or nobody, and the lists stay valid.
use Rattle.std.proofs.Common.{◌≡◌, ℕ, ◌⊎◌, List, true, refl, arith}
use Rattle.std.specs.List.{AllByRecursion}
use Rattle.kernel_lists.specs.OwnedWords.Owned.{owners}
use Rattle.kernel_lists.specs.PacketQueue.QueueWords.{QueuedPacket}
use Rattle.kernel_model.specs.KernelRecord.Lists.{Lists, has_task}
use Rattle.kernel_model.specs.KernelRecord.Owned.{owned}
use Rattle.kernel_model.specs.KernelRecord.ValidLists.{AreValid}
use Rattle.kernel_model.specs.KernelRecord.ValidQueues.{IsValidPacket, Place}
use Rattle.kernel_model.specs.KernelRecord.ValidQueues.Place.{Clock, Keyboard, Output, Pending, Work}
use Rattle.kernel_model.specs.KernelRecord.ValidTasks.{AreValidCoroutines, IsTask}
use Rattle.kernel_model.proofs.KernelRecord.EachMember.{all-each}
use Rattle.kernel_model.proofs.KernelRecord.OneTaskExchange.{running-exchange}
use Rattle.kernel_model.proofs.KernelRecord.OwnerCounts.{owns-without}
use Rattle.kernel_model.proofs.KernelRecord.RulesKept.{AreValidCoroutines-same, AreValidTasks-same, IsTask-kept, IsValidPacket-more}

abbrev pub with_running : ℕ → Lists → Lists
with_running id l = record l { running = id }

pub owners-running : (l : Lists) (id a : ℕ) → owners a (owned (with_running id l)) ≡ owners a (owned l)
owners-running l id a = (let x = running-exchange l id in omega (arith, x.first.count a, x.then'.count a))

pub running-valid : (l : Lists) (id : ℕ) → AreValid l → (id ≡ 0) ⊎ (has_task id l.tasks ≡ true) → AreValid (with_running id l)
running-valid l id v some =
    record {
      blocks = v.blocks;
      numbers = record { version = v.numbers.version; size = v.numbers.size; period = v.numbers.period; residents = v.numbers.residents };
      modules = v.modules;
      tasks = AreValidTasks-same l m refl refl (all-each (IsTask l) (IsTask m) (λ t h. IsTask-kept l m t refl refl (λ h. h) (λ _ u h. h) h) l.tasks v.tasks.each) v.tasks;
      coroutines = all-each (AreValidCoroutines l) (AreValidCoroutines m) (λ t h. AreValidCoroutines-same l m t refl h) l.tasks v.coroutines;
      queues =
          record {
            tasks =
                all-each (λ t. AllByRecursion (IsValidPacket l (Work t.id)) t.queue) (λ t. AllByRecursion (IsValidPacket m (Work t.id)) t.queue)
                (λ t all. stay (Work t.id) t.queue all) l.tasks v.queues.tasks;
            clock = stay Clock l.clock v.queues.clock;
            keyboard = stay Keyboard l.keyboard v.queues.keyboard;
            output = stay Output l.output v.queues.output;
            pending = stay Pending l.pending v.queues.pending;
            due = v.queues.due;
            no_console = v.queues.no_console;
            key = v.queues.key;
            fault = v.queues.fault;
            running = some;
          };
      owns = owns-without l m (λ _. 0) refl (λ a. omega (arith, owners-running l id a)) v.owns;
    }
  where
    m : Lists
    m = with_running id l

    stay : (at : Place) (ps : List QueuedPacket) → AllByRecursion (IsValidPacket l at) ps → AllByRecursion (IsValidPacket m at) ps
    stay at ps all = all-each (IsValidPacket l at) (IsValidPacket m at) (λ p h. IsValidPacket-more l m at p refl refl (λ d. d) (λ i some. some) h) ps all

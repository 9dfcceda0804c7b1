-- The ticks are another number.
use Rattle.std.proofs.Common.{◌≡◌, ℕ, ◌-◌, List, [], ◌∷◌, ◌++◌, set, refl, sym, arith}
use Rattle.std.specs.List.{AllByRecursion}
use Rattle.kernel_lists.specs.OwnedWords.Exchange.{Exchange}
use Rattle.kernel_lists.specs.OwnedWords.Owned.{Pairs, owners, row_from}
use Rattle.kernel_lists.proofs.OwnedWords.Exchanges.{exchange-left}
use Rattle.kernel_lists.specs.GetvecChain.BlockWords.{blocks_words}
use Rattle.kernel_lists.specs.HunkLoader.ModuleExchanges.{modules_words}
use Rattle.kernel_lists.specs.PacketQueue.QueueWords.{QueuedPacket}
use Rattle.kernel_model.specs.KernelRecord.ChangedStore.{IsChanged}
use Rattle.kernel_model.specs.KernelRecord.HoldsLists.{HoldsLists}
use Rattle.kernel_model.specs.KernelRecord.Lists.{Lists, address_of_task}
use Rattle.kernel_model.specs.KernelRecord.Owned.{device_words, owned, tasks_words}
use Rattle.kernel_model.specs.KernelRecord.Residents.{resident_words}
use Rattle.kernel_model.specs.KernelRecord.Root.{resident_data, root_words, unused_entries}
use Rattle.kernel_model.specs.KernelRecord.Task.{filled}
use Rattle.kernel_model.specs.KernelRecord.ValidLists.{AreValid}
use Rattle.kernel_model.specs.KernelRecord.ValidQueues.{IsValidPacket, Place}
use Rattle.kernel_model.specs.KernelRecord.ValidQueues.Place.{Clock, Keyboard, Output, Pending, Work}
use Rattle.kernel_model.specs.KernelRecord.ValidTasks.{AreValidCoroutines, IsTask}
use Rattle.kernel_model.specs.KernelRecord.Versions.{highest_id_of}
use Rattle.kernel_model.proofs.KernelRecord.ChangedLists.{exchange-owned, owners-exchanged}
use Rattle.kernel_model.proofs.KernelRecord.EachMember.{all-each}
use Rattle.kernel_model.proofs.KernelRecord.OwnerCounts.{owns-without}
use Rattle.kernel_model.proofs.KernelRecord.RulesKept.{AreValidCoroutines-same, AreValidTasks-same, IsTask-kept, IsValidPacket-more}
use Rattle.kernel_devices.specs.Tick.{with_tick}

-- the words of the root behind that of the ticks
abbrev behind : Lists → Pairs
behind l =
    row_from 108 1 (l.size ∷ l.period ∷ l.version ∷ resident_data l.residents ∷ filled 7 [])
    ++ ((120, highest_id_of l.version) ∷ (unused_entries l.version ++ (l.size - 2, 0) ∷ []))

tick-exchange : (l : Lists) (now : ℕ) → Exchange (owned l) (owned (with_tick now l)) ((108, l.tick) ∷ []) ((108, now) ∷ [])
unfolding owned
tick-exchange l now =
    exchange-left (root_words l (address_of_task l l.running)) (root_words (with_tick now l) (address_of_task l l.running))
    (blocks_words l.blocks ++ (tasks_words l ++ (modules_words l.modules ++ (device_words l ++ resident_words l)))) _ _
    (record {
      rest = (100, 120) ∷ (102, address_of_task l l.running) ∷ (103, 200) ∷ behind l;
      first = record { count = λ a. omega arith; opens = λ s h. ((h.0, (h.1.0, (h.1.1.0, h.1.1.1.1))), (h.1.1.1.0, tt)); closes = λ s h k. (h.0, (h.1.0, (h.1.1.0, (k.0, h.1.1.1)))) };
      then' = record { count = λ a. omega arith; opens = λ s h. ((h.0, (h.1.0, (h.1.1.0, h.1.1.1.1))), (h.1.1.1.0, tt)); closes = λ s h k. (h.0, (h.1.0, (h.1.1.0, (k.0, h.1.1.1)))) };
    })

pub tick-owned : (l : Lists) (now a : ℕ) → owners a (owned (with_tick now l)) ≡ owners a (owned l)
tick-owned l now a = sym (owners-exchanged (owned l) (owned (with_tick now l)) _ _ a (tick-exchange l now) refl)

pub tick-valid : (l : Lists) (now : ℕ) → AreValid l → AreValid (with_tick now l)
tick-valid l now v =
    record {
      blocks = v.blocks;
      numbers = record { version = v.numbers.version; size = v.numbers.size; period = v.numbers.period; residents = v.numbers.residents };
      modules = v.modules;
      tasks = AreValidTasks-same l m refl refl (all-each (IsTask l) (IsTask m) (λ t h. IsTask-kept l m t refl refl (λ h. h) (λ _ u h. h) h) l.tasks v.tasks.each) v.tasks;
      coroutines = all-each (AreValidCoroutines l) (AreValidCoroutines m) (λ t h. AreValidCoroutines-same l m t refl h) l.tasks v.coroutines;
      queues =
          record {
            tasks =
                all-each (λ t. AllByRecursion (IsValidPacket l (Work t.id)) t.queue) (λ t. AllByRecursion (IsValidPacket m (Work t.id)) t.queue)
                (λ t all. stay (Work t.id) t.queue all) l.tasks v.queues.tasks;
            clock = stay Clock l.clock v.queues.clock;
            keyboard = stay Keyboard l.keyboard v.queues.keyboard;
            output = stay Output l.output v.queues.output;
            pending = stay Pending l.pending v.queues.pending;
            due = v.queues.due;
            no_console = v.queues.no_console;
            key = v.queues.key;
            fault = v.queues.fault;
            running = v.queues.running;
          };
      owns = owns-without l m (λ _. 0) refl (λ a. omega (arith, tick-owned l now a)) v.owns;
    }
  where
    m : Lists
    m = with_tick now l

    stay : (at : Place) (ps : List QueuedPacket) → AllByRecursion (IsValidPacket l at) ps → AllByRecursion (IsValidPacket m at) ps
    stay at ps all = all-each (IsValidPacket l at) (IsValidPacket m at) (λ p h. IsValidPacket-more l m at p refl refl (λ d. d) (λ i some. some) h) ps all

pub tick-changed : (s t : List ℕ) (l : Lists) (now : ℕ) → HoldsLists s l → t ≡ set s 108 now → IsChanged s t (with_tick now l) []
tick-changed s t l now h is = exchange-owned s t l (with_tick now l) _ _ h (tick-valid l now h.valid) refl (tick-exchange l now) is

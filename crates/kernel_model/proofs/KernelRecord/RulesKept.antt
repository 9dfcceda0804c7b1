-- The rules of one task, of its coroutines and of one packet, from some lists to others that have what they ask.
use Rattle.std.proofs.Common.{◌≡◌, ℕ, ◌+◌, ◌≤◌, List, [], map, length, true, false, sym, ap, ◌∙◌, subst}
use Rattle.std.specs.List.{AllByRecursion}
use Rattle.word_store.specs.Count.{IsApart}
use Rattle.kernel_lists.specs.LinkedList.Places.{has}
use Rattle.kernel_lists.specs.HunkLoader.HeldModules.{module_address}
use Rattle.kernel_lists.specs.PacketQueue.QueueWords.{QueuedPacket}
use Rattle.kernel_lists.specs.Coroutines.CoroutineExchanges.{TaskCoroutines, with_list}
use Rattle.kernel_lists.specs.Coroutines.HeldCoroutines.{Coroutine}
use Rattle.kernel_model.specs.KernelRecord.Changes.{with_coroutines}
use Rattle.kernel_model.specs.KernelRecord.Lists.{Lists, has_task}
use Rattle.kernel_model.specs.KernelRecord.Task.{Task, is_guest_id, task_id}
use Rattle.kernel_model.specs.KernelRecord.ValidBlocks.{AreData, HasBlock}
use Rattle.kernel_model.specs.KernelRecord.ValidQueues.{HasSender, IsValidPacket, Place, is_fault_packet, is_key_packet}
use Rattle.kernel_model.specs.KernelRecord.ValidQueues.Place.{Pending, Work}
use Rattle.kernel_model.specs.KernelRecord.ValidTasks.{AreValidCoroutines, AreValidTasks, IsCoroutine, IsGuest, IsTask, PrioritiesFall}
use Rattle.kernel_model.specs.KernelRecord.Versions.{head_words_of, highest_id_of, most_modules_of}
use Rattle.kernel_model.proofs.KernelRecord.EachMember.{all-each}

-- a module is there
abbrev pub HasModule : Lists → ℕ → Type 0
HasModule l m = has m (map module_address l.modules) ≡ true

pub IsGuest-kept : (l m : Lists) (t : Task) → m.version ≡ l.version → has_task 2 m.tasks ≡ has_task 2 l.tasks
    → (AllByRecursion (HasModule l) t.modules → AllByRecursion (HasModule m) t.modules)
    → ((u : ℕ) → HasBlock l.blocks t.address u → HasBlock m.blocks t.address u)
    → IsGuest l t → IsGuest m t
IsGuest-kept l m t version reporter modules blocks g =
    record {
      high = subst (λ v. t.id ≤ highest_id_of v) (sym version) g.high;
      block =
          subst (λ v. HasBlock m.blocks t.address (head_words_of v + 1001 + t.highest)) (sym version)
          (blocks (head_words_of l.version + 1001 + t.highest) g.block);
      some_module = g.some_module;
      most = subst (λ v. length t.modules ≤ most_modules_of v) (sym version) g.most;
      modules = modules g.modules;
      fault = g.fault;
      unreported = λ none. g.unreported (sym reporter ∙ none);
    }

pub IsTask-kept : (l m : Lists) (t : Task) → m.version ≡ l.version → has_task 2 m.tasks ≡ has_task 2 l.tasks
    → (AllByRecursion (HasModule l) t.modules → AllByRecursion (HasModule m) t.modules)
    → (is_guest_id t.id ≡ true → (u : ℕ) → HasBlock l.blocks t.address u → HasBlock m.blocks t.address u)
    → IsTask l t → IsTask m t
IsTask-kept l m t version reporter modules blocks h =
    record {
      low = h.low;
      high = h.high;
      maker = subst (λ v. t.maker ≤ highest_id_of v) (sym version) h.maker;
      field = h.field;
      byte = h.byte;
      guest = λ is. IsGuest-kept l m t version reporter modules (blocks is) (h.guest is);
      resident = h.resident;
    }

-- the rules of a task do not ask for its queue, and of its coroutines only that a resident has none
IsTask-with : (l : Lists) (t : Task) (ps : List QueuedPacket) (k : TaskCoroutines) → (is_guest_id t.id ≡ false → (k.list ≡ []) × (k.active ≡ [])) → IsTask l t → IsTask l (record t { queue = ps; coroutines = k })
IsTask-with l t ps k none h =
    record {
      low = h.low;
      high = h.high;
      maker = h.maker;
      field = h.field;
      byte = h.byte;
      guest = λ is.
          let g = h.guest is in
          record { high = g.high; block = g.block; some_module = g.some_module; most = g.most; modules = g.modules; fault = g.fault; unreported = g.unreported };
      resident = λ is.
          let r = h.resident is in
          record {
            place = r.place;
            modules = r.modules;
            stack = r.stack;
            fault = r.fault;
            fault_address = r.fault_address;
            saved = r.saved;
            coroutines = (none is).0;
            active = (none is).1;
            alive = r.alive;
            free = r.free;
          };
    }

pub IsTask-queue : (l : Lists) (t : Task) (ps : List QueuedPacket) → IsTask l t → IsTask l (record t { queue = ps })
IsTask-queue l t ps h = IsTask-with l t ps t.coroutines (λ is. ((h.resident is).coroutines, (h.resident is).active)) h

pub IsTask-coroutines : (l : Lists) (t : Task) (cs : List Coroutine) → IsTask l t → (is_guest_id t.id ≡ false → cs ≡ []) → IsTask l (with_coroutines cs t)
IsTask-coroutines l t cs h none = IsTask-with l t t.queue (with_list cs t.coroutines) (λ is. (none is, (h.resident is).active)) h

-- the same tasks
pub AreValidTasks-same : (l m : Lists) → m.tasks ≡ l.tasks → m.residents ≡ l.residents → AllByRecursion (IsTask m) l.tasks → AreValidTasks l → AreValidTasks m
AreValidTasks-same l m same residents each h =
    record {
      each = subst (AllByRecursion (IsTask m)) (sym same) each;
      distinct = subst (λ ts. IsApart (map task_id ts)) (sym same) h.distinct;
      order = subst PrioritiesFall (sym same) h.order;
      shell = ap (has_task 1) same ∙ h.shell ∙ sym residents;
      console = ap (has_task 3) same ∙ h.console ∙ sym residents;
      files = ap (has_task 4) same ∙ h.files ∙ sym residents;
      reporter = λ some. residents ∙ h.reporter (ap (has_task 2) (sym same) ∙ some);
    }

pub AreValidCoroutines-kept : (l m : Lists) (t : Task) → (AllByRecursion (IsCoroutine l) t.coroutines.list → AllByRecursion (IsCoroutine m) t.coroutines.list) → AreValidCoroutines l t → AreValidCoroutines m t
AreValidCoroutines-kept l m t each h = record { each = each h.each; members = h.members; distinct = h.distinct }

-- in the same blocks
pub AreValidCoroutines-same : (l m : Lists) (t : Task) → m.blocks ≡ l.blocks → AreValidCoroutines l t → AreValidCoroutines m t
AreValidCoroutines-same l m t same h =
    AreValidCoroutines-kept l m t
    (λ all. all-each (IsCoroutine l) (IsCoroutine m) (λ c i. record { block = subst (λ bs. HasBlock bs c.address c.highest) (sym same) i.block; high = i.high }) t.coroutines.list all) h

-- ---- packets

-- who sent it is still there
pub HasSender-kept : (l m : Lists) (at : Place) (s : ℕ) → (has_task s l.tasks ≡ true → has_task s m.tasks ≡ true) → HasSender l at s → HasSender m at s
HasSender-kept l m (Work id) s keeps h = λ resident. keeps (h resident)
HasSender-kept l m Pending s keeps h = keeps h
HasSender-kept l m _ s keeps h = (h.0, keeps h.1)

pub IsValidPacket-kept : (l m : Lists) (at : Place) (p : QueuedPacket) → m.residents ≡ l.residents → has_task 2 m.tasks ≡ has_task 2 l.tasks
    → (AreData l.blocks p.address 5 → AreData m.blocks p.address 5)
    → (HasSender l at p.sender → HasSender m at p.sender)
    → IsValidPacket l at p → IsValidPacket m at p
IsValidPacket-kept l m at p residents reporter lodged sender h =
    record {
      lodged = lodged h.lodged;
      key = λ is. h.key (sym key_same ∙ is);
      fault = λ is. h.fault (sym fault_same ∙ is);
      sender = λ none. sender (h.sender (sym key_same ∙ none));
    }
  where
    key_same : is_key_packet m p ≡ is_key_packet l p
    key_same = rw residents

    fault_same : is_fault_packet m p ≡ is_fault_packet l p
    fault_same = rw reporter

-- where the same packets are data, and all tasks are still there
pub IsValidPacket-more : (l m : Lists) (at : Place) (p : QueuedPacket) → m.residents ≡ l.residents → has_task 2 m.tasks ≡ has_task 2 l.tasks
    → (AreData l.blocks p.address 5 → AreData m.blocks p.address 5)
    → ((i : ℕ) → has_task i l.tasks ≡ true → has_task i m.tasks ≡ true)
    → IsValidPacket l at p → IsValidPacket m at p
IsValidPacket-more l m at p residents reporter lodged keeps h =
    IsValidPacket-kept l m at p residents reporter lodged (HasSender-kept l m at p.sender (keeps p.sender)) h

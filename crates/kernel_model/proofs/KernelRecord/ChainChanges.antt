-- The chain of tasks changes, and the lists stay valid.
use Rattle.std.proofs.Common.{◌≡◌, ℕ, ◌⊎◌, List, map, cond, not, ◌&&◌, Bool, true, false, Option, refl, sym, ap, ◌∙◌, subst}
use Rattle.std.specs.Prelude.{is_some}
use Rattle.std.specs.List.{AllByRecursion}
use Rattle.word_store.specs.Count.{IsApart}
use Rattle.kernel_model.specs.KernelRecord.Changes.{with_tasks}
use Rattle.kernel_model.specs.KernelRecord.Lists.{Lists, has_task, is_queued}
use Rattle.kernel_model.specs.KernelRecord.Owned.{OwnsApart}
use Rattle.kernel_model.specs.KernelRecord.Residents.{fault_packet, key_packet}
use Rattle.kernel_model.specs.KernelRecord.Task.{Task, is_guest_id, task_id}
use Rattle.kernel_model.specs.KernelRecord.ValidBlocks.{HasBlock}
use Rattle.kernel_model.specs.KernelRecord.ValidLists.{AreValid}
use Rattle.kernel_model.specs.KernelRecord.ValidQueues.{IsValidPacket}
use Rattle.kernel_model.specs.KernelRecord.ValidQueues.Place.{Clock, Keyboard, Output, Pending, Work}
use Rattle.kernel_model.specs.KernelRecord.ValidTasks.{AreValidCoroutines, IsTask, PrioritiesFall}
use Rattle.kernel_model.proofs.KernelRecord.RulesKept.{AreValidCoroutines-same, IsTask-kept}
use Rattle.kernel_model.proofs.KernelRecord.EachMember.{all-each}

-- the lists with another chain and another state of the residents' two packets
abbrev pub with_chain : List Task → Option ℕ → Bool → Lists → Lists
with_chain ts x f l = record l { tasks = ts; key = x; fault_packet_free = f }

-- What a chain in place of another has to meet: the residents of before are there, its tasks and their coroutines are in order,
-- the packets may be where they are queued, the residents' two packets are free where they are on no queue, and the running
-- task is there.
pub record FitsChain (l : Lists) (ts : List Task) (x : Option ℕ) (f : Bool) : Type 0 where
  pub residents : (i : ℕ) → is_guest_id i ≡ false → has_task i ts ≡ has_task i l.tasks
  pub each : AllByRecursion (IsTask l) ts
  pub distinct : IsApart (map task_id ts)
  pub order : PrioritiesFall ts
  pub coroutines : AllByRecursion (AreValidCoroutines l) ts
  pub work : AllByRecursion (λ t. AllByRecursion (IsValidPacket (with_chain ts x f l) (Work t.id)) t.queue) ts
  pub clock : AllByRecursion (IsValidPacket (with_chain ts x f l) Clock) l.clock
  pub keyboard : AllByRecursion (IsValidPacket (with_chain ts x f l) Keyboard) l.keyboard
  pub output : AllByRecursion (IsValidPacket (with_chain ts x f l) Output) l.output
  pub pending : AllByRecursion (IsValidPacket (with_chain ts x f l) Pending) l.pending
  pub key : is_some x ≡ (l.residents && not (is_queued key_packet (with_tasks ts l)))
  pub fault : f ≡ (has_task 2 l.tasks && not (is_queued fault_packet (with_tasks ts l)))
  pub running : (l.running ≡ 0) ⊎ (has_task l.running ts ≡ true)
  pub owns : OwnsApart (with_chain ts x f l)

pub chain-valid : (l : Lists) (ts : List Task) (x : Option ℕ) (f : Bool) → AreValid l → FitsChain l ts x f → AreValid (with_chain ts x f l)
chain-valid l ts x f v fits =
    record {
      blocks = v.blocks;
      numbers =
          record {
            version = v.numbers.version;
            size = v.numbers.size;
            period = v.numbers.period;
            residents = λ is. subst (λ b. HasBlock l.blocks 201 (cond b 114 86)) (sym (fits.residents 2 refl)) (v.numbers.residents is);
          };
      modules = v.modules;
      tasks =
          record {
            each = all-each (IsTask l) (IsTask m) (λ t h. IsTask-kept l m t refl (fits.residents 2 refl) (λ h. h) (λ _ u h. h) h) ts fits.each;
            distinct = fits.distinct;
            order = fits.order;
            shell = fits.residents 1 refl ∙ v.tasks.shell;
            console = fits.residents 3 refl ∙ v.tasks.console;
            files = fits.residents 4 refl ∙ v.tasks.files;
            reporter = λ is. v.tasks.reporter (sym (fits.residents 2 refl) ∙ is);
          };
      coroutines = all-each (AreValidCoroutines l) (AreValidCoroutines m) (λ t h. AreValidCoroutines-same l m t refl h) ts fits.coroutines;
      queues =
          record {
            tasks = fits.work;
            clock = fits.clock;
            keyboard = fits.keyboard;
            output = fits.output;
            pending = fits.pending;
            due = v.queues.due;
            no_console = v.queues.no_console;
            key = fits.key;
            fault = fits.fault ∙ ap (λ b. b && not (is_queued fault_packet m)) (sym (fits.residents 2 refl));
            running = fits.running;
          };
      owns = fits.owns;
    }
  where
    m : Lists
    m = with_chain ts x f l

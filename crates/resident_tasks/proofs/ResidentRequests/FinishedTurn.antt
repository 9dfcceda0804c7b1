-- What a resident that ends its turn leaves.
use Rattle.std.proofs.Common.{◌≡◌, ◌≢◌, ℕ, ◌+◌, ◌≤◌, false, List, [], ◌∷◌, ◌++◌, map, cond, get_or, set, inl, inr, refl, sym, ap, ◌∙◌, subst, arith}
use Rattle.std.proofs.lemmas.Bool.{false≢true}
use Rattle.std.specs.List.{AllByRecursion}
use Rattle.word_store.specs.Count.{IsApart}
use Rattle.kernel_lists.specs.OwnedWords.Exchange.{Exchange}
use Rattle.kernel_lists.specs.OwnedWords.LinkedWords.{first_of}
use Rattle.kernel_lists.specs.OwnedWords.Owned.{owners}
use Rattle.kernel_lists.proofs.OwnedWords.Exchanges.{exchange-left, exchange-right, exchange-row}
use Rattle.kernel_lists.specs.PacketQueue.QueueWords.{queue_words}
use Rattle.kernel_lists.specs.Coroutines.CoroutineExchanges.{words_of_coroutines}
use Rattle.kernel_model.specs.KernelRecord.ChangedStore.{IsChanged}
use Rattle.kernel_model.specs.KernelRecord.Changes.{change_of, with_task, with_tasks}
use Rattle.kernel_model.specs.KernelRecord.HoldsLists.{HoldsLists}
use Rattle.kernel_model.specs.KernelRecord.Lists.{Lists, address_of_task}
use Rattle.kernel_model.specs.KernelRecord.Owned.{owned}
use Rattle.kernel_model.specs.KernelRecord.Task.{Task, fault_words, globals_of, is_guest_id, name_words, queue_bit, queue_head, stack_of, state_word, state_words, task_address, task_id, task_words}
use Rattle.kernel_model.specs.KernelRecord.ValidLists.{AreValid}
use Rattle.kernel_model.specs.KernelRecord.ValidQueues.Place.{Work}
use Rattle.kernel_model.specs.KernelRecord.ValidTasks.{AreValidCoroutines, IsResident, IsTask}
use Rattle.kernel_model.proofs.KernelRecord.AllThings.{all-here}
use Rattle.kernel_model.proofs.KernelRecord.ChainSplits.{change-between}
use Rattle.kernel_model.proofs.KernelRecord.ChangedLists.{changed-none, exchange-owned, one_task-owned, owners-exchanged}
use Rattle.kernel_model.proofs.KernelRecord.OneTask.{same_task-valid}
use Rattle.kernel_calls.specs.PacketCalls.TaskWait.{waiting}
use Rattle.kernel_calls.proofs.PacketCalls.CallerTask.{caller-low}
use Rattle.kernel_calls.proofs.PacketCalls.HeldPlaces.{HasFirst, first-there, held-at, no-packets}
use Rattle.resident_tasks.specs.ResidentRequests.Answers.{IsFinished, finished, finished_by}
use Rattle.resident_tasks.specs.ResidentRequests.Requests.{RunsResident, work}
use Rattle.resident_tasks.proofs.ResidentRequests.RunningResident.{resident-at, resident-first, resident-runs, resident-state}
use Rattle.kernel_calls.proofs.PacketCalls.WaitCall.{waits-more, waiting-exchange}

resident-waits : (l : Lists) (t : Task) → is_guest_id t.id ≡ false → IsTask l t → IsTask l (waiting t)
resident-waits l t resident h =
    record {
      low = h.low;
      high = h.high;
      maker = h.maker;
      field = inr (inl refl);
      byte = h.byte;
      guest = λ is. absurd (false≢true (sym resident ∙ is));
      resident = λ is.
          let r : IsResident t = h.resident is in
          record {
            place = r.place;
            modules = r.modules;
            stack = r.stack;
            fault = r.fault;
            fault_address = r.fault_address;
            saved = r.saved;
            coroutines = r.coroutines;
            active = r.active;
            alive = λ e. absurd (omega (arith, e));
            free = r.free;
          };
    }

module _ (s : List ℕ) (l : Lists) (h : HoldsLists s l) (r : RunsResident l) (t : ℕ) (at : t ≡ address_of_task l l.running) where
  abbrev task : Task
  task = (resident-at s l h r).task

  abbrev front : List Task
  front = (resident-at s l h r).front

  abbrev back : List Task
  back = (resident-at s l h r).back

  is : l.tasks ≡ front ++ task ∷ back
  is = (resident-at s l h r).is

  first-is : get_or s (t + 3) 0 ≡ get_or s (address_of_task l l.running + 3) 0
  first-is = ap (λ a. get_or s (a + 3) 0) at

  state-is : get_or s (t + 4) 0 ≡ state_word task
  state-is = ap (λ a. get_or s (a + 4) 0) at ∙ resident-state s l h r

  pub low-state : get_or s (t + 4) 0 ≤ 3
  low-state = subst (λ n. n ≤ 3) (sym state-is) (caller-low task (resident-runs s l h r))

  -- ---- it has packets

  pub goes-on : get_or s (t + 3) 0 ≢ 0 → IsFinished s s l
  goes-on some =
      let first : HasFirst (get_or s (t + 3) 0) (work l) = first-there _ (work l) (first-is ∙ resident-first s l h r) some in
      record {
        lists = subst (λ ps. IsChanged s s (finished_by ps l) []) (sym first.is) (changed-none s l h);
        same = λ a. subst (λ ps. owners a (owned (finished_by ps l)) ≡ owners a (owned l)) (sym first.is) refl;
      }

  -- ---- it has none

  module _ (none : get_or s (t + 3) 0 ≡ 0) where
    empty : work l ≡ []
    empty = no-packets (work l) (held-at s l (Work l.running) h r.there).some (sym (resident-first s l h r) ∙ (sym first-is ∙ none))

    abbrev after : Lists
    after = with_tasks (front ++ waiting task ∷ back) l

    task-valid : IsTask l task
    task-valid = all-here (IsTask l) front task back (subst (AllByRecursion (IsTask l)) is h.valid.tasks.each)

    coroutines-valid : AreValidCoroutines l task
    coroutines-valid = all-here (AreValidCoroutines l) front task back (subst (AllByRecursion (AreValidCoroutines l)) is h.valid.coroutines)

    no_guest : is_guest_id task.id ≡ false
    no_guest = ap is_guest_id (resident-at s l h r).number ∙ r.resident

    after-is : with_task l.running waiting l ≡ after
    after-is =
        ap (λ ts. with_tasks ts l)
        (ap (map (change_of l.running waiting)) is
        ∙ subst (λ i. map (change_of i waiting) (front ++ task ∷ back) ≡ front ++ waiting task ∷ back) (resident-at s l h r).number
        (change-between waiting front task back (subst (λ ts. IsApart (map task_id ts)) is h.valid.tasks.distinct)))

    exchange : Exchange (owned l) (owned after) ((task.address + 4, state_word task) ∷ []) ((task.address + 4, state_word (waiting task)) ∷ [])
    exchange = one_task-owned l front task (waiting task) back _ _ is refl refl (waiting-exchange l.version task (first_of task_address back 0))

    waiting-valid : AreValid after
    waiting-valid =
        same_task-valid l front back task (waiting task) h.valid is (record { id = refl; address = refl; priority = refl; queue = refl; coroutines = refl })
        (resident-waits l task no_guest task-valid) (record { each = coroutines-valid.each; members = coroutines-valid.members; distinct = coroutines-valid.distinct })

    waiting-words : set s (t + 4) (get_or s (t + 4) 0 + 4) ≡ set s (task.address + 4) (state_word (waiting task))
    waiting-words = λ i.
        set s ((at ∙ sym (resident-at s l h r).at) i + 4)
        ((ap (λ w. w + 4) state-is ∙ waits-more task.field (queue_bit task.queue) (cond task.held 2 0) (resident-runs s l h r)) i)

    finished-is : finished l ≡ after
    finished-is = ap (λ ps. finished_by ps l) empty ∙ after-is

    pub waits : (v : List ℕ) → v ≡ set s (t + 4) (get_or s (t + 4) 0 + 4) → IsFinished s v l
    waits v is_v =
        record {
          lists = subst (λ m. IsChanged s v m []) (sym finished-is) (exchange-owned s v l after _ _ h waiting-valid refl exchange (is_v ∙ waiting-words));
          same = λ a. ap (λ m. owners a (owned m)) finished-is ∙ sym (owners-exchanged (owned l) (owned after) _ _ a exchange refl);
        }

-- The coroutines of the running task, in its place in the chain.
use Rattle.std.proofs.Common.{◌≡◌, ℕ, List, [], ◌∷◌, ◌++◌, eqb, map, true, refl, sym, ap, ◌∙◌, subst, arith}
use Rattle.std.specs.Prelude.{find}
use Rattle.std.specs.List.{AllByRecursion}
use Rattle.std.specs.Option.{option_map_or}
use Rattle.std.proofs.lemmas.Bool.{false≢true}
use Rattle.word_store.specs.Count.{IsApart}
use Rattle.kernel_lists.specs.OwnedWords.Exchange.{Exchange}
use Rattle.kernel_lists.specs.OwnedWords.LinkedWords.{first_of}
use Rattle.kernel_lists.specs.OwnedWords.Owned.{Pairs, owners}
use Rattle.kernel_lists.proofs.OwnedWords.Exchanges.{exchange-right}
use Rattle.kernel_lists.specs.PacketQueue.QueueWords.{queue_words}
use Rattle.kernel_lists.specs.Coroutines.CoroutineExchanges.{HoldsCoroutines, Rewrites, TaskCoroutines, pairs_in, words_of_coroutines}
use Rattle.kernel_lists.specs.Coroutines.Coroutines.{HasCoroutines}
use Rattle.kernel_lists.specs.Coroutines.HeldCoroutines.{address_of}
use Rattle.kernel_lists.proofs.Coroutines.HeldCoroutineLists.{held-coroutines}
use Rattle.kernel_model.specs.KernelRecord.BlockUse.{coroutine_addresses}
use Rattle.kernel_model.specs.KernelRecord.ChangedStore.{IsChanged}
use Rattle.kernel_model.specs.KernelRecord.Changes.{change_of, with_tasks}
use Rattle.kernel_model.specs.KernelRecord.HoldsLists.{HoldsLists}
use Rattle.kernel_model.specs.KernelRecord.Lists.{Lists}
use Rattle.kernel_model.specs.KernelRecord.Owned.{owned}
use Rattle.kernel_model.specs.KernelRecord.Task.{Task, fault_words, is_guest_id, name_words, queue_head, state_words, task_address, task_id, task_words}
use Rattle.kernel_model.specs.KernelRecord.ValidLists.{AreValid}
use Rattle.kernel_model.specs.KernelRecord.ValidTasks.{AreValidCoroutines, IsTask}
use Rattle.kernel_model.proofs.KernelRecord.AllThings.{all-here}
use Rattle.kernel_model.proofs.KernelRecord.ChangedLists.{exchange-owned, one_task-owned, owners-exchanged}
use Rattle.kernel_model.proofs.KernelRecord.OneTask.{same_task-valid}
use Rattle.kernel_calls.specs.CallAnswers.Guests.{GuestAt}
use Rattle.kernel_calls.proofs.CallAnswers.FoundTask.{find-numbered, reads}
use Rattle.kernel_calls.proofs.CallAnswers.Refusals.{accepted-guest}
use Rattle.kernel_calls.specs.CallAnswers.Tasks.{no_coroutines}
use Rattle.kernel_calls.proofs.CallAnswers.GuestTask.{guest-changed}
use Rattle.kernel_calls.specs.CoroutineCalls.CallersCoroutines.{coroutines_of_caller, with_callers, with_changed}

-- what is at these addresses has the same owners
owners-pairs_in : (s : List ℕ) (new : Pairs) (a : ℕ) → owners a (pairs_in s new) ≡ owners a new
owners-pairs_in s [] a = refl
owners-pairs_in s (e ∷ es) a = omega (arith, owners-pairs_in s es a)

-- the words of a task with other coroutines
pub task-exchange : (version : ℕ) (t : Task) (k : TaskCoroutines) (n : ℕ) (old new : Pairs) → Exchange (words_of_coroutines t.address t.coroutines) (words_of_coroutines t.address k) old new
    → Exchange (task_words version t n) (task_words version (record t { coroutines = k }) n) old new
task-exchange version t k n old new x =
    exchange-right ((t.address, n) ∷ []) _ _ old new
    (exchange-right (name_words t) _ _ old new
    (exchange-right (state_words version t) _ _ old new (exchange-right (fault_words version t) _ _ old new (exchange-right (queue_words (queue_head t.address) t.queue) _ _ old new x))))

-- The store v came from s, which held the lists l, and holds the lists m; no word has come or gone.
pub record AreRewritten (s v : List ℕ) (l m : Lists) : Type 0 where
  pub lists : IsChanged s v m []
  pub same : (a : ℕ) → owners a (owned m) ≡ owners a (owned l)

module _ (s : List ℕ) (l : Lists) (address : ℕ) (h : HoldsLists s l) (g : GuestAt l l.running address) where
  distinct : IsApart (map task_id (g.front ++ g.task ∷ g.back))
  distinct = subst (λ ts. IsApart (map task_id ts)) g.is h.valid.tasks.distinct

  pub callers-found : coroutines_of_caller l ≡ g.task.coroutines
  callers-found =
      ap (λ ts. option_map_or (λ (t : Task). t.coroutines) (find (λ t. eqb t.id l.running) ts) no_coroutines) g.is
      ∙ ap (λ o. option_map_or (λ (t : Task). t.coroutines) o no_coroutines) (find-numbered l.running g.front g.task g.back g.number distinct)

  pub callers-between : (change : TaskCoroutines → TaskCoroutines) → map (change_of l.running (with_changed change)) l.tasks ≡ g.front ++ with_changed change g.task ∷ g.back
  callers-between change = guest-changed l l.running address (with_changed change) h.valid g

  pub callers-held : HoldsCoroutines s address g.task.coroutines
  callers-held =
      subst (λ a. HoldsCoroutines s a g.task.coroutines) g.at
      (all-here (λ t. HoldsCoroutines s t.address t.coroutines) g.front g.task g.back (subst (AllByRecursion (λ t. HoldsCoroutines s t.address t.coroutines)) g.is (reads s l h).coroutines))

  pub callers-stood : HasCoroutines s address
  callers-stood = (held-coroutines s address g.task.coroutines.active g.task.coroutines.list callers-held.coroutines).valid

  pub callers-valid : AreValidCoroutines l g.task
  callers-valid = all-here (AreValidCoroutines l) g.front g.task g.back (subst (AllByRecursion (AreValidCoroutines l)) g.is h.valid.coroutines)

  pub callers-guest : is_guest_id g.task.id ≡ true
  callers-guest = ap is_guest_id g.number ∙ accepted-guest l l.running address g

  -- with other coroutines it is a task too
  pub callers-task : (k : TaskCoroutines) → IsTask l (record g.task { coroutines = k })
  callers-task k =
      let t : IsTask l g.task = all-here (IsTask l) g.front g.task g.back (subst (AllByRecursion (IsTask l)) g.is h.valid.tasks.each) in
      record {
        low = t.low;
        high = t.high;
        maker = t.maker;
        field = t.field;
        byte = t.byte;
        guest = λ is.
            let q = t.guest is in
            record { high = q.high; block = q.block; some_module = q.some_module; most = q.most; modules = q.modules; fault = q.fault; unreported = q.unreported };
        resident = λ is. absurd (false≢true (sym is ∙ callers-guest));
      }

  -- the words of its coroutines are written over
  pub callers-rewritten : (v : List ℕ) (change : TaskCoroutines → TaskCoroutines) (new : Pairs)
      → map address_of (change g.task.coroutines).list ≡ coroutine_addresses g.task → AreValidCoroutines l (with_changed change g.task)
      → Rewrites s v (words_of_coroutines address g.task.coroutines) (words_of_coroutines address (change g.task.coroutines)) new
      → AreRewritten s v l (with_callers change l)
  callers-rewritten v change new same had w =
      let k : TaskCoroutines = change g.task.coroutines in
      let u : Task = with_changed change g.task in
      let m : Lists = with_tasks (g.front ++ u ∷ g.back) l in
      let valid : AreValid m =
      same_task-valid l g.front g.back g.task u h.valid g.is (record { id = refl; address = refl; priority = refl; queue = refl; coroutines = same }) (callers-task k) had
      in
      let inner : Exchange (words_of_coroutines g.task.address g.task.coroutines) (words_of_coroutines g.task.address k) (pairs_in s new) new =
      subst (λ a. Exchange (words_of_coroutines a g.task.coroutines) (words_of_coroutines a k) (pairs_in s new) new) (sym g.at) w.exchange
      in
      let x : Exchange (owned l) (owned m) (pairs_in s new) new =
      one_task-owned l g.front g.task u g.back (pairs_in s new) new g.is refl refl (task-exchange l.version g.task k (first_of task_address g.back 0) (pairs_in s new) new inner)
      in
      subst (λ ts. AreRewritten s v l (with_tasks ts l)) (sym (callers-between change))
      (record {
        lists = exchange-owned s v l m (pairs_in s new) new h valid refl x w.writes;
        same = λ a. sym (owners-exchanged (owned l) (owned m) (pairs_in s new) new a x (owners-pairs_in s new a));
      })

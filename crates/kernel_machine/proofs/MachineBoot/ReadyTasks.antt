-- The tasks of a machine that begins: none of them runs, and a dispatch takes no packet for one.
use Rattle.std.proofs.Common.{◌≡◌, ℕ, ◌≤◌, ◌&&◌, ◌||◌, List, [], ◌∷◌, ◌++◌, cond, eqb, leb, ltb, map, Bool, true, false, Option, Some, None, Result, Ok, Err, inl, refl, ap, ◌∙◌, subst, arith}
use Rattle.std.specs.Prelude.{IfSome, find, unwrap_or}
use Rattle.std.specs.List.{AllByRecursion, list_any}
use Rattle.std.proofs.lemmas.Bool.{eqb-true}
use Rattle.std.specs.Option.{option_map}
use Rattle.module_text.specs.ModuleOfText.{module_of}
use Rattle.module_text.specs.TextReader.Refusal.{Refusal}
use Rattle.module_text.specs.declared.modules.Module.{Module}
use Rattle.ram_disc.specs.Disc.{Disc, file_named}
use Rattle.session_text.specs.declared.sessions.SessionLine.{SessionLine}
use Rattle.session_text.specs.declared.sessions.LineForm.{LineForm}
use Rattle.session_text.specs.declared.sessions.LineForm.TheVariants.{Code, File, Task}
use Rattle.kernel_model.specs.KernelRecord.Between.{is_unreported}
use Rattle.kernel_model.specs.KernelRecord.Changes.{change_of, work_of}
use Rattle.kernel_model.specs.KernelRecord.Lists.{Lists, has_task}
use Rattle.kernel_model.specs.KernelRecord.Task.{Task as TaskRecord}
use Rattle.kernel_model.proofs.KernelRecord.AllThings.{all-inserted}
use Rattle.kernel_calls.specs.CallAnswers.CallChange.{CallChange, by_refusal}
use Rattle.kernel_calls.specs.CallAnswers.Refusals.{first_refusal}
use Rattle.kernel_calls.specs.ModuleCalls.LoadModule.{load_tests}
use Rattle.kernel_calls.specs.TaskCalls.CreateTask.{create_task, creation_tests, new_task, number_of, with_created}
use Rattle.guest_turns.specs.GuestTurn.{Numbers, numbers_of}
use Rattle.kernel_boot.specs.BegunTask.{begun, with_begun}
use Rattle.kernel_boot.specs.BootFiles.{at_line}
use Rattle.kernel_boot.specs.BootTasks.{AreBootLines, IsBootForm, begin_it, create_it, load_bytes, load_named, load_names, load_text, on_answer, start_form, start_tasks}
use Rattle.kernel_model.specs.KernelRecord.StoreWithLists.{StoreWithLists, left_with}
use Rattle.kernel_boot.proofs.StartedTasks.{number-is}
use Rattle.kernel_machine.specs.MachineBoot.Booted.{AreFresh, IsFresh}

abbrev pub FreshTasks : Bool → List TaskRecord → Type 0
FreshTasks free ts = AllByRecursion (IsFresh free) ts

module _ (free : Bool) where
  -- one task changes
  pub fresh-changed : (n : ℕ) (f : TaskRecord → TaskRecord) → ((t : TaskRecord) → IsFresh free t → IsFresh free (f t)) → (ts : List TaskRecord) → FreshTasks free ts → FreshTasks free (map (change_of n f) ts)
  fresh-changed n f each [] all = tt
  fresh-changed n f each (t ∷ ts) all = (on (eqb t.id n), fresh-changed n f each ts all.1)
    where
      on : (b : Bool) → IsFresh free (cond b (f t) t)
      on true = each t all.0
      on false = all.0

  -- one is found
  pub fresh-found : (f : TaskRecord → Bool) (ts : List TaskRecord) → FreshTasks free ts → IfSome (find f ts) (IsFresh free)
  fresh-found f [] all = tt
  fresh-found f (t ∷ ts) all = on (f t) (fresh-found f ts all.1)
    where
      on : (b : Bool) → IfSome (find f ts) (IsFresh free) → IfSome (cond b (Some t) (find f ts)) (IsFresh free)
      on true more = all.0
      on false more = more

  -- ---- faults

  -- none has met one
  pub none-unreported : (ts : List TaskRecord) → FreshTasks free ts → list_any is_unreported ts ≡ false
  none-unreported [] all = refl
  none-unreported (t ∷ ts) all =
      let fine : is_unreported t ≡ false = ap (λ f. leb 1 f && ltb f 256) all.0.fault in
      ap (λ b. b || list_any is_unreported ts) fine ∙ none-unreported ts all.1

  -- the reporter has no packets
  pub no-reports : (ts : List TaskRecord) → FreshTasks free ts → work_of 2 ts ≡ []
  no-reports [] all = refl
  no-reports (t ∷ ts) all = on (eqb t.id 2) refl (no-reports ts all.1)
    where
      on : (b : Bool) → eqb t.id 2 ≡ b → work_of 2 ts ≡ [] → cond b t.queue (work_of 2 ts) ≡ []
      on true e more = (all.0.reporter (eqb-true t.id 2 e)).0
      on false e more = more

  -- and where it is there the fault packet is on no queue
  pub free-there : (ts : List TaskRecord) → FreshTasks free ts → has_task 2 ts ≡ true → free ≡ true
  free-there [] all there = cc
  free-there (t ∷ ts) all there = on (eqb t.id 2) refl (free-there ts all.1) there
    where
      on : (b : Bool) → eqb t.id 2 ≡ b → (has_task 2 ts ≡ true → free ≡ true) → (b || has_task 2 ts) ≡ true → free ≡ true
      on true e more some = (all.0.reporter (eqb-true t.id 2 e)).1
      on false e more some = more some

-- the lists have these numbers and this size, and all their tasks are fresh
pub record IsReady (nums : Numbers) (words : ℕ) (l : Lists) : Type 0 where
  pub numbers : numbers_of l ≡ nums
  pub size : l.size ≡ words
  pub fresh : AreFresh l

module _ (nums : Numbers) (size : ℕ) where
  -- ---- modules

  refused-ready : (o : Option ℕ) (l : Lists) (m : CallChange) → IsReady nums size l → IsReady nums size m.lists → IsReady nums size (by_refusal o l m).lists
  refused-ready None l m before after = after
  refused-ready (Some code) l m before after = before

  text-ready : (l : Lists) (r : Result Module Refusal) → IsReady nums size l → IsReady nums size (load_text l r).lists
  text-ready l (Ok m) h = refused-ready (first_refusal (load_tests l m.hunks)) l _ h (record { numbers = h.numbers; size = h.size; fresh = record { tasks = h.fresh.tasks; key = h.fresh.key } })
  text-ready l (Err refusal) h = h

  bytes-ready : (l : Lists) (o : Option (List ℕ)) → IsReady nums size l → IsReady nums size (load_bytes l o).lists
  bytes-ready l None h = h
  bytes-ready l (Some bytes) h = text-ready l (module_of bytes) h

  named-ready : (d : Disc) (name : List ℕ) (l : Lists) → IsReady nums size l → IsReady nums size (load_named d name l).lists
  named-ready d name l h = bytes-ready l (option_map (λ f. f.bytes) (file_named d name)) h

  names-ready : (d : Disc) (names : List (List ℕ)) (modules : List ℕ) (k : StoreWithLists) (x : List ℕ × StoreWithLists) → load_names d names modules k ≡ Ok x → IsReady nums size k.lists → IsReady nums size x.1.lists
  names-ready d [] modules k x is h = (let same : (modules, k) ≡ x = cc in subst (λ (y : List ℕ × StoreWithLists). IsReady nums size y.1.lists) same h)
  names-ready d (name ∷ names) modules k x is h =
      on
      (λ m e. names-ready d names (modules ++ m ∷ []) (left_with k.words (load_named d name k.lists).lists (load_named d name k.lists).plain) x e (named-ready d name k.lists h))
      (load_named d name k.lists).answer is
    where
      on : ((m : ℕ) → load_names d names (modules ++ m ∷ []) (left_with k.words (load_named d name k.lists).lists (load_named d name k.lists).plain) ≡ Ok x → IsReady nums size x.1.lists)
          → (r : Result ℕ ℕ)
          → on_answer r (left_with k.words (load_named d name k.lists).lists (load_named d name k.lists).plain) (λ m j. load_names d names (modules ++ m ∷ []) j) ≡ Ok x
          → IsReady nums size x.1.lists
      on more (Ok m) e = more m e
      on more (Err code) e = cc

  -- ---- a task

  -- it is dead at first
  created-ready : (s : List ℕ) (l : Lists) (id : ℕ) (modules : List ℕ) (u pri maker : ℕ) → 5 ≤ id → IsReady nums size l → IsReady nums size (create_task s l id modules u pri maker).lists
  created-ready s l id modules u pri maker low h =
      let n : ℕ = unwrap_or (number_of l id) 0 in
      let t : TaskRecord = new_task l n modules u pri maker in
      let number : n ≡ id = number-is l id n low refl in
      let fresh : IsFresh l.fault_packet_free t = record { number = omega (arith, low, number); idle = λ dead. absurd (omega (arith, dead)); takes = inl refl; fault = refl; reporter = λ e. absurd (omega (arith, low, number, e)) } in
      refused-ready (first_refusal (creation_tests s l id modules u pri)) l (with_created s l t) h
      (record { numbers = h.numbers; size = h.size; fresh = record { tasks = all-inserted (IsFresh l.fault_packet_free) _ t l.tasks fresh h.fresh.tasks; key = h.fresh.key } })

  -- and then interrupted
  begun-ready : (words : List ℕ) (id : ℕ) (l : Lists) → IsReady nums size l → IsReady nums size (with_begun words id l)
  begun-ready words id l h = record {
    numbers = h.numbers;
    size = h.size;
    fresh = record {
      tasks =
          fresh-changed l.fault_packet_free id (begun l.version words)
          (λ t one. record { number = one.number; idle = λ interrupted. absurd (omega (arith, interrupted)); takes = one.takes; fault = one.fault; reporter = one.reporter }) l.tasks h.fresh.tasks;
      key = h.fresh.key;
    };
  }

  begin-ready : (r : Result ℕ ℕ) (k j : StoreWithLists) → on_answer r k begin_it ≡ Ok j → IsReady nums size k.lists → IsReady nums size j.lists
  begin-ready (Ok n) k j is h =
      let same : left_with k.words (with_begun k.words n k.lists) [] ≡ j = cc in
      subst (λ (y : StoreWithLists). IsReady nums size y.lists) same (begun-ready k.words n k.lists h)
  begin-ready (Err code) k j is h = cc

  create-ready : (id pri stack : ℕ) → 5 ≤ id → (r : Result (List ℕ × StoreWithLists) ℕ) (j : StoreWithLists) → create_it id pri stack r ≡ Ok j → ((x : List ℕ × StoreWithLists) → r ≡ Ok x → IsReady nums size x.1.lists) → IsReady nums size j.lists
  create-ready id pri stack low (Ok x) j is h =
      let made : CallChange = create_task x.1.words x.1.lists id x.0 stack pri 0 in
      begin-ready made.answer (left_with x.1.words made.lists made.plain) j is (created-ready x.1.words x.1.lists id x.0 stack pri 0 low (h x refl))
  create-ready id pri stack low (Err code) j is h = cc

  -- ---- the lines

  form-ready : (version : ℕ) (d : Disc) (form : LineForm) (k j : StoreWithLists) → IsBootForm version form → start_form d form k ≡ Ok j → IsReady nums size k.lists → IsReady nums size j.lists
  form-ready version d (File name bytes) k j may is h = (let same : k ≡ j = cc in subst (λ (y : StoreWithLists). IsReady nums size y.lists) same h)
  form-ready version d (Code bytes) k j may is h = (let same : k ≡ j = cc in subst (λ (y : StoreWithLists). IsReady nums size y.lists) same h)
  form-ready version d (Task id pri stack names) k j may is h = on (has_task id k.lists.tasks) is
    where
      on : (b : Bool) → cond b (Err 27) (create_it id pri stack (load_names d names [] k)) ≡ Ok j → IsReady nums size j.lists
      on true e = cc
      on false e = create-ready id pri stack may.low (load_names d names [] k) j e (λ x loaded. names-ready d names [] k x loaded h)

  pub tasks-ready : (version : ℕ) (d : Disc) (lines : List SessionLine) (k j : StoreWithLists) → AreBootLines version lines → start_tasks d lines k ≡ Ok j → IsReady nums size k.lists → IsReady nums size j.lists
  tasks-ready version d [] k j may is h = (let same : k ≡ j = cc in subst (λ (y : StoreWithLists). IsReady nums size y.lists) same h)
  tasks-ready version d (line ∷ lines) k j may is h = on (λ i e more. tasks-ready version d lines i j may.1 e more) (start_form d line.form k) refl is
    where
      on : ((i : StoreWithLists) → start_tasks d lines i ≡ Ok j → IsReady nums size i.lists → IsReady nums size j.lists) → (r : Result StoreWithLists ℕ) → start_form d line.form k ≡ r
          → at_line line.line r (λ i. start_tasks d lines i) ≡ Ok j → IsReady nums size j.lists
      on more (Ok i) e f = more i f (form-ready version d line.form k i may.0 e h)
      on more (Err code) e f = cc

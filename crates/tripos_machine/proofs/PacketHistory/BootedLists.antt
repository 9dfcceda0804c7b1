-- The kernel that a session boots is valid.
use Rattle.std.proofs.Common.{◌≡◌, ℕ, ◌≤◌, Bool, true, false, cond, None, Some, Option, Result, Ok, Err, List, [], ◌∷◌, ◌++◌, replicate, refl, sym, ap, ◌∙◌, subst}
use Rattle.std.specs.Prelude.{unwrap_or}
use Rattle.std.specs.Option.{option_map}
use Rattle.module_text.specs.TextReader.Steps.{◌>>=◌}
use Rattle.ram_disc.specs.Disc.{Disc, file_named}
use Rattle.kernel_model.specs.KernelRecord.HoldsLists.{HoldsLists}
use Rattle.kernel_model.specs.KernelRecord.Image.{image}
use Rattle.kernel_model.specs.KernelRecord.Kernel.{Kernel}
use Rattle.kernel_model.specs.KernelRecord.Lists.{Lists, has_task}
use Rattle.kernel_model.specs.KernelRecord.Pipes.{no_pipes}
use Rattle.kernel_model.specs.KernelRecord.StoreWithLists.{StoreWithLists, left_with, store_with_lists}
use Rattle.kernel_model.specs.KernelRecord.ValidKernel.{IsValid}
use Rattle.kernel_model.specs.KernelRecord.ValidLists.{AreValid}
use Rattle.kernel_calls.specs.CallAnswers.CallChange.{CallChange}
use Rattle.kernel_calls.specs.TaskCalls.CreateTask.{MayCreate, create_task, creation_tests, new_task, number_of, with_created}
use Rattle.session_text.specs.Canonical.{IsLawfulMachine}
use Rattle.session_text.specs.declared.sessions.LineForm.{LineForm}
use Rattle.session_text.specs.declared.sessions.LineForm.TheVariants.{Code, File, Task as TaskForm}
use Rattle.session_text.specs.declared.sessions.Session.{Session}
use Rattle.session_text.specs.declared.sessions.SessionLine.{SessionLine}
use Rattle.kernel_boot.specs.BootFiles.{at_line, load_files}
use Rattle.kernel_boot.specs.BootTasks.{AreBootLines, IsBootForm, begin_it, create_it, load_bytes, load_named, load_names, on_answer, start_form, start_tasks}
use Rattle.kernel_boot.specs.EmptyKernel.{empty_lists}
use Rattle.kernel_boot.specs.ResidentKernel.{resident_lists}
use Rattle.kernel_boot.specs.declared.refusals.BootRefusal.{BootRefusal}
use Rattle.kernel_boot.proofs.EmptyLists.{empty-changed}
use Rattle.kernel_boot.proofs.LawfulLines.{boot-lines}
use Rattle.kernel_boot.proofs.ResidentLists.{residents-changed}
use Rattle.kernel_boot.proofs.StartedTasks.{form-keeps, guest-created, may-create}
use Rattle.kernel_machine.specs.KernelSteps.ResidentSteps.{with_disc}
use Rattle.kernel_machine.specs.KernelSteps.Step.{dispatch}
use Rattle.kernel_machine.specs.KernelSteps.Stepped.{with_store, Stepped}
use Rattle.kernel_machine.proofs.KernelSteps.StepKept.{dispatch-residents, dispatch-same}
use Rattle.kernel_machine.proofs.KernelSteps.StoredWords.{plain-stored}
use Rattle.kernel_machine.specs.MachineBoot.Boot.{HasKernel, boot, first_kernel, first_lists, started, with_files, with_lines, with_store_of, with_tasks}
use Rattle.kernel_machine.proofs.MachineBoot.BegunKernels.{HasBegun, begun-dispatches, first-begun, lines-begun}
use Rattle.kernel_machine.proofs.MachineBoot.BootedKernels.{booted-full, booted-goes}
use Rattle.tripos_machine.proofs.PacketHistory.TaskCalls.{create_task-valid}
use Rattle.tripos_machine.proofs.PacketHistory.LeftStores.{call-holds}
use Rattle.tripos_machine.proofs.PacketHistory.StartedPrograms.{begun-holds, found-holds}
use Rattle.tripos_machine.proofs.PacketHistory.PlainWords.{HasValidImage, dispatch-left, image-holds, plain-like}
use Rattle.tripos_machine.proofs.PacketHistory.ValidSteps.{part-valid}

-- ---- the lists before the lines

module _ (s : Session) (h : HasKernel s) where
  machine : IsLawfulMachine false s
  machine = subst (λ b. IsLawfulMachine b s) h.full h.lawful.machine

  first-valid : AreValid (first_lists s)
  first-valid = on s.resident
    where
      on : (b : Bool) → AreValid (cond b (resident_lists s.version s.period s.store s.debug) (empty_lists s.version s.period s.store))
      on true = (residents-changed s.store s.version s.period h.lawful.version h.lawful.store machine.0 s.debug).lists.valid
      on false = (empty-changed s.store s.version s.period h.lawful.version h.lawful.store machine.0).lists.valid

-- ---- the lines

-- the store holds its lists
abbrev Holds : StoreWithLists → Type 0
Holds k = HoldsLists k.words k.lists

named-holds : (d : Disc) (name : List ℕ) (k : StoreWithLists) → Holds k → Holds (left_with k.words (load_named d name k.lists).lists (load_named d name k.lists).plain)
named-holds d name k h = on (option_map (λ f. f.bytes) (file_named d name))
  where
    on : (o : Option (List ℕ)) → Holds (left_with k.words (load_bytes k.lists o).lists (load_bytes k.lists o).plain)
    on None = found-holds k None (Ok tt) h
    on (Some bytes) = found-holds k (Some bytes) (Ok tt) h

names-hold : (d : Disc) (names : List (List ℕ)) (modules : List ℕ) (k : StoreWithLists) (x : List ℕ × StoreWithLists) → load_names d names modules k ≡ Ok x → Holds k → Holds x.1
names-hold d [] modules k x is h = (let same : (modules, k) ≡ x = cc in subst (λ (y : List ℕ × StoreWithLists). Holds y.1) same h)
names-hold d (name ∷ names) modules k x is h =
    on (λ m e. names-hold d names (modules ++ m ∷ []) (left_with k.words (load_named d name k.lists).lists (load_named d name k.lists).plain) x e (named-holds d name k h))
    (load_named d name k.lists).answer is
  where
    on : ((m : ℕ) → load_names d names (modules ++ m ∷ []) (left_with k.words (load_named d name k.lists).lists (load_named d name k.lists).plain) ≡ Ok x → Holds x.1)
        → (r : Result ℕ ℕ) → on_answer r (left_with k.words (load_named d name k.lists).lists (load_named d name k.lists).plain) (λ m j. load_names d names (modules ++ m ∷ []) j) ≡ Ok x
        → Holds x.1
    on more (Ok m) e = more m e
    on more (Err code) e = cc

-- a task is created, and begins
module _ (id pri stack : ℕ) (low : 5 ≤ id) where
  created-holds : (modules : List ℕ) (k j : StoreWithLists) → Holds k → MayCreate k.lists id modules 0
      → on_answer (create_task k.words k.lists id modules stack pri 0).answer
      (left_with k.words (create_task k.words k.lists id modules stack pri 0).lists (create_task k.words k.lists id modules stack pri 0).plain) begin_it
      ≡ Ok j
      → Holds j
  created-holds modules k j h may is = on made.answer refl is
    where
      made : CallChange
      made = create_task k.words k.lists id modules stack pri 0

      i : StoreWithLists
      i = left_with k.words made.lists made.plain

      left : Holds i
      left =
          call-holds k.words k.lists (creation_tests k.words k.lists id modules stack pri)
          (with_created k.words k.lists (new_task k.lists (unwrap_or (number_of k.lists id) 0) modules stack pri 0)) h
          (create_task-valid k.words k.lists h id modules stack pri 0 may) refl

      on : (r : Result ℕ ℕ) → made.answer ≡ r → on_answer r i begin_it ≡ Ok j → Holds j
      on (Ok n) e f =
          let same : left_with i.words _ [] ≡ j = cc in
          subst Holds same (begun-holds n i (guest-created k.words k.lists id modules stack pri 0 n low e) left)
      on (Err code) e f = cc

form-holds : (d : Disc) (form : LineForm) (k j : StoreWithLists) → IsBootForm k.lists.version form → start_form d form k ≡ Ok j → Holds k → Holds j
form-holds d (File name bytes) k j may is h = (let same : k ≡ j = cc in subst Holds same h)
form-holds d (Code bytes) k j may is h = (let same : k ≡ j = cc in subst Holds same h)
form-holds d (TaskForm id pri stack names) k j may is h = on (has_task id k.lists.tasks) refl is
  where
    create : has_task id k.lists.tasks ≡ false → (r : Result (List ℕ × StoreWithLists) ℕ) → load_names d names [] k ≡ r → create_it id pri stack r ≡ Ok j → Holds j
    create away (Ok x) loaded f =
        created-holds id pri stack may.low x.0 x.1 j (names-hold d names [] k x loaded h) (may-create d id names k.words x.1.words k.lists x.1.lists x.0 x.0 may away refl loaded) f
    create away (Err code) loaded f = cc

    on : (b : Bool) → has_task id k.lists.tasks ≡ b → cond b (Err 27) (create_it id pri stack (load_names d names [] k)) ≡ Ok j → Holds j
    on true away e = cc
    on false away e = create away (load_names d names [] k) refl e

tasks-hold : (version : ℕ) (d : Disc) (lines : List SessionLine) (k j : StoreWithLists) → AreBootLines version lines → version ≡ k.lists.version → start_tasks d lines k ≡ Ok j → Holds k → Holds j
tasks-hold version d [] k j may same is h = (let same : k ≡ j = cc in subst Holds same h)
tasks-hold version d (line ∷ lines) k j may same is h = on (λ i v e x. tasks-hold version d lines i j may.1 v e x) (start_form d line.form k) refl is
  where
    on : ((i : StoreWithLists) → version ≡ i.lists.version → start_tasks d lines i ≡ Ok j → Holds i → Holds j) → (r : Result StoreWithLists ℕ) → start_form d line.form k ≡ r
        → at_line line.line r (λ i. start_tasks d lines i) ≡ Ok j → Holds j
    on more (Ok i) e f = more i (same ∙ sym (form-keeps d line.form k i e)) f (form-holds d line.form k i (subst (λ v. IsBootForm v line.form) same may.0) e h)
    on more (Err code) e f = cc

-- ---- the kernel

stored-valid : (words : List ℕ) (l : Lists) (k j : Kernel) → AreValid l → j.lists ≡ l → j.plain ≡ (with_store words l k).plain → HasValidImage j
stored-valid words l k j v lists plain =
    record { lists = subst AreValid (sym lists) v; plain = plain-like (with_store words l k) j (plain-stored words l k v.owns) lists plain }

first-image : (s : Session) → HasKernel s → HasValidImage (first_kernel s)
unfolding first_kernel
first-image s h = stored-valid (replicate s.store 0) (first_lists s) (first_kernel s) (first_kernel s) (first-valid s h) refl refl

files-valid : (lines : List SessionLine) (k j : Kernel) → with_files lines k ≡ Ok j → HasValidImage k → (j.lists ≡ k.lists) × HasValidImage j
unfolding with_files
files-valid lines k j is h = on (load_files k.disc lines) is
  where
    on : (r : Result Disc BootRefusal) → (r >>= (λ d. Ok (with_disc d k))) ≡ Ok j → (j.lists ≡ k.lists) × HasValidImage j
    on (Ok d) f =
        let same : with_disc d k ≡ j = cc in
        subst (λ (z : Kernel). (z.lists ≡ k.lists) × HasValidImage z) same (refl, record { lists = h.lists; plain = plain-like k (with_disc d k) h.plain refl refl })
    on (Err refusal) f = cc

started-valid : (lines : List SessionLine) (k j : Kernel) → AreBootLines k.lists.version lines → with_tasks lines k ≡ Ok j → HasValidImage k → HasValidImage j
unfolding with_tasks
started-valid lines k j may is h = on (start_tasks k.disc lines (store_with_lists (image k) k.lists)) refl is
  where
    on : (r : Result StoreWithLists BootRefusal) → start_tasks k.disc lines (store_with_lists (image k) k.lists) ≡ r → (r >>= (λ x. Ok (with_store_of x k))) ≡ Ok j → HasValidImage j
    on (Ok x) e f =
        let same : with_store_of x k ≡ j = cc in
        subst HasValidImage same
        (stored-valid x.words x.lists k (with_store_of x k) (tasks-hold k.lists.version k.disc lines (store_with_lists (image k) k.lists) x may refl e (image-holds k h)).valid refl refl)
    on (Err refusal) e f = cc

lines-valid : (version : ℕ) (lines : List SessionLine) (k j : Kernel) → AreBootLines version lines → k.lists.version ≡ version → with_lines lines k ≡ Ok j → HasValidImage k → HasValidImage j
unfolding with_lines
lines-valid version lines k j may same is h = on (with_files lines k) refl is
  where
    on : (r : Result Kernel BootRefusal) → with_files lines k ≡ r → (r >>= with_tasks lines) ≡ Ok j → HasValidImage j
    on (Ok i) e f =
        let r = files-valid lines k i e h in
        started-valid lines i j (subst (λ v. AreBootLines v lines) (sym (ap (λ (l : Lists). l.version) r.0 ∙ same)) may) f r.1
    on (Err refusal) e f = cc

-- ---- the boot

-- It is valid, has not stopped, has taken no step, and has no pipe.
pub record IsBooted (k : Kernel) : Type 0 where
  pub valid : IsValid k
  pub goes : k.stop ≡ None
  pub steps : k.steps ≡ 0
  pub pipes : k.pipes ≡ no_pipes

module _ (s : Session) (h : HasKernel s) (k : Kernel) (b : HasBegun s k) (with-image : HasValidImage k) where
  dispatched-is : IsBooted (dispatch k).kernel
  dispatched-is =
      let v : AreValid (dispatch k).kernel.lists = part-valid k with-image.lists (begun-dispatches s h k b) in
      record { valid = booted-full s h k b v (dispatch-left k v); goes = booted-goes s h k b; steps = (dispatch-same k).steps ∙ b.steps; pipes = (dispatch-residents k).pipes ∙ b.pipes }

pub booted-is : (s : Session) → HasKernel s → (x : Stepped) → boot s ≡ Ok x → IsBooted x.kernel
unfolding boot
booted-is s h x is = on (with_lines s.lines (first_kernel s)) refl is
  where
    on : (r : Result Kernel BootRefusal) → with_lines s.lines (first_kernel s) ≡ r → (r >>= (λ k. Ok (started k))) ≡ Ok x → IsBooted x.kernel
    on (Ok k) e f =
        let same : started k ≡ x = cc in
        let first : HasBegun s (first_kernel s) = first-begun s in
        let version : (first_kernel s).lists.version ≡ s.version = ap (λ n. n.version) first.ready.numbers in
        subst (λ (y : Stepped). IsBooted y.kernel) same
        (dispatched-is s h k (lines-begun s h (first_kernel s) k first e) (lines-valid s.version s.lines (first_kernel s) k (boot-lines s h.lawful) version e (first-image s h)))
    on (Err refusal) e f = cc

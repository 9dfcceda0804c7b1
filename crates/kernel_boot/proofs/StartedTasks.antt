-- What the start of a task keeps and brings.
use Rattle.std.proofs.Common.{◌≡◌, ℕ, ◌+◌, ◌<◌, ◌≤◌, get_or, List, [], ◌∷◌, ◌++◌, length, cond, ◌||◌, Bool, true, false, Option, Some, None, Result, Ok, Err, inr, refl, sym, ap, ◌∙◌, subst, arith}
use Rattle.std.specs.List.{list_any}
use Rattle.std.specs.Option.{option_map}
use Rattle.std.specs.Prelude.{is_ok, unwrap_or}
use Rattle.std.proofs.lemmas.Bool.{eq-eqb, ne_eqb}
use Rattle.std.proofs.lemmas.List.{length-append}
use Rattle.module_text.specs.ModuleOfText.{module_of}
use Rattle.module_text.specs.TextReader.Refusal.{Refusal}
use Rattle.module_text.specs.declared.modules.Module.{Module}
use Rattle.kernel_lists.specs.LinkedList.Places.{insert_after}
use Rattle.ram_disc.specs.Disc.{Disc, file_named}
use Rattle.ram_disc.proofs.NameOrder.{all-get_or}
use Rattle.session_text.specs.declared.sessions.SessionLine.{SessionLine}
use Rattle.kernel_model.specs.KernelRecord.ValidQueues.{HasGuest}
use Rattle.session_text.specs.declared.sessions.LineForm.{LineForm}
use Rattle.session_text.specs.declared.sessions.LineForm.TheVariants.{Code, File, Task}
use Rattle.kernel_model.specs.KernelRecord.Lists.{Lists, has_task}
use Rattle.kernel_model.specs.KernelRecord.Task.{Task as TaskRecord, is_guest_id}
use Rattle.kernel_model.specs.KernelRecord.Versions.{highest_id_of, most_modules_of}
use Rattle.kernel_calls.specs.CallAnswers.CallChange.{CallChange, by_refusal}
use Rattle.kernel_calls.specs.CallAnswers.Guests.{IsGuestOf}
use Rattle.kernel_calls.specs.CallAnswers.Refusals.{first_refusal}
use Rattle.kernel_calls.proofs.CallAnswers.Refusals.{high-guest}
use Rattle.kernel_calls.specs.ModuleCalls.LoadModule.{load_tests}
use Rattle.kernel_calls.specs.TaskCalls.CreateTask.{MayCreate, create_task, creation_tests, free_id, new_task, number_of, with_created}
use Rattle.kernel_boot.specs.BootTasks.{AreBootLines, IsBootForm, MayStart, begin_it, create_it, load_bytes, load_named, load_names, load_text, on_answer, start_form}
use Rattle.kernel_model.specs.KernelRecord.StoreWithLists.{StoreWithLists, left_with, store_with_lists}

-- ---- loading

-- version and tasks stay
abbrev pub Keeps : Lists → Lists → Type 0
Keeps l m = (m.version ≡ l.version) × (m.tasks ≡ l.tasks)

refused-keeps : (o : Option ℕ) (l : Lists) (m : CallChange) → Keeps l m.lists → Keeps l (by_refusal o l m).lists
refused-keeps None l m keeps = keeps
refused-keeps (Some code) l m keeps = (refl, refl)

text-keeps : (l : Lists) (r : Result Module Refusal) → Keeps l (load_text l r).lists
text-keeps l (Ok m) = refused-keeps (first_refusal (load_tests l m.hunks)) l _ (refl, refl)
text-keeps l (Err refusal) = (refl, refl)

bytes-keep : (l : Lists) (o : Option (List ℕ)) → Keeps l (load_bytes l o).lists
bytes-keep l None = (refl, refl)
bytes-keep l (Some bytes) = text-keeps l (module_of bytes)

pub named-keeps : (d : Disc) (name : List ℕ) (l : Lists) → Keeps l (load_named d name l).lists
named-keeps d name l = bytes-keep l (option_map (λ f. f.bytes) (file_named d name))

-- what loading all names leaves
pub record AllLoaded (k : StoreWithLists) (number : ℕ) (x : List ℕ × StoreWithLists) : Type 0 where
  pub version : x.1.lists.version ≡ k.lists.version
  pub tasks : x.1.lists.tasks ≡ k.lists.tasks
  pub count : length x.0 ≡ number

pub names-loaded : (d : Disc) (names : List (List ℕ)) (modules : List ℕ) (k : StoreWithLists) (x : List ℕ × StoreWithLists) → load_names d names modules k ≡ Ok x → AllLoaded k (length modules + length names) x
names-loaded d [] modules k x is =
    let same : (modules, k) ≡ x = cc in
    subst (AllLoaded k (length modules + 0)) same (record { version = refl; tasks = refl; count = omega arith })
names-loaded d (name ∷ names) modules k x is =
    on (λ m e. names-loaded d names (modules ++ m ∷ []) (left_with k.words (load_named d name k.lists).lists (load_named d name k.lists).plain) x e) (load_named d name k.lists).answer is
  where
    on : ((m : ℕ) → load_names d names (modules ++ m ∷ []) (left_with k.words (load_named d name k.lists).lists (load_named d name k.lists).plain) ≡ Ok x
        → AllLoaded (left_with k.words (load_named d name k.lists).lists (load_named d name k.lists).plain) (length (modules ++ m ∷ []) + length names) x)
        → (r : Result ℕ ℕ)
        → on_answer r (left_with k.words (load_named d name k.lists).lists (load_named d name k.lists).plain) (λ m j. load_names d names (modules ++ m ∷ []) j) ≡ Ok x
        → AllLoaded k (length modules + length (name ∷ names)) x
    on more (Ok m) e =
        let h = more m e in
        let keeps = named-keeps d name k.lists in
        record { version = h.version ∙ keeps.0; tasks = h.tasks ∙ keeps.1; count = omega (arith, h.count, length-append modules (m ∷ [])) }
    on more (Err code) e = cc

-- ---- creating

any-inserted : (f p : TaskRecord → Bool) (t : TaskRecord) (ts : List TaskRecord) → p t ≡ true → list_any p (insert_after f t ts) ≡ true
any-inserted f p t [] is = ap (λ b. b || false) is
any-inserted f p t (u ∷ ts) is = on (list_any f (u ∷ ts)) (any-inserted f p t ts is)
  where
    or : (b c : Bool) → c ≡ true → (b || c) ≡ true
    or true c e = refl
    or false c e = e

    on : (b : Bool) → list_any p (insert_after f t ts) ≡ true → list_any p (cond b (u ∷ insert_after f t ts) (t ∷ u ∷ ts)) ≡ true
    on true more = or (p u) (list_any p (insert_after f t ts)) more
    on false more = ap (λ b. b || list_any p (u ∷ ts)) is

-- a task that is created is there
pub record IsThere (l : Lists) (id n : ℕ) (m : Lists) : Type 0 where
  pub version : m.version ≡ l.version
  pub number : n ≡ unwrap_or (number_of l id) 0
  pub there : has_task n m.tasks ≡ true

module _ (s : List ℕ) (l : Lists) (id : ℕ) (modules : List ℕ) (u pri maker : ℕ) where
  abbrev number : ℕ
  number = unwrap_or (number_of l id) 0

  abbrev made : CallChange
  made = with_created s l (new_task l number modules u pri maker)

  pub created : (n : ℕ) → (create_task s l id modules u pri maker).answer ≡ Ok n → IsThere l id n (create_task s l id modules u pri maker).lists
  created n is = on (first_refusal (creation_tests s l id modules u pri)) is
    where
      on : (o : Option ℕ) → (by_refusal o l made).answer ≡ Ok n → IsThere l id n (by_refusal o l made).lists
      on None e =
          let same : number ≡ n = cc in
          record {
            version = refl;
            number = sym same;
            there = subst (λ i. has_task i made.lists.tasks ≡ true) same (any-inserted _ _ (new_task l number modules u pri maker) l.tasks (eq-eqb number number refl));
          }
      on (Some code) e = cc

-- the number is the one that was asked for
pub number-is : (l : Lists) (id n : ℕ) → 5 ≤ id → n ≡ unwrap_or (number_of l id) 0 → n ≡ id
number-is l id n low is = is ∙ ap (λ b. unwrap_or (cond b (free_id l) (Some id)) 0) (ne_eqb id 0 (λ e. absurd (omega (arith, e, low))))

-- of the modules that were loaded for it a task may be made
pub may-create : (d : Disc) (id : ℕ) (names : List (List ℕ)) (s u : List ℕ) (l m : Lists) (modules lent : List ℕ) → MayStart l.version id names → has_task id l.tasks ≡ false → lent ≡ modules
    → load_names d names [] (store_with_lists s l) ≡ Ok (modules, store_with_lists u m) → MayCreate m id lent 0
may-create d id names s u l m modules lent may away same loaded =
    let all = names-loaded d names [] (store_with_lists s l) (modules, store_with_lists u m) loaded in
    subst (λ ms. MayCreate m id ms 0) (sym same)
    (record {
      number = inr (may.low, subst (λ v. id ≤ highest_id_of v) (sym all.version) may.high, ap (has_task id) all.tasks ∙ away);
      made_by = omega arith;
      some_module = omega (arith, may.some_module, all.count);
      most = subst (λ v. length modules ≤ most_modules_of v) (sym all.version) (omega (arith, may.most, all.count));
    })

-- ---- the version

pub form-keeps : (d : Disc) (form : LineForm) (k j : StoreWithLists) → start_form d form k ≡ Ok j → j.lists.version ≡ k.lists.version
form-keeps d (File name bytes) k j is = (let same : k ≡ j = cc in ap (λ (x : StoreWithLists). x.lists.version) (sym same))
form-keeps d (Code bytes) k j is = (let same : k ≡ j = cc in ap (λ (x : StoreWithLists). x.lists.version) (sym same))
form-keeps d (Task id pri stack names) k j is = on (has_task id k.lists.tasks) is
  where
    version_of : Result StoreWithLists ℕ → ℕ
    version_of (Ok y) = y.lists.version
    version_of (Err code) = 0

    begun : (x : List ℕ × StoreWithLists) (r : Result ℕ ℕ) → (create_task x.1.words x.1.lists id x.0 stack pri 0).answer ≡ r
        → on_answer r (left_with x.1.words (create_task x.1.words x.1.lists id x.0 stack pri 0).lists (create_task x.1.words x.1.lists id x.0 stack pri 0).plain) begin_it ≡ Ok j
        → j.lists.version ≡ x.1.lists.version
    begun x (Ok n) e f =
        let h = created x.1.words x.1.lists id x.0 stack pri 0 n e in
        ap version_of (sym f) ∙ h.version
    begun x (Err code) e f = cc

    create : (r : Result (List ℕ × StoreWithLists) ℕ) → load_names d names [] k ≡ r → create_it id pri stack r ≡ Ok j → j.lists.version ≡ k.lists.version
    create (Ok x) e f =
        begun x (create_task x.1.words x.1.lists id x.0 stack pri 0).answer refl f ∙ (names-loaded d names [] k x e).version
    create (Err code) e f = cc

    on : (b : Bool) → cond b (Err 27) (create_it id pri stack (load_names d names [] k)) ≡ Ok j → j.lists.version ≡ k.lists.version
    on true e = cc
    on false e = create (load_names d names [] k) refl e

-- ---- whose number it is

pub guest-away : (l : Lists) (id : ℕ) (r : Result ℕ ℕ) → IsGuestOf l id r → 5 ≤ id → is_ok r ≡ false → has_task id l.tasks ≡ false
guest-away l id (Ok address) g low e = cc
guest-away l id (Err code) g low e = on (has_task id l.tasks) refl
  where
    tests : Bool → Bool → Option ℕ
    tests t u = first_refusal ((t, 2) ∷ (u, 14) ∷ [])

    on : (b : Bool) → has_task id l.tasks ≡ b → has_task id l.tasks ≡ false
    on true f =
        let none : ◌≡◌ {A = Option ℕ} None (Some code) = sym (ap (λ t. tests t (is_guest_id id)) f ∙ ap (tests true) (high-guest id low)) ∙ g in
        cc
    on false f = f

pub guest-created : (s : List ℕ) (l : Lists) (id : ℕ) (modules : List ℕ) (u pri maker n : ℕ) → 5 ≤ id → (create_task s l id modules u pri maker).answer ≡ Ok n
    → HasGuest (create_task s l id modules u pri maker).lists n
guest-created s l id modules u pri maker n low is =
    let h = created s l id modules u pri maker n is in
    (high-guest n (omega (arith, low, number-is l id n low h.number)), h.there)

-- a line of those that a session may have
pub boot-form : (version v : ℕ) (lines : List SessionLine) (i : ℕ) (line : SessionLine) → v ≡ version → AreBootLines version lines → i < length lines → line ≡ get_or lines i line → IsBootForm v line.form
boot-form version v lines i line e all lt is =
    subst (λ x. IsBootForm x line.form) (sym e) (subst (λ (x : SessionLine). IsBootForm version x.form) (sym is) (all-get_or (λ x. IsBootForm version x.form) lines i line all lt))

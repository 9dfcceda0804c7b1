-- All faults are reported: by one number of a guest after another.
use Rattle.std.proofs.Common.{◌≡◌, ℕ, ◌+◌, ◌<◌, ◌≤◌, ◌&&◌, ◌||◌, Bool, true, false, Some, None, List, [], ◌∷◌, ◌++◌, map, cond, eqb, leb, ltb, get_or, set, inl, inr, refl, sym, ap, ◌∙◌, subst, arith}
use Rattle.std.specs.List.{AllByRecursion}
use Rattle.std.proofs.lemmas.Bool.{and_parts, cases_eq, cases_lt, eq-eqb, leb-true, lt-ltb, ltb-true, ne_eqb}
use Rattle.kernel_lists.specs.OwnedWords.Exchange.{Exchange}
use Rattle.kernel_lists.specs.OwnedWords.Owned.{Pairs, owners, row_from}
use Rattle.kernel_lists.proofs.OwnedWords.Exchanges.{exchange-all, exchange-left, exchange-right}
use Rattle.kernel_lists.specs.PacketQueue.QueueWords.{queue_words}
use Rattle.kernel_lists.specs.Coroutines.CoroutineExchanges.{words_of_coroutines}
use Rattle.kernel_model.specs.KernelRecord.Between.{is_unreported}
use Rattle.kernel_model.specs.KernelRecord.ChangedStore.{IsChanged}
use Rattle.kernel_model.specs.KernelRecord.Changes.{change_of, with_task, with_tasks}
use Rattle.kernel_model.specs.KernelRecord.HoldsLists.{HoldsLists}
use Rattle.kernel_model.specs.KernelRecord.Lists.{Lists, has_task}
use Rattle.kernel_model.specs.KernelRecord.Owned.{owned}
use Rattle.kernel_model.specs.KernelRecord.Task.{Task, fault_words, further_modules, is_guest_id, name_words, queue_head, state_words, task_address, task_words}
use Rattle.kernel_model.specs.KernelRecord.ValidTasks.{IsFaultWord, IsGuest, IsResident, IsTask}
use Rattle.kernel_model.proofs.KernelRecord.AllThings.{all-here}
use Rattle.kernel_model.proofs.KernelRecord.ChangedLists.{changed-none}
use Rattle.kernel_model.proofs.KernelRecord.EachMember.{holds-each}
use Rattle.kernel_model.proofs.KernelRecord.ReadCoroutines.{holds-task}
use Rattle.kernel_model.proofs.KernelRecord.TaskCounts.{owners-same_task}
use Rattle.kernel_model.proofs.KernelRecord.OneTask.{owned-one_task}
use Rattle.kernel_calls.specs.CallAnswers.Guests.{GuestAt}
use Rattle.kernel_calls.proofs.CallAnswers.FoundTask.{Finds, reads}
use Rattle.kernel_calls.proofs.CallAnswers.GuestTask.{GuestFacts, guest-changed, guest-facts}
use Rattle.kernel_calls.proofs.CallAnswers.Refusals.{guest-at, high-guest}
use Rattle.kernel_calls.proofs.TaskCalls.OneWord.{word-changed}
use Rattle.resident_tasks.specs.FaultReporter.FaultTurns.{all_reported, reported}
use Rattle.resident_tasks.specs.FaultReporter.Recorded.{OwnsSame}
use Rattle.resident_tasks.specs.FaultReporter.Texts.{is_unreported_word}
use Rattle.resident_tasks.proofs.FaultReporter.HeldGuest.{same-then}

-- ---- one guest

-- the task with a fault word of 256 more
abbrev marked : Task → Task
marked t = record t { fault = t.fault + 256 }

marked-exchange : (version : ℕ) (t : Task) (n : ℕ) → Exchange (task_words version t n) (task_words version (marked t) n) ((t.address + 21, t.fault) ∷ []) ((t.address + 21, t.fault + 256) ∷ [])
marked-exchange version t n =
    let rest : Pairs = queue_words (queue_head t.address) t.queue ++ words_of_coroutines t.address t.coroutines in
    exchange-right ((t.address, n) ∷ name_words t) _ _ _ _
    (exchange-right (state_words version t) _ _ _ _
    (exchange-left (fault_words version t) (fault_words version (marked t)) rest _ _
    (exchange-left ((t.address + 21, t.fault) ∷ []) ((t.address + 21, t.fault + 256) ∷ []) (row_from t.address 22 (t.fault_address ∷ further_modules version t)) _ _ (exchange-all _ _))))

-- a fault word stays one
marked-word : (code address : ℕ) → 1 ≤ code → code < 256 → IsFaultWord code address → IsFaultWord (code + 256) address
marked-word code address low high (inl none) = absurd (omega (arith, none.0, low))
marked-word code address low high (inr (inl one)) = inr (inr (code, one, refl))
marked-word code address low high (inr (inr old)) = absurd (omega (arith, old.2, high))

marked-task : (l : Lists) (t : Task) → is_guest_id t.id ≡ true → 1 ≤ t.fault → t.fault < 256 → IsTask l t → IsTask l (marked t)
marked-task l t guest low high h =
    record {
      low = h.low;
      high = h.high;
      maker = h.maker;
      field = h.field;
      byte = h.byte;
      guest = λ is.
          let g : IsGuest l t = h.guest is in
          record {
            high = g.high;
            block = g.block;
            some_module = g.some_module;
            most = g.most;
            modules = g.modules;
            fault = marked-word t.fault t.fault_address low high g.fault;
            unreported = λ none. absurd (omega (arith, g.unreported none, low));
          };
      resident = λ is. cc;
    }

-- where no task has the number, none changes
unchanged : (id : ℕ) (f : Task → Task) (ts : List Task) → has_task id ts ≡ false → map (change_of id f) ts ≡ ts
unchanged id f [] none = refl
unchanged id f (t ∷ ts) none = on (eqb t.id id) none (unchanged id f ts)
  where
    on : (b : Bool) → (b || has_task id ts) ≡ false → (has_task id ts ≡ false → map (change_of id f) ts ≡ ts) → cond b (f t) t ∷ map (change_of id f) ts ≡ t ∷ ts
    on true e more = cc
    on false e more = ap (λ zs. t ∷ zs) (more e)

-- the fault word, as the store has it
guest-fault : (s : List ℕ) (l : Lists) (id address : ℕ) → HoldsLists s l → (g : GuestAt l id address) → get_or s (address + 21) 0 ≡ g.task.fault
guest-fault s l id address h g =
    ap (λ a. get_or s (a + 21) 0) (sym g.at)
    ∙ all-here (λ u. get_or s (u.address + 21) 0 ≡ u.fault) g.front g.task g.back
    (subst (AllByRecursion (λ u. get_or s (u.address + 21) 0 ≡ u.fault)) g.is
    (holds-each task_address (task_words l.version) s (λ u. get_or s (u.address + 21) 0 ≡ u.fault) (λ u n own. (holds-task s l.version u n own).fault.0) l.tasks 0 (reads s l h).held_tasks.holds.1))

module _ (s : List ℕ) (l : Lists) (id : ℕ) (h : HoldsLists s l) where
  same-lists : with_task id reported l ≡ l → OwnsSame s s l (with_task id reported l)
  same-lists e = record { lists = subst (λ m. IsChanged s s m []) (sym e) (changed-none s l h); same = λ a. ap (λ m. owners a (owned m)) e }

  pub no-guest : Finds id l.tasks None → OwnsSame s s l (with_task id reported l)
  no-guest none = same-lists (ap (λ ts. with_tasks ts l) (unchanged id reported l.tasks none))

  module _ (low : 5 ≤ id) (address : ℕ) (there : Finds id l.tasks (Some address)) where
    abbrev g : GuestAt l id address
    g = guest-at l id address there (high-guest id low)

    pub fault-is : get_or s (address + 21) 0 ≡ g.task.fault
    fault-is = guest-fault s l id address h g

    pub nothing-new : is_unreported_word (get_or s (address + 21) 0) ≡ false → OwnsSame s s l (with_task id reported l)
    nothing-new e =
        same-lists
        (ap (λ ts. with_tasks ts l)
        (guest-changed l id address reported h.valid g
        ∙ ap (λ u. g.front ++ u ∷ g.back) (ap (λ b. cond b (marked g.task) g.task) (sym (ap is_unreported_word fault-is) ∙ e))
        ∙ sym g.is))

    pub one-new : is_unreported_word (get_or s (address + 21) 0) ≡ true → (v : List ℕ) → v ≡ set s (address + 21) (get_or s (address + 21) 0 + 256) → OwnsSame s v l (with_task id reported l)
    one-new e v is =
        let new : is_unreported g.task ≡ true = sym (ap is_unreported_word fault-is) ∙ e in
        let both = and_parts (leb 1 g.task.fault) (ltb g.task.fault 256) new in
        let facts : GuestFacts s l id address g.task = guest-facts s l id address h g in
        let m : Lists = with_task id marked l in
        let same : with_task id reported l ≡ m = ap (λ ts. with_tasks ts l)
        (guest-changed l id address reported h.valid g ∙ ap (λ b. g.front ++ cond b (marked g.task) g.task ∷ g.back) new ∙ sym (guest-changed l id address marked h.valid g))
        in
        let words : set s (address + 21) (get_or s (address + 21) 0 + 256) ≡ set s (g.task.address + 21) (g.task.fault + 256) = λ i. set s (sym g.at i + 21) (fault-is i + 256) in
        let changed : IsChanged s (set s (g.task.address + 21) (g.task.fault + 256)) m [] = word-changed s l id address marked (g.task.address + 21) g.task.fault (g.task.fault + 256) h g
        (record { id = refl; address = refl; priority = refl; queue = refl; coroutines = refl })
        (marked-task l g.task facts.guest (leb-true 1 g.task.fault both.0) (ltb-true g.task.fault 256 both.1) facts.task)
        (record { each = facts.coroutines.each; members = facts.coroutines.members; distinct = facts.coroutines.distinct })
        (marked-exchange l.version g.task)
        in
        record {
          lists = subst (λ z. IsChanged s v z []) (sym same) (subst (λ z. IsChanged s z m []) (sym (is ∙ words)) changed);
          same = λ a.
              ap (λ z. owners a (owned z)) (same ∙ ap (λ ts. with_tasks ts l) (guest-changed l id address marked h.valid g))
              ∙ omega (
                arith,
                owned-one_task l g.front g.task (marked g.task) g.back g.is a 0 0 (ap (λ n. n + 0) (owners-same_task a l.version g.task (marked g.task) (record { id = refl; address = refl; priority = refl; queue = refl; coroutines = refl }))),
              );
        }

-- ---- all guests

-- those with lower numbers
abbrev below : ℕ → Task → Task
below n t = cond (ltb t.id n) (reported t) t

abbrev pub reported_below : ℕ → Lists → Lists
reported_below n l = with_tasks (map (below n) l.tasks) l

below-next : (n : ℕ) (ts : List Task) → map (change_of n reported) (map (below n) ts) ≡ map (below (n + 1)) ts
below-next n [] = refl
below-next n (t ∷ ts) = λ i. one i ∷ below-next n ts i
  where
    id-kept : (b : Bool) → (cond b (reported t) t).id ≡ t.id
    id-kept true = (elim (is_unreported t) as (λ b. (cond b (marked t) t).id ≡ t.id) [ true ↦ refl | false ↦ refl ])
    id-kept false = refl

    one : change_of n reported (below n t) ≡ below (n + 1) t
    one =
        elim (cases_lt t.id n) [
          | inl lt ↦
              let now : below n t ≡ reported t = ap (λ b. cond b (reported t) t) (lt-ltb t.id n lt) in
              let other : eqb (below n t).id n ≡ false = ne_eqb (below n t).id n (λ e. absurd (omega (arith, e, id-kept (ltb t.id n), lt))) in
              ap (λ b. cond b (reported (below n t)) (below n t)) other ∙ now ∙ sym (ap (λ b. cond b (reported t) t) (lt-ltb t.id (n + 1) (omega (arith, lt))))
          | inr ge ↦
              let now : below n t ≡ t = ap (λ b. cond b (reported t) t) (not-less t.id n ge) in
              ap (change_of n reported) now
              ∙ elim (cases_eq t.id n) [
                | inl e ↦ ap (λ b. cond b (reported t) t) (eq-eqb t.id n e) ∙ sym (ap (λ b. cond b (reported t) t) (lt-ltb t.id (n + 1) (omega (arith, e))))
                | inr ne ↦ ap (λ b. cond b (reported t) t) (ne_eqb t.id n ne) ∙ sym (ap (λ b. cond b (reported t) t) (not-less t.id (n + 1) (omega (arith, ge, ne))))
              ]
        ]
      where
        not-less : (a b : ℕ) → b ≤ a → ltb a b ≡ false
        not-less a b le = on (ltb a b) refl
          where
            on : (c : Bool) → ltb a b ≡ c → c ≡ false
            on true e = absurd (omega (arith, ltb-true a b e, le))
            on false e = refl

-- no resident has a fault
below-first : (l : Lists) (ts : List Task) → AllByRecursion (IsTask l) ts → map (below 5) ts ≡ ts
below-first l [] all = refl
below-first l (t ∷ ts) all = λ i. one i ∷ below-first l ts all.1 i
  where
    none : is_guest_id t.id ≡ false → reported t ≡ t
    none e = (let r : IsResident t = all.0.resident e in ap (λ n. cond (leb 1 n && ltb n 256) (marked t) t) r.fault)

    on : (b : Bool) → is_guest_id t.id ≡ b → below 5 t ≡ t
    on true e = ap (λ b. cond b (reported t) t) (low-not t.id (leb-true 5 t.id e))
      where
        low-not : (n : ℕ) → 5 ≤ n → ltb n 5 ≡ false
        low-not n le = (elim (cases_lt n 5) [ inl lt ↦ absurd (omega (arith, lt, le)) | inr ge ↦ other (ltb n 5) refl ])
          where
            other : (b : Bool) → ltb n 5 ≡ b → b ≡ false
            other true e = absurd (omega (arith, ltb-true n 5 e, le))
            other false e = refl
    on false e = (elim (ltb t.id 5) as (λ b. cond b (reported t) t ≡ t) [ true ↦ none e | false ↦ refl ])

    one : below 5 t ≡ t
    one = on (is_guest_id t.id) refl

-- no number is above 63
below-last : (l : Lists) (n : ℕ) → 64 ≤ n → (ts : List Task) → AllByRecursion (IsTask l) ts → map (below n) ts ≡ map reported ts
below-last l n high [] all = refl
below-last l n high (t ∷ ts) all = λ i. ap (λ b. cond b (reported t) t) (lt-ltb t.id n low) i ∷ below-last l n high ts all.1 i
  where
    most : (b : Bool) → cond b 63 20 ≤ 63
    most true = omega arith
    most false = omega arith

    on : (b : Bool) → is_guest_id t.id ≡ b → t.id < n
    on true e = (let g : IsGuest l t = all.0.guest e in omega (arith, g.high, most (eqb l.version 2), high))
    on false e =
        elim (cases_lt t.id 5) [
          | inl lt ↦ omega (arith, lt, high)
          | inr ge ↦ absurd (clash (is_guest_id t.id) (high-guest t.id ge) e)
        ]
      where
        clash : (b : Bool) → b ≡ true → b ≡ false → ⊥
        clash b e f = cc

    low : t.id < n
    low = on (is_guest_id t.id) refl

pub marks-begin : (s : List ℕ) (l : Lists) → HoldsLists s l → OwnsSame s s l (reported_below 5 l)
marks-begin s l h =
    let e : reported_below 5 l ≡ l = ap (λ ts. with_tasks ts l) (below-first l l.tasks h.valid.tasks.each) in
    record { lists = subst (λ m. IsChanged s s m []) (sym e) (changed-none s l h); same = λ a. ap (λ m. owners a (owned m)) e }

pub marks-next : (s t u : List ℕ) (l : Lists) (n : ℕ) → OwnsSame s t l (reported_below n l) → OwnsSame t u (reported_below n l) (with_task n reported (reported_below n l)) → OwnsSame s u l (reported_below (n + 1) l)
marks-next s t u l n x y = subst (λ ts. OwnsSame s u l (with_tasks ts l)) (below-next n l.tasks) (same-then s t u l (reported_below n l) (with_task n reported (reported_below n l)) x y)

pub marks-end : (s t : List ℕ) (l : Lists) (n : ℕ) → HoldsLists s l → 64 ≤ n → OwnsSame s t l (reported_below n l) → OwnsSame s t l (all_reported l)
marks-end s t l n h high x = subst (λ ts. OwnsSame s t l (with_tasks ts l)) (below-last l n high l.tasks h.valid.tasks.each) x

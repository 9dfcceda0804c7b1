-- What the calls make that go on in another coroutine.
use Rattle.std.proofs.Common.{◌≡◌, ◌≢◌, ℕ, ◌+◌, List, [], ◌∷◌, cond, drop, eqb, map, Bool, true, false, Some, None, Option, Ok, Err, Result, refl, sym, ap, ◌∙◌, subst}
use Rattle.std.specs.Prelude.{OnErr, OnOk, not}
use Rattle.std.specs.List.{AllByRecursion}
use Rattle.std.proofs.lemmas.Bool.{false≢true}
use Rattle.word_store.specs.declared.registers.Regs.{Regs}
use Rattle.word_store.specs.Count.{IsApart}
use Rattle.kernel_lists.specs.LinkedList.Places.{has}
use Rattle.kernel_lists.specs.Coroutines.Active.{LeadsOut, active_in}
use Rattle.kernel_lists.specs.OwnedWords.Owned.{Pairs}
use Rattle.kernel_lists.specs.TaskBlock.Lists.{coroutines_in}
use Rattle.kernel_lists.specs.Coroutines.Coroutines.{HasCoroutines}
use Rattle.kernel_lists.specs.Coroutines.CoroutineExchanges.{CallExchange, EndExchange, HoldsCoroutines, ResumeExchange, Rewrites, TaskCoroutines, WaitExchange, current_of, function_of, with_called, with_frame, with_resumed, with_saved, with_waiting, words_of_coroutines}
use Rattle.kernel_lists.specs.Coroutines.CoroutineWords.{bottom, current_in, current_parent, function_in}
use Rattle.kernel_lists.specs.Coroutines.HeldCoroutines.{Coroutine, address_of, first_active}
use Rattle.kernel_lists.specs.Coroutines.Refusals as reasons
use Rattle.kernel_lists.specs.Coroutines.Switch as store
use Rattle.kernel_lists.specs.declared.coroutine_lists.ends.CoEnd.{CoEnd}
use Rattle.kernel_lists.proofs.Coroutines.CoroutineLists.{Built}
use Rattle.kernel_lists.proofs.Coroutines.HeldCoroutineLists.{held-coroutines}
use Rattle.kernel_lists.proofs.Coroutines.KnownCoroutines.{current}
use Rattle.kernel_lists.proofs.Coroutines.SwitchExchanges.{call-answered, end-answered, resume-answered, wait-answered}
use Rattle.kernel_lists.proofs.Coroutines.Switches.{still-current, switched-current}
use Rattle.kernel_model.specs.KernelRecord.BlockUse.{coroutine_addresses}
use Rattle.kernel_model.specs.KernelRecord.HoldsLists.{HoldsLists}
use Rattle.kernel_model.specs.KernelRecord.Lists.{Lists}
use Rattle.kernel_model.specs.KernelRecord.Task.{Task}
use Rattle.kernel_model.specs.KernelRecord.ValidTasks.{AreValidCoroutines, IsCoroutine}
use Rattle.kernel_model.proofs.KernelRecord.ChangedLists.{changed-none}
use Rattle.kernel_calls.specs.CallAnswers.Guests.{GuestAt}
use Rattle.kernel_calls.specs.CallAnswers.Refusals.{first_refusal}
use Rattle.kernel_calls.proofs.CallAnswers.Refusals.{answer_of-err, answer_of-ok}
use Rattle.kernel_calls.specs.CoroutineCalls.CallCo.{callco, idle_tests}
use Rattle.kernel_calls.specs.CoroutineCalls.CallersCoroutines.{coroutines_of_caller, is_one_of, is_within, with_callers, with_changed}
use Rattle.kernel_calls.specs.CoroutineCalls.CoWait.{IsWithin, cowait, ended, wait_tests, with_ended}
use Rattle.kernel_calls.specs.CoroutineCalls.Private.Refusals.{code_of, coded}
use Rattle.kernel_calls.specs.CoroutineCalls.ResumeCo.{resume_tests, resumeco, resumed_itself}
use Rattle.kernel_calls.specs.CoroutineCalls.SwitchChange.{IsSwitched, SwitchChange, by_refusal, refused, entered, handed, switched, unless_refused}
use Rattle.kernel_calls.proofs.CoroutineCalls.CallersTask.{AreRewritten, callers-found, callers-held, callers-rewritten, callers-valid}
use Rattle.kernel_calls.proofs.CoroutineCalls.CodedAnswers.{idle-coded, resume-coded, wait-coded, wait-passed}
use Rattle.kernel_calls.proofs.CoroutineCalls.SavedFrames.{first-one, regs-read}

-- ---- coroutines with a frame saved are as before

addresses-framed : (d p pc : ℕ) (xs : List Coroutine) → map address_of (map (with_frame d p pc) xs) ≡ map address_of xs
addresses-framed d p pc [] = refl
addresses-framed d p pc (x ∷ xs) = ap (λ z. x.address ∷ z) (addresses-framed d p pc xs)

each-framed : (l : Lists) (d p pc : ℕ) (xs : List Coroutine) → AllByRecursion (IsCoroutine l) xs → AllByRecursion (IsCoroutine l) (map (with_frame d p pc) xs)
each-framed l d p pc [] all = tt
each-framed l d p pc (x ∷ xs) all = (record { block = all.0.block; high = all.0.high }, each-framed l d p pc xs all.1)

-- the coroutines with a frame saved in the current one, of which these are active
abbrev pub switched_to : ℕ → ℕ → List ℕ → TaskCoroutines → TaskCoroutines
switched_to p pc act k = record (with_saved p pc k) { active = act }

switched-valid : (l : Lists) (t : Task) (p pc : ℕ) (act : List ℕ) → AreValidCoroutines l t → AllByRecursion (λ c. has c (coroutine_addresses t) ≡ true) act → IsApart act
    → AreValidCoroutines l (with_changed (switched_to p pc act) t)
switched-valid l t p pc act had members apart =
    record {
      each = each-framed l (current_of t.coroutines) p pc t.coroutines.list had.each;
      members = subst (λ ads. AllByRecursion (λ c. has c ads ≡ true) act) (sym (addresses-framed (current_of t.coroutines) p pc t.coroutines.list)) members;
      distinct = apart;
    }

-- what is current is the first of those that the words lead to
current-first : (v : List ℕ) (t : ℕ) (act : List ℕ) → LeadsOut v t 0 (t + 18) act → current_in v t ≡ first_active act 0
current-first v t [] out = out
current-first v t (c ∷ cs) out = out.0

module _ (s : List ℕ) (l : Lists) (t : ℕ) (h : HoldsLists s l) (g : GuestAt l l.running t) (r : Regs) where
  abbrev own : TaskCoroutines
  own = g.task.coroutines

  held : HoldsCoroutines s t own
  held = callers-held s l t h g

  built : Built s t (map address_of own.list) own.active
  built = held-coroutines s t own.active own.list held.coroutines

  -- tests of the caller's coroutines
  tests-found : (tests : TaskCoroutines → List (Bool × ℕ)) (o : Option ℕ) → first_refusal (tests own) ≡ o → first_refusal (tests (coroutines_of_caller l)) ≡ o
  tests-found tests o e = ap (λ k. first_refusal (tests k)) (callers-found s l t h g) ∙ e

  refused-made : (tests : List (Bool × ℕ)) (made : SwitchChange) (v : List ℕ) (after : Regs) (code : ℕ) → first_refusal tests ≡ Some code → (v ≡ s) × (after ≡ r)
      → IsSwitched s v l after (Err code) (unless_refused tests l r made)
  refused-made tests made v after code e kept =
      subst (λ o. IsSwitched s v l after (Err code) (by_refusal o l r made)) (sym e)
      (subst (λ z. IsSwitched s z l after (Err code) (refused l r code)) (sym kept.0) (record { lists = changed-none s l h; regs = kept.1; answered = refl; same = λ a. refl }))

  accepted-made : (tests : List (Bool × ℕ)) (made : SwitchChange) (v : List ℕ) (after : Regs) → first_refusal tests ≡ None → IsSwitched s v l after (Ok tt) made
      → IsSwitched s v l after (Ok tt) (unless_refused tests l r made)
  accepted-made tests made v after e done = subst (λ o. IsSwitched s v l after (Ok tt) (by_refusal o l r made)) (sym e) done

  -- the caller goes on in x, and these are active then
  switch-made : (v : List ℕ) (after : Regs) (p pc x w : ℕ) (act : List ℕ) (change : TaskCoroutines → TaskCoroutines) (new : Pairs) → change own ≡ switched_to p pc act own
      → Built v t (coroutines_in s t) act → x ≡ first_active act 0 → Rewrites s v (words_of_coroutines t own) (words_of_coroutines t (change own)) new → after ≡ store.entered s t r x w
      → IsSwitched s v l after (Ok tt) (switched change w l r)
  switch-made v after p pc x w act change new becomes b goes rewrites regs =
      let members : AllByRecursion (λ c. is_one_of c own ≡ true) act =
      subst (λ ads. AllByRecursion (λ c. has c ads ≡ true) act) (b.list ∙ built.list) (subst (AllByRecursion (λ c. has c (coroutines_in v t) ≡ true)) b.active b.valid.members)
      in
      let had : AreValidCoroutines l (with_changed (switched_to p pc act) g.task) = switched-valid l g.task p pc act (callers-valid s l t h g) members (subst IsApart b.active b.valid.distinct) in
      let same : map address_of (change own).list ≡ coroutine_addresses g.task = ap (λ k. map address_of k.list) becomes ∙ addresses-framed (current_of own) p pc own.list in
      let changed : AreRewritten s v l (with_callers change l) =
      callers-rewritten s l t h g v change new same (subst (λ k. AreValidCoroutines l (record g.task { coroutines = k })) (sym becomes) had) rewrites
      in
      record {
        lists = changed.lists;
        regs =
            subst (λ k. after ≡ entered (current_of (change k)) w k r) (sym (callers-found s l t h g))
            (regs ∙ ap (λ z. store.entered s t r z w) goes ∙ regs-read s t own held (first_active act 0) w r (first-one act own members) ∙ ap (λ k. entered (current_of k) w own r) (sym becomes));
        answered = refl;
        same = changed.same;
      }

  -- ---- callco

  pub callco-made : (v : List ℕ) (after : Regs) (c w : ℕ) (answer : Result (Unit {0}) CoEnd) → answer ≡ reasons.idle_answer s t c
      → OnOk answer (v ≡ store.called s t r c) → OnOk answer (after ≡ store.entered s t r c w) → OnOk answer (active_in v t ≡ c ∷ active_in s t)
      → coroutines_in v t ≡ coroutines_in s t → HasCoroutines v t → OnErr answer ((v ≡ s) × (after ≡ r)) → IsSwitched s v l after (coded answer) (callco l r c w)
  callco-made v after c w (Ok u) is words regs active list had kept =
      accepted-made (idle_tests c (coroutines_of_caller l)) (switched (with_called c r.p r.pc) w l r) v after
      (tests-found (idle_tests c) None (answer_of-ok (first_refusal (idle_tests c own)) tt (ap coded is ∙ idle-coded s t own held c)))
      (switch-made v after r.p r.pc c w (c ∷ own.active) (with_called c r.p r.pc) _ refl (record { list = list; active = active ∙ ap (λ z. c ∷ z) built.active; valid = had }) refl
      (subst (λ z. CallExchange s z t own c r.p r.pc) (sym words) (call-answered s t own held r c (sym is))) regs)
  callco-made v after c w (Err e) is words regs active list had kept =
      refused-made (idle_tests c (coroutines_of_caller l)) (switched (with_called c r.p r.pc) w l r) v after (code_of e)
      (tests-found (idle_tests c) (Some (code_of e)) (answer_of-err (first_refusal (idle_tests c own)) (code_of e) (ap coded is ∙ idle-coded s t own held c))) kept

  -- ---- resumeco

  abbrev resumes : ℕ → ℕ → SwitchChange
  resumes c w = cond (eqb (current_of (coroutines_of_caller l)) c) (resumed_itself w l r) (switched (with_resumed c r.p r.pc) w l r)

  resumes-is : (c w : ℕ) (b : Bool) → eqb (current_of own) c ≡ b → resumes c w ≡ cond b (resumed_itself w l r) (switched (with_resumed c r.p r.pc) w l r)
  resumes-is c w b e = ap (λ z. cond z (resumed_itself w l r) (switched (with_resumed c r.p r.pc) w l r)) (ap (λ k. eqb (current_of k) c) (callers-found s l t h g) ∙ e)

  resume-on : (v : List ℕ) (after : Regs) (c w : ℕ) (b : Bool) → eqb (current_of own) c ≡ b → reasons.resume_answer s t c ≡ Ok tt
      → v ≡ store.resumed s t r c → after ≡ store.resumed_regs s t r c w → active_in v t ≡ c ∷ drop 1 (active_in s t)
      → coroutines_in v t ≡ coroutines_in s t → HasCoroutines v t → IsSwitched s v l after (Ok tt) (resumes c w)
  resume-on v after c w true e is words regs active list had =
      let test : eqb (current_in s t) c ≡ true = ap (λ z. eqb z c) held.coroutines.current ∙ e in
      subst (IsSwitched s v l after (Ok tt)) (sym (resumes-is c w true e))
      (subst (λ z. IsSwitched s z l after (Ok tt) (resumed_itself w l r)) (sym (words ∙ ap (λ b. cond b s (store.replaced s t r c)) test))
      (record { lists = changed-none s l h; regs = regs ∙ ap (λ b. cond b (handed w r) (store.entered s t r c w)) test; answered = refl; same = λ a. refl }))
  resume-on v after c w false e is words regs active list had =
      let test : eqb (current_in s t) c ≡ false = ap (λ z. eqb z c) held.coroutines.current ∙ e in
      subst (IsSwitched s v l after (Ok tt)) (sym (resumes-is c w false e))
      (switch-made v after r.p r.pc c w (c ∷ drop 1 own.active) (with_resumed c r.p r.pc) _ (ap (λ b. cond b own (switched_to r.p r.pc (c ∷ drop 1 own.active) own)) e)
      (record { list = list; active = active ∙ ap (λ z. c ∷ drop 1 z) built.active; valid = had }) refl
      (subst (λ z. ResumeExchange s z t own c r.p r.pc) (sym words) (resume-answered s t own held r c is))
      (regs ∙ ap (λ b. cond b (handed w r) (store.entered s t r c w)) test))

  pub resumeco-made : (v : List ℕ) (after : Regs) (c w : ℕ) (answer : Result (Unit {0}) CoEnd) → answer ≡ reasons.resume_answer s t c
      → OnOk answer (v ≡ store.resumed s t r c) → OnOk answer (after ≡ store.resumed_regs s t r c w) → OnOk answer (active_in v t ≡ c ∷ drop 1 (active_in s t))
      → coroutines_in v t ≡ coroutines_in s t → HasCoroutines v t → OnErr answer ((v ≡ s) × (after ≡ r)) → IsSwitched s v l after (coded answer) (resumeco l r c w)
  resumeco-made v after c w (Ok u) is words regs active list had kept =
      accepted-made (resume_tests c (coroutines_of_caller l)) (resumes c w) v after
      (tests-found (resume_tests c) None (answer_of-ok (first_refusal (resume_tests c own)) tt (ap coded is ∙ resume-coded s t own held c)))
      (resume-on v after c w (eqb (current_of own) c) refl (sym is) words regs active list had)
  resumeco-made v after c w (Err e) is words regs active list had kept =
      refused-made (resume_tests c (coroutines_of_caller l)) (resumes c w) v after (code_of e)
      (tests-found (resume_tests c) (Some (code_of e)) (answer_of-err (first_refusal (resume_tests c own)) (code_of e) (ap coded is ∙ resume-coded s t own held c))) kept

  -- ---- cowait, and a function that returned

  within-store : is_within own ≡ true → current_in s t ≢ 0
  within-store within e = false≢true (sym (ap (λ z. not (eqb z 0)) (sym held.coroutines.current ∙ e)) ∙ within)

  waits-made : (v : List ℕ) (after : Regs) (q qc p pc w : ℕ) (change : TaskCoroutines → TaskCoroutines) (new : Pairs) → is_within own ≡ true → change own ≡ switched_to p pc (drop 1 own.active) own
      → v ≡ store.waited s t q qc → after ≡ store.entered s t r (current_parent s t) w → active_in v t ≡ drop 1 (active_in s t)
      → coroutines_in v t ≡ coroutines_in s t → HasCoroutines v t → Rewrites s v (words_of_coroutines t own) (words_of_coroutines t (change own)) new
      → IsSwitched s v l after (Ok tt) (switched change w l r)
  waits-made v after q qc p pc w change new within becomes words regs active list had rewrites =
      let left : Built v t (coroutines_in s t) (drop 1 own.active) = record { list = list; active = active ∙ ap (drop 1) built.active; valid = had } in
      let parent : current_in v t ≡ current_parent s t =
      ap (λ z. current_in z t) words
      ∙ still-current s (store.switched s t q qc (current_parent s t)) t (current_in s t) 0 (current_parent s t) built.valid (current s t built.valid (within-store within)).known
      (switched-current s t q qc (current_parent s t) built.valid)
      in
      let first : current_in v t ≡ first_active (drop 1 own.active) 0 = current-first v t (drop 1 own.active) (subst (LeadsOut v t 0 (t + 18)) left.active left.valid.active) in
      switch-made v after p pc (current_parent s t) w (drop 1 own.active) change new becomes left (sym parent ∙ first) rewrites regs

  pub cowait-made : (v : List ℕ) (after : Regs) (w : ℕ) (answer : Result (Unit {0}) CoEnd) → answer ≡ reasons.wait_answer s t
      → OnOk answer (v ≡ store.waited s t r.p r.pc) → OnOk answer (after ≡ store.entered s t r (current_parent s t) w) → OnOk answer (active_in v t ≡ drop 1 (active_in s t))
      → coroutines_in v t ≡ coroutines_in s t → HasCoroutines v t → OnErr answer ((v ≡ s) × (after ≡ r)) → IsSwitched s v l after (coded answer) (cowait l r w)
  cowait-made v after w (Ok u) is words regs active list had kept =
      let none : first_refusal (wait_tests own) ≡ None = answer_of-ok (first_refusal (wait_tests own)) tt (ap coded is ∙ wait-coded s t own held) in
      accepted-made (wait_tests (coroutines_of_caller l)) (switched (with_waiting r.p r.pc) w l r) v after (tests-found wait_tests None none)
      (waits-made v after r.p r.pc r.p r.pc w (with_waiting r.p r.pc) _ (wait-passed s t own held none) refl words regs active list had
      (subst (λ z. WaitExchange s z t own r.p r.pc) (sym words) (wait-answered s t own held r.p r.pc (sym is))))
  cowait-made v after w (Err e) is words regs active list had kept =
      refused-made (wait_tests (coroutines_of_caller l)) (switched (with_waiting r.p r.pc) w l r) v after (code_of e)
      (tests-found wait_tests (Some (code_of e)) (answer_of-err (first_refusal (wait_tests own)) (code_of e) (ap coded is ∙ wait-coded s t own held))) kept

  pub ended-within : IsWithin l → current_in s t ≢ 0
  ended-within within = within-store (ap is_within (sym (callers-found s l t h g)) ∙ within)

  pub ended-made : (v : List ℕ) (after : Regs) → IsWithin l → v ≡ store.returned s t → after ≡ store.entered s t r (current_parent s t) r.a
      → active_in v t ≡ drop 1 (active_in s t) → coroutines_in v t ≡ coroutines_in s t → HasCoroutines v t → IsSwitched s v l after (Ok tt) (ended l r)
  ended-made v after within words regs active list had =
      waits-made v after (bottom (current_in s t)) (function_in s (current_in s t)) (bottom (current_of own)) (function_of (current_of own) own.list) r.a with_ended _
      (ap is_within (sym (callers-found s l t h g)) ∙ within) refl words regs active list had
      (subst (λ z. EndExchange s z t own) (sym words) (end-answered s t own held (ended-within within)))

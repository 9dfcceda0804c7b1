-- A coroutine is made or goes, and the caller goes on in another one.
use Rattle.std.proofs.Common.{◌≡◌, ◌≢◌, ℕ, ◌+◌, ◌||◌, not, drop, Bool, true, false, cond, eqb, eqb-true, Option, Some, None, Result, Ok, Err, List, [], ◌∷◌, get_or, length, refl, sym, ap, ◌∙◌}
use Rattle.std.proofs.lemmas.Bool.{false≢true, not-true}
use Rattle.word_store.specs.declared.registers.Regs.{Regs}
use Rattle.kernel_lists.specs.declared.getvec_chain.pieces.Run.{Run}
use Rattle.kernel_lists.specs.GetvecChain.Run.{first_run, need}
use Rattle.kernel_lists.specs.GetvecChain.Take.{IsTaken, taken_store}
use Rattle.kernel_lists.specs.GetvecChain.Tiling.{blocks_in}
use Rattle.kernel_lists.specs.TaskBlock.Lists.{coroutines_in}
use Rattle.kernel_lists.specs.Coroutines.Active.{active_in}
use Rattle.kernel_lists.specs.Coroutines.CoroutineExchanges.{TaskCoroutines}
use Rattle.kernel_lists.specs.Coroutines.Coroutines.{HasCoroutines}
use Rattle.kernel_lists.specs.Coroutines.CoroutineWords.{current_in}
use Rattle.kernel_lists.specs.Coroutines.Creation.{highest}
use Rattle.kernel_lists.specs.Coroutines.Refusals as reasons
use Rattle.kernel_lists.specs.Coroutines.Refusals.{has_parent, idle_answer, is_known, is_within, resume_answer, wait_answer}
use Rattle.kernel_lists.specs.Coroutines.Switch.{called, replaced, resumed, returned, waited}
use Rattle.kernel_lists.specs.declared.coroutine_lists.ends.CoEnd.{CoEnd}
use Rattle.kernel_lists.specs.declared.coroutine_lists.ends.CoEnd.TheVariants.{HasParent, NoParent, Unknown}
use Rattle.kernel_lists.proofs.Coroutines.ActiveChanges.{call-again, replace-again, wait-again}
use Rattle.kernel_lists.proofs.Coroutines.CoroutineLists.{Built}
use Rattle.kernel_lists.proofs.Coroutines.IdleAnswer.{idle}
use Rattle.kernel_lists.proofs.Coroutines.KnownCoroutines.{current}
use Rattle.kernel_model.specs.KernelRecord.HoldsLists.{HoldsLists}
use Rattle.kernel_model.specs.KernelRecord.Lists.{Lists}
use Rattle.kernel_model.specs.KernelRecord.ValidLists.{AreValid}
use Rattle.kernel_calls.specs.CallAnswers.Callers.{HasCaller}
use Rattle.kernel_calls.specs.CallAnswers.Guests.{GuestAt}
use Rattle.kernel_calls.specs.CallAnswers.CallChange.{done}
use Rattle.kernel_calls.specs.CallAnswers.Refusals.{answer_of, first_refusal}
use Rattle.kernel_calls.proofs.CallAnswers.RunningTask.{caller-at}
use Rattle.kernel_calls.specs.BlockCalls.Freevec.{has_packet_in}
use Rattle.kernel_calls.proofs.TaskCalls.TestsInTurn.{all-passed}
use Rattle.kernel_calls.specs.CoroutineCalls.CallCo.{callco, idle_tests}
use Rattle.kernel_calls.specs.CoroutineCalls.CallersCoroutines.{coroutines_of_caller}
use Rattle.kernel_calls.specs.CoroutineCalls.CoWait.{IsWithin, cowait, ended}
use Rattle.kernel_calls.specs.CoroutineCalls.CreateCo.{createco}
use Rattle.kernel_calls.specs.CoroutineCalls.DeleteCo.{delete_tests, deleteco, with_deleted_at}
use Rattle.kernel_calls.specs.CoroutineCalls.ResumeCo.{resumeco}
use Rattle.kernel_calls.proofs.CoroutineCalls.CallersTask.{callers-found, callers-held, callers-stood}
use Rattle.kernel_calls.proofs.CoroutineCalls.CodedAnswers.{IsIdle, idle-coded, idle-passed}
use Rattle.kernel_calls.proofs.CoroutineCalls.DeletedCoroutine.{block-there, coded-ok}
use Rattle.kernel_calls.proofs.CoroutineCalls.GoneCoroutine.{deleted-changed}
use Rattle.kernel_calls.proofs.CoroutineCalls.MadeCoroutine.{createco-made, createco-refused}
use Rattle.kernel_calls.proofs.CoroutineCalls.MadeSwitches.{callco-made, cowait-made, ended-made, ended-within, resumeco-made}
use Rattle.kernel_calls.proofs.CallAnswers.Refusals.{passed-tests}
use Rattle.tripos_machine.proofs.PacketHistory.NoKeeper.{no-keeper, tells_nothing}
use Rattle.tripos_machine.proofs.PacketHistory.TestedCalls.{unless-valid}

-- ---- the answers of calls that are accepted

is-within : (s : List ℕ) (t : ℕ) → is_within s t ≡ true → current_in s t ≢ 0
is-within s t within e = false≢true (sym (ap (λ z. not (eqb z 0)) e) ∙ within)

may-wait : (s : List ℕ) (t : ℕ) (u : Unit {0}) → Ok u ≡ wait_answer s t → current_in s t ≢ 0
may-wait s t u answer = on (is_within s t) refl answer
  where
    on : (b : Bool) → is_within s t ≡ b → Ok u ≡ reasons.first_refusal ((b, NoParent) ∷ []) → current_in s t ≢ 0
    on true within answer = is-within s t within
    on false within answer = cc

record MayResume (s : List ℕ) (t d : ℕ) : Type 0 where
  known : is_known s t d ≡ true
  within : current_in s t ≢ 0
  alone : eqb (current_in s t) d ≡ false → has_parent s t d ≡ false

may-resume : (s : List ℕ) (t d : ℕ) (u : Unit {0}) → Ok u ≡ resume_answer s t d → MayResume s t d
may-resume s t d u answer = on (is_known s t d) refl (is_within s t) refl (has_parent s t d) refl (eqb (current_in s t) d) refl answer
  where
    on : (k : Bool) → is_known s t d ≡ k → (w : Bool) → is_within s t ≡ w → (p : Bool) → has_parent s t d ≡ p → (q : Bool) → eqb (current_in s t) d ≡ q
        → Ok u ≡ reasons.first_refusal ((k, Unknown) ∷ (w, NoParent) ∷ (not p || q, HasParent) ∷ []) → MayResume s t d
    on true known true within true some true same answer = record { known = known; within = is-within s t within; alone = λ other. absurd (false≢true (sym other ∙ same)) }
    on true known true within true some false other answer = cc
    on true known true within false alone q e answer = record { known = known; within = is-within s t within; alone = λ other. alone }
    on true known false within p e q f answer = cc
    on false known w e p f q g answer = cc

module _ (s : List ℕ) (l : Lists) (h : HoldsLists s l) (c : HasCaller l) where
  abbrev t : ℕ
  t = get_or s 102 0

  g : GuestAt l l.running t
  g = caller-at s l h c

  abbrev own : TaskCoroutines
  own = g.task.coroutines

  stood : HasCoroutines s t
  stood = callers-stood s l t h g

  -- ---- the caller goes on in another one

  pub callco-valid : (r : Regs) (d v : ℕ) → AreValid (callco l r d v).lists
  callco-valid r d v = on (idle_answer s t d) refl
    where
      on : (o : Result (Unit {0}) CoEnd) → o ≡ idle_answer s t d → AreValid (callco l r d v).lists
      on (Ok u) is =
          let i = idle s t d u is in
          let b = call-again s t r d stood i.known i.alone in
          (callco-made s l t h g r (called s t r d) _ d v (Ok u) is refl refl b.active b.list b.valid tt).lists.lists.valid
      on (Err e) is = (callco-made s l t h g r s r d v (Err e) is tt tt tt refl stood (refl, refl)).lists.lists.valid

  pub resumeco-valid : (r : Regs) (d v : ℕ) → AreValid (resumeco l r d v).lists
  resumeco-valid r d v = on (resume_answer s t d) refl
    where
      again : MayResume s t d → (b : Bool) → eqb (current_in s t) d ≡ b → Built (cond b s (replaced s t r d)) t (coroutines_in s t) (d ∷ drop 1 (active_in s t))
      again m true same =
          let i = current s t stood m.within in
          let first : active_in s t ≡ d ∷ drop 1 (active_in s t) = i.active ∙ (λ k. eqb-true (current_in s t) d same k ∷ drop 1 (sym i.active k)) in
          record { list = refl; active = first; valid = stood }
      again m false other = replace-again s t r d stood m.within m.known (m.alone other)

      on : (o : Result (Unit {0}) CoEnd) → o ≡ resume_answer s t d → AreValid (resumeco l r d v).lists
      on (Ok u) is =
          let b = again (may-resume s t d u is) (eqb (current_in s t) d) refl in
          (resumeco-made s l t h g r (resumed s t r d) _ d v (Ok u) is refl refl b.active b.list b.valid tt).lists.lists.valid
      on (Err e) is = (resumeco-made s l t h g r s r d v (Err e) is tt tt tt refl stood (refl, refl)).lists.lists.valid

  pub cowait-valid : (r : Regs) (v : ℕ) → AreValid (cowait l r v).lists
  cowait-valid r v = on (wait_answer s t) refl
    where
      on : (o : Result (Unit {0}) CoEnd) → o ≡ wait_answer s t → AreValid (cowait l r v).lists
      on (Ok u) is =
          let b = wait-again s t r.p r.pc stood (may-wait s t u is) in
          (cowait-made s l t h g r (waited s t r.p r.pc) _ v (Ok u) is refl refl b.active b.list b.valid tt).lists.lists.valid
      on (Err e) is = (cowait-made s l t h g r s r v (Err e) is tt tt tt refl stood (refl, refl)).lists.lists.valid

  pub ended-valid : (r : Regs) → IsWithin l → AreValid (ended l r).lists
  ended-valid r within =
      let b = wait-again s t _ _ stood (ended-within s l t h g r within) in
      (ended-made s l t h g r (returned s t) _ within refl refl b.active b.list b.valid).lists.lists.valid

  -- ---- a coroutine is made

  pub createco-valid : (entry u : ℕ) → AreValid (createco l entry u).lists
  createco-valid entry u = on (first_run (need (highest u)) (blocks_in s)) refl
    where
      on : (o : Option Run) → first_run (need (highest u)) (blocks_in s) ≡ o → AreValid (createco l entry u).lists
      on None none = (createco-refused s tells_nothing l entry u h (λ _ _. tt) none).leaves.lists.lists.valid
      on (Some run) first =
          let taken : IsTaken s (taken_store s run (need (highest u))) (highest u) (run.start + 1) = record { run = run; first = first; front = refl; words = refl } in
          (createco-made s _ tells_nothing tells_nothing l t h g (run.start + 1) entry u (record { taken = taken_store s run (need (highest u)); block = taken; words = refl }) (λ _ _. tt) (λ _ _ _ _. tt)).leaves.lists.lists.valid

  -- ---- one goes

  pub deleteco-valid : (d : ℕ) → AreValid (deleteco l d).lists
  deleteco-valid d = unless-valid (delete_tests l d) l (done (with_deleted_at d l)) h.valid gone
    where
      packet : List (Bool × ℕ)
      packet = (not (has_packet_in l d), 24) ∷ []

      gone : first_refusal (delete_tests l d) ≡ None → AreValid (with_deleted_at d l)
      gone e =
          let parts = all-passed (idle_tests d (coroutines_of_caller l)) packet e in
          let none : first_refusal (idle_tests d own) ≡ None = ap (λ k. first_refusal (idle_tests d k)) (sym (callers-found s l t h g)) ∙ parts.0 in
          let held = callers-held s l t h g in
          let i : IsIdle s t own held d = idle-passed s t own held d none in
          let answer : idle_answer s t d ≡ Ok tt = coded-ok (idle_answer s t d) tt (sym (idle-coded s t own held d ∙ ap answer_of none)) in
          let block = block-there s tells_nothing (length s) l (no-keeper s l h) t g d answer in
          (deleted-changed s l t h g d i.known i.alone answer block.0 block.1 (not-true (has_packet_in l d) (passed-tests packet parts.1).0)).lists.valid

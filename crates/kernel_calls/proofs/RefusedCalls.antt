-- A refused call, by the first of its tests that fails.
use Rattle.std.proofs.Common.{◌≡◌, ℕ, List, [], cond, eqb, get_or, Bool, true, false, Some, refl, ap, ◌∙◌, arith, inl, inr}
use Rattle.std.proofs.lemmas.Bool.{cases_lt}
use Rattle.std.proofs.lemmas.List.{ext_get_or}
use Rattle.word_store.specs.declared.registers.Regs.{Regs}
use Rattle.kernel_lists.specs.OwnedWords.Owned.{owners, word_in}
use Rattle.kernel_lists.proofs.OwnedWords.OwnedWords.{word_in-holds}
use Rattle.kernel_model.specs.KernelRecord.ChangedStore.{IsChanged}
use Rattle.kernel_model.specs.KernelRecord.HoldsLists.{HoldsLists}
use Rattle.kernel_model.specs.KernelRecord.Lists.{Lists}
use Rattle.kernel_model.specs.KernelRecord.Owned.{owned}
use Rattle.kernel_calls.specs.CallAnswers.CallChange.{CallChange, by_refusal, done, unless_refused}
use Rattle.kernel_calls.specs.CallAnswers.Refusals.{first_refusal}
use Rattle.kernel_calls.specs.BlockCalls.Freevec.{freevec_tests, with_given}
use Rattle.kernel_calls.specs.Calls.{kernel_call, made, of_made, past_call, made_if_read}
use Rattle.kernel_calls.specs.Refusals.{IsRefused, refused, tests_of}
use Rattle.kernel_calls.specs.declared.call_numbers.KernelCall.{KernelCall}
use Rattle.kernel_calls.specs.declared.call_numbers.KernelCall.TheVariants.{AddModule, CallCo, ChangePri, CoWait, CreateCo, CreateTask, DeleteCo, DeleteTask, Dqpkt, Freevec, Getvec, Hold, MulDiv, Qpkt, Quit, Release, ResumeCo, SetFlags, TaskWait, TestFlags, Unload, Wrch}

module _ (s : List ℕ) (l : Lists) (r : Regs) (code : ℕ) where
  by-made : (tests : List (Bool × ℕ)) (m : CallChange) → first_refusal tests ≡ Some code → of_made (past_call r) (unless_refused tests l m) ≡ refused code l r
  by-made tests m e = ap (λ o. of_made (past_call r) (by_refusal o l m)) e

  by-freevec : (v : ℕ) (b : Bool) → first_refusal (cond b [] (freevec_tests l v)) ≡ Some code
      → of_made (past_call r) (cond b (done l) (unless_refused (freevec_tests l v) l (done (with_given v l)))) ≡ refused code l r
  by-freevec v true e = cc
  by-freevec v false e = by-made (freevec_tests l v) (done (with_given v l)) e

  made-refused : (call : KernelCall) → first_refusal (tests_of s l call) ≡ Some code → made s l (past_call r) call ≡ refused code l r
  made-refused (Quit result) e = cc
  made-refused (Getvec u) e = rw e refl
  made-refused (Freevec v) e = by-freevec v (eqb v 0) e
  made-refused (CreateTask m u pri) e = rw e refl
  made-refused (DeleteTask id) e = rw e refl
  made-refused (ChangePri id pri) e = rw e refl
  made-refused (SetFlags id flags) e = rw e refl
  made-refused (TestFlags mask) e = cc
  made-refused (Hold id) e = rw e refl
  made-refused (Release id) e = rw e refl
  made-refused TaskWait e = cc
  made-refused (Qpkt p) e = rw e refl
  made-refused (Dqpkt id p) e = rw e refl
  made-refused (Unload m) e = rw e refl
  made-refused (CreateCo fn u) e = rw e refl
  made-refused (DeleteCo c) e = rw e refl
  made-refused (CallCo c v) e = rw e refl
  made-refused (ResumeCo c v) e = rw e refl
  made-refused (CoWait v) e = rw e refl
  made-refused (Wrch ch) e = cc
  made-refused (MulDiv a b c) e = cc
  made-refused (AddModule id m) e = rw e refl

  pub call-refused : IsRefused s l r code → kernel_call s l r ≡ refused code l r
  unfolding kernel_call
  call-refused x = ap (made_if_read s l r) x.asked ∙ made-refused x.call x.failed

-- a store that holds the same lists, and in which no plain word has changed, is the same
pub same-store : (s t : List ℕ) (l : Lists) → HoldsLists s l → IsChanged s t l [] → t ≡ s
same-store s t l h x =
    ext_get_or 0 t s x.size
    (λ a low.
    elim (cases_lt 0 (owners a (owned l))) [
      | inl some ↦
          let now : word_in a (owned l) ≡ Some (get_or t a 0) = word_in-holds t a (owned l) x.written.holds some in
          let before : word_in a (owned l) ≡ Some (get_or s a 0) = word_in-holds s a (owned l) h.holds some in
          cc
      | inr few ↦ x.written.others a (omega (arith, few))
    ])

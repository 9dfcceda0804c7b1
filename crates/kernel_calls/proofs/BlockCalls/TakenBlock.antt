-- What the call that takes a block makes.
use Rattle.std.proofs.Common.{◌≡◌, ℕ, List, [], cond, Some, None, Ok, Err, sym, ap, ◌∙◌}
use Rattle.std.specs.Prelude.{is_some}
use Rattle.kernel_lists.specs.GetvecChain.Run.{first_run, need}
use Rattle.kernel_lists.specs.GetvecChain.Take.{IsTaken}
use Rattle.kernel_lists.specs.GetvecChain.Tiling.{blocks_in}
use Rattle.kernel_model.specs.KernelRecord.ChangedStore.{Knows}
use Rattle.kernel_model.specs.KernelRecord.HoldsLists.{HoldsLists}
use Rattle.kernel_model.specs.KernelRecord.Lists.{Lists}
use Rattle.kernel_calls.specs.CallAnswers.CallChange.{CallChange, IsMade}
use Rattle.kernel_calls.proofs.CallAnswers.FoundTask.{reads}
use Rattle.kernel_calls.proofs.CallAnswers.MadeCalls.{made-accepted, made-refused}
use Rattle.kernel_calls.specs.BlockCalls.FreeStore.{data_of_front, data_taken, with_taken}
use Rattle.kernel_calls.specs.BlockCalls.Getvec.{getvec, getvec_tests}
use Rattle.kernel_calls.proofs.BlockCalls.TakenStore.{HasTakenBlock, taken-changed}

module _ (s : List ℕ) (l : Lists) (u : ℕ) (h : HoldsLists s l) where
  abbrev made : CallChange
  made = record { answer = Ok (data_taken u l); lists = with_taken u l; plain = []; events = [] }

  pub getvec-refused : (tells : List ℕ → Type 0) → Knows tells l → first_run (need u) (blocks_in s) ≡ None → IsMade s s tells (Err 1) (getvec l u)
  getvec-refused tells knows none =
      made-refused s l (getvec_tests l u) made tells 1 h knows
      (ap (λ o. cond (is_some o) None (Some 1)) (ap (first_run (need u)) (sym (reads s l h).blocks) ∙ none))

  pub getvec-made : (t : List ℕ) (v : ℕ) (told : List ℕ → Type 0) → Knows told (with_taken u l) → IsTaken s t u v → IsMade s t told (Ok v) (getvec l u)
  getvec-made t v told knows is_taken =
      let b : HasTakenBlock s t l u v = taken-changed s t l u v h is_taken in
      made-accepted s l (getvec_tests l u) made t told (Ok v) (ap (λ o. cond (is_some o) None (Some 1)) b.first)
      (record { leaves = record { lists = b.changed; answered = ap Ok (b.front ∙ ap data_of_front (sym b.first)) }; knows = knows })

use Rattle.kernel_lists.specs.TaskBlock.TaskChain.{tasks_in}
use Rattle.kernel_model.specs.KernelRecord.Recovered.{lists_in, task_in}
use Rattle.store_claims.specs.AdoptionLaw.Passes.{HoldsTaskWords}
use Rattle.kernel_check.specs.ListPasses.Private.CanPass.{CanPass}
use Rattle.kernel_check.specs.ListPasses.Frames.{OwnsCoroutines}
use Rattle.kernel_check.proofs.ListPasses.ClaimedWalks.{IsGoing}
use Rattle.kernel_check.proofs.list_passes.head_pass.holds_words_of_tasks.Given as goal

abbrev pub invariant-loop-t : goal.invariant-loop-t
invariant-loop-t l = IsGoing (λ t. HoldsTaskWords l.store (lists_in l.store) (task_in l.store t)) (λ t. CanPass l.store t × OwnsCoroutines l.store t) l.t-iterator (tasks_in l.store)

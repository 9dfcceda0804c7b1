-- What a resident that answers a request leaves.
use Rattle.std.proofs.Common.{ℕ, Result, Ok, List, refl, sym, ◌∙◌}
use Rattle.kernel_model.proofs.KernelRecord.ChangedLists.{changed-then, knows-same}
use Rattle.kernel_model.specs.KernelRecord.Lists.{Lists}
use Rattle.kernel_calls.specs.CallAnswers.CallChange.{IsMade, minus_one}
use Rattle.resident_tasks.specs.ResidentRequests.Answers.{IsFinished, answered, finished, returned}
use Rattle.resident_tasks.specs.declared.resident_requests.requests.Request.{Request}

pub is-answered : (s t u : List ℕ) (tells : List ℕ → Type 0) (l : Lists) (r : Request) (answer : Result ℕ ℕ) → IsMade s t tells (Ok minus_one) (returned l r answer)
    → IsFinished t u (returned l r answer).lists → IsMade s u tells (Ok minus_one) (answered l r answer)
is-answered s t u tells l r answer made f =
    let m : Lists = (returned l r answer).lists in
    record {
      leaves = record { lists = changed-then s t u m (finished m) _ made.leaves.lists f.lists (λ a none. sym (f.same a) ∙ none); answered = refl };
      knows = knows-same tells m (finished m) f.same made.knows;
    }

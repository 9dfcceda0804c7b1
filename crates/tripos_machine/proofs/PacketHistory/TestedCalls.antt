-- A call that is refused leaves the lists as they are, so what it makes matters only where all of its tests hold.
use Rattle.std.proofs.Common.{◌≡◌, ℕ, Bool, Option, Some, None, List, refl}
use Rattle.kernel_model.specs.KernelRecord.Lists.{Lists, address_of_task}
use Rattle.kernel_model.specs.KernelRecord.ValidLists.{AreValid}
use Rattle.kernel_calls.specs.CallAnswers.Callers.{HasCaller}
use Rattle.kernel_calls.specs.CallAnswers.Guests.{GuestAt, guest_tests}
use Rattle.kernel_calls.specs.CallAnswers.CallChange.{CallChange, by_refusal, unless_refused}
use Rattle.kernel_calls.specs.CallAnswers.Refusals.{first_refusal}
use Rattle.kernel_calls.proofs.CallAnswers.Refusals.{guest-at, guest-parts}
use Rattle.kernel_calls.proofs.CallAnswers.RunningTask.{there-at}

pub unless-valid : (tests : List (Bool × ℕ)) (l : Lists) (m : CallChange) → AreValid l → (first_refusal tests ≡ None → AreValid m.lists) → AreValid (unless_refused tests l m).lists
unless-valid tests l m v made = on (first_refusal tests) refl
  where
    on : (o : Option ℕ) → first_refusal tests ≡ o → AreValid (by_refusal o l m).lists
    on None e = made e
    on (Some code) e = v

-- the guest that passes its tests
pub tested-guest : (l : Lists) (id : ℕ) → first_refusal (guest_tests l id) ≡ None → GuestAt l id (address_of_task l id)
tested-guest l id e = (let parts = guest-parts l id e in guest-at l id (address_of_task l id) (there-at id l.tasks parts.0) parts.1)

-- and the guest that calls
pub calling-guest : (l : Lists) → HasCaller l → GuestAt l l.running (address_of_task l l.running)
calling-guest l c = guest-at l l.running (address_of_task l l.running) (there-at l.running l.tasks c.there) c.guest

-- The turn of the file handler, and the disc after it.
use Rattle.std.proofs.Common.{◌≡◌, ℕ, Some, None, Result, List, ap, ◌∙◌, arith}
use Rattle.kernel_model.specs.KernelRecord.HoldsLists.{HoldsLists}
use Rattle.kernel_model.specs.KernelRecord.Lists.{Lists}
use Rattle.ram_disc.specs.Disc.{Disc}
use Rattle.resident_tasks.specs.ResidentRequests.Requests.{IsTaken, TakesRequest, first_request, taken, words_taken, work}
use Rattle.resident_tasks.specs.ResidentRequests.Turns.{service}
use Rattle.resident_tasks.specs.declared.resident_requests.requests.Request.{Request}
use Rattle.resident_tasks.proofs.ResidentRequests.ResidentTurns.{takes-request}
use Rattle.resident_tasks.specs.FileHandler.FileRequests.{file_request, handled}
use Rattle.resident_tasks.specs.FileHandler.FileTurn.{RunsFileHandler, disc_after, disc_after_turn, file_service, served}

-- the file handler may take its requests
pub handler-takes : (s : List ℕ) (l : Lists) → HoldsLists s l → RunsFileHandler l → TakesRequest l
handler-takes s l h f = takes-request l h.valid f.runs (λ e. absurd (omega (arith, e, f.is))) (λ e. absurd (omega (arith, e, f.is)))

module _ (d : Disc) (s t : List ℕ) (tells : List ℕ → Type 0) (l : Lists) where
  pub disc-served : (r : Request) (after : Disc) (answer : Result ℕ ℕ) (bytes : List ℕ) → IsTaken s t tells l (Some r) → handled after answer bytes ≡ file_request d t (taken l).lists r → after ≡ disc_after_turn d s l
  disc-served r after answer bytes x e =
      ap (λ h. h.disc) e
      ∙ ap (λ z. (file_request d z (taken l).lists r).disc) x.words
      ∙ ap (λ o. disc_after o d (words_taken s l) (taken l).lists) (x.request ∙ ap (λ z. first_request z (work l)) x.words)

  pub disc-idle : IsTaken s t tells l None → d ≡ disc_after_turn d s l
  disc-idle x = ap (λ o. disc_after o d (words_taken s l) (taken l).lists) (x.request ∙ ap (λ z. first_request z (work l)) x.words)

-- what the code made of a request is what the definition makes of it
pub told : (d : Disc) (t : List ℕ) (m : Lists) (r : Request) (after : Disc) (answer : Result ℕ ℕ) (bytes piece : List ℕ) → piece ≡ bytes → handled after answer bytes ≡ file_request d t m r
    → service answer r.second piece ≡ file_service d t m r
told d t m r after answer bytes piece e f = ap (service answer r.second) e ∙ ap (served r) f

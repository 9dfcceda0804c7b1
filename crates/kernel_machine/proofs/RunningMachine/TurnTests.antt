-- What the tests of a turn read in the store.
use Rattle.std.proofs.Common.{◌≡◌, ◌≢◌, ℕ, ◌+◌, ◌&&◌, List, [], ◌∷◌, true, false, not, Option, Some, None, eqb, get_or, leb, sym, ap, ◌∙◌}
use Rattle.std.specs.Prelude.{is_some}
use Rattle.std.specs.List.{AllByRecursion}
use Rattle.std.proofs.lemmas.Bool.{eq-eqb, ne_eqb}
use Rattle.kernel_lists.specs.TaskBlock.TaskChain.{task_with, tasks_in}
use Rattle.kernel_lists.specs.PacketQueue.QueueWords.{QueuedPacket, address_of, packet_words}
use Rattle.kernel_model.specs.KernelRecord.HoldsLists.{HoldsLists}
use Rattle.kernel_model.specs.KernelRecord.Lists.{Lists, has_task}
use Rattle.kernel_model.specs.KernelRecord.Recovered.{lists_in}
use Rattle.kernel_model.specs.KernelRecord.ValidQueues.Place.{Work}
use Rattle.kernel_model.proofs.KernelRecord.EachMember.{holds-each}
use Rattle.kernel_model.proofs.KernelRecord.RecoveredLists.{lists-back}
use Rattle.kernel_model.proofs.KernelRecord.WalkedLists.{residents-read}
use Rattle.kernel_calls.proofs.CallAnswers.FoundTask.{Finds, find-task, found-there}
use Rattle.kernel_calls.specs.PacketCalls.TaskWait.{first_of_queue}
use Rattle.kernel_calls.proofs.PacketCalls.HeldPlaces.{held-at}
use Rattle.resident_tasks.specs.ResidentRequests.Requests.{RunsResident, work}
use Rattle.kernel_machine.specs.KernelSteps.ResidentSteps.{is_for_pipes, serves_pipes}

module _ (s : List ℕ) (l : Lists) (h : HoldsLists s l) where
  -- whether there are residents
  pub no-residents : get_or s 112 0 ≡ 0 → l.residents ≡ false
  no-residents e = sym (residents-read s l h) ∙ ap (λ w. not (eqb w 0)) e

  pub some-residents : get_or s 112 0 ≢ 0 → l.residents ≡ true
  some-residents ne = sym (residents-read s l h) ∙ ap not (ne_eqb (get_or s 112 0) 0 ne)

  -- whether a task reports faults
  pub reporter-told : is_some (task_with s 2 (tasks_in s)) ≡ has_task 2 l.tasks
  reporter-told = on (task_with s 2 (tasks_in s)) (find-task s l 2 h)
    where
      on : (o : Option ℕ) → Finds 2 l.tasks o → is_some o ≡ has_task 2 l.tasks
      on None none = sym none
      on (Some a) t = sym (found-there l 2 a t)

  version-told : get_or s 111 0 ≡ l.version
  unfolding lists_in
  version-told = ap (λ m. m.version) (lists-back s l h.valid h.size h.holds)

  -- whether the first request is one for a pipe
  pub other-version : get_or s 111 0 ≢ 2 → false ≡ serves_pipes l
  other-version ne = sym (ap (λ b. b && is_for_pipes (work l)) (ne_eqb l.version 2 (λ e. ne (version-told ∙ e))))

  module _ (r : RunsResident l) where
    kinds : AllByRecursion (λ q. get_or s (q.address + 2) 0 ≡ q.kind) (work l)
    kinds = holds-each address_of packet_words s (λ q. get_or s (q.address + 2) 0 ≡ q.kind) (λ q n own. own.1.1.0) (work l) 0 (held-at s l (Work l.running) h r.there).holds.1

    pub pipes-told : (p : ℕ) → get_or s 111 0 ≡ 2 → Some p ≡ first_of_queue (work l) → serves_pipes l ≡ (leb 20 (get_or s (p + 2) 0) && leb (get_or s (p + 2) 0) 23)
    pipes-told p second first =
        ap (λ b. b && is_for_pipes (work l)) (eq-eqb l.version 2 (sym version-told ∙ second)) ∙ on (work l) kinds first
      where
        on : (ps : List QueuedPacket) → AllByRecursion (λ q. get_or s (q.address + 2) 0 ≡ q.kind) ps → Some p ≡ first_of_queue ps → is_for_pipes ps ≡ (leb 20 (get_or s (p + 2) 0) && leb (get_or s (p + 2) 0) 23)
        on [] all e = cc
        on (q ∷ qs) all e =
            let same : p ≡ q.address = cc in
            ap (λ k. leb 20 k && leb k 23) (sym all.0 ∙ ap (λ a. get_or s (a + 2) 0) (sym same))

-- A module goes out, or a task gets one more.
use Rattle.std.proofs.Common.{◌≡◌, ℕ, ◌+◌, not, length, true, false, None, Ok, List, [], ◌∷◌, ◌++◌, refl, sym, ap, ◌∙◌, subst, arith}
use Rattle.std.specs.List.{AllByRecursion}
use Rattle.std.proofs.lemmas.Bool.{not-true}
use Rattle.kernel_lists.specs.LinkedList.Places.{has}
use Rattle.kernel_lists.specs.HunkLoader.Globals.{globals_in}
use Rattle.kernel_model.specs.KernelRecord.Changes.{AreUnowned, with_modules, with_task}
use Rattle.kernel_model.specs.KernelRecord.HoldsLists.{HoldsLists}
use Rattle.kernel_model.specs.KernelRecord.Lists.{Lists, address_of_task}
use Rattle.kernel_model.specs.KernelRecord.ValidLists.{AreValid}
use Rattle.kernel_model.proofs.KernelRecord.AllThings.{all-fail}
use Rattle.kernel_model.proofs.KernelRecord.ModuleMoves.{gone_module-unowned, gone_module-valid}
use Rattle.kernel_model.proofs.KernelRecord.UnownedBlocks.{unowned-user}
use Rattle.kernel_calls.specs.CallAnswers.Guests.{GuestAt, guest_tests}
use Rattle.kernel_calls.specs.CallAnswers.CallChange.{done}
use Rattle.kernel_calls.specs.CallAnswers.Modules.{has_module}
use Rattle.kernel_calls.specs.CallAnswers.Refusals.{first_refusal}
use Rattle.kernel_calls.specs.BlockCalls.Freevec.{has_packet_in, holds_packet, with_given}
use Rattle.kernel_calls.proofs.TaskCalls.TestsInTurn.{all-passed}
use Rattle.kernel_calls.specs.ModuleCalls.AddModule.{add_module, addition_tests, check_tests, global_words, globals_of_task, has_packet_in_globals, modules_so_far, task_of, with_further}
use Rattle.kernel_calls.specs.ModuleCalls.UnloadModule.{is_in_use, unload_module, unload_tests, without_module}
use Rattle.kernel_calls.proofs.ModuleCalls.AddedModule.{added-changed}
use Rattle.kernel_calls.proofs.ModuleCalls.AdditionTests.{IsChecked, checks-passed, room-is}
use Rattle.kernel_calls.proofs.ModuleCalls.GoneModule.{ModuleAt, block, own_block, place}
use Rattle.kernel_calls.proofs.CallAnswers.Refusals.{passed-tests}
use Rattle.tripos_machine.proofs.PacketHistory.BlockCalls.{given-back-valid}
use Rattle.tripos_machine.proofs.PacketHistory.TestedCalls.{tested-guest, unless-valid}

module _ (s : List ℕ) (l : Lists) (h : HoldsLists s l) where
  pub unload-valid : (m : ℕ) → AreValid (unload_module l m).lists
  unload-valid m = unless-valid (unload_tests l m) l (done (with_given m (without_module m l))) h.valid (λ e. let ok = passed-tests (unload_tests l m) e in gone ok.0 (not-true _ ok.1.0) (not-true _ ok.1.1.0))
    where
      gone : has_module l m ≡ true → is_in_use l m ≡ false → has_packet_in l m ≡ false → AreValid (with_given m (without_module m l))
      gone there unused empty =
          let p : ModuleAt l.modules m = place s l m h there in
          let after : Lists = with_modules (p.front ++ p.back) l in
          let valid : AreValid after =
          gone_module-valid l p.front p.back p.it h.valid p.is (subst (λ a. AllByRecursion (λ t. has a t.modules ≡ false) l.tasks) (sym p.at) (all-fail (λ t. has m t.modules) l.tasks unused))
          in
          let unowned : AreUnowned after m (m + 2 + length p.it.lengths) =
          subst (λ a. AreUnowned after a (a + 2 + length p.it.lengths)) p.at (gone_module-unowned l p.front p.back p.it h.valid p.is)
          in
          let used = (block s l m h there).block in
          subst (λ ms. AreValid (with_given m (with_modules ms l))) (sym p.others)
          (given-back-valid after m (own_block s l m h there) valid used (unowned-user after m valid (unowned m (omega arith) (omega arith)))
          (ap (holds_packet after) used ∙ sym (ap (holds_packet l) used) ∙ empty))

  pub add_module-valid : (id m : ℕ) → AreValid (add_module s l id m).lists
  add_module-valid id m =
      unless-valid (addition_tests s l id m) l
      (record {
        answer = Ok (modules_so_far (task_of id l) + 1);
        lists = with_task id (with_further m) l;
        plain = global_words (globals_of_task id l) (globals_in s m);
        events = [];
      }) h.valid added
    where
      added : first_refusal (addition_tests s l id m) ≡ None → AreValid (with_task id (with_further m) l)
      added e =
          let guest = all-passed (guest_tests l id) (check_tests s l id m ++ (not (has_packet_in_globals l id), 7) ∷ []) e in
          let c : IsChecked l id m = checks-passed s l id m (all-passed (check_tests s l id m) ((not (has_packet_in_globals l id), 7) ∷ []) guest.1).0 in
          let g : GuestAt l id (address_of_task l id) = tested-guest l id guest.0 in
          (added-changed s l id (address_of_task l id) m (length g.task.modules) h g c.there refl (room-is s l id (address_of_task l id) h g c.room)).lists.valid

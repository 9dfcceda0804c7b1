-- The parts of a machine once files or tasks of the lines are in it.
use Rattle.std.proofs.Common.{◌≡◌, ℕ, List, length, Bool, Result, Ok, Err, refl, sym, ap, ◌∙◌}
use Rattle.ram_disc.specs.Disc.{Disc}
use Rattle.session_text.specs.declared.sessions.SessionLine.{SessionLine}
use Rattle.kernel_model.specs.KernelRecord.ChangedStore.{HasKeeper}
use Rattle.kernel_model.specs.KernelRecord.Image.{image}
use Rattle.kernel_model.specs.KernelRecord.Kernel.{Kernel}
use Rattle.kernel_model.specs.KernelRecord.Lists.{Lists}
use Rattle.kernel_model.proofs.KernelRecord.ImageWords.{image-list}
use Rattle.kernel_model.specs.WordKinds.ByteMap.{MarksAll}
use Rattle.guest_turns.specs.GuestTurn.{numbers_of}
use Rattle.kernel_boot.specs.BootFiles.{IsNewDisc, load_files}
use Rattle.kernel_boot.specs.BootTasks.{IsLeft, start_tasks}
use Rattle.kernel_model.specs.KernelRecord.StoreWithLists.{StoreWithLists, store_with_lists}
use Rattle.kernel_boot.specs.declared.refusals.BootRefusal.{BootRefusal}
use Rattle.module_text.specs.TextReader.Steps.{◌>>=◌}
use Rattle.kernel_machine.specs.KernelSteps.ResidentSteps.{with_disc}
use Rattle.kernel_machine.specs.KernelSteps.Stepped.{with_store}
use Rattle.kernel_machine.proofs.KernelSteps.StoredWords.{HasStore, stored}
use Rattle.kernel_machine.specs.declared.running_machine.parts.Parts.{Parts}
use Rattle.kernel_machine.specs.RunningMachine.RepresentedKernels.{RepresentsKernel}
use Rattle.kernel_machine.proofs.RunningMachine.PartsBeside.{represents-beside}
use Rattle.kernel_machine.specs.MachineBoot.Boot.{with_files, with_lines, with_store_of, with_tasks}
use Rattle.kernel_machine.specs.MachineBoot.Booted.{CanStart, IsReached}
use Rattle.kernel_machine.proofs.MachineBoot.ReadyTasks.{IsReady, tasks-ready}

module _ (p : Parts) (k : Kernel) (h : RepresentsKernel p k) (lines : List SessionLine) where
  -- ---- the files

  pub files-reached : (d : Disc) (r : Result (Unit {0}) BootRefusal) → IsNewDisc d r (load_files p.disc lines) → IsReached (record p { disc = d }) r (with_files lines k)
  unfolding with_files
  files-reached d (Ok u) is =
      (with_disc d k, ap (λ e. load_files e lines >>= (λ d. Ok (with_disc d k))) (sym h.disc) ∙ ap (λ x. x >>= (λ d. Ok (with_disc d k))) is, represents-beside p k h h.console h.shell refl h.pipes)
  files-reached d (Err refusal) is =
      ap (λ e. load_files e lines >>= (λ d. Ok (with_disc d k))) (sym h.disc) ∙ ap (λ x. x >>= (λ d. Ok (with_disc d k))) is

  -- ---- the tasks

  -- the numbers of the lists stay, and their size
  ready-kept : CanStart lines k → (x : StoreWithLists) → start_tasks k.disc lines (store_with_lists (image k) k.lists) ≡ Ok x → IsReady (numbers_of k.lists) k.lists.size x.lists
  ready-kept can x is =
      let before : IsReady (numbers_of k.lists) k.lists.size k.lists = record { numbers = refl; size = refl; fresh = can.fresh } in
      tasks-ready (numbers_of k.lists) k.lists.size k.lists.version k.disc lines (store_with_lists (image k) k.lists) x can.may_start is before

  module _ (t : List ℕ) (kinds : List Bool) (room : length kinds ≡ length p.kinds) where
    left-represents : (l : Lists) → IsReady (numbers_of k.lists) k.lists.size l → HasKeeper t (MarksAll kinds) (length kinds) l → RepresentsKernel (record p { store = t; kinds = kinds }) (with_store t l k)
    left-represents l ready keeper =
        let store : HasStore t (with_store t l k) = stored t l k keeper.lists in
        record {
          keeper = keeper;
          marks = room ∙ h.marks ∙ h.keeper.lists.size ∙ sym ready.size ∙ sym keeper.lists.size;
          image = store.image;
          plain = store.plain;
          regs = h.regs;
          type_ahead = h.type_ahead;
          disc = h.disc;
          console = h.console;
          shell = h.shell;
          pipes = h.pipes;
          keys = h.keys;
          steps = h.steps;
          period = h.period ∙ sym (ap (λ n. n.period) ready.numbers);
        }

    pub tasks-reached : (r : Result (Unit {0}) BootRefusal) → CanStart lines k → IsLeft t (MarksAll kinds) (length kinds) r (start_tasks p.disc lines (store_with_lists p.store k.lists)) → IsReached (record p { store = t; kinds = kinds }) r (with_tasks lines k)
    unfolding with_tasks
    tasks-reached (Ok u) can left =
        let is : start_tasks k.disc lines (store_with_lists (image k) k.lists) ≡ Ok (store_with_lists t left.0) =
        (λ i. start_tasks (sym h.disc i) lines (store_with_lists (sym (image-list p.store k h.image) i) k.lists)) ∙ left.1 in
        (with_store t left.0 k, ap (λ x. x >>= (λ y. Ok (with_store_of y k))) is, left-represents left.0 (ready-kept can (store_with_lists t left.0) is) left.2)
    tasks-reached (Err refusal) can left =
        ap (λ x. x >>= (λ y. Ok (with_store_of y k))) ((λ i. start_tasks (sym h.disc i) lines (store_with_lists (sym (image-list p.store k h.image) i) k.lists)) ∙ left)

-- ---- the lines

-- the tasks come behind the files
pub lines-then : (lines : List SessionLine) (k j : Kernel) → with_files lines k ≡ Ok j → with_lines lines k ≡ with_tasks lines j
unfolding with_lines
lines-then lines k j is = ap (λ x. x >>= with_tasks lines) is

pub lines-refused : (lines : List SessionLine) (k : Kernel) (refusal : BootRefusal) → with_files lines k ≡ Err refusal → with_lines lines k ≡ Err refusal
unfolding with_lines
lines-refused lines k refusal is = ap (λ x. x >>= with_tasks lines) is

-- what was not refused was reached
pub reached-kernel : (p : Parts) (r : Result (Unit {0}) BootRefusal) (reached : Result Kernel BootRefusal) → ((refusal : BootRefusal) → r ≡ Err refusal → ⊥) → IsReached p r reached
    → (k : Kernel) × (reached ≡ Ok k) × RepresentsKernel p k
reached-kernel p (Ok u) reached never h = h
reached-kernel p (Err refusal) reached never h = absurd (never refusal refl)

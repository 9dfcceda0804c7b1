use Rattle.std.proofs.Common.{◌≡◌, sym, ap, subst, ◌∙◌}
use Rattle.kernel_model.specs.KernelRecord.KernelRanges.{CanWalkLists}
use Rattle.kernel_machine.specs.declared.running_machine.parts.Parts.{Parts}
use Rattle.debugger.proofs.MachineHistory.ReturnedParts.{files-store}
use Rattle.debugger.proofs.machine_history.returns.full_back.Goals as goal
use Rattle.debugger.proofs.machine_history.returns.full_back.Goals.{in-None-1, in-Some, in-Some+in-Bare-1, in-Some-Full, in_default-files}

pub rebuild-requires : goal.rebuild-requires
rebuild-requires c =
    let undone : c.match-undo.parts.store ≡ c.undo.new.store =
    elim c.match-undo.branch [
      | in-Some-Full w ↦ ap (λ (p : Parts). p.store) w.parts-is ∙ ap (λ (p : Parts). p.store) w.restore.ensures
      | in-Some+in-Bare-1 w ↦ ap (λ (p : Parts). p.store) w.parts-is
      | in-None-1 w ↦ ap (λ (p : Parts). p.store) w.parts-is
    ] in
    let left : c.match-files.parts.store ≡ c.match-undo.parts.store =
    elim c.match-files.branch [
      | in-Some w ↦ ap (λ (p : Parts). p.store) w.parts-is ∙ ap (λ (p : Parts). p.store) w.restore_files.ensures.parts ∙ files-store _ _
      | in_default-files w ↦ ap (λ (p : Parts). p.store) w.parts-is
    ] in
    subst CanWalkLists (sym (left ∙ undone ∙ c.undo.ensures.store)) c.requires.walk

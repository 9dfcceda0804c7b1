use Rattle.std.proofs.Common.{◌∙◌, ap, sym}
use Rattle.kernel_model.proofs.KernelRecord.ImageWords.{image-list}
use Rattle.tripos_machine.specs.Machine.{MachineView, view_of}
use Rattle.tripos_machine.specs.State.{words_of}
use Rattle.tripos_machine.proofs.machine.Machine.store.Goals as goal

pub returns-in-Full : goal.returns-in-Full
returns-in-Full c =
    image-list _ _ c.parts-in-Full.ensures.represents.image ∙ sym (ap (λ k. words_of (view_of k).state) c.in-Full.is) ∙ ap (λ (v : MachineView). words_of v.state) c.self.view_is

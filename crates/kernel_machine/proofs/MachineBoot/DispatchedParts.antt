-- The parts of a machine once the first ready task runs.
use Rattle.std.proofs.Common.{◌≡◌, ℕ, Bool, List, length, Option, sym, ap, ◌∙◌, subst, arith}
use Rattle.word_store.specs.declared.registers.Regs.{Regs}
use Rattle.kernel_lists.specs.declared.packet_queue.events.KernelEvent.{KernelEvent}
use Rattle.kernel_model.specs.KernelRecord.Image.{HasPlainWords, IsImage, image, settled}
use Rattle.kernel_model.specs.KernelRecord.Kernel.{Kernel}
use Rattle.kernel_model.proofs.KernelRecord.ImageWords.{image-list}
use Rattle.kernel_model.proofs.KernelRecord.SettledWords.{settled-image, settled-plain}
use Rattle.kernel_model.specs.KernelDispatch.Dispatch.{DispatchChange, dispatched}
use Rattle.kernel_model.specs.KernelDispatch.Turn.{IsDispatched}
use Rattle.kernel_model.specs.WordKinds.ByteMap.{MarksAll}
use Rattle.kernel_machine.specs.KernelSteps.Step.{dispatch}
use Rattle.kernel_machine.proofs.KernelSteps.DispatchKept.{dispatch-numbers}
use Rattle.kernel_machine.specs.declared.running_machine.parts.Parts.{Parts}
use Rattle.kernel_machine.specs.RunningMachine.RepresentedKernels.{RepresentsKernel}

module _ (p : Parts) (k : Kernel) (h : RepresentsKernel p k) (t : List ℕ) (regs : Regs) (kinds : List Bool) (before now : Option (List KernelEvent)) (f g : Bool)
    (room : length kinds ≡ length p.kinds) (left : IsDispatched p.store t k.lists p.regs regs (MarksAll kinds) before now f g) where
  abbrev m : DispatchChange
  m = dispatched (image k) k.lists k.regs

  is : IsDispatched (image k) t k.lists k.regs regs (MarksAll kinds) before now f g
  is =
      subst (λ s. IsDispatched s t k.lists k.regs regs (MarksAll kinds) before now f g) (image-list p.store k h.image)
      (subst (λ r. IsDispatched p.store t k.lists r regs (MarksAll kinds) before now f g) h.regs left)

  words : IsImage (image k) k
  words = subst (λ s. IsImage s k) (image-list p.store k h.image) h.image

  after : IsImage t (settled m.plain k m.lists)
  after =
      settled-image (image k) t k m.lists m.plain words (omega (arith, is.lists.lists.size, is.lists.size, words.size)) is.lists.lists.valid.owns is.lists.size
      is.lists.written

  plain : HasPlainWords (settled m.plain k m.lists)
  plain = settled-plain k m.lists m.plain is.lists.lists.valid.owns

  pub dispatched-represents : RepresentsKernel (record p { store = t; regs = regs; kinds = kinds }) (dispatch k).kernel
  unfolding dispatch settled
  dispatched-represents = record {
    keeper = record { lists = is.lists.lists; knows = is.knows; enough = omega (arith, room, is.lists.size, ap length (image-list p.store k h.image), h.keeper.enough) };
    marks = room ∙ h.marks ∙ ap length (image-list p.store k h.image) ∙ sym is.lists.size;
    image = record { size = after.size; holds = after.holds; plain = after.plain };
    plain = record { size = plain.size; plain = plain.plain; owned = plain.owned };
    regs = is.regs;
    type_ahead = h.type_ahead;
    disc = h.disc;
    console = h.console;
    shell = h.shell;
    pipes = h.pipes;
    keys = h.keys;
    steps = h.steps;
    period = h.period ∙ sym (ap (λ n. n.period) (dispatch-numbers (image k) k.lists k.regs));
  }

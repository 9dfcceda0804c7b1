-- The machine that was saved.
use Rattle.std.proofs.Common.{◌≡◌, ◌+◌, ◌&&◌, Bool, true, false, cond, ltb, refl, sym, ap, ◌∙◌, subst, arith, length}
use Rattle.std.proofs.lemmas.Bool.{and_parts, leb-true, ltb-true}
use Rattle.store_claims.specs.AdoptionLaw.Adoption.{StoreRepresentsKernel, kernel_in}
use Rattle.store_claims.proofs.AdoptionLaw.OneKernel.{one-kernel-in}
use Rattle.kernel_model.specs.KernelRecord.HoldsLists.{HoldsLists}
use Rattle.kernel_model.specs.KernelRecord.Image.{IsImage}
use Rattle.kernel_model.specs.KernelRecord.Kernel.{Kernel}
use Rattle.kernel_model.specs.KernelRecord.Ranges.{most_steps}
use Rattle.kernel_model.specs.KernelRecord.ValidKernel.{IsValid}
use Rattle.kernel_model.proofs.KernelRecord.ImageWords.{image-list}
use Rattle.bare_machine.proofs.WordCounts.{any-size}
use Rattle.bare_machine.specs.State.{BareState, going}
use Rattle.kernel_machine.specs.RunningMachine.Script.{still_to_come}
use Rattle.kernel_machine.specs.RunningMachine.RepresentedKernels.{RepresentsKernel}
use Rattle.kernel_machine.specs.declared.running_machine.parts.Parts.{Parts}
use Rattle.tripos_machine.specs.State.{IsSound, State, regs_of, steps_of, words_of}
use Rattle.tripos_machine.specs.State.State.{Bare, Full}
use Rattle.saved_text.specs.Canonical.{IsLawful, IsLawfulMachine}
use Rattle.saved_text.specs.ImageForm.{IsBare}
use Rattle.saved_text.specs.declared.images.Image.{Image}
use Rattle.saved_machine.specs.MachineImage.Machines.{AreParts, IsMachineOf, IsOfKind, state_in}
use Rattle.saved_machine.specs.MachineImage.Parts.{others_of}
use Rattle.kernel_model.proofs.WordKinds.KnownWords.{store-known}

-- ---- a bare machine

module _ (x : Image) (bare : x.bare ≡ true) (lawful : IsLawful x) where
  pub bare-sound : IsSound (Bare (going x.store x.regs x.step))
  bare-sound =
      let r = x.regs in
      let pc = and_parts (ltb r.a 4294967296 && ltb r.b 4294967296 && ltb r.c 256 && ltb r.p 4294967296 && ltb r.g 4294967296) (ltb r.pc 4294967296) lawful.regs in
      let g = and_parts (ltb r.a 4294967296 && ltb r.b 4294967296 && ltb r.c 256 && ltb r.p 4294967296) (ltb r.g 4294967296) pc.0 in
      let p = and_parts (ltb r.a 4294967296 && ltb r.b 4294967296 && ltb r.c 256) (ltb r.p 4294967296) g.0 in
      let c = and_parts (ltb r.a 4294967296 && ltb r.b 4294967296) (ltb r.c 256) p.0 in
      (ltb-true r.c 256 c.1, omega (arith, leb-true (x.step + x.go) most_steps lawful.steps), any-size x.version (length x.store) lawful.size)

  pub bare-form : IsBare x
  bare-form = subst (λ b. IsLawfulMachine b x) bare lawful.machine

  pub bare-machine : (s : State) → s ≡ Bare (going x.store x.regs x.step) → IsMachineOf x s
  bare-machine s is = subst (λ b. IsOfKind b x s) (sym bare) (subst (IsOfKind true x) (sym is) refl)

-- ---- a machine with a kernel

-- the parts stand for the kernel
pub parts-represent : (x : Image) (p : Parts) (k : Kernel) → AreParts x p → IsValid k → StoreRepresentsKernel x.store (others_of x) k → RepresentsKernel p k
parts-represent x p k m v st =
    let held : HoldsLists x.store k.lists = record { valid = v.lists; size = st.image.size; holds = st.image.holds } in
    record {
      keeper =
          record {
            lists = subst (λ s. HoldsLists s k.lists) (sym m.store) held;
            knows = λ known same. m.marked known k.lists (store-known x.store known k.lists held same);
            enough = omega (arith, m.marks, ap length m.store);
          };
      marks = m.marks ∙ sym (ap length m.store);
      image = subst (λ s. IsImage s k) (sym m.store) st.image;
      plain = v.plain;
      regs = m.regs ∙ sym st.regs;
      type_ahead = m.type_ahead ∙ sym st.type_ahead;
      disc = m.disc ∙ sym st.disc;
      console = m.console ∙ sym st.console;
      shell = m.shell ∙ sym st.shell;
      pipes = m.pipes ∙ sym st.pipes;
      keys = ap still_to_come m.keys ∙ sym st.keys;
      steps = m.steps ∙ sym st.steps;
      period = m.period ∙ sym st.period;
    }

pub full-machine : (x : Image) (s : State) (k : Kernel) → x.bare ≡ false → IsValid k → StoreRepresentsKernel x.store (others_of x) k → s ≡ Full k → IsMachineOf x s
full-machine x s k full v st is = subst (λ b. IsOfKind b x s) (sym full) (subst (IsOfKind false x) (sym is) (v, st))

-- ---- the law

module _ (x : Image) where
  which-of-kind : (b : Bool) (s : State) → IsOfKind b x s → s ≡ cond b (Bare (going x.store x.regs x.step)) (Full (kernel_in x.store (others_of x)))
  which-of-kind true (Bare m) is = ap Bare is
  which-of-kind true (Full k) is = absurd is
  which-of-kind false (Bare m) is = absurd is
  which-of-kind false (Full k) is = ap Full (one-kernel-in x.store (others_of x) k is.0 is.1)

  -- a machine that was saved is this one
  pub which-machine : (s : State) → IsMachineOf x s → s ≡ state_in x
  which-machine s is = which-of-kind x.bare s is

  words-of-kind : (b : Bool) (s : State) → IsOfKind b x s → words_of s ≡ x.store
  words-of-kind true (Bare m) is = ap (λ (n : BareState). n.words) is
  words-of-kind true (Full k) is = absurd is
  words-of-kind false (Bare m) is = absurd is
  words-of-kind false (Full k) is = sym (image-list x.store k is.1.image)

  -- it has the words that were saved
  pub saved-words : (s : State) → IsMachineOf x s → words_of s ≡ x.store
  saved-words s is = words-of-kind x.bare s is

  regs-of-kind : (b : Bool) (s : State) → IsOfKind b x s → regs_of s ≡ x.regs
  regs-of-kind true (Bare m) is = ap (λ (n : BareState). n.regs) is
  regs-of-kind true (Full k) is = absurd is
  regs-of-kind false (Bare m) is = absurd is
  regs-of-kind false (Full k) is = is.1.regs

  -- and the registers
  pub saved-regs : (s : State) → IsMachineOf x s → regs_of s ≡ x.regs
  saved-regs s is = regs-of-kind x.bare s is

  steps-of-kind : (b : Bool) (s : State) → IsOfKind b x s → steps_of s ≡ x.step
  steps-of-kind true (Bare m) is = ap (λ (n : BareState). n.steps) is
  steps-of-kind true (Full k) is = absurd is
  steps-of-kind false (Bare m) is = absurd is
  steps-of-kind false (Full k) is = is.1.steps

  -- and it has taken as many steps
  pub saved-steps : (s : State) → IsMachineOf x s → steps_of s ≡ x.step
  saved-steps s is = steps-of-kind x.bare s is

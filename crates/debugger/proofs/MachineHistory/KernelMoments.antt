-- A kernel, its moment, and the parts of a machine that stand for it.
use Rattle.std.proofs.Common.{◌≡◌, ℕ, Bool, List, None, drop, length, refl, sym, ap, subst, ◌∙◌, arith}
use Rattle.kernel_model.specs.KernelRecord.HoldsLists.{HoldsLists}
use Rattle.kernel_model.specs.KernelRecord.Image.{IsImage, image, plain_words}
use Rattle.kernel_model.specs.KernelRecord.Kernel.{Kernel}
use Rattle.kernel_model.specs.KernelRecord.KernelRanges.{CanWalkLists}
use Rattle.kernel_model.specs.KernelRecord.Lists.{Lists}
use Rattle.kernel_model.specs.KernelRecord.Recovered.{lists_in}
use Rattle.kernel_model.specs.KernelRecord.ValidKernel.{IsValid}
use Rattle.kernel_model.specs.WordKinds.ByteMap.{MarksAll}
use Rattle.kernel_model.specs.WordKinds.Keeper.{IsStoreOf}
use Rattle.kernel_machine.specs.RunningMachine.Machine.{kernel_of}
use Rattle.kernel_machine.specs.RunningMachine.RepresentedKernels.{RepresentsKernel}
use Rattle.kernel_machine.specs.declared.running_machine.parts.Parts.{Parts}
use Rattle.kernel_model.proofs.KernelRecord.ImageWords.{image-list}
use Rattle.kernel_model.proofs.KernelRecord.WalkedLists.{can-walk}
use Rattle.kernel_machine.proofs.RunningMachine.OneMachine.{one-machine}
use Rattle.tripos_machine.specs.State.{IsSound, RepresentsFullState, State}
use Rattle.tripos_machine.specs.State.State.{Bare, Full}
use Rattle.debugger.specs.MachineHistory.Moments.{HoldsKernel, IsMomentOf, IsTakenFrom, kernel_in, with_moment}
use Rattle.debugger.specs.MachineHistory.Pasts.{Files}
use Rattle.debugger.specs.declared.machine_history.moments.KernelMoment.{KernelMoment}
use Rattle.debugger.specs.declared.machine_history.moments.Moment.TheVariants.{Full as FullKind}
use Rattle.kernel_model.proofs.WordKinds.KnownWords.{store-known}

-- ---- a moment of a machine

module _ (p : Parts) (k : Kernel) (st : RepresentsKernel p k) (m : KernelMoment) (t : IsTakenFrom p m) where
  reads-kernel : k.stop ≡ None → (f : Files) → f ≡ record { disc = k.disc; pipes = k.pipes } → kernel_in p.keys.keys (image k) f m ≡ k
  unfolding kernel_in kernel_of
  reads-kernel goes f is =
      let words : image k ≡ p.store = sym (image-list p.store k st.image) in
      let disc : f.disc ≡ p.disc = ap (λ (g : Files). g.disc) is ∙ sym st.disc in
      let pipes : f.pipes ≡ p.pipes = ap (λ (g : Files). g.pipes) is ∙ sym st.pipes in
      let same : ◌≡◌ {A = Kernel} (kernel_in p.keys.keys (image k) f m) (kernel_of p None) = λ i. record {
        lists = lists_in (words i);
        plain = plain_words (words i) (lists_in (words i));
        regs = t.regs i;
        steps = t.step i;
        console = t.console i;
        shell = t.shell i;
        disc = disc i;
        type_ahead = t.type_ahead i;
        keys = drop (t.come i) p.keys.keys;
        pipes = pipes i;
        stop = None;
      } in
      same ∙ one-machine p k st None goes

  pub moment-of : IsValid k → IsMomentOf p.keys.keys (FullKind m) (Full k)
  moment-of valid = record {
    steps = t.step ∙ st.steps;
    reads = λ goes f is. ap (λ j. Full j) (reads-kernel goes f is);
    holds = record { image = subst (λ w. IsImage w k) (image-list p.store k st.image) st.image; plain = st.plain; period = t.period ∙ st.period; come = t.few };
    sound = valid;
  }

-- of a machine that has a kernel
pub moment-full : (p : Parts) (s : State) → RepresentsFullState p s → IsSound s → (m : KernelMoment) → IsTakenFrom p m → (keys : List (ℕ × ℕ)) → p.keys.keys ≡ keys → IsMomentOf keys (FullKind m) s
moment-full p (Bare n) st sound m t keys same = absurd st
moment-full p (Full k) st sound m t keys same = subst (λ l. IsMomentOf l (FullKind m) (Full k)) same (moment-of p k st m t sound)

-- ---- the parts of a machine that has gone back

module _ (keys : List (ℕ × ℕ)) (words : List ℕ) (f : Files) (m : KernelMoment) (h : HoldsKernel keys words m (kernel_in keys words f m)) (v : IsValid (kernel_in keys words f m)) where
  abbrev k : Kernel
  k = kernel_in keys words f m

  pub held-lists : HoldsLists words k.lists
  held-lists = record { valid = v.lists; size = h.image.size; holds = h.image.holds }

  pub walked : CanWalkLists words
  walked = can-walk words k.lists held-lists

  pub represents-back : (p : Parts) → p.keys.keys ≡ keys → (kinds : List Bool) → length kinds ≡ length words → ((known : List ℕ) (l : Lists) → IsStoreOf words known l → MarksAll kinds known)
      → RepresentsKernel (record (with_moment m p) { store = words; disc = f.disc; pipes = f.pipes; kinds = kinds }) k
  unfolding kernel_in
  represents-back p same kinds size marks = record {
    keeper = record { lists = held-lists; knows = λ known same. marks known k.lists (store-known words known k.lists held-lists same); enough = omega (arith, size) };
    marks = size;
    image = h.image;
    plain = h.plain;
    regs = refl;
    type_ahead = refl;
    disc = refl;
    console = refl;
    shell = refl;
    pipes = refl;
    keys = ap (drop m.come) same;
    steps = refl;
    period = h.period;
  }

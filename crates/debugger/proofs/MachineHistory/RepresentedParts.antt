-- The parts of a machine that has gone back represent the state that it has gone back to.
use Rattle.std.proofs.Common.{◌≡◌, ℕ, Bool, Option, Some, List, length, refl, sym, ap, subst, ◌∙◌, arith}
use Rattle.circular_buffer.specs.Buffer.{Buffer}
use Rattle.bare_machine.specs.declared.parts.BareParts.{BareParts}
use Rattle.kernel_model.specs.KernelRecord.KernelRanges.{CanWalkLists}
use Rattle.kernel_model.specs.KernelRecord.Lists.{Lists}
use Rattle.kernel_model.specs.WordKinds.ByteMap.{MarksAll}
use Rattle.kernel_model.specs.WordKinds.Keeper.{IsStoreOf}
use Rattle.kernel_machine.specs.declared.running_machine.parts.Parts.{Parts}
use Rattle.tripos_machine.specs.declared.parts.Parts.TheVariants.{Bare as BareMachine, Full as FullMachine}
use Rattle.tripos_machine.specs.State.{IsBare, IsSound, RepresentsState}
use Rattle.debugger.specs.MachineHistory.FilesBefore.{files_at, gone_back}
use Rattle.debugger.specs.MachineHistory.Histories.{HasCome, IsFull, at_moment, bare_parts_back, parts_back, with_files_of}
use Rattle.debugger.specs.MachineHistory.Moments.{HoldsState, number, state_in}
use Rattle.debugger.specs.MachineHistory.Pasts.{Files}
use Rattle.debugger.specs.declared.machine_history.files.KeptFiles.{KeptFiles}
use Rattle.debugger.specs.declared.machine_history.moments.Moment.{Moment}
use Rattle.debugger.specs.declared.machine_history.moments.Moment.TheVariants.{Bare, Full}
use Rattle.debugger.proofs.MachineHistory.FilesThen.{IsLatest}
use Rattle.debugger.proofs.MachineHistory.KernelMoments.{represents-back, walked}

module _ (keys : List (ℕ × ℕ)) (words : List ℕ) (f : Files) where
  -- a machine without a kernel
  pub bare-represents : (m : Moment) (p : BareParts) → IsBare (state_in keys words f m) → RepresentsState (BareMachine (bare_parts_back (Some m) words p)) (state_in keys words f m)
  bare-represents (Bare m) p bare = refl
  bare-represents (Full m) p bare = absurd bare

  -- a machine with a kernel
  module _ (m : Moment) (holds : HoldsState keys words m (state_in keys words f m)) (sound : IsSound (state_in keys words f m)) (full : IsFull (state_in keys words f m)) where
    pub full-walks : CanWalkLists words
    full-walks = on m holds sound full
      where
        on : (m : Moment) → HoldsState keys words m (state_in keys words f m) → IsSound (state_in keys words f m) → IsFull (state_in keys words f m) → CanWalkLists words
        on (Bare m) holds sound full = absurd full
        on (Full m) holds sound full = walked keys words f m holds sound

    pub full-come : (p : Parts) → p.keys.keys ≡ keys → HasCome (Some m) p
    full-come p same = on m holds full
      where
        on : (m : Moment) → HoldsState keys words m (state_in keys words f m) → IsFull (state_in keys words f m) → HasCome (Some m) p
        on (Bare m) holds full = absurd full
        on (Full m) holds full = omega (arith, holds.come, ap length same)

    pub full-represents : (b : Buffer KeptFiles) (p : Parts) (kinds : List Bool) → IsLatest (number m) (gone_back 17 (number m) b.items) → files_at (number m) (gone_back 17 (number m) b.items) ≡ f → p.keys.keys ≡ keys → length kinds ≡ length words
        → ((known : List ℕ) (l : Lists) → IsStoreOf words known l → MarksAll kinds known) → RepresentsState (FullMachine (record (parts_back (Some m) words (Some b) p) { kinds = kinds })) (state_in keys words f m)
    full-represents b p kinds latest is same size marks = on m holds sound full latest is same size marks
      where
        on : (m : Moment) → HoldsState keys words m (state_in keys words f m) → IsSound (state_in keys words f m) → IsFull (state_in keys words f m)
            → IsLatest (number m) (gone_back 17 (number m) b.items) → files_at (number m) (gone_back 17 (number m) b.items) ≡ f → p.keys.keys ≡ keys → length kinds ≡ length words
            → ((known : List ℕ) (l : Lists) → IsStoreOf words known l → MarksAll kinds known) → RepresentsState (FullMachine (record (parts_back (Some m) words (Some b) p) { kinds = kinds })) (state_in keys words f m)
        on (Bare m) holds sound full latest is same size marks = absurd full
        on (Full m) holds sound full latest is same size marks =
            let left : Parts = at_moment (Some (Full m)) words p in
            let files = sym latest.is ∙ is in
            subst (λ (o : Option KeptFiles). RepresentsState (FullMachine (record (with_files_of o left) { kinds = kinds })) (state_in keys words f (Full m))) (sym latest.last)
            (subst (λ (g : Files). RepresentsState (FullMachine (record left { disc = g.disc; pipes = g.pipes; kinds = kinds })) (state_in keys words f (Full m))) (sym files)
            (represents-back keys words f m holds sound p same kinds size marks))

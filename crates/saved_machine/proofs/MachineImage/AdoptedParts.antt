-- For which parts a machine with a kernel was saved.
use Rattle.std.proofs.Common.{◌≡◌, ◌+◌, ◌≤◌, ℕ, List, [], ◌∷◌, Bool, true, false, Option, ap, ◌∙◌, arith}
use Rattle.std.specs.List.{AllByRecursion}
use Rattle.std.proofs.lemmas.Bool.{leb-true}
use Rattle.ram_disc.specs.Disc.{IsDisc}
use Rattle.store_claims.specs.AdoptionLaw.Adoption.{IsAdopted, kernel_in}
use Rattle.store_claims.proofs.AdoptionLaw.OneKernel.{has-kernel}
use Rattle.kernel_model.specs.KernelRecord.Kernel.{Pipe}
use Rattle.kernel_model.specs.KernelRecord.Pipes.{ArePipes}
use Rattle.kernel_model.specs.KernelRecord.Ranges.{most_steps}
use Rattle.session_text.specs.Ranges.{is_step}
use Rattle.tripos_machine.specs.State.{State}
use Rattle.tripos_machine.specs.State.State.{Bare, Full}
use Rattle.saved_text.specs.Canonical.{IsLawful}
use Rattle.saved_text.specs.declared.images.Image.{Image}
use Rattle.saved_text.specs.declared.images.SavedPipe.{SavedPipe}
use Rattle.saved_machine.specs.MachineImage.Machines.{HasMachine, IsOfKind}
use Rattle.saved_machine.specs.MachineImage.Parts.{disc_with, others_of, placed_pipes}
use Rattle.saved_machine.specs.MachineImage.Private.Rules.{IsValidStore, ResidentsKeep}

keys-due : (keys : List (ℕ × ℕ)) → AllByRecursion (λ (key : ℕ × ℕ). is_step key.0 ≡ true) keys → AllByRecursion (λ (key : ℕ × ℕ). key.0 ≤ most_steps) keys
keys-due [] all = tt
keys-due (key ∷ keys) all = (leb-true key.0 most_steps all.0, keys-due keys all.1)

module _ (x : Image) where
  abbrev pub Adopted : Type 0
  Adopted = IsAdopted x.store (others_of x)

  -- ---- what an adopted kernel gives

  pub store-adopted : Adopted → IsValidStore x
  unfolding kernel_in
  store-adopted a = record {
    lists = a.lists;
    version = a.others.version;
    period = a.others.period;
    ticks = a.others.ticks;
    running = a.others.running;
    registers = a.others.registers;
    faults = a.others.residents.faults;
  }

  pub residents-adopted : Adopted → ResidentsKeep x
  unfolding kernel_in
  residents-adopted a = record {
    console = a.others.residents.console;
    shell = a.others.residents.shell;
    shut = a.others.residents.disc.absent;
    pipes = a.others.residents.pipes.no_residents;
    first_version = a.others.residents.pipes.first_version;
    ahead = a.others.residents.ahead;
  }

  pub disc-adopted : Adopted → IsDisc (disc_with x.files x.streams)
  unfolding kernel_in
  disc-adopted a = a.others.residents.disc.valid

  pub pipes-adopted : Adopted → ArePipes (placed_pipes x.pipes)
  unfolding kernel_in
  pipes-adopted a = a.others.residents.pipes.pipes

  -- ---- and what gives one

  pub adopted-parts : IsLawful x → IsValidStore x → ResidentsKeep x → IsDisc (disc_with x.files x.streams) → ArePipes (placed_pipes x.pipes) → Adopted
  unfolding kernel_in
  adopted-parts lawful s r d p = record {
    lists = s.lists;
    others =
        record {
          version = s.version;
          period = s.period;
          ticks = s.ticks;
          running = s.running;
          registers = s.registers;
          residents =
              record {
                faults = s.faults;
                console = r.console;
                shell = r.shell;
                disc = record { valid = d; absent = r.shut };
                pipes = record { pipes = p; no_residents = r.pipes; first_version = r.first_version };
                ahead = r.ahead;
              };
          steps = record { steps = omega (arith, leb-true (x.step + x.go) most_steps lawful.steps); keys = keys-due x.keys lawful.entries.keys };
        };
  }

  -- ---- machines

  of-kind : (b : Bool) → b ≡ false → (s : State) → IsOfKind b x s → Adopted
  of-kind true e s is = cc
  of-kind false e (Bare m) is = absurd is
  of-kind false e (Full k) is = (has-kernel x.store (others_of x)).0 (k, is.0, is.1)

  -- where there is a machine with a kernel, some valid kernel stands for the words and all else
  pub machine-adopted : x.bare ≡ false → HasMachine x → Adopted
  machine-adopted full h = of-kind x.bare full h.0 h.1

-- pipes that were made of lent ones
pub pipes-kept : (saved lent : List SavedPipe) → lent ≡ saved → (ps : List (Option Pipe)) → (ps ≡ placed_pipes lent) × ArePipes ps → (ps ≡ placed_pipes saved) × ArePipes ps
pipes-kept saved lent is ps made = (made.0 ∙ ap placed_pipes is, made.1)

-- The machine that a machine's text stands for is that machine.
use Rattle.std.proofs.Common.{◌≡◌, ℕ, None, List, [], ◌∷◌, map, refl, sym, ap}
use Rattle.ram_disc.specs.Disc.{File}
use Rattle.kernel_model.specs.KernelRecord.Kernel.{Kernel, Mode}
use Rattle.kernel_model.specs.KernelRecord.Kernel.Mode.{Prompt, Reading, Typing, Waiting}
use Rattle.kernel_model.specs.KernelRecord.ValidKernel.{IsValid}
use Rattle.tripos_machine.specs.State.{IsSound, State, stop_of}
use Rattle.tripos_machine.specs.State.State.{Bare, Full}
use Rattle.kernel_model.proofs.KernelRecord.ImageWords.{valid-image}
use Rattle.saved_machine.specs.MachineImage.Machines.{IsMachineOf}
use Rattle.saved_machine.specs.MachineImage.Parts.{file_of, mode_of}
use Rattle.saved_machine.specs.ImagePrint.SavedImage.{saved_file, saved_image, saved_mode}
use Rattle.saved_machine.proofs.ImagePrint.PlacedAgain.{pipes-again, streams-again}

files-again : (fs : List File) → map file_of (map saved_file fs) ≡ fs
files-again [] = refl
files-again (f ∷ fs) = ap (λ (gs : List File). f ∷ gs) (files-again fs)

mode-again : (m : Mode) → mode_of (saved_mode m) ≡ m
mode-again Prompt = refl
mode-again Reading = refl
mode-again (Waiting id) = refl
mode-again Typing = refl

full-again : (version : ℕ) (k : Kernel) (go : ℕ) → IsValid k → k.stop ≡ None → IsMachineOf (saved_image version (Full k) go) (Full k)
full-again version k go valid goes =
    let residents-valid = valid.residents in
    let files = files-again k.disc.files in
    let streams = streams-again k.disc.streams residents-valid.disc.valid.numbers in (
      valid,
      record {
        image = valid-image k valid;
        version = refl;
        period = refl;
        regs = refl;
        steps = refl;
        console = refl;
        shell = sym (ap (λ (m : Mode). record { mode = m; line = k.shell.line }) (mode-again k.shell.mode));
        disc = sym (λ i. record { files = files i; streams = streams i });
        type_ahead = refl;
        keys = refl;
        pipes = sym (pipes-again k.pipes residents-valid.pipes.pipes.places);
        goes = goes;
      },
    )

pub resumed : (version : ℕ) (s : State) (go : ℕ) → IsSound s → stop_of s ≡ None → IsMachineOf (saved_image version s go) s
resumed version (Bare m) go sound goes = λ i. record { words = m.words; regs = m.regs; steps = m.steps; stop = goes i }
resumed version (Full k) go sound goes = full-again version k go sound goes

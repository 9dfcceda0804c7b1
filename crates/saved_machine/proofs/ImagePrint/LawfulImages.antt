-- What the text of a machine says is within the rules of texts.
use Rattle.std.proofs.Common.{◌≡◌, ℕ, ◌+◌, ◌<◌, ◌≤◌, ◌^◌, ◌==◌, Bool, true, false, cond, Option, Some, None, List, [], ◌∷◌, map, nat_le, nat_lt, refl, sym, subst, arith}
use Rattle.std.specs.List.{AllByRecursion}
use Rattle.std.proofs.lemmas.Bool.{and_from}
use Rattle.std.proofs.lemmas.Bool.Decides.{nat_tests}
use Rattle.hex.specs.Hex.{IsBytes}
use Rattle.ram_disc.specs.Disc.{File}
use Rattle.session_text.specs.Ranges.{is_step}
use Rattle.word_store.specs.declared.registers.Regs.{Regs}
use Rattle.bare_machine.specs.State.{BareState}
use Rattle.kernel_model.specs.KernelRecord.Between.{IsAwaited}
use Rattle.kernel_model.specs.KernelRecord.Kernel.{Kernel, Mode, Pipe}
use Rattle.kernel_model.specs.KernelRecord.Kernel.Mode.{Prompt, Reading, Typing, Waiting}
use Rattle.kernel_model.specs.KernelRecord.Ranges.{is_store_size, most_steps}
use Rattle.kernel_model.specs.KernelRecord.ValidKernel.{IsValid}
use Rattle.kernel_model.specs.KernelRecord.Versions.{highest_id_of}
use Rattle.tripos_machine.specs.State.{IsSound, State}
use Rattle.tripos_machine.specs.State.State.{Bare, Full}
use Rattle.kernel_model.proofs.KernelRecord.ImageWords.{valid-image}
use Rattle.saved_text.specs.SavedLines.Heads.{are_regs}
use Rattle.saved_text.specs.Canonical.{IsLawful}
use Rattle.saved_text.specs.ImageForm.{awaited}
use Rattle.saved_machine.specs.ImagePrint.Numbers.{AreWords, HasWordsAndBytes, HoldsBytes, IsSized, MayTake}
use Rattle.saved_machine.specs.ImagePrint.SavedImage.{with_places, saved_file, saved_image, saved_mode, saved_pipe}
use Rattle.saved_machine.proofs.ImagePrint.PlacedNames.{are-files, are-pipes, are-streams}

below : (n most : ℕ) → n < most → nat_lt n most ≡ true
below n most h = grind (arith, nat_tests)

regs-lawful : (r : Regs) → AreWords r → r.c < 256 → are_regs r.a r.b r.c r.p r.g r.pc ≡ true
regs-lawful r w c =
    and_from _ _ (and_from _ _ (and_from _ _ (and_from _ _ (and_from _ _ (below r.a (2 ^ 32) w.values.0) (below r.b (2 ^ 32) w.values.1)) (below r.c 256 c)) (below r.p (2 ^ 32) w.addresses.0)) (below r.g (2 ^ 32) w.addresses.1)) (below r.pc (2 ^ 32) w.addresses.2)

files-bytes : (fs : List File) → AllByRecursion (λ f. IsBytes f.bytes) fs → AllByRecursion (λ f. IsBytes f.bytes) (map saved_file fs)
files-bytes [] h = tt
files-bytes (f ∷ fs) h = (h.0, files-bytes fs h.1)

pipes-bytes : (k : ℕ) (ps : List (Option Pipe)) → AllByRecursion HoldsBytes ps → AllByRecursion (λ p. IsBytes p.held) (with_places saved_pipe k ps)
pipes-bytes k [] h = tt
pipes-bytes k (None ∷ ps) h = pipes-bytes (k + 1) ps h.1
pipes-bytes k (Some p ∷ ps) h = (h.0, pipes-bytes (k + 1) ps h.1)

keys-due : (keys : List (ℕ × ℕ)) → AllByRecursion (λ (key : ℕ × ℕ). key.0 ≤ most_steps) keys → AllByRecursion (λ (key : ℕ × ℕ). is_step key.0 ≡ true) keys
keys-due [] h = tt
keys-due (key ∷ keys) h = (let le = h.0 in (let due : nat_le key.0 most_steps ≡ true = grind (arith, nat_tests) in due), keys-due keys h.1)

-- a task for which the shell waits has a number that is a word
waits-word : (version : ℕ) (mode : Mode) → IsAwaited (highest_id_of version) mode → awaited (saved_mode mode) < 2 ^ 32
waits-word version Prompt h = omega arith
waits-word version Reading h = omega arith
waits-word version Typing h = omega arith
waits-word version (Waiting id) h = by (version == 2) h.1
  where
    by : (b : Bool) → id ≤ cond b 63 20 → id < 2 ^ 32
    by true le = omega (arith, le)
    by false le = omega (arith, le)

no-bytes : IsBytes []
no-bytes i = omega arith

bare-lawful : (version : ℕ) (m : BareState) (go : ℕ) → IsSound (Bare m) → HasWordsAndBytes (Bare m) → IsSized version (Bare m) → MayTake (Bare m) go → IsLawful (saved_image version (Bare m) go)
bare-lawful version m go sound numbers sized may = record {
  version = sized.0;
  size = sized.1;
  machine = record { period = refl; ring = refl; finished = refl; line = refl; mode = refl; command = refl; files = refl; streams = refl; pipes = refl; keys = refl };
  steps = may;
  regs = regs-lawful m.regs numbers.regs sound.0;
  lines = (no-bytes, no-bytes, no-bytes);
  waits = omega arith;
  entries = record { files = tt; streams = tt; pipes = tt; keys = tt };
  files = tt;
  pipes = tt;
  keys = tt;
  words = numbers.words;
}

full-lawful : (version : ℕ) (k : Kernel) (go : ℕ) → IsValid k → HasWordsAndBytes (Full k) → MayTake (Full k) go → IsLawful (saved_image version (Full k) go)
full-lawful version k go valid numbers may =
    let residents-valid = valid.residents in
    record {
      version = valid.lists.numbers.version;
      size = subst (λ (n : ℕ). is_store_size k.lists.version n ≡ true) (sym (valid-image k valid).size) valid.lists.numbers.size;
      machine = valid.lists.numbers.period;
      steps = may;
      regs = regs-lawful k.regs numbers.regs valid.registers.byte;
      lines = (numbers.bytes.ahead, numbers.bytes.line, numbers.bytes.command);
      waits = waits-word k.lists.version k.shell.mode residents-valid.shell.awaited;
      entries = record {
        files = are-files k.disc.files residents-valid.disc.valid.in_order residents-valid.disc.valid.lawful;
        streams = are-streams k.disc residents-valid.disc.valid;
        pipes = are-pipes k.pipes residents-valid.pipes.pipes;
        keys = keys-due k.keys valid.steps.keys;
      };
      files = files-bytes k.disc.files numbers.bytes.files;
      pipes = pipes-bytes 1 k.pipes numbers.bytes.pipes;
      keys = numbers.bytes.keys;
      words = numbers.words;
    }

pub saved_lawful : (version : ℕ) (s : State) (go : ℕ) → IsSound s → HasWordsAndBytes s → IsSized version s → MayTake s go → IsLawful (saved_image version s go)
saved_lawful version (Bare m) go sound numbers sized may = bare-lawful version m go sound numbers sized may
saved_lawful version (Full k) go sound numbers sized may = full-lawful version k go sound numbers may

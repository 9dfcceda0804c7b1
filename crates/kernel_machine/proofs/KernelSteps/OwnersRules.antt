-- What keeps the rules of what residents keep, one owner after the other.
use Rattle.std.proofs.Common.{◌≡◌, Option, List, [], is_some, sym, ap, ◌∙◌, subst}
use Rattle.ram_disc.specs.Disc.{Disc, shell_stream, stream_at}
use Rattle.kernel_model.specs.KernelRecord.Between.{IsAwaited, IsValidConsole, IsValidDisc, IsValidShell}
use Rattle.kernel_model.specs.KernelRecord.Kernel.{Console, Pipe, Shell}
use Rattle.kernel_model.specs.KernelRecord.Lists.{Lists}
use Rattle.kernel_model.specs.KernelRecord.Pipes.{AreValidPipes}
use Rattle.kernel_model.specs.KernelRecord.Versions.{highest_id_of}
use Rattle.guest_turns.specs.GuestTurn.{numbers_of}
use Rattle.kernel_machine.specs.KernelSteps.Parts.{IsSameSystem}

pub system-of : (l m : Lists) → numbers_of m ≡ numbers_of l → IsSameSystem l m
system-of l m same = record { version = ap (λ n. n.version) same; residents = ap (λ n. n.residents) same }

module _ (l m : Lists) (same : IsSameSystem l m) where
  -- the key packet is where it was, and no read waits where none waited
  pub console-still-valid : (c : Console) → m.key ≡ l.key → (l.pending ≡ [] → m.pending ≡ []) → IsValidConsole l c → IsValidConsole m c
  console-still-valid c key pending h = record {
    finished = λ some. h.finished (sym same.residents ∙ some) ∙ ap is_some (sym key);
    delivered = λ e. pending (h.delivered e);
    line = h.line;
    absent = λ none. h.absent (sym same.residents ∙ none);
  }

  -- the shell's stream is what it was
  pub shell-still-valid : (s : Shell) (d e : Disc) → stream_at e shell_stream ≡ stream_at d shell_stream → IsValidShell l s d → IsValidShell m s e
  shell-still-valid s d e stream h = record {
    typing = ap is_some stream ∙ h.typing;
    awaited = subst (λ v. IsAwaited (highest_id_of v) s.mode) (sym same.version) h.awaited;
    line = h.line;
    absent = λ none. h.absent (sym same.residents ∙ none);
  }

  pub disc-still-valid : (d : Disc) → IsValidDisc l d → IsValidDisc m d
  disc-still-valid d h = record { valid = h.valid; absent = λ none. h.absent (sym same.residents ∙ none) }

  pub pipes-still-valid : (ps : List (Option Pipe)) → AreValidPipes l ps → AreValidPipes m ps
  pipes-still-valid ps h = record {
    pipes = h.pipes;
    no_residents = λ none. h.no_residents (sym same.residents ∙ none);
    first_version = λ one. h.first_version (sym same.version ∙ one);
  }

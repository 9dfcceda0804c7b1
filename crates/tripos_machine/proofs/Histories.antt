-- The events of a machine of either kind are a history of its packets.
use Rattle.std.proofs.Common.{◌≡◌, ℕ, ◌+◌, ◌≤◌, Bool, true, false, Result, Ok, Err, [], refl, sym, subst, ◌∙◌}
use Rattle.module_text.specs.TextReader.Refusal.{Refusal}
use Rattle.session_text.specs.Canonical.{IsLawful}
use Rattle.session_text.specs.declared.sessions.Session.{Session}
use Rattle.bare_machine.specs.Boot.{boot as bare_boot}
use Rattle.bare_machine.specs.State.{BareState}
use Rattle.kernel_boot.specs.declared.refusals.BootRefusal.{BootRefusal}
use Rattle.kernel_model.specs.KernelRecord.Ranges.{most_steps}
use Rattle.kernel_machine.specs.KernelSteps.Stepped.{Stepped as KernelStepped}
use Rattle.kernel_machine.specs.MachineBoot.Boot.{boot as kernel_boot}
use Rattle.tripos_machine.proofs.PacketHistory.BootHistories.{booted-history}
use Rattle.tripos_machine.proofs.PacketHistory.Histories.{whole-law}
use Rattle.tripos_machine.specs.Boot.{bare_booted, boot, kernel_booted}
use Rattle.tripos_machine.specs.Histories.{HasBootHistory, HasHistory}
use Rattle.tripos_machine.specs.State.{IsSound, State, steps_of}
use Rattle.tripos_machine.specs.State.State.{Bare, Full}
use Rattle.tripos_machine.specs.Step.{Stepped}
use Rattle.tripos_machine.proofs.BootedSteps.{boot-bare, boot-full}

pub has-history : (n : ℕ) (s : State) → IsSound s → steps_of s + n ≤ most_steps → HasHistory n s
has-history n (Bare m) sound few = tt
has-history n (Full k) sound few = whole-law n k sound few

-- what a boot of either kind leaves
bare-begins : (n : ℕ) (x : Stepped) (r : Result BareState Refusal) → bare_booted r ≡ Ok x → HasBootHistory n x
bare-begins n x (Ok m) is = (let same : record { state = Bare m; bytes = []; events = [] } ≡ x = cc in subst (HasBootHistory n) same refl)
bare-begins n x (Err r) is = cc

full-begins : (n : ℕ) (s : Session) (x : Stepped) → IsLawful s → s.bare ≡ false → n ≤ most_steps → (r : Result KernelStepped BootRefusal) → kernel_boot s ≡ r → kernel_booted r ≡ Ok x → HasBootHistory n x
full-begins n s x lawful full few (Ok y) booted is =
    let same : record { state = Full y.kernel; bytes = y.bytes; events = y.events } ≡ x = cc in
    let h = booted-history n s y (record { lawful = lawful; full = full }) booted few in
    subst (HasBootHistory n) same (record { queues = h.queues; booted = h.booted; steps = h.steps })
full-begins n s x lawful full few (Err r) booted is = cc

pub has-boot-history : (n : ℕ) (s : Session) (x : Stepped) → IsLawful s → boot s ≡ Ok x → n ≤ most_steps → HasBootHistory n x
has-boot-history n s x lawful is few = on s.bare refl
  where
    on : (b : Bool) → s.bare ≡ b → HasBootHistory n x
    on true bare = bare-begins n x (bare_boot s) (sym (boot-bare s bare) ∙ is)
    on false full = full-begins n s x lawful full few (kernel_boot s) refl (sym (boot-full s full) ∙ is)

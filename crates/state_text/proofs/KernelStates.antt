-- A machine with a kernel, of which the lists are read off its store.
use Rattle.std.proofs.Common.{◌≡◌, ◌≢◌, ◌==◌, ◌&&◌, ℕ, List, [], cond, is_some, not, sym, ap, subst}
use Rattle.std.proofs.lemmas.Bool.{ne_eqb}
use Rattle.kernel_machine.specs.declared.running_machine.parts.Parts.{Parts}
use Rattle.tripos_machine.specs.State.{RepresentsFullState, State}
use Rattle.tripos_machine.specs.State.State.{Bare, Full}
use Rattle.debugger.proofs.KernelParts.{held-lists}
use Rattle.kernel_model.specs.KernelRecord.Image.{image}
use Rattle.kernel_model.specs.KernelRecord.Kernel.{Kernel}
use Rattle.kernel_model.specs.KernelRecord.KernelRanges.{CanWalkLists}
use Rattle.kernel_model.specs.KernelRecord.Lists.{Lists}
use Rattle.kernel_model.specs.KernelRecord.Recovered.{lists_in}
use Rattle.kernel_model.proofs.KernelRecord.ImageWords.{image-list}
use Rattle.kernel_model.proofs.KernelRecord.RecoveredLists.{lists-back}
use Rattle.kernel_model.proofs.KernelRecord.WalkedLists.{can-walk}
use Rattle.state_text.specs.Deadlock.{deadlock_text, stuck_text, unanswered_text}
use Rattle.state_text.specs.Runner.{can_answer, has_keys, idle_line, runner_text, running_line}

-- the lists in the store of the parts can be walked
pub walks : (p : Parts) (s : State) → RepresentsFullState p s → CanWalkLists p.store
walks p s x = let held = held-lists p s x in can-walk p.store held.0 held.1

-- what the store and the lists in it say of a kernel, its own words and lists say
pub on-words : (p : Parts) (s : State) (P : List ℕ → Lists → State → Type 0) → RepresentsFullState p s → ((k : Kernel) → P (image k) k.lists (Full k)) → P p.store (lists_in p.store) s
on-words p (Bare m) P x each = absurd x
on-words p (Full k) P x each =
    let h = x.keeper.lists in
    subst (λ w. P w (lists_in p.store) (Full k)) (sym (image-list p.store k x.image)) (subst (λ l. P (image k) l (Full k)) (sym (lists-back p.store k.lists h.valid h.size h.holds)) (each k))

-- the same of what the lists alone say
pub on-lists : (p : Parts) (s : State) (P : Lists → State → Type 0) → RepresentsFullState p s → ((k : Kernel) → P k.lists (Full k)) → P (lists_in p.store) s
on-lists p s P x each = on-words p s (λ w. P) x each

-- where nobody runs, that and the reason are said
pub idle-runner : (k : Kernel) → k.lists.running ≡ 0 → idle_line k.lists (has_keys (Full k)) ≡ runner_text (Full k)
idle-runner k none = sym (ap (λ n. cond (n == 0) (idle_line k.lists (has_keys (Full k))) (running_line k.lists.running (is_some k.stop))) none)

-- and so are the tasks that are stuck, where no device can send a packet back
pub unanswered-said : (k : Kernel) → k.lists.running ≡ 0 → unanswered_text k.lists (has_keys (Full k)) ≡ deadlock_text (Full k)
unanswered-said k none = sym (ap (λ n. cond ((n == 0) && not (can_answer k.lists (has_keys (Full k)))) (stuck_text k.lists.tasks) []) none)

-- where somebody runs, no task is said to be stuck
pub nothing-said : (k : Kernel) → k.lists.running ≢ 0 → [] ≡ deadlock_text (Full k)
nothing-said k some = sym (ap (λ b. cond (b && not (can_answer k.lists (has_keys (Full k)))) (stuck_text k.lists.tasks) []) (ne_eqb k.lists.running 0 some))

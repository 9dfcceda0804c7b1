-- What one part of a step leaves after another.
use Rattle.std.proofs.Common.{◌≡◌, ℕ, ◌++◌, List, length, Bool, Option, sym, ap, ◌∙◌, arith, append_assoc, append-nil}
use Rattle.word_store.specs.declared.registers.Regs.{Regs}
use Rattle.kernel_lists.specs.OwnedWords.Owned.{Pairs, written}
use Rattle.kernel_model.specs.KernelRecord.ChangedStore.{IsChanged, Knows}
use Rattle.kernel_model.specs.KernelRecord.Kernel.{Kernel}
use Rattle.kernel_model.specs.declared.kernel_record.stops.Stop.{Stop}
use Rattle.kernel_model.specs.KernelRecord.Lists.{Lists}
use Rattle.kernel_model.proofs.KernelRecord.NotedInTurn.{notes-none, notes-then}
use Rattle.kernel_model.specs.WordKinds.ByteMap.{MarksAll}
use Rattle.kernel_calls.specs.CallAnswers.Outside.{Outside}
use Rattle.kernel_machine.specs.declared.running_machine.parts.Parts.{Parts}
use Rattle.kernel_machine.specs.RunningMachine.RepresentedKernels.{RepresentsKernel}
use Rattle.kernel_machine.specs.KernelSteps.Stepped.{Stepped, and_then, quietly, with_store}
use Rattle.kernel_machine.proofs.KernelSteps.StoredWords.{image-stored, plain-stored}
use Rattle.kernel_machine.specs.RunningMachine.Private.Leaves.{Leaves}

-- nothing was done
pub leaves-none : (p : Parts) (o : Outside) (k : Kernel) → RepresentsKernel p k → Leaves p o o (quietly k)
leaves-none p o k st = record { represents = st; bytes = sym (append-nil o.shown); notes = notes-none o.noted o.failed }

-- one after the other
pub leaves-then : (p q : Parts) (a b c : Outside) (x : Stepped) (next : Kernel → Stepped) → Leaves p a b x → Leaves q b c (next x.kernel) → Leaves q a c (and_then x next)
leaves-then p q a b c x next one two = record {
  represents = two.represents;
  bytes = two.bytes ∙ ap (λ z. z ++ (next x.kernel).bytes) one.bytes ∙ append_assoc a.shown x.bytes (next x.kernel).bytes;
  notes = notes-then a.noted b.noted c.noted a.failed b.failed c.failed x.events (next x.kernel).events one.notes two.notes;
}

-- lists, plain words and registers have changed, and with them the keeper and whether the machine stops
module _ (p : Parts) (k : Kernel) (st : RepresentsKernel p k) where
  pub represents-changed : (s t : List ℕ) (marks : List Bool) (regs : Regs) (l : Lists) (plain : Pairs) (r : Regs) (stop : Option Stop) → length s ≡ length p.store → IsChanged s t l plain → Knows (MarksAll marks) l → length marks ≡ length p.kinds
      → regs ≡ r → l.period ≡ k.lists.period → RepresentsKernel (record p { store = t; regs = regs; kinds = marks }) (record (with_store (written plain s) l k) { regs = r; stop = stop })
  represents-changed s t marks regs l plain r stop size c knows room e same =
      let own = c.lists.valid.owns in
      let image = image-stored s t l k plain c.lists.size c.written in
      let words = plain-stored (written plain s) l k own in
      record {
        keeper = record { lists = c.lists; knows = knows; enough = omega (arith, c.size, size, room, st.keeper.enough) };
        marks = room ∙ st.marks ∙ sym size ∙ sym c.size;
        image = record { size = image.size; holds = image.holds; plain = image.plain };
        plain = record { size = words.size; plain = words.plain; owned = words.owned };
        regs = e;
        type_ahead = st.type_ahead;
        disc = st.disc;
        keys = st.keys;
        steps = st.steps;
        period = st.period ∙ sym same;
        console = st.console;
        shell = st.shell;
        pipes = st.pipes;
      }

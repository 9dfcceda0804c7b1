-- What a tick leaves.
use Rattle.std.proofs.Common.{◌≡◌, ℕ, ◌+◌, Bool, Option, List, [], get_or, set, sym, ap, ◌∙◌, subst}
use Rattle.kernel_lists.specs.declared.packet_queue.events.KernelEvent.{KernelEvent}
use Rattle.kernel_model.specs.KernelRecord.ChangedStore.{IsChanged}
use Rattle.kernel_model.specs.KernelRecord.HoldsLists.{HoldsLists}
use Rattle.kernel_model.specs.KernelRecord.Lists.{Lists}
use Rattle.kernel_model.specs.KernelRecord.NotedEvents.{NotesAll}
use Rattle.kernel_model.proofs.KernelRecord.ChangedLists.{changed-then}
use Rattle.kernel_calls.specs.PacketCalls.Returned.{DeviceChange, IsServed}
use Rattle.kernel_calls.proofs.CallAnswers.RootTold.{tick-told}
use Rattle.kernel_devices.specs.Tick.{due_returned, ticked, with_tick}
use Rattle.kernel_devices.proofs.TickLists.{tick-changed, tick-owned}

module _ (s v : List ℕ) (l : Lists) (was : ℕ) (h : HoldsLists s l) (is_was : was ≡ get_or s 108 0) (is : v ≡ set s 108 (was + 1)) where
  abbrev after : Lists
  after = with_tick (was + 1) l

  changed : IsChanged s v after []
  changed = tick-changed s v l (was + 1) h is

  pub tick-held : HoldsLists v after
  tick-held = changed.lists

  whole : due_returned (was + 1) after ≡ ticked l
  whole = (let now : was + 1 ≡ l.tick + 1 = ap (λ n. n + 1) (is_was ∙ tick-told s l h) in λ i. due_returned (now i) (with_tick (now i) l))

  pub tick-served : (u : List ℕ) → IsServed v u after (due_returned (was + 1) after) → IsServed s u l (ticked l)
  tick-served u served =
      subst (IsServed s u l) whole
      (record {
        lists = changed-then s v u after (due_returned (was + 1) after).lists [] changed served.lists (λ a none. sym (served.same a) ∙ none);
        same = λ a. served.same a ∙ tick-owned l (was + 1) a;
      })

  pub tick-noted : (before now : Option (List KernelEvent)) (b d : Bool) → NotesAll before now b d (due_returned (was + 1) after).events → NotesAll before now b d (ticked l).events
  tick-noted before now b d notes = subst (λ (z : DeviceChange). NotesAll before now b d z.events) whole notes

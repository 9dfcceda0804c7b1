-- What sending the key packet leaves.
use Rattle.std.proofs.Common.{◌≡◌, ℕ, Bool, true, is_some, Option, Ok, List, [], ◌++◌, inr, refl, subst}
use Rattle.kernel_lists.specs.declared.packet_queue.events.KernelEvent.{KernelEvent}
use Rattle.kernel_model.specs.KernelRecord.Kernel.{Console}
use Rattle.kernel_model.specs.KernelRecord.Lists.{Lists}
use Rattle.kernel_model.specs.KernelRecord.NotedEvents.{NotesAll}
use Rattle.kernel_model.specs.KernelRecord.Residents.{key_packet, keyboard}
use Rattle.kernel_calls.specs.CallAnswers.CallChange.{IsMade, minus_one}
use Rattle.kernel_calls.specs.CallAnswers.Outside.{Outside, outside}
use Rattle.kernel_calls.specs.PacketCalls.SendOwn.{CanSendOwn, send_own, with_sent}
use Rattle.kernel_calls.proofs.PacketCalls.OwnPackets.{own-kept}
use Rattle.resident_tasks.specs.ResidentRequests.Requests.{RunsResident}
use Rattle.kernel_model.specs.declared.kernel_record.numbers.TheConstants.{CONSOLE}
use Rattle.resident_tasks.specs.ConsoleHandler.ConsoleTurn.{keys_sent}
use Rattle.resident_tasks.specs.ConsoleHandler.TurnParts.{ConsoleStart, ConsoleTurn, IsDone, settled_words}
use Rattle.resident_tasks.proofs.ConsoleHandler.DoneParts.{done-keeper, done-then}

pub can-send : (l : Lists) → is_some l.key ≡ true → CanSendOwn l key_packet CONSOLE keyboard
can-send l off = inr (record { packet = refl; off = off; sender = refl; to_keyboard = refl })

module _ (b : ConsoleStart) (t : List ℕ) (tells : List ℕ → Type 0) (room : ℕ) (now : Outside) (c : Console) (k : List ℕ) (g : ConsoleTurn) (x : IsDone b t tells room now c k g) (off : is_some g.lists.key ≡ true) where
  runs : RunsResident (with_sent t key_packet CONSOLE keyboard g.lists)
  runs = record { resident = x.runs.resident; there = x.runs.there; field = x.runs.field }

  pub send-done : (u : List ℕ) (told : List ℕ → Type 0) (after : ℕ) (noted : Option (List KernelEvent)) (failed : Bool) → after ≡ room → IsMade t u told (Ok minus_one) (send_own t g.lists key_packet CONSOLE keyboard)
      → NotesAll now.noted noted now.failed failed (send_own t g.lists key_packet CONSOLE keyboard).events → IsDone b u told after (outside now.shown noted failed) c k (keys_sent g)
  send-done u told after noted failed room_is y notes =
      subst (λ z. IsDone b u told after (outside now.shown noted failed) c k (record g { words = settled_words g.words (send_own z g.lists key_packet CONSOLE keyboard).lists []; lists = (send_own z g.lists key_packet CONSOLE keyboard).lists; plain = [] ++ g.plain; events = g.events ++ (send_own z g.lists key_packet CONSOLE keyboard).events })) x.words
      (done-then b t tells room now c k g x u told after noted failed _ [] _ room_is y.leaves.lists y.knows (own-kept t tells room g.lists key_packet CONSOLE keyboard (done-keeper b t tells room now c k g x) (can-send g.lists off) refl) notes runs refl)

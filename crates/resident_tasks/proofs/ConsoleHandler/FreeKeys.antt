-- Whether the key packet is on no queue, as its link says.
use Rattle.std.proofs.Common.{◌≡◌, ℕ, ◌<◌, ◌≤◌, leb, ◌&&◌, Bool, true, false, not, cond, eqb, get_or, is_some, Option, Some, None, List, refl, ap, ◌∙◌, arith}
use Rattle.std.proofs.lemmas.Bool.{and_parts, eq-eqb, leb-true, ne_eqb}
use Rattle.kernel_lists.specs.OwnedWords.Owned.{Holds}
use Rattle.kernel_lists.specs.PacketQueue.Queue.{no_queue}
use Rattle.kernel_model.specs.KernelRecord.HoldsLists.{HoldsLists}
use Rattle.kernel_model.specs.KernelRecord.Lists.{Lists, is_queued}
use Rattle.kernel_model.specs.KernelRecord.Residents.{key_packet, key_words}
use Rattle.kernel_model.specs.KernelRecord.Ranges.{most_words}
use Rattle.kernel_model.specs.KernelRecord.ValidLists.{AreValid}
use Rattle.kernel_model.proofs.KernelRecord.QueuedLinks.{queued-link}
use Rattle.kernel_calls.proofs.CallAnswers.FoundTask.{reads}
use Rattle.kernel_calls.proofs.PacketCalls.PlaceWords.{keys-exchange}
use Rattle.resident_tasks.specs.ConsoleHandler.ConsoleTurn.{keys_sent, with_keys_sent}
use Rattle.resident_tasks.specs.ConsoleHandler.TurnParts.{ConsoleTurn}
use Rattle.kernel_model.proofs.KernelRecord.RecoveredLists.{size-low}

module _ (s : List ℕ) (l : Lists) (h : HoldsLists s l) (residents : l.residents ≡ true) where
  words : Holds s (key_words l.key)
  words = ((keys-exchange l residents).first.opens s h.holds).1

  pub free-is : (n : ℕ) → n ≡ get_or s key_packet 0 → eqb n no_queue ≡ is_some l.key
  free-is n is = ap (λ z. eqb z no_queue) is ∙ on l.key words h.valid.queues.key
    where
      on : (x : Option ℕ) → Holds s (key_words x) → is_some x ≡ (l.residents && not (is_queued key_packet l)) → eqb (get_or s key_packet 0) no_queue ≡ is_some x
      on (Some r) k e = eq-eqb (get_or s key_packet 0) no_queue k.0
      on None k e = ne_eqb (get_or s key_packet 0) no_queue (λ z. omega (arith, z, queued-link s l key_packet (reads s l h) residents (queued (is_queued key_packet l) (e ∙ ap (λ b. b && not (is_queued key_packet l)) residents)), h.size, size-low l h.valid))
        where
          queued : (b : Bool) → false ≡ not b → b ≡ true
          queued true e = refl
          queued false e = cc

-- the key packet stays where it is
pub keys-stay : (g : ConsoleTurn) → (is_some g.lists.key && not g.console.finished) ≡ false → with_keys_sent g ≡ g
keys-stay g e = ap (λ f. cond f (keys_sent g) g) e

pub keys-go : (g : ConsoleTurn) → (is_some g.lists.key && not g.console.finished) ≡ true → with_keys_sent g ≡ keys_sent g
keys-go g e = ap (λ f. cond f (keys_sent g) g) e

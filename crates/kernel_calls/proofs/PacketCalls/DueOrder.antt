-- Due ticks never fall along the clock's queue where a packet comes in after all that are due no later.
use Rattle.std.proofs.Common.{◌≡◌, ℕ, ◌≤◌, Bool, true, false, List, [], ◌∷◌, cond, leb, refl, arith}
use Rattle.std.specs.List.{list_any}
use Rattle.std.proofs.lemmas.Bool.{leb-true}
use Rattle.std.proofs.lemmas.Bool.Decides.{nat_tests}
use Rattle.kernel_lists.specs.LinkedList.Places.{insert_after}
use Rattle.kernel_lists.specs.PacketQueue.QueueWords.{QueuedPacket}
use Rattle.kernel_model.specs.KernelRecord.ValidQueues.{NeverFall}
use Rattle.kernel_model.proofs.KernelRecord.AllThings.{all-fail, all-inserted, any-found}
use Rattle.kernel_model.proofs.KernelRecord.EachMember.{all-each}

pub later : (a b : ℕ) → leb a b ≡ false → b ≤ a
later a b e = grind (arith, nat_tests)

pub falls-inserted : (p : QueuedPacket) (ps : List QueuedPacket) → NeverFall ps → NeverFall (insert_after (λ q. leb q.last p.last) p ps)
falls-inserted p [] h = (tt, tt)
falls-inserted p (q ∷ qs) h = on (list_any due (q ∷ qs)) refl (falls-inserted p qs h.1)
  where
    due : QueuedPacket → Bool
    due r = leb r.last p.last

    on : (b : Bool) → list_any due (q ∷ qs) ≡ b → NeverFall (insert_after due p qs) → NeverFall (cond b (q ∷ insert_after due p qs) (p ∷ q ∷ qs))
    on true some more =
        let found = any-found due (λ r. q.last ≤ r.last) (q ∷ qs) some (omega arith, h.0) in
        let low : q.last ≤ p.last = omega (arith, leb-true found.0.last p.last found.1, found.2) in
        (all-inserted (λ r. q.last ≤ r.last) due p qs low h.0, more)
    on false none more = (
      all-each (λ r. due r ≡ false) (λ r. p.last ≤ r.last) (λ r e. later r.last p.last e) (q ∷ qs) (all-fail due (q ∷ qs) none),
      h,
    )

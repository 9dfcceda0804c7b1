-- Whether a packet may be where it is queued, rule by rule.
use Rattle.std.proofs.Common.{◌≡◌, ◌↔◌, ℕ, Bool, true, false, eqb, sym, ◌∙◌, subst}
use Rattle.std.proofs.lemmas.Bool.{and_parts, eqb-true, false≢true}
use Rattle.kernel_lists.specs.PacketQueue.QueueWords.{QueuedPacket}
use Rattle.kernel_model.specs.KernelRecord.Lists.{Lists, has_task}
use Rattle.kernel_model.specs.KernelRecord.ValidBlocks.{AreData}
use Rattle.kernel_model.specs.KernelRecord.ValidQueues.{HasSender, IsFaultPacket, IsKeyPacket, IsValidPacket, Place, is_fault_packet, is_key_packet}

-- the key packet is not the fault packet
other-packet : (l : Lists) (p : QueuedPacket) → is_key_packet l p ≡ true → is_fault_packet l p ≡ true → ⊥
other-packet l p key fault =
    let at-key : p.address ≡ 271 = eqb-true p.address 271 (and_parts l.residents (eqb p.address 271) key).1 in
    let at-fault : p.address ≡ 310 = eqb-true p.address 310 (and_parts (has_task 2 l.tasks) (eqb p.address 310) fault).1 in
    absurd (let e : 271 ≡ 310 = sym at-key ∙ at-fault in cc)

module _ (l : Lists) (at : Place) (p : QueuedPacket) (lodged : AreData l.blocks p.address 5) where
  pub key-may : (k : Bool) → k ≡ is_key_packet l p → k ≡ true → (b : Bool) → ((b ≡ true) ↔ IsKeyPacket at p) → (b ≡ true) ↔ IsValidPacket l at p
  key-may k read is b answer = (
    λ t. record {
      lodged = lodged;
      key = λ e. answer.0 t;
      fault = λ e. absurd (other-packet l p (sym read ∙ is) e);
      sender = λ e. absurd (false≢true (sym e ∙ sym read ∙ is));
    },
    λ m. answer.1 (m.key (sym read ∙ is)),
  )

  pub other-may : (k : Bool) → k ≡ is_key_packet l p → k ≡ false → (is_fault_packet l p ≡ true → IsFaultPacket at p) → (b : Bool) → (w : ℕ) → w ≡ p.sender → ((b ≡ true) ↔ HasSender l at w)
      → (b ≡ true) ↔ IsValidPacket l at p
  other-may k read not_so fault b w same answer = (
    λ t. record {
      lodged = lodged;
      key = λ e. absurd (false≢true (sym not_so ∙ read ∙ e));
      fault = fault;
      sender = λ e. subst (HasSender l at) same (answer.0 t);
    },
    λ m. answer.1 (subst (HasSender l at) (sym same) (m.sender (sym read ∙ not_so))),
  )

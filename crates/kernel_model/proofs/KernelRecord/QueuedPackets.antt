-- Which packets are queued, where a queue or the chain of tasks changes.
use Rattle.std.proofs.Common.{◌≡◌, ℕ, List, [], ◌∷◌, ◌++◌, eqb, is_some, not, ◌&&◌, ◌||◌, Bool, true, false, refl, sym, ap, ◌∙◌}
use Rattle.std.specs.List.{flat_map, list_any}
use Rattle.std.proofs.lemmas.Bool.{or_left, or_right}
use Rattle.std.proofs.lemmas.List.Folds.{list_any-append}
use Rattle.kernel_lists.specs.PacketQueue.QueueWords.{QueuedPacket}
use Rattle.kernel_model.specs.KernelRecord.Lists.{Lists, has_task, is_queued}
use Rattle.kernel_model.specs.KernelRecord.Residents.{fault_packet, key_packet}
use Rattle.kernel_model.specs.KernelRecord.Task.{Task}

-- whether the packet at an address is on one queue
abbrev pub is_on_queue : ℕ → List QueuedPacket → Bool
is_on_queue a ps = list_any (λ q. eqb q.address a) ps

-- the packets on the work queues
abbrev pub work_packets : List Task → List QueuedPacket
work_packets ts = flat_map (λ t. t.queue) ts

pub is_queued-parts : (a : ℕ) (l : Lists) → is_queued a l ≡ (is_on_queue a (work_packets l.tasks) || (is_on_queue a l.clock || (is_on_queue a l.keyboard || (is_on_queue a l.output || is_on_queue a l.pending))))
is_queued-parts a l = five (λ q. eqb q.address a) (work_packets l.tasks) l.clock l.keyboard l.output l.pending
  where
    five : (f : QueuedPacket → Bool) (A B C D E : List QueuedPacket) → list_any f (A ++ (B ++ (C ++ (D ++ E)))) ≡ (list_any f A || (list_any f B || (list_any f C || (list_any f D || list_any f E))))
    five f A B C D E =
        list_any-append f A (B ++ (C ++ (D ++ E)))
        ∙ ap (λ b. list_any f A || b) (list_any-append f B (C ++ (D ++ E)))
        ∙ ap (λ b. list_any f A || (list_any f B || b)) (list_any-append f C (D ++ E))
        ∙ ap (λ b. list_any f A || (list_any f B || (list_any f C || b))) (list_any-append f D E)

-- the same packets on each queue
pub is_queued-same : (a : ℕ) (l m : Lists) → is_on_queue a (work_packets m.tasks) ≡ is_on_queue a (work_packets l.tasks) → is_on_queue a m.clock ≡ is_on_queue a l.clock → is_on_queue a m.keyboard ≡ is_on_queue a l.keyboard
    → is_on_queue a m.output ≡ is_on_queue a l.output → is_on_queue a m.pending ≡ is_on_queue a l.pending → is_queued a m ≡ is_queued a l
is_queued-same a l m work clock keyboard output pending =
    is_queued-parts a m ∙ (λ i. work i || (clock i || (keyboard i || (output i || pending i)))) ∙ sym (is_queued-parts a l)

-- one task has another queue, with the same packet or without it
pub work_packets-put : (a : ℕ) (front : List Task) (t u : Task) (back : List Task) → is_on_queue a u.queue ≡ is_on_queue a t.queue → is_on_queue a (work_packets (front ++ u ∷ back)) ≡ is_on_queue a (work_packets (front ++ t ∷ back))
work_packets-put a [] t u back e =
    list_any-append (λ q. eqb q.address a) u.queue (work_packets back)
    ∙ ap (λ b. b || is_on_queue a (work_packets back)) e
    ∙ sym (list_any-append (λ q. eqb q.address a) t.queue (work_packets back))
work_packets-put a (z ∷ zs) t u back e =
    list_any-append (λ q. eqb q.address a) z.queue (work_packets (zs ++ u ∷ back))
    ∙ ap (λ b. is_on_queue a z.queue || b) (work_packets-put a zs t u back e)
    ∙ sym (list_any-append (λ q. eqb q.address a) z.queue (work_packets (zs ++ t ∷ back)))

-- a task without that packet
pub work_packets-between : (a : ℕ) (front : List Task) (t : Task) (back : List Task) → is_on_queue a t.queue ≡ false → is_on_queue a (work_packets (front ++ t ∷ back)) ≡ is_on_queue a (work_packets (front ++ back))
work_packets-between a [] t back none =
    list_any-append (λ q. eqb q.address a) t.queue (work_packets back)
    ∙ ap (λ b. b || is_on_queue a (work_packets back)) none
work_packets-between a (z ∷ zs) t back none =
    list_any-append (λ q. eqb q.address a) z.queue (work_packets (zs ++ t ∷ back))
    ∙ ap (λ b. is_on_queue a z.queue || b) (work_packets-between a zs t back none)
    ∙ sym (list_any-append (λ q. eqb q.address a) z.queue (work_packets (zs ++ back)))

pub work_packets-here : (a : ℕ) (front : List Task) (t : Task) (back : List Task) → is_on_queue a t.queue ≡ true → is_on_queue a (work_packets (front ++ t ∷ back)) ≡ true
work_packets-here a [] t back some = list_any-append (λ q. eqb q.address a) t.queue (work_packets back) ∙ or_left (is_on_queue a t.queue) (is_on_queue a (work_packets back)) some
work_packets-here a (z ∷ zs) t back some =
    list_any-append (λ q. eqb q.address a) z.queue (work_packets (zs ++ t ∷ back))
    ∙ or_right (is_on_queue a z.queue) (is_on_queue a (work_packets (zs ++ t ∷ back))) (work_packets-here a zs t back some)

-- ---- the residents' two packets

-- a test that matters only under another
and_not-same : (b x y : Bool) → (b ≡ true → x ≡ y) → (b && not x) ≡ (b && not y)
and_not-same true x y same = ap not (same refl)
and_not-same false x y same = refl

-- they are on no queue where they were on none
pub key-kept : (l m : Lists) → is_some l.key ≡ (l.residents && not (is_queued key_packet l)) → (l.residents ≡ true → is_queued key_packet m ≡ is_queued key_packet l)
    → is_some l.key ≡ (l.residents && not (is_queued key_packet m))
key-kept l m key same = key ∙ sym (and_not-same l.residents (is_queued key_packet m) (is_queued key_packet l) same)

pub fault-kept : (l m : Lists) → l.fault_packet_free ≡ (has_task 2 l.tasks && not (is_queued fault_packet l)) → (has_task 2 l.tasks ≡ true → is_queued fault_packet m ≡ is_queued fault_packet l)
    → l.fault_packet_free ≡ (has_task 2 l.tasks && not (is_queued fault_packet m))
fault-kept l m fault same = fault ∙ sym (and_not-same (has_task 2 l.tasks) (is_queued fault_packet m) (is_queued fault_packet l) same)

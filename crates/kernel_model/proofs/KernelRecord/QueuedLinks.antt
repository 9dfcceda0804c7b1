-- The link of a queued packet is 0 or a word of the store, and so never the mark of a packet that is on no queue.
use Rattle.std.proofs.Common.{◌≡◌, ◌⊎◌, inl, inr, ℕ, ◌<◌, List, [], ◌∷◌, ◌++◌, length, map, get_or, eqb, Bool, true, sym, ap, ◌∙◌, subst, arith}
use Rattle.std.specs.List.{AllByRecursion, flat_map, list_any}
use Rattle.std.proofs.lemmas.Bool.{eqb-true, or_cases}
use Rattle.std.proofs.lemmas.List.Folds.{list_any-append}
use Rattle.kernel_lists.specs.LinkedList.Linked.{IsNode}
use Rattle.kernel_lists.specs.OwnedWords.LinkedWords.{first_of, linked_words}
use Rattle.kernel_lists.specs.OwnedWords.Owned.{Holds}
use Rattle.kernel_lists.proofs.OwnedWords.OwnedWords.{Holds-left, Holds-right}
use Rattle.kernel_lists.specs.PacketQueue.Queue.{link_of, packet_size}
use Rattle.kernel_lists.specs.PacketQueue.QueueWords.{HeldQueue, QueuedPacket, address_of, packet_words}
use Rattle.kernel_lists.proofs.PacketQueue.HeldQueues.{held-queue}
use Rattle.kernel_model.specs.KernelRecord.Lists.{Lists, is_queued}
use Rattle.kernel_model.specs.KernelRecord.Owned.{clock_head, keyboard_head, output_head}
use Rattle.kernel_model.specs.KernelRecord.ReadsLists.{ReadsLists}
use Rattle.kernel_model.specs.KernelRecord.Residents.{pending_head}
use Rattle.kernel_model.specs.KernelRecord.Task.{Task, queue_head}

abbrev is_at : ℕ → QueuedPacket → Bool
is_at p q = eqb q.address p

link-inside : (s : List ℕ) (p : ℕ) (ps : List QueuedPacket) → AllByRecursion (IsNode s link_of packet_size) (map address_of ps) → Holds s (linked_words address_of packet_words ps 0)
    → list_any (is_at p) ps ≡ true → get_or s p 0 < length s
link-inside s p [] nodes h some = cc
link-inside s p (q ∷ qs) nodes h some =
    let rest = Holds-right s (packet_words q (first_of address_of qs 0)) (linked_words address_of packet_words qs 0) h in
    on (or_cases (is_at p q) (list_any (is_at p) qs) some) (link-inside s p qs nodes.1 rest)
  where
    next : (qs : List QueuedPacket) → AllByRecursion (IsNode s link_of packet_size) (map address_of qs) → first_of address_of qs 0 < length s
    next [] none = omega (arith, nodes.0.inside)
    next (r ∷ rs) all = omega (arith, all.0.inside)

    on : (is_at p q ≡ true) ⊎ (list_any (is_at p) qs ≡ true) → (list_any (is_at p) qs ≡ true → get_or s p 0 < length s) → get_or s p 0 < length s
    on (inl here) more =
        let same : q.address ≡ p = eqb-true q.address p here in
        let own = Holds-left s (packet_words q (first_of address_of qs 0)) (linked_words address_of packet_words qs 0) h in
        omega (arith, ap (λ z. get_or s z 0) same, own.0, next qs nodes.1)
    on (inr later) more = more later

queue-link : (s : List ℕ) (head p : ℕ) (ps : List QueuedPacket) → HeldQueue s head ps → list_any (is_at p) ps ≡ true → get_or s p 0 < length s
queue-link s head p ps h some =
    let list = held-queue s head ps h in
    link-inside s p ps (subst (AllByRecursion (IsNode s link_of packet_size)) list.list list.valid.nodes) h.holds.1 some

work-link : (s : List ℕ) (p : ℕ) (ts : List Task) → AllByRecursion (λ t. HeldQueue s (queue_head t.address) t.queue) ts → list_any (is_at p) (flat_map (λ t. t.queue) ts) ≡ true → get_or s p 0 < length s
work-link s p [] all some = cc
work-link s p (t ∷ ts) all some =
    on (or_cases (list_any (is_at p) t.queue) (list_any (is_at p) (flat_map (λ t. t.queue) ts)) (sym (list_any-append (is_at p) t.queue (flat_map (λ t. t.queue) ts)) ∙ some))
    (work-link s p ts all.1)
  where
    on : (list_any (is_at p) t.queue ≡ true) ⊎ (list_any (is_at p) (flat_map (λ t. t.queue) ts) ≡ true)
        → (list_any (is_at p) (flat_map (λ t. t.queue) ts) ≡ true → get_or s p 0 < length s) → get_or s p 0 < length s
    on (inl here) more = queue-link s (queue_head t.address) p t.queue all.0 here
    on (inr later) more = more later

pub queued-link : (s : List ℕ) (l : Lists) (p : ℕ) → ReadsLists s l → l.residents ≡ true → is_queued p l ≡ true → get_or s p 0 < length s
queued-link s l p r residents some = on (split (flat_map (λ t. t.queue) l.tasks) (l.clock ++ (l.keyboard ++ (l.output ++ l.pending))) some)
  where
    split : (xs ys : List QueuedPacket) → list_any (is_at p) (xs ++ ys) ≡ true → (list_any (is_at p) xs ≡ true) ⊎ (list_any (is_at p) ys ≡ true)
    split xs ys some = or_cases (list_any (is_at p) xs) (list_any (is_at p) ys) (sym (list_any-append (is_at p) xs ys) ∙ some)

    last : (list_any (is_at p) l.output ≡ true) ⊎ (list_any (is_at p) l.pending ≡ true) → get_or s p 0 < length s
    last (inl here) = queue-link s output_head p l.output r.output here
    last (inr here) = queue-link s pending_head p l.pending (r.pending residents) here

    typed : (list_any (is_at p) l.keyboard ≡ true) ⊎ (list_any (is_at p) (l.output ++ l.pending) ≡ true) → get_or s p 0 < length s
    typed (inl here) = queue-link s keyboard_head p l.keyboard r.keyboard here
    typed (inr later) = last (split l.output l.pending later)

    devices : (list_any (is_at p) l.clock ≡ true) ⊎ (list_any (is_at p) (l.keyboard ++ (l.output ++ l.pending)) ≡ true) → get_or s p 0 < length s
    devices (inl here) = queue-link s clock_head p l.clock r.clock here
    devices (inr later) = typed (split l.keyboard (l.output ++ l.pending) later)

    on : (list_any (is_at p) (flat_map (λ t. t.queue) l.tasks) ≡ true) ⊎ (list_any (is_at p) (l.clock ++ (l.keyboard ++ (l.output ++ l.pending))) ≡ true) → get_or s p 0 < length s
    on (inl here) = work-link s p l.tasks r.work here
    on (inr later) = devices (split l.clock (l.keyboard ++ (l.output ++ l.pending)) later)

-- The packets that a walk shows are those that are queued.
use Rattle.std.proofs.Common.{◌≡◌, ℕ, Bool, true, false, List, [], ◌∷◌, ◌++◌, cond, map, refl, sym, ap, ◌∙◌}
use Rattle.std.specs.List.{AllByRecursion, flat_map}
use Rattle.kernel_lists.specs.PacketQueue.QueueWords.{HeldQueue, QueuedPacket, address_of as packet_address}
use Rattle.kernel_lists.proofs.PacketQueue.HeldQueues.{held-queue}
use Rattle.kernel_model.specs.KernelRecord.HoldsLists.{HoldsLists}
use Rattle.kernel_model.specs.KernelRecord.KernelRanges.{packet_ranges, packet_words_of, packets_at, pending_packets, words}
use Rattle.kernel_model.specs.KernelRecord.Lists.{Lists, queued}
use Rattle.kernel_model.specs.KernelRecord.Owned.{clock_head, keyboard_head, output_head}
use Rattle.kernel_model.specs.KernelRecord.Task.{Task, queue_head, task_address}
use Rattle.kernel_model.proofs.KernelRecord.ListRanges.{work_at}
use Rattle.kernel_model.proofs.KernelRecord.WalkedLists.{reads, residents-read}

of-append : (xs ys : List QueuedPacket) → packet_words_of (xs ++ ys) ≡ packet_words_of xs ++ packet_words_of ys
of-append [] ys = refl
of-append (x ∷ xs) ys = ap (λ z. words x.address 5 ∷ z) (of-append xs ys)

of-addresses : (ps : List QueuedPacket) → map (λ p. words p 5) (map packet_address ps) ≡ packet_words_of ps
of-addresses [] = refl
of-addresses (p ∷ ps) = ap (λ z. words p.address 5 ∷ z) (of-addresses ps)

module _ (s : List ℕ) (l : Lists) (i : HoldsLists s l) where
  at-head : (head : ℕ) (ps : List QueuedPacket) → HeldQueue s head ps → packets_at s head ≡ packet_words_of ps
  at-head head ps h = ap (map (λ p. words p 5)) (held-queue s head ps h).list ∙ of-addresses ps

  of-tasks : (ts : List Task) → AllByRecursion (λ t. HeldQueue s (queue_head t.address) t.queue) ts
      → flat_map (work_at s) (map task_address ts) ≡ packet_words_of (flat_map (λ t. t.queue) ts)
  of-tasks [] all = refl
  of-tasks (t ∷ ts) all =
      (λ j. at-head (queue_head t.address) t.queue all.0 j ++ of-tasks ts all.1 j) ∙ sym (of-append t.queue (flat_map (λ t. t.queue) ts))

  of-pending : (b : Bool) → l.residents ≡ b → pending_packets s ≡ packet_words_of l.pending
  of-pending true e = ap (λ z. cond z (packets_at s 270) []) (residents-read s l i ∙ e) ∙ at-head 270 l.pending ((reads s l i).pending e)
  of-pending false e = ap (λ z. cond z (packets_at s 270) []) (residents-read s l i ∙ e) ∙ sym (ap packet_words_of (i.valid.queues.no_console e))

  pub queued-packets : packet_ranges s ≡ packet_words_of (queued l)
  unfolding packet_ranges
  queued-packets =
      let r = reads s l i in
      let work : List QueuedPacket = flat_map (λ t. t.queue) l.tasks in
      let tasks = ap (flat_map (work_at s)) r.tasks.chain ∙ of-tasks l.tasks r.work in
      (λ j. tasks j ++ (at-head clock_head l.clock r.clock j ++ (at-head keyboard_head l.keyboard r.keyboard j ++ (at-head output_head l.output r.output j ++ of-pending l.residents refl j))))
      ∙ sym
      (of-append work (l.clock ++ (l.keyboard ++ (l.output ++ l.pending)))
      ∙ ap (λ z. packet_words_of work ++ z)
      (of-append l.clock (l.keyboard ++ (l.output ++ l.pending))
      ∙ ap (λ z. packet_words_of l.clock ++ z) (of-append l.keyboard (l.output ++ l.pending) ∙ ap (λ z. packet_words_of l.keyboard ++ z) (of-append l.output l.pending))))

-- The ranges of the kernel's words have exactly the addresses of the words that are owned.
use Rattle.std.proofs.Common.{◌≡◌, ℕ, ◌≤◌, Bool, true, false, List, [], ◌∷◌, ◌++◌, cond, eqb, refl, sym, ap, ◌∙◌, arith}
use Rattle.std.specs.List.{flat_map, list_any, range_with_len}
use Rattle.std.proofs.lemmas.Bool.{eqb-true, false≢true}
use Rattle.std.proofs.lemmas.List.Folds.{list_any-append}
use Rattle.word_store.specs.Count.{times}
use Rattle.kernel_lists.specs.OwnedWords.LinkedWords.{first_of, linked_words}
use Rattle.kernel_lists.specs.OwnedWords.Owned.{Pairs, owners}
use Rattle.kernel_lists.proofs.OwnedWords.OwnedWords.{owners-append}
use Rattle.kernel_lists.specs.PacketQueue.QueueWords.{QueuedPacket, address_of as packet_address, packet_words, queue_words}
use Rattle.kernel_model.specs.KernelRecord.Lists.{Lists, is_queued}
use Rattle.kernel_model.specs.KernelRecord.Owned.{owned}
use Rattle.kernel_model.specs.KernelRecord.Residents.{fault_packet_words, key_arguments, key_words, resident_words}
use Rattle.kernel_model.specs.KernelRecord.Task.{Task, task_address, task_words}
use Rattle.kernel_model.proofs.KernelRecord.QueueCounts.{owners-packet}
use Rattle.kernel_model.proofs.KernelRecord.RootCounts.{owners-nodes}
use Rattle.kernel_model.proofs.KernelRecord.TaskKind.{owners-whole}
use Rattle.kernel_model.proofs.KernelRecord.RangeCounts.{either}

abbrev pub packets_words : List QueuedPacket → Pairs
packets_words ps = linked_words packet_address packet_words ps 0

-- ---- a queued packet's words are owned

listed-owned : (a p : ℕ) (ps : List QueuedPacket) → list_any (λ q. eqb q.address p) ps ≡ true → times a (range_with_len p 5) ≤ owners a (packets_words ps)
listed-owned a p [] e = absurd (false≢true e)
listed-owned a p (q ∷ qs) e =
    let n : ℕ = first_of packet_address qs 0 in
    let join = owners-append a (packet_words q n) (packets_words qs) in
    either (eqb q.address p) (list_any (λ q. eqb q.address p) qs) (times a (range_with_len p 5) ≤ owners a (packets_words (q ∷ qs))) e
    (λ here. omega (arith, join, owners-packet a q n, ap (λ z. times a (range_with_len z 5)) (eqb-true q.address p here)))
    (λ later. omega (arith, join, listed-owned a p qs later))

tasks-owned : (a p version : ℕ) (ts : List Task) → list_any (λ q. eqb q.address p) (flat_map (λ t. t.queue) ts) ≡ true
    → times a (range_with_len p 5) ≤ owners a (linked_words task_address (task_words version) ts 0)
tasks-owned a p version [] e = absurd (false≢true e)
tasks-owned a p version (t ∷ ts) e =
    let f : QueuedPacket → Bool = λ q. eqb q.address p in
    let rest : List QueuedPacket = flat_map (λ t. t.queue) ts in
    let n : ℕ = first_of task_address ts 0 in
    let join = owners-append a (task_words version t n) (linked_words task_address (task_words version) ts 0) in
    either (list_any f t.queue) (list_any f rest) (times a (range_with_len p 5) ≤ owners a (linked_words task_address (task_words version) (t ∷ ts) 0))
    (sym (list_any-append f t.queue rest) ∙ e)
    (λ here. omega (arith, join, owners-whole a version t n, listed-owned a p t.queue here))
    (λ later. omega (arith, join, tasks-owned a p version ts later))

-- without residents no read waits
abbrev HasPending : Lists → Type 0
HasPending l = l.residents ≡ false → l.pending ≡ []

pending-owned : (a : ℕ) (l : Lists) → HasPending l → owners a (packets_words l.pending) ≤ owners a (resident_words l)
pending-owned a l none = on l.residents refl
  where
    rest : Pairs
    rest = key_words l.key ++ (key_arguments ++ fault_packet_words l.fault_packet_free)

    on : (b : Bool) → l.residents ≡ b → owners a (packets_words l.pending) ≤ owners a (cond b (queue_words 270 l.pending ++ rest) [])
    on true e = omega (arith, owners-append a (queue_words 270 l.pending) rest)
    on false e = omega (arith, ap (λ z. owners a (packets_words z)) (none e))

pub queued-owned : (a p : ℕ) (l : Lists) → HasPending l → is_queued p l ≡ true → times a (range_with_len p 5) ≤ owners a (owned l)
queued-owned a p l none e =
    let f : QueuedPacket → Bool = λ q. eqb q.address p in
    let work : List QueuedPacket = flat_map (λ t. t.queue) l.tasks in
    let P : Type 0 = times a (range_with_len p 5) ≤ owners a (owned l) in
    let all = owners-nodes a l in
    either (list_any f work) (list_any f (l.clock ++ (l.keyboard ++ (l.output ++ l.pending)))) P (sym (list_any-append f work (l.clock ++ (l.keyboard ++ (l.output ++ l.pending)))) ∙ e)
    (λ h. omega (arith, all, tasks-owned a p l.version l.tasks h))
    (λ h1.
    either (list_any f l.clock) (list_any f (l.keyboard ++ (l.output ++ l.pending))) P (sym (list_any-append f l.clock (l.keyboard ++ (l.output ++ l.pending))) ∙ h1)
    (λ h. omega (arith, all, listed-owned a p l.clock h))
    (λ h2.
    either (list_any f l.keyboard) (list_any f (l.output ++ l.pending)) P (sym (list_any-append f l.keyboard (l.output ++ l.pending)) ∙ h2)
    (λ h. omega (arith, all, listed-owned a p l.keyboard h))
    (λ h3.
    either (list_any f l.output) (list_any f l.pending) P (sym (list_any-append f l.output l.pending) ∙ h3)
    (λ h. omega (arith, all, listed-owned a p l.output h))
    (λ h. omega (arith, all, pending-owned a l none, listed-owned a p l.pending h)))))

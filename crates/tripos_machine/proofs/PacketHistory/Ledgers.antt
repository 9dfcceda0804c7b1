-- The ledger of lists, where one queue or one task changes.
use Rattle.std.proofs.Common.{◌≡◌, ◌≢◌, ℕ, ℤ, zero, suc, pos, negsuc, ◌||◌, Bool, true, false, cond, eqb, leb, List, [], ◌∷◌, ◌++◌, map, refl, sym, ap, ◌∙◌, arith, eqb-true, eq-eqb, ne_eqb}
use Rattle.std.specs.List.{list_any}
use Rattle.kernel_lists.specs.LinkedList.Places.{insert_after, without_first}
use Rattle.kernel_lists.specs.PacketQueue.QueueWords.{QueuedPacket}
use Rattle.kernel_model.specs.KernelRecord.Changes.{HasPlace, change_of, queue_of, with_queue, with_task, with_work, work_of}
use Rattle.kernel_model.specs.KernelRecord.Lists.{Lists, has_task}
use Rattle.kernel_model.specs.KernelRecord.Task.{Task}
use Rattle.kernel_model.specs.KernelRecord.ValidQueues.{Place}
use Rattle.kernel_model.specs.KernelRecord.ValidQueues.Place.{Clock, Keyboard, Output, Pending, Work}
use Rattle.kernel_calls.specs.PacketCalls.Dqpkt.{pending_number}
use Rattle.tripos_machine.specs.EventHistory.Ledger.{Entry, with_queue as put}
use Rattle.tripos_machine.specs.PacketHistory.Queues.{clock_entry, entry_of, ledger_of}

-- the number of a place, and its packets as entries
abbrev pub number_of : Place → ℤ
number_of (Work id) = pos id
number_of Clock = negsuc 0
number_of Keyboard = negsuc 1
number_of Output = negsuc 2
number_of Pending = pos pending_number

abbrev pub entries_at : Place → List QueuedPacket → List Entry
entries_at (Work id) ps = map entry_of ps
entries_at Clock ps = map clock_entry ps
entries_at Keyboard ps = map entry_of ps
entries_at Output ps = map entry_of ps
entries_at Pending ps = map entry_of ps

-- 103 is no task's number
abbrev pub IsNamed : Place → Type 0
IsNamed (Work id) = id ≢ pending_number
IsNamed Clock = Unit {0}
IsNamed Keyboard = Unit {0}
IsNamed Output = Unit {0}
IsNamed Pending = Unit {0}

-- ---- tasks

pub work-other : (id n : ℕ) (ps : List QueuedPacket) (ts : List Task) → n ≢ id → work_of n (map (with_work id ps) ts) ≡ work_of n ts
work-other id n ps [] ne = refl
work-other id n ps (t ∷ ts) ne = on (eqb t.id id) refl (work-other id n ps ts ne)
  where
    on : (b : Bool) → eqb t.id id ≡ b → work_of n (map (with_work id ps) ts) ≡ work_of n ts
        → work_of n ((cond b (record t { queue = ps }) t) ∷ map (with_work id ps) ts) ≡ work_of n (t ∷ ts)
    on true is more =
        let other : eqb t.id n ≡ false = ne_eqb t.id n (λ e. ne (sym e ∙ eqb-true t.id id is)) in
        ap (λ c. cond c ps (work_of n (map (with_work id ps) ts))) other ∙ more ∙ sym (ap (λ c. cond c t.queue (work_of n ts)) other)
    on false is more = ap (λ z. cond (eqb t.id n) t.queue z) more

pub work-here : (id : ℕ) (ps : List QueuedPacket) (ts : List Task) → has_task id ts ≡ true → work_of id (map (with_work id ps) ts) ≡ ps
work-here id ps [] some = cc
work-here id ps (t ∷ ts) some = on (eqb t.id id) refl some (work-here id ps ts)
  where
    on : (b : Bool) → eqb t.id id ≡ b → (b || has_task id ts) ≡ true → (has_task id ts ≡ true → work_of id (map (with_work id ps) ts) ≡ ps)
        → work_of id ((cond b (record t { queue = ps }) t) ∷ map (with_work id ps) ts) ≡ ps
    on true is some more = ap (λ c. cond c ps (work_of id (map (with_work id ps) ts))) is
    on false is some more = ap (λ c. cond c t.queue (work_of id (map (with_work id ps) ts))) is ∙ more some

-- a task keeps its number and its packets
pub work-kept : (n id : ℕ) (f : Task → Task) → ((t : Task) → ((f t).id ≡ t.id) × ((f t).queue ≡ t.queue)) → (ts : List Task) → work_of n (map (change_of id f) ts) ≡ work_of n ts
work-kept n id f same [] = refl
work-kept n id f same (t ∷ ts) = λ i. cond (eqb (number (eqb t.id id) i) n) (packets (eqb t.id id) i) (work-kept n id f same ts i)
  where
    number : (b : Bool) → (cond b (f t) t).id ≡ t.id
    number true = (same t).0
    number false = refl

    packets : (b : Bool) → (cond b (f t) t).queue ≡ t.queue
    packets true = (same t).1
    packets false = refl

-- ---- ledgers

-- those with the same queues
pub ledger-same : (l m : Lists) → ((n : ℕ) → work_of n m.tasks ≡ work_of n l.tasks) → m.clock ≡ l.clock → m.keyboard ≡ l.keyboard → m.output ≡ l.output → m.pending ≡ l.pending → ledger_of m ≡ ledger_of l
ledger-same l m work c k o p = λ i q. each q i
  where
    each : (q : ℤ) → ledger_of m q ≡ ledger_of l q
    each (pos n) = λ i. map entry_of (cond (eqb n pending_number) (p i) (work n i))
    each (negsuc zero) = ap (map clock_entry) c
    each (negsuc (suc zero)) = ap (map entry_of) k
    each (negsuc (suc (suc zero))) = ap (map entry_of) o
    each (negsuc (suc (suc (suc n)))) = refl

pub ledger-task : (l : Lists) (id : ℕ) (f : Task → Task) → ((t : Task) → ((f t).id ≡ t.id) × ((f t).queue ≡ t.queue)) → ledger_of (with_task id f l) ≡ ledger_of l
ledger-task l id f same = ledger-same l (with_task id f l) (λ n. work-kept n id f same l.tasks) refl refl refl refl

-- the queue at a place
pub ledger-at : (l : Lists) (at : Place) → IsNamed at → ledger_of l (number_of at) ≡ entries_at at (queue_of at l)
ledger-at l (Work id) named = ap (λ b. map entry_of (cond b l.pending (work_of id l.tasks))) (ne_eqb id pending_number named)
ledger-at l Clock named = refl
ledger-at l Keyboard named = refl
ledger-at l Output named = refl
ledger-at l Pending named = refl

-- another queue at a place
pub ledger-put : (l : Lists) (at : Place) (ps : List QueuedPacket) → HasPlace l at → IsNamed at → ledger_of (with_queue at ps l) ≡ put (number_of at) (entries_at at ps) (ledger_of l)
ledger-put l at ps has named = λ i q. each at has named q i
  where
    task : (id : ℕ) → has_task id l.tasks ≡ true → id ≢ pending_number → (n : ℕ) → (b : Bool) → eqb n id ≡ b → (c : Bool) → eqb n pending_number ≡ c
        → map entry_of (cond c l.pending (work_of n (map (with_work id ps) l.tasks))) ≡ cond b (map entry_of ps) (map entry_of (cond c l.pending (work_of n l.tasks)))
    task id has named n true is true there = absurd (named (sym (eqb-true n id is) ∙ eqb-true n pending_number there))
    task id has named n true is false there = ap (map entry_of) (ap (λ z. work_of z (map (with_work id ps) l.tasks)) (eqb-true n id is) ∙ work-here id ps l.tasks has)
    task id has named n false is true there = refl
    task id has named n false is false there = ap (map entry_of) (work-other id n ps l.tasks (λ e. absurd (clash (sym is ∙ eq-eqb n id e))))
      where
        clash : false ≡ true → ⊥
        clash e = cc

    reading : (n : ℕ) (b : Bool) → eqb n pending_number ≡ b → map entry_of (cond b ps (work_of n l.tasks)) ≡ cond b (map entry_of ps) (map entry_of (cond b l.pending (work_of n l.tasks)))
    reading n true is = refl
    reading n false is = refl

    each : (at : Place) → HasPlace l at → IsNamed at → (q : ℤ) → ledger_of (with_queue at ps l) q ≡ put (number_of at) (entries_at at ps) (ledger_of l) q
    each (Work id) has named (pos n) = task id has named n (eqb n id) refl (eqb n pending_number) refl
    each (Work id) has named (negsuc zero) = refl
    each (Work id) has named (negsuc (suc zero)) = refl
    each (Work id) has named (negsuc (suc (suc zero))) = refl
    each (Work id) has named (negsuc (suc (suc (suc n)))) = refl
    each Clock has named (pos n) = refl
    each Clock has named (negsuc zero) = refl
    each Clock has named (negsuc (suc zero)) = refl
    each Clock has named (negsuc (suc (suc zero))) = refl
    each Clock has named (negsuc (suc (suc (suc n)))) = sym (ap (λ b. cond b (map clock_entry ps) []) (ne_eqb (suc (suc (suc n))) 0 (λ e. absurd (omega (arith, e)))))
    each Keyboard has named (pos n) = refl
    each Keyboard has named (negsuc zero) = refl
    each Keyboard has named (negsuc (suc zero)) = refl
    each Keyboard has named (negsuc (suc (suc zero))) = refl
    each Keyboard has named (negsuc (suc (suc (suc n)))) = sym (ap (λ b. cond b (map entry_of ps) []) (ne_eqb (suc (suc (suc n))) 1 (λ e. absurd (omega (arith, e)))))
    each Output has named (pos n) = refl
    each Output has named (negsuc zero) = refl
    each Output has named (negsuc (suc zero)) = refl
    each Output has named (negsuc (suc (suc zero))) = refl
    each Output has named (negsuc (suc (suc (suc n)))) = sym (ap (λ b. cond b (map entry_of ps) []) (ne_eqb (suc (suc (suc n))) 2 (λ e. absurd (omega (arith, e)))))
    each Pending has named (pos n) = reading n (eqb n pending_number) refl
    each Pending has named (negsuc zero) = refl
    each Pending has named (negsuc (suc zero)) = refl
    each Pending has named (negsuc (suc (suc zero))) = refl
    each Pending has named (negsuc (suc (suc (suc n)))) = refl

-- ---- entries

pub entries-end : (ps : List QueuedPacket) (p : QueuedPacket) → map entry_of (ps ++ p ∷ []) ≡ map entry_of ps ++ entry_of p ∷ []
entries-end [] p = refl
entries-end (q ∷ qs) p = ap (λ z. entry_of q ∷ z) (entries-end qs p)

any-entry : (f : Entry → Bool) (g : QueuedPacket → Bool) (make : QueuedPacket → Entry) → ((p : QueuedPacket) → f (make p) ≡ g p) → (ps : List QueuedPacket) → list_any f (map make ps) ≡ list_any g ps
any-entry f g make same [] = refl
any-entry f g make same (p ∷ ps) = λ i. same p i || any-entry f g make same ps i

-- a packet is among the entries of a place where it is there
pub any-at : (at : Place) (a : ℕ) (ps : List QueuedPacket) → list_any (λ e. eqb a e.packet) (entries_at at ps) ≡ list_any (λ q. eqb a q.address) ps
any-at (Work id) a ps = any-entry (λ e. eqb a e.packet) (λ q. eqb a q.address) entry_of (λ p. refl) ps
any-at Clock a ps = any-entry (λ e. eqb a e.packet) (λ q. eqb a q.address) clock_entry (λ p. refl) ps
any-at Keyboard a ps = any-entry (λ e. eqb a e.packet) (λ q. eqb a q.address) entry_of (λ p. refl) ps
any-at Output a ps = any-entry (λ e. eqb a e.packet) (λ q. eqb a q.address) entry_of (λ p. refl) ps
any-at Pending a ps = any-entry (λ e. eqb a e.packet) (λ q. eqb a q.address) entry_of (λ p. refl) ps

pub entries-insert : (p : QueuedPacket) (ps : List QueuedPacket)
    → map clock_entry (insert_after (λ q. leb q.last p.last) p ps) ≡ insert_after (λ e. leb e.due p.last) (clock_entry p) (map clock_entry ps)
entries-insert p [] = refl
entries-insert p (q ∷ qs) =
    on (list_any (λ z. leb z.last p.last) (q ∷ qs)) (entries-insert p qs)
    ∙ sym (ap (λ b. cond b (clock_entry q ∷ insert_after (λ e. leb e.due p.last) (clock_entry p) (map clock_entry qs)) (clock_entry p ∷ clock_entry q ∷ map clock_entry qs))
    (any-entry (λ e. leb e.due p.last) (λ z. leb z.last p.last) clock_entry (λ z. refl) (q ∷ qs)))
  where
    on : (b : Bool) → map clock_entry (insert_after (λ z. leb z.last p.last) p qs) ≡ insert_after (λ e. leb e.due p.last) (clock_entry p) (map clock_entry qs)
        → map clock_entry (cond b (q ∷ insert_after (λ z. leb z.last p.last) p qs) (p ∷ q ∷ qs))
        ≡ cond b (clock_entry q ∷ insert_after (λ e. leb e.due p.last) (clock_entry p) (map clock_entry qs)) (clock_entry p ∷ clock_entry q ∷ map clock_entry qs)
    on true more = ap (λ z. clock_entry q ∷ z) more
    on false more = refl

pub entries-without : (make : QueuedPacket → Entry) → ((p : QueuedPacket) → (make p).packet ≡ p.address) → (a : ℕ) (ps : List QueuedPacket)
    → map make (without_first (λ q. eqb a q.address) ps) ≡ without_first (λ e. eqb a e.packet) (map make ps)
entries-without make same a [] = refl
entries-without make same a (p ∷ ps) = on (eqb a p.address) (entries-without make same a ps) ∙ sym (ap (λ z. cond (eqb a z) (map make ps) (make p ∷ without_first (λ e. eqb a e.packet) (map make ps))) (same p))
  where
    on : (b : Bool) → map make (without_first (λ q. eqb a q.address) ps) ≡ without_first (λ e. eqb a e.packet) (map make ps)
        → map make (cond b ps (p ∷ without_first (λ q. eqb a q.address) ps)) ≡ cond b (map make ps) (make p ∷ without_first (λ e. eqb a e.packet) (map make ps))
    on true more = refl
    on false more = ap (λ z. make p ∷ z) more

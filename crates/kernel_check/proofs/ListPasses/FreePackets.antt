-- The packets of the residents that are on no queue, and the reads that wait for a line.
use Rattle.std.proofs.Common.{◌≡◌, ◌≢◌, ◌↔◌, ℕ, ◌&&◌, Bool, true, false, Some, None, List, [], ◌∷◌, ◌++◌, cond, eqb, get_or, map, refl, sym, ap, ◌∙◌, subst}
use Rattle.std.specs.List.{AllByRecursion, list_any}
use Rattle.std.proofs.lemmas.Bool.{eq-eqb, ne_eqb}
use Rattle.std.proofs.Math.Bool.{and-false}
use Rattle.kernel_lists.specs.LinkedList.Chain.{IsChain}
use Rattle.kernel_lists.specs.OwnedWords.Owned.{Holds, Pairs}
use Rattle.kernel_lists.proofs.OwnedWords.OwnedWords.{Holds-append, Holds-left, Holds-right}
use Rattle.kernel_lists.specs.PacketQueue.Queue.{link_of, no_queue, queue_at}
use Rattle.kernel_lists.specs.PacketQueue.QueueWords.{address_of, other_words, queue_words}
use Rattle.kernel_lists.specs.TaskBlock.TaskChain.{id_in, tasks_in}
use Rattle.kernel_model.specs.KernelRecord.KernelRanges.{has_residents}
use Rattle.kernel_model.specs.KernelRecord.Lists.{has_task}
use Rattle.kernel_model.specs.KernelRecord.Recovered.{lists_in, packet_in, packets_at}
use Rattle.kernel_model.specs.KernelRecord.Residents.{fault_packet_words, key_arguments, key_words, resident_words}
use Rattle.store_claims.proofs.AdoptionLaw.HeldChains.{chain-held}
use Rattle.kernel_check.specs.ListPasses.ClaimedStore.{IsClaimed}
use Rattle.kernel_check.proofs.ListPasses.Residents.{has-id}

-- ---- the key packet

pub key-is : (s : List ℕ) → (lists_in s).key ≡ cond ((lists_in s).residents && eqb (get_or s 271 0) no_queue) (Some (get_or s 274 0)) None
unfolding lists_in
key-is s = refl

pub key-queued : (s : List ℕ) (w : ℕ) → w ≡ get_or s 271 0 → w ≢ 4294967295 → Holds s (key_words (lists_in s).key)
key-queued s w read other =
    let none : (lists_in s).key ≡ None = key-is s ∙ ap (λ b. cond ((lists_in s).residents && b) (Some (get_or s 274 0)) None) (ne_eqb (get_or s 271 0) no_queue (λ e. other (read ∙ e)))
    ∙ ap (λ b. cond b (Some (get_or s 274 0)) None) (and-false (lists_in s).residents) in
    subst (λ k. Holds s (key_words k)) (sym none) tt

pub key-free : (s : List ℕ) (w : ℕ) → (lists_in s).residents ≡ true → w ≡ get_or s 271 0 → w ≡ 4294967295
    → ((get_or s 272 0 ≡ 4294967294) × (get_or s 273 0 ≡ 0) × (get_or s 275 0 ≡ 0)) ↔ Holds s (key_words (lists_in s).key)
key-free s w there read free =
    let some : (lists_in s).key ≡ Some (get_or s 274 0) = key-is s ∙ (λ i. cond (there i && eq-eqb (get_or s 271 0) no_queue (sym read ∙ free) i) (Some (get_or s 274 0)) None) in (
      λ h. subst (λ k. Holds s (key_words k)) (sym some) (sym read ∙ free, (h.0, (h.1, (refl, (h.2, tt))))),
      λ h. (let k : Holds s (key_words (Some (get_or s 274 0))) = subst (λ k. Holds s (key_words k)) some h in (k.1.0, k.1.1.0, k.1.1.1.1.0)),
    )

-- ---- the fault packet

free-at : (s : List ℕ) → (lists_in s).fault_packet_free ≡ (list_any (λ t. eqb (id_in s t) 2) (tasks_in s) && ((lists_in s).residents && eqb (get_or s 310 0) no_queue))
unfolding lists_in
free-at s = refl

pub free-is : (s : List ℕ) → (lists_in s).fault_packet_free ≡ (has_task 2 (lists_in s).tasks && ((lists_in s).residents && eqb (get_or s 310 0) no_queue))
free-is s = free-at s ∙ ap (λ b. b && ((lists_in s).residents && eqb (get_or s 310 0) no_queue)) (has-id s 2)

pub fault-absent : (s : List ℕ) → has_task 2 (lists_in s).tasks ≡ false → Holds s (fault_packet_words (lists_in s).fault_packet_free)
fault-absent s none = subst (λ b. Holds s (fault_packet_words b)) (sym (free-is s ∙ ap (λ b. b && ((lists_in s).residents && eqb (get_or s 310 0) no_queue)) none)) tt

pub fault-queued : (s : List ℕ) (w : ℕ) → w ≡ get_or s 310 0 → w ≢ 4294967295 → Holds s (fault_packet_words (lists_in s).fault_packet_free)
fault-queued s w read other =
    let not-free : (lists_in s).fault_packet_free ≡ false =
    free-is s ∙ ap (λ b. has_task 2 (lists_in s).tasks && ((lists_in s).residents && b)) (ne_eqb (get_or s 310 0) no_queue (λ e. other (read ∙ e)))
    ∙ ap (λ b. has_task 2 (lists_in s).tasks && b) (and-false (lists_in s).residents) ∙ and-false (has_task 2 (lists_in s).tasks)
    in
    subst (λ b. Holds s (fault_packet_words b)) (sym not-free) tt

pub fault-free : (s : List ℕ) (w : ℕ) → (lists_in s).residents ≡ true → has_task 2 (lists_in s).tasks ≡ true → w ≡ get_or s 310 0 → w ≡ 4294967295
    → ((get_or s 311 0 ≡ 0) × (get_or s 312 0 ≡ 0) × (get_or s 313 0 ≡ 0) × (get_or s 314 0 ≡ 0)) ↔ Holds s (fault_packet_words (lists_in s).fault_packet_free)
fault-free s w there reporter read free =
    let is : (lists_in s).fault_packet_free ≡ true = free-is s ∙ (λ i. reporter i && (there i && eq-eqb (get_or s 310 0) no_queue (sym read ∙ free) i)) in (
      λ h. subst (λ b. Holds s (fault_packet_words b)) (sym is) (sym read ∙ free, (h.0, (h.1, (h.2, (h.3, tt))))),
      λ h. (let k : Holds s (fault_packet_words true) = subst (λ b. Holds s (fault_packet_words b)) is h in (k.1.0, k.1.1.0, k.1.1.1.0, k.1.1.1.1.0)),
    )

-- ---- the reads that wait for a line

map-packets : (s : List ℕ) (ps : List ℕ) → map address_of (map (packet_in s) ps) ≡ ps
map-packets s [] = refl
map-packets s (p ∷ ps) = ap (λ z. p ∷ z) (map-packets s ps)

packets-hold : (s : List ℕ) (ps : List ℕ) → AllByRecursion (λ q. Holds s (other_words q)) (map (packet_in s) ps)
packets-hold s [] = tt
packets-hold s (p ∷ ps) = ((refl, (refl, (refl, (refl, tt)))), packets-hold s ps)

queue-holds : (s : List ℕ) (head : ℕ) → IsChain s link_of head (queue_at s head) → Holds s (queue_words head (packets_at s head))
queue-holds s head chain = chain-held address_of other_words s head (packets_at s head) (subst (IsChain s (λ a. a) head) (sym (map-packets s (queue_at s head))) chain) (packets-hold s (queue_at s head))

residents-is : (s : List ℕ) → (lists_in s).residents ≡ has_residents s
unfolding lists_in
residents-is s = refl

pending-is : (s : List ℕ) → (lists_in s).pending ≡ cond (has_residents s) (packets_at s 270) []
unfolding lists_in
pending-is s = refl

module _ (s : List ℕ) where
  words : Pairs
  words = queue_words 270 (lists_in s).pending ++ (key_words (lists_in s).key ++ (key_arguments ++ fault_packet_words (lists_in s).fault_packet_free))

  pub none-there : (lists_in s).residents ≡ false → Holds s (resident_words (lists_in s))
  none-there none = subst (λ b. Holds s (cond b (queue_words 270 (lists_in s).pending ++ (key_words (lists_in s).key ++ (key_arguments ++ fault_packet_words (lists_in s).fault_packet_free))) [])) (sym none) tt

  module _ (there : (lists_in s).residents ≡ true) where
    pub parts-hold : IsClaimed s → Holds s (key_words (lists_in s).key) → Holds s key_arguments → Holds s (fault_packet_words (lists_in s).fault_packet_free) → Holds s (resident_words (lists_in s))
    parts-hold claimed key arguments fault =
        let is : has_residents s ≡ true = sym (residents-is s) ∙ there in
        let pending : (lists_in s).pending ≡ packets_at s 270 = pending-is s ∙ ap (λ b. cond b (packets_at s 270) []) is in
        let queue : Holds s (queue_words 270 (lists_in s).pending) = subst (λ q. Holds s (queue_words 270 q)) (sym pending) (queue-holds s 270 (claimed.claims.ends.pending is)) in
        subst (λ b. Holds s (cond b (queue_words 270 (lists_in s).pending ++ (key_words (lists_in s).key ++ (key_arguments ++ fault_packet_words (lists_in s).fault_packet_free))) [])) (sym there)
        (Holds-append s (queue_words 270 (lists_in s).pending) (key_words (lists_in s).key ++ (key_arguments ++ fault_packet_words (lists_in s).fault_packet_free)) queue
        (Holds-append s (key_words (lists_in s).key) (key_arguments ++ fault_packet_words (lists_in s).fault_packet_free) key
        (Holds-append s key_arguments (fault_packet_words (lists_in s).fault_packet_free) arguments fault)))

    rest : Holds s (resident_words (lists_in s)) → Holds s (key_words (lists_in s).key ++ (key_arguments ++ fault_packet_words (lists_in s).fault_packet_free))
    rest h = Holds-right s (queue_words 270 (lists_in s).pending) (key_words (lists_in s).key ++ (key_arguments ++ fault_packet_words (lists_in s).fault_packet_free))
        (subst (λ b. Holds s (cond b (queue_words 270 (lists_in s).pending ++ (key_words (lists_in s).key ++ (key_arguments ++ fault_packet_words (lists_in s).fault_packet_free))) [])) there h)

    pub key-part : Holds s (resident_words (lists_in s)) → Holds s (key_words (lists_in s).key)
    key-part h = Holds-left s (key_words (lists_in s).key) (key_arguments ++ fault_packet_words (lists_in s).fault_packet_free) (rest h)

    later : Holds s (resident_words (lists_in s)) → Holds s (key_arguments ++ fault_packet_words (lists_in s).fault_packet_free)
    later h = Holds-right s (key_words (lists_in s).key) (key_arguments ++ fault_packet_words (lists_in s).fault_packet_free) (rest h)

    pub arguments-part : Holds s (resident_words (lists_in s)) → Holds s key_arguments
    arguments-part h = Holds-left s key_arguments (fault_packet_words (lists_in s).fault_packet_free) (later h)

    pub fault-part : Holds s (resident_words (lists_in s)) → Holds s (fault_packet_words (lists_in s).fault_packet_free)
    fault-part h = Holds-right s key_arguments (fault_packet_words (lists_in s).fault_packet_free) (later h)

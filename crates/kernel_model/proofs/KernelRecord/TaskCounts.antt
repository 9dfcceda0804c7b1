-- How often an address is among the words of a task: it depends on the task's place, its queue, and where its coroutines are.
use Rattle.std.proofs.Common.{◌≡◌, ◌≤◌, ℕ, ◌+◌, ◌-◌, List, [], ◌∷◌, ◌++◌, map, drop, length, Bool, true, false, cond, refl, sym, ap, ◌∙◌, arith, add-zero}
use Rattle.std.specs.List.{range_with_len}
use Rattle.word_store.specs.Count.{times, words_of}
use Rattle.word_store.proofs.Counts.{times-words_more}
use Rattle.kernel_lists.specs.OwnedWords.LinkedWords.{first_of, linked_words}
use Rattle.kernel_lists.specs.OwnedWords.Owned.{Pairs, owners}
use Rattle.kernel_lists.proofs.OwnedWords.OwnedWords.{owners-append}
use Rattle.kernel_lists.proofs.OwnedWords.RowWords.{owners-row}
use Rattle.kernel_lists.specs.PacketQueue.QueueWords.{QueuedPacket}
use Rattle.kernel_lists.specs.Coroutines.CoroutineWords.{coroutine_size}
use Rattle.kernel_lists.specs.Coroutines.HeldCoroutines.{Coroutine, address_of, coroutine_words, parent_of}
use Rattle.kernel_model.specs.KernelRecord.BlockUse.{coroutine_addresses}
use Rattle.kernel_model.specs.KernelRecord.Changes.{SameTask}
use Rattle.kernel_model.specs.KernelRecord.Task.{Task, filled, further_modules, is_guest_id, task_words}
use Rattle.kernel_model.specs.KernelRecord.Versions.{head_words_of}
use Rattle.kernel_model.proofs.KernelRecord.CutRanges.{times-cut}
use Rattle.kernel_model.proofs.KernelRecord.OwnerCounts.{packets_count}
use Rattle.kernel_model.proofs.KernelRecord.RootCounts.{head-low, length-filled}
use Rattle.kernel_model.proofs.KernelRecord.TaskKind.{owners-whole}

-- the words of a task block behind word 22
abbrev pub further_count : ℕ → ℕ → ℕ
further_count version id = cond (is_guest_id id) (head_words_of version - 23) 0

length-further_modules : (version : ℕ) (t : Task) → length (further_modules version t) ≡ further_count version t.id
length-further_modules version t = on (is_guest_id t.id)
  where
    on : (b : Bool) → length (cond b (filled (head_words_of version - 23) (drop 1 t.modules)) []) ≡ cond b (head_words_of version - 23) 0
    on true = length-filled (head_words_of version - 23) (drop 1 t.modules)
    on false = refl

-- a coroutine owns ten words
pub owners-coroutine : (a t : ℕ) (act : List ℕ) (c : Coroutine) (n : ℕ) → owners a (coroutine_words t act c n) ≡ times a (range_with_len c.address 10)
owners-coroutine a t act c n =
    owners-row a c.address 0 (c.saved_p ∷ parent_of t act c.address ∷ n ∷ c.function ∷ c.highest ∷ c.address ∷ c.saved_pc ∷ 0 ∷ 0 ∷ c.function ∷ [])
    ∙ ap (λ z. times a (range_with_len z 10)) (add-zero c.address)

-- so the words of coroutines are those of their addresses
owners-coroutines : (a t : ℕ) (act : List ℕ) (cs : List Coroutine) (end : ℕ) → owners a (linked_words address_of (coroutine_words t act) cs end) ≡ times a (words_of coroutine_size (map address_of cs))
owners-coroutines a t act [] end = refl
owners-coroutines a t act (c ∷ cs) end = joined (coroutine_words t act c (first_of address_of cs end)) (linked_words address_of (coroutine_words t act) cs end) (owners-coroutine a t act c (first_of address_of cs end)) (owners-coroutines a t act cs end)
  where
    joined : (A B : Pairs) → owners a A ≡ times a (range_with_len c.address 10) → owners a B ≡ times a (words_of coroutine_size (map address_of cs))
        → owners a (A ++ B) ≡ times a (words_of coroutine_size (map address_of (c ∷ cs)))
    joined A B x y = (owners-append a A B ∙ (λ i. x i + y i)) ∙ sym (times-words_more coroutine_size a c.address (map address_of cs))

-- ---- a task

-- the count by what it depends on
abbrev pub task_count : ℕ → ℕ → ℕ → ℕ → List QueuedPacket → List ℕ → ℕ
task_count a version id t ps cs =
    times a (range_with_len t 23) + (times a (range_with_len (t + 23) (further_count version id)) + (packets_count a ps + times a (words_of coroutine_size cs)))

pub owners-task_by : (a version : ℕ) (t : Task) (n : ℕ) → owners a (task_words version t n) ≡ task_count a version t.id t.address t.queue (coroutine_addresses t)
owners-task_by a version t n =
    owners-whole a version t n
    ∙ (λ i. times a (range_with_len t.address 23)
    + (times a (range_with_len (t.address + 23) (length-further_modules version t i)) + (packets_count a t.queue + owners-coroutines a t.address t.coroutines.active t.coroutines.list 0 i)))

-- the same place, the same queue and the same places of coroutines
pub owners-same_task : (a version : ℕ) (t u : Task) → SameTask t u → owners a (task_words version u 0) ≡ owners a (task_words version t 0)
owners-same_task a version t u same =
    owners-task_by a version u 0
    ∙ (λ i. task_count a version (same.id i) (same.address i) (same.queue i) (same.coroutines i))
    ∙ sym (owners-task_by a version t 0)

-- another queue
pub owners-task_queue : (a version : ℕ) (t : Task) (ps : List QueuedPacket)
    → owners a (task_words version (record t { queue = ps }) 0) + packets_count a t.queue ≡ owners a (task_words version t 0) + packets_count a ps
owners-task_queue a version t ps =
    exchanged (times a (range_with_len t.address 23)) (times a (range_with_len (t.address + 23) (further_count version t.id))) (packets_count a t.queue) (packets_count a ps)
    (times a (words_of coroutine_size (coroutine_addresses t))) (owners a (task_words version t 0)) (owners a (task_words version (record t { queue = ps }) 0)) (owners-task_by a version t 0) (owners-task_by a version (record t { queue = ps }) 0)
  where
    exchanged : (h f q r c w v : ℕ) → w ≡ h + (f + (q + c)) → v ≡ h + (f + (r + c)) → v + q ≡ w + r
    exchanged h f q r c w v e g = omega arith

-- A guest without packets and coroutines owns the words of its task block, each once.
pub owners-new_task : (a version : ℕ) (t : Task) → is_guest_id t.id ≡ true → t.queue ≡ [] → t.coroutines.list ≡ [] → owners a (task_words version t 0) ≡ times a (range_with_len t.address (head_words_of version))
owners-new_task a version t guest queue list =
    owners-task_by a version t 0
    ∙ (λ i. task_count a version t.id t.address (queue i) (map address_of (list i)))
    ∙ ends (times a (range_with_len t.address 23)) (times a (range_with_len (t.address + 23) (further_count version t.id)))
    ∙ sym (times-cut a t.address 23 (further_count version t.id) (t.address + 23) (head_words_of version) refl whole)
  where
    ends : (x y : ℕ) → x + (y + (0 + 0)) ≡ x + y
    ends x y = omega arith

    plain : (h : ℕ) → 23 ≤ h → 23 + (h - 23) ≡ h
    plain h low = omega arith

    whole : 23 + further_count version t.id ≡ head_words_of version
    whole = ap (λ b. 23 + cond b (head_words_of version - 23) 0) guest ∙ plain (head_words_of version) (head-low version)

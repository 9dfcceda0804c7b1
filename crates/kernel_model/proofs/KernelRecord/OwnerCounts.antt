-- How often an address is owned: by each part of the owned words, and by linked things, whatever their links hold.
use Rattle.std.proofs.Common.{◌≡◌, ℕ, ◌+◌, ◌<◌, ◌≤◌, List, [], ◌∷◌, ◌++◌, cond, Bool, true, Option, refl, ap, ◌∙◌, arith, inl, inr}
use Rattle.std.proofs.lemmas.Bool.{cases_lt}
use Rattle.kernel_lists.specs.OwnedWords.LinkedWords.{first_of, headed_words, linked_words}
use Rattle.kernel_lists.specs.OwnedWords.Owned.{Pairs, owners}
use Rattle.kernel_lists.proofs.OwnedWords.OwnedWords.{owners-append}
use Rattle.kernel_lists.specs.declared.getvec_chain.pieces.Block.{Block}
use Rattle.kernel_lists.specs.GetvecChain.BlockWords.{blocks_words}
use Rattle.kernel_lists.specs.HunkLoader.HeldModules.{LoadedModule, module_address, module_words}
use Rattle.kernel_lists.specs.HunkLoader.ModuleExchanges.{modules_words}
use Rattle.kernel_lists.specs.PacketQueue.QueueWords.{QueuedPacket, address_of, packet_words, queue_words}
use Rattle.kernel_lists.specs.TaskBlock.ChainWords.{entries, listed_words}
use Rattle.kernel_lists.specs.TaskBlock.HeldTasks.{address_with}
use Rattle.kernel_lists.specs.TaskBlock.RootWords.{first_module, first_task}
use Rattle.kernel_model.specs.KernelRecord.Changes.{with_blocks, with_modules, with_tasks}
use Rattle.kernel_model.specs.KernelRecord.Lists.{Lists, address_of_task}
use Rattle.kernel_model.specs.KernelRecord.Owned.{OwnsApart, clock_head, device_words, keyboard_head, output_head, owned, tasks_words}
use Rattle.kernel_model.specs.KernelRecord.Residents.{fault_packet_words, key_arguments, key_words, pending_head, resident_words}
use Rattle.kernel_model.specs.KernelRecord.Root.{root_words}
use Rattle.kernel_model.specs.KernelRecord.Task.{Task, task_address, task_id, task_words}
use Rattle.kernel_model.proofs.KernelRecord.RootCounts.{owners-entries}

-- ---- linked things

-- a kind of thing whose addresses do not depend on its link
abbrev pub HasSteadyWords : {X : Type 0} → ℕ → (X → ℕ → Pairs) → Type 0
HasSteadyWords {X} a words = (x : X) (n k : ℕ) → owners a (words x n) ≡ owners a (words x k)

pub owners-linked_between : {X : Type 0} (a : ℕ) (address : X → ℕ) (words : X → ℕ → Pairs) → HasSteadyWords a words → (front : List X) (x : X) (back : List X) (end : ℕ)
    → owners a (linked_words address words (front ++ x ∷ back) end) ≡ owners a (linked_words address words (front ++ back) end) + owners a (words x 0)
owners-linked_between a address words steady [] x back end =
    omega (arith, owners-append a (words x (first_of address back end)) (linked_words address words back end), steady x (first_of address back end) 0)
owners-linked_between a address words steady (z ∷ zs) x back end =
    omega (
      arith,
      owners-append a (words z (first_of address (zs ++ x ∷ back) end)) (linked_words address words (zs ++ x ∷ back) end),
      owners-append a (words z (first_of address (zs ++ back) end)) (linked_words address words (zs ++ back) end),
      steady z (first_of address (zs ++ x ∷ back) end) (first_of address (zs ++ back) end),
      owners-linked_between a address words steady zs x back end,
    )

-- words of one of them are words of all
pub owners-linked_here : {X : Type 0} (a : ℕ) (address : X → ℕ) (words : X → ℕ → Pairs) → HasSteadyWords a words → (front : List X) (x : X) (back : List X) (end : ℕ)
    → owners a (words x 0) ≤ owners a (linked_words address words (front ++ x ∷ back) end)
owners-linked_here a address words steady front x back end = omega (arith, owners-linked_between a address words steady front x back end)

-- ---- the parts

plus-six : (a : ℕ) (A B C D E F : Pairs) → owners a (A ++ (B ++ (C ++ (D ++ (E ++ F))))) ≡ owners a A + (owners a B + (owners a C + (owners a D + (owners a E + owners a F))))
plus-six a A B C D E F =
    omega (
      arith,
      owners-append a A (B ++ (C ++ (D ++ (E ++ F)))),
      owners-append a B (C ++ (D ++ (E ++ F))),
      owners-append a C (D ++ (E ++ F)),
      owners-append a D (E ++ F),
      owners-append a E F,
    )

plus-three : (a : ℕ) (A B C : Pairs) → owners a (A ++ (B ++ C)) ≡ owners a A + (owners a B + owners a C)
plus-three a A B C = omega (arith, owners-append a A (B ++ C), owners-append a B C)

-- of the root words only the values depend on who runs
abbrev pub root_count : ℕ → Lists → ℕ
root_count a l = owners a (root_words l 0)

pub owners-owned : (a : ℕ) (l : Lists)
    → owners a (owned l) ≡ root_count a l + (owners a (blocks_words l.blocks) + (owners a (tasks_words l) + (owners a (modules_words l.modules) + (owners a (device_words l) + owners a (resident_words l)))))
unfolding owned
owners-owned a l = plus-six a (root_words l (address_of_task l l.running)) (blocks_words l.blocks) (tasks_words l) (modules_words l.modules) (device_words l) (resident_words l)

pub owners-devices : (a : ℕ) (l : Lists) → owners a (device_words l) ≡ owners a (queue_words clock_head l.clock) + (owners a (queue_words keyboard_head l.keyboard) + owners a (queue_words output_head l.output))
owners-devices a l = plus-three a (queue_words clock_head l.clock) (queue_words keyboard_head l.keyboard) (queue_words output_head l.output)

-- what comes into a chain with its table
pub owners-listed_between : {X : Type 0} (a : ℕ) (address id : X → ℕ) (words : X → ℕ → Pairs) → HasSteadyWords a words → (top : ℕ) (front : List X) (x : X) (back : List X)
    → owners a (listed_words address id words top (front ++ x ∷ back)) ≡ owners a (listed_words address id words top (front ++ back)) + owners a (words x 0)
owners-listed_between a address id words steady top front x back =
    omega (
      arith,
      owners-append a (entries (address_with address id (front ++ x ∷ back)) 1 top) (headed_words address words first_task (front ++ x ∷ back) 0),
      owners-append a (entries (address_with address id (front ++ back)) 1 top) (headed_words address words first_task (front ++ back) 0),
      owners-entries a (address_with address id (front ++ x ∷ back)) 1 top,
      owners-entries a (address_with address id (front ++ back)) 1 top,
      owners-linked_between a address words steady front x back 0,
    )

pub owners-task_between : (a version top : ℕ) (front : List Task) (t : Task) (back : List Task)
    → owners a (listed_words task_address task_id (task_words version) top (front ++ t ∷ back)) ≡ owners a (listed_words task_address task_id (task_words version) top (front ++ back)) + owners a (task_words version t 0)
owners-task_between a version top front t back = owners-listed_between a task_address task_id (task_words version) (λ x n k. refl) top front t back

-- a module in the list
pub owners-module_between : (a : ℕ) (front : List LoadedModule) (m : LoadedModule) (back : List LoadedModule) → owners a (modules_words (front ++ m ∷ back)) ≡ owners a (modules_words (front ++ back)) + owners a (module_words m 0)
owners-module_between a front m back = headed first_module module_address module_words (λ x n k. refl) front m back
  where
    headed : {X : Type 0} (head : ℕ) (address : X → ℕ) (words : X → ℕ → Pairs) → HasSteadyWords a words → (front : List X) (x : X) (back : List X)
        → owners a (headed_words address words head (front ++ x ∷ back) 0) ≡ owners a (headed_words address words head (front ++ back) 0) + owners a (words x 0)
    headed head address words steady front x back = omega (arith, owners-linked_between a address words steady front x back 0)

-- the packets of a queue, without the head
abbrev pub packets_count : ℕ → List QueuedPacket → ℕ
packets_count a ps = owners a (linked_words address_of packet_words ps 0)

pub owners-packet_between : (a : ℕ) (front : List QueuedPacket) (p : QueuedPacket) (back : List QueuedPacket) → packets_count a (front ++ p ∷ back) ≡ packets_count a (front ++ back) + owners a (packet_words p 0)
owners-packet_between a front p back = owners-linked_between a address_of packet_words (λ x n k. refl) front p back 0

-- the words of residents, where there are any
pub owners-residents : (a : ℕ) (l : Lists) → l.residents ≡ true
    → owners a (resident_words l) ≡ owners a (queue_words pending_head l.pending) + (owners a (key_words l.key) + (owners a key_arguments + owners a (fault_packet_words l.fault_packet_free)))
owners-residents a l is =
    ap (λ b. owners a (cond b (queue_words pending_head l.pending ++ (key_words l.key ++ (key_arguments ++ fault_packet_words l.fault_packet_free))) [])) is
    ∙ four (queue_words pending_head l.pending) (key_words l.key) key_arguments (fault_packet_words l.fault_packet_free)
  where
    four : (A B C D : Pairs) → owners a (A ++ (B ++ (C ++ D))) ≡ owners a A + (owners a B + (owners a C + owners a D))
    four A B C D = omega (arith, owners-append a A (B ++ (C ++ D)), owners-append a B (C ++ D), owners-append a C D)

-- ---- one part changes

second : (w w' r b b' c d e f k n : ℕ) → w ≡ r + (b + (c + (d + (e + f)))) → w' ≡ r + (b' + (c + (d + (e + f)))) → b' + k ≡ b + n → w' + k ≡ w + n
second w w' r b b' c d e f k n old new h = omega arith

third : (w w' r b c c' d e f k n : ℕ) → w ≡ r + (b + (c + (d + (e + f)))) → w' ≡ r + (b + (c' + (d + (e + f)))) → c' + k ≡ c + n → w' + k ≡ w + n
third w w' r b c c' d e f k n old new h = omega arith

fourth : (w w' r b c d d' e f k n : ℕ) → w ≡ r + (b + (c + (d + (e + f)))) → w' ≡ r + (b + (c + (d' + (e + f)))) → d' + k ≡ d + n → w' + k ≡ w + n
fourth w w' r b c d d' e f k n old new h = omega arith

last_two : (w w' r b c d e e' f f' k n : ℕ) → w ≡ r + (b + (c + (d + (e + f)))) → w' ≡ r + (b + (c + (d + (e' + f')))) → (e' + f') + k ≡ (e + f) + n → w' + k ≡ w + n
last_two w w' r b c d e e' f f' k n old new h = omega arith

-- the lists with other queues of devices and residents, and another state of the residents' two packets
abbrev pub with_queues : List QueuedPacket → List QueuedPacket → List QueuedPacket → List QueuedPacket → Option ℕ → Bool → Lists → Lists
with_queues c k o p x f l = record l { clock = c; keyboard = k; output = o; pending = p; key = x; fault_packet_free = f }

-- from lists with a count to others, where in place of k of the words there are n others
module _ (a : ℕ) (l : Lists) (k n : ℕ) where
  pub owned-blocks : (bs : List Block) → owners a (blocks_words bs) + k ≡ owners a (blocks_words l.blocks) + n → owners a (owned (with_blocks bs l)) + k ≡ owners a (owned l) + n
  owned-blocks bs h =
      second (owners a (owned l)) (owners a (owned (with_blocks bs l))) (root_count a l) (owners a (blocks_words l.blocks)) (owners a (blocks_words bs))
      (owners a (tasks_words l)) (owners a (modules_words l.modules)) (owners a (device_words l)) (owners a (resident_words l)) k n
      (owners-owned a l) (owners-owned a (with_blocks bs l)) h

  pub owned-tasks : (ts : List Task) → owners a (tasks_words (with_tasks ts l)) + k ≡ owners a (tasks_words l) + n → owners a (owned (with_tasks ts l)) + k ≡ owners a (owned l) + n
  owned-tasks ts h =
      third (owners a (owned l)) (owners a (owned (with_tasks ts l))) (root_count a l) (owners a (blocks_words l.blocks)) (owners a (tasks_words l))
      (owners a (tasks_words (with_tasks ts l))) (owners a (modules_words l.modules)) (owners a (device_words l)) (owners a (resident_words l)) k n
      (owners-owned a l) (owners-owned a (with_tasks ts l)) h

  pub owned-modules : (ms : List LoadedModule) → owners a (modules_words ms) + k ≡ owners a (modules_words l.modules) + n → owners a (owned (with_modules ms l)) + k ≡ owners a (owned l) + n
  owned-modules ms h =
      fourth (owners a (owned l)) (owners a (owned (with_modules ms l))) (root_count a l) (owners a (blocks_words l.blocks)) (owners a (tasks_words l))
      (owners a (modules_words l.modules)) (owners a (modules_words ms)) (owners a (device_words l)) (owners a (resident_words l)) k n
      (owners-owned a l) (owners-owned a (with_modules ms l)) h

  pub owned-queues : (c kb o p : List QueuedPacket) (x : Option ℕ) (f : Bool)
      → (owners a (device_words (with_queues c kb o p x f l)) + owners a (resident_words (with_queues c kb o p x f l))) + k ≡ (owners a (device_words l) + owners a (resident_words l)) + n
      → owners a (owned (with_queues c kb o p x f l)) + k ≡ owners a (owned l) + n
  owned-queues c kb o p x f h =
      let m : Lists = with_queues c kb o p x f l in
      last_two (owners a (owned l)) (owners a (owned m)) (root_count a l) (owners a (blocks_words l.blocks)) (owners a (tasks_words l))
      (owners a (modules_words l.modules)) (owners a (device_words l)) (owners a (device_words m)) (owners a (resident_words l)) (owners a (resident_words m)) k n
      (owners-owned a l) (owners-owned a m) h

-- ---- apart and inside

pub owns-fewer : (l m : Lists) → m.size ≡ l.size → ((a : ℕ) → owners a (owned m) ≤ owners a (owned l)) → OwnsApart l → OwnsApart m
owns-fewer l m size fewer h =
    record {
      apart = λ a. omega (arith, fewer a, h.apart a);
      inside = λ a some. omega (arith, size, h.inside a (omega (arith, some, fewer a)));
    }

-- where some of it was taken away
pub owns-without : (l m : Lists) (n : ℕ → ℕ) → m.size ≡ l.size → ((a : ℕ) → owners a (owned m) + n a ≡ owners a (owned l) + 0) → OwnsApart l → OwnsApart m
owns-without l m n size less h = owns-fewer l m size (λ a. plain (owners a (owned m)) (owners a (owned l)) (n a) (less a)) h
  where
    plain : (x y k : ℕ) → x + k ≡ y + 0 → x ≤ y
    plain x y k e = omega arith

pub owns-more : (l m : Lists) (es : Pairs) → m.size ≡ l.size → ((a : ℕ) → owners a (owned m) ≡ owners a (owned l) + owners a es)
    → ((a : ℕ) → owners a es ≤ 1) → ((a : ℕ) → 0 < owners a es → (owners a (owned l) ≡ 0) × (a < l.size)) → OwnsApart l → OwnsApart m
owns-more l m es size more once fresh h =
    record {
      apart = λ a.
          elim (cases_lt 0 (owners a es)) [
            | inl some ↦ omega (arith, more a, once a, (fresh a some).0)
            | inr none ↦ omega (arith, more a, none, h.apart a)
          ];
      inside = λ a some.
          elim (cases_lt 0 (owners a es)) [
            | inl new ↦ omega (arith, size, (fresh a new).1)
            | inr none ↦ omega (arith, size, h.inside a (omega (arith, some, more a, none)))
          ];
    }

-- The words of root and table: each of them is owned once, by the root's row, by the table or by the head of a list.
use Rattle.std.proofs.Common.{◌≡◌, ℕ, zero, suc, ◌+◌, ◌-◌, ◌<◌, ◌≤◌, List, [], ◌∷◌, ◌++◌, length, get_or, eqb, cond, true, false, refl, sym, ap, ◌∙◌, arith, inl, inr}
use Rattle.std.proofs.lemmas.Bool.{cases_eq}
use Rattle.std.specs.List.{range_with_len}
use Rattle.word_store.specs.Count.{hit, times}
use Rattle.kernel_lists.specs.OwnedWords.LinkedWords.{linked_words}
use Rattle.kernel_lists.specs.OwnedWords.Owned.{Holds, Pairs, owners, row_from}
use Rattle.kernel_lists.proofs.OwnedWords.OwnedWords.{Holds-left, Holds-right, owners-append}
use Rattle.kernel_lists.proofs.OwnedWords.RowWords.{owners-row}
use Rattle.kernel_lists.specs.GetvecChain.BlockWords.{blocks_words}
use Rattle.kernel_lists.specs.HunkLoader.HeldModules.{module_address, module_words}
use Rattle.kernel_lists.specs.PacketQueue.QueueWords.{address_of, packet_words}
use Rattle.kernel_lists.specs.TaskBlock.ChainWords.{entries}
use Rattle.kernel_lists.specs.TaskBlock.HeldTasks.{address_with}
use Rattle.kernel_model.specs.KernelRecord.Lists.{Lists}
use Rattle.kernel_model.specs.KernelRecord.Owned.{owned}
use Rattle.kernel_model.specs.KernelRecord.Residents.{resident_words}
use Rattle.kernel_model.specs.KernelRecord.Root.{number_words, root_words, unused_entries}
use Rattle.kernel_model.specs.KernelRecord.Task.{filled, task_address, task_id, task_words}
use Rattle.kernel_model.specs.KernelRecord.Versions.{head_words_of, highest_id_of}
use Rattle.kernel_model.proofs.KernelRecord.CutRanges.{times-root}
use Rattle.kernel_model.proofs.KernelRecord.OwnedParts.{owners-parts}

-- ---- the versions

pub highest-low : (version : ℕ) → 20 ≤ highest_id_of version
highest-low version = elim (eqb version 2) as (λ b. 20 ≤ cond b 63 20) [ true ↦ omega arith | false ↦ omega arith ]

pub highest-high : (version : ℕ) → highest_id_of version ≤ 63
highest-high version = elim (eqb version 2) as (λ b. cond b 63 20 ≤ 63) [ true ↦ omega arith | false ↦ omega arith ]

pub head-low : (version : ℕ) → 23 ≤ head_words_of version
head-low version = elim (eqb version 2) as (λ b. 23 ≤ cond b 30 23) [ true ↦ omega arith | false ↦ omega arith ]

-- ---- what is counted

pub length-filled : (n : ℕ) (xs : List ℕ) → length (filled n xs) ≡ n
length-filled zero xs = refl
length-filled (suc n) [] = ap suc (length-filled n [])
length-filled (suc n) (x ∷ xs) = ap suc (length-filled n xs)

pub owners-entries : (a : ℕ) (f : ℕ → ℕ) (i n : ℕ) → owners a (entries f i n) ≡ times a (range_with_len (120 + i) n)
owners-entries a f i zero = refl
owners-entries a f i (suc n) =
    let next : 120 + (i + 1) ≡ 120 + i + 1 = omega arith in
    omega (arith, owners-entries a f (i + 1) n, ap (λ z. times a (range_with_len z n)) next)

owners-root : (a : ℕ) (l : Lists) (running : ℕ) → owners a (root_words l running)
    ≡ hit a 100 + (hit a 102 + (hit a 103 + (times a (range_with_len 108 12) + (hit a 120 + (times a (range_with_len (121 + highest_id_of l.version) (63 - highest_id_of l.version)) + hit a (l.size - 2))))))
owners-root a l running =
    let top : ℕ = highest_id_of l.version in
    let unused : Pairs = unused_entries l.version in
    let behind : Pairs = unused ++ (l.size - 2, 0) ∷ [] in
    let start : 120 + (top + 1) ≡ 121 + top = omega arith in
    let row : owners a unused ≡ times a (range_with_len (121 + top) (63 - top)) =
    owners-row a 120 (top + 1) (filled (63 - top) []) ∙ ap (λ n. times a (range_with_len (120 + (top + 1)) n)) (length-filled (63 - top) []) ∙ ap (λ z. times a (range_with_len z (63 - top))) start
    in
    join (hit a 100) (hit a 102) (hit a 103) (owners a (row_from 108 0 (number_words l))) (times a (range_with_len 108 12)) (hit a 120) (owners a unused) (times a (range_with_len (121 + top) (63 - top))) (hit a (l.size - 2))
    (owners a behind) (owners a (row_from 108 0 (number_words l) ++ (120, top) ∷ behind))
    (owners-row a 108 0 (number_words l)) row (owners-append a unused ((l.size - 2, 0) ∷ [])) (owners-append a (row_from 108 0 (number_words l)) ((120, top) ∷ behind))
  where
    join : (b c d e f g h k m behind all : ℕ) → e ≡ f → h ≡ k → behind ≡ h + (m + 0) → all ≡ e + (g + behind) → b + (c + (d + all)) ≡ b + (c + (d + (f + (g + (k + m)))))
    join b c d e f g h k m behind all p q r s = omega arith

-- Each of the words 100 to 183 is owned once by what is no list's node.
pub owners-nodes : (a : ℕ) (l : Lists) → owners a (owned l)
    ≡ times a (range_with_len 100 84) + (hit a (l.size - 2) + (owners a (blocks_words l.blocks)
    + (owners a (linked_words task_address (task_words l.version) l.tasks 0) + (owners a (linked_words module_address module_words l.modules 0)
    + (owners a (linked_words address_of packet_words l.clock 0) + (owners a (linked_words address_of packet_words l.keyboard 0) + (owners a (linked_words address_of packet_words l.output 0)
    + owners a (resident_words l))))))))
owners-nodes a l =
    let top : ℕ = highest_id_of l.version in
    omega (
      arith,
      owners-parts a l,
      owners-root a l (address_with task_address task_id l.tasks l.running),
      owners-entries a (address_with task_address task_id l.tasks) 1 top,
      times-root a top (highest-high l.version),
    )

-- ---- what a store has there

pub Holds-entry : (s : List ℕ) (f : ℕ → ℕ) (i n k : ℕ) → Holds s (entries f i n) → i ≤ k → k < i + n → get_or s (120 + k) 0 ≡ f k
Holds-entry s f i zero k h low high = absurd (omega arith)
Holds-entry s f i (suc n) k h low high =
    elim (cases_eq i k) [
      | inl e ↦ ap (λ z. get_or s (120 + z) 0) (sym e) ∙ h.0 ∙ ap f e
      | inr ne ↦ Holds-entry s f (i + 1) n k h.1 (omega (arith, ne)) (omega arith)
    ]

-- the words of the root, from the numbers on
pub record RootWords (s : List ℕ) (l : Lists) : Type 0 where
  pub numbers : Holds s (row_from 108 0 (number_words l))
  pub highest : get_or s 120 0 ≡ highest_id_of l.version
  pub unused : Holds s (unused_entries l.version)
  pub end : get_or s (l.size - 2) 0 ≡ 0

pub root-held : (s : List ℕ) (l : Lists) (running : ℕ) → Holds s (root_words l running) → RootWords s l
root-held s l running h =
    let unused : Pairs = unused_entries l.version in
    let behind : Pairs = (120, highest_id_of l.version) ∷ (unused ++ (l.size - 2, 0) ∷ []) in
    let r = Holds-right s (row_from 108 0 (number_words l)) behind h.1.1.1 in
    record {
      numbers = Holds-left s (row_from 108 0 (number_words l)) behind h.1.1.1;
      highest = r.0;
      unused = Holds-left s unused ((l.size - 2, 0) ∷ []) r.1;
      end = (Holds-right s unused ((l.size - 2, 0) ∷ []) r.1).0;
    }

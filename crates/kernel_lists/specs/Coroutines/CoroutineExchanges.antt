-- What the calls do to the words that the coroutines of a task own.
use Rattle.std.specs.Prelude.{◌≡◌, ℕ, ◌+◌, ◌==◌, if◌then◌else◌, List, [], ◌∷◌, ◌++◌, drop, map, slice_index}
use Rattle.kernel_lists.specs.GetvecChain.Block.{used_block}
use Rattle.kernel_lists.specs.GetvecChain.BlockWords.{GiveExchange, TakeExchange}
use Rattle.kernel_lists.specs.GetvecChain.Run.{need}
use Rattle.kernel_lists.specs.GetvecChain.Tiling.{blocks_in}
use Rattle.kernel_lists.specs.LinkedList.Chain.{last_cell}
use Rattle.kernel_lists.specs.OwnedWords.Exchange.{Exchange}
use Rattle.kernel_lists.specs.OwnedWords.LinkedWords.{first_of, headed_words}
use Rattle.kernel_lists.specs.OwnedWords.Owned.{Pairs, written}
use Rattle.kernel_lists.specs.TaskBlock.Lists.{coroutine_link, first_coroutine}
use Rattle.kernel_lists.specs.Coroutines.CoroutineWords.{as_parent, bottom, current_cell, parent_cell, saved_p, saved_pc}
use Rattle.kernel_lists.specs.Coroutines.Creation.{highest}
use Rattle.kernel_lists.specs.Coroutines.HeldCoroutines.{Coroutine, HeldCoroutines, address_of, coroutine_words, first_active}

-- The coroutines of a task.
pub record TaskCoroutines : Type 0 where
  -- all of them, the newest first
  pub list : List Coroutine
  -- the addresses of the active ones, from the one that runs outwards; none in the root
  pub active : List ℕ
  -- the P of the task's root while a coroutine runs, a word address
  pub root_p : ℕ
  -- the PC of the root while a coroutine runs, a byte address
  pub root_pc : ℕ

-- the current one, or 0 in the root
abbrev pub current_of : TaskCoroutines → ℕ
current_of k = first_active k.active 0

-- the words 17 to 20 of the task at t, and the words of its coroutines
abbrev pub words_of_coroutines : ℕ → TaskCoroutines → Pairs
words_of_coroutines t k =
    (current_cell t, current_of k) ∷ (saved_p t 0, k.root_p) ∷ (saved_pc t 0, k.root_pc)
    ∷ headed_words address_of (coroutine_words t k.active) (first_coroutine t) k.list 0

-- the store holds them
pub record HoldsCoroutines (s : List ℕ) (t : ℕ) (k : TaskCoroutines) : Type 0 where
  -- the store holds the coroutines
  pub coroutines : HeldCoroutines s t k.list k.active
  -- the root's P, while one of them runs
  pub root_p : slice_index s (saved_p t 0) ≡ k.root_p
  -- the root's PC, while one of them runs
  pub root_pc : slice_index s (saved_pc t 0) ≡ k.root_pc

-- ---- words that are written over

-- what is at the addresses of these pairs
abbrev pub pairs_in : List ℕ → Pairs → Pairs
pairs_in s [] = []
pairs_in s (e ∷ es) = (e.0, slice_index s e.0) ∷ pairs_in s es

-- the words that are there are exchanged for these new ones, which are written
pub record Rewrites (s v : List ℕ) (before after new : Pairs) : Type 0 where
  -- these words come in the place of those at their addresses
  pub exchange : Exchange before after (pairs_in s new) new
  -- they alone are written
  pub writes : v ≡ written new s

-- ---- switches

-- P and PC are saved in the coroutine at c
abbrev pub with_frame : ℕ → ℕ → ℕ → Coroutine → Coroutine
with_frame c p pc x = record x { saved_p = if x.address == c then p else x.saved_p; saved_pc = if x.address == c then pc else x.saved_pc }

-- the task's coroutines with P and PC saved in the current one, or as the root's
abbrev pub with_saved : ℕ → ℕ → TaskCoroutines → TaskCoroutines
with_saved p pc k =
    record k {
      list = map (with_frame (current_of k) p pc) k.list;
      root_p = if current_of k == 0 then p else k.root_p;
      root_pc = if current_of k == 0 then pc else k.root_pc;
    }

-- the words for that, where c is the next current one
abbrev pub switch_words : ℕ → TaskCoroutines → ℕ → ℕ → ℕ → Pairs
switch_words t k p pc c = (current_cell t, c) ∷ (saved_pc t (current_of k), pc) ∷ (saved_p t (current_of k), p) ∷ []

-- the task's coroutines once c is called: it becomes the current one, and the P and PC of its caller are saved
abbrev pub with_called : ℕ → ℕ → ℕ → TaskCoroutines → TaskCoroutines
with_called c p pc k = record (with_saved p pc k) { active = c ∷ k.active }

-- what a call of c writes: its parent, and the words of every switch
abbrev pub CallExchange : List ℕ → List ℕ → ℕ → TaskCoroutines → ℕ → ℕ → ℕ → Type 0
CallExchange s v t k c p pc =
    Rewrites s v (words_of_coroutines t k) (words_of_coroutines t (with_called c p pc k))
    ((parent_cell c, as_parent t (current_of k)) ∷ switch_words t k p pc c)

-- the task's coroutines once the current one waits: its parent becomes the current one
abbrev pub with_waiting : ℕ → ℕ → TaskCoroutines → TaskCoroutines
with_waiting p pc k = record (with_saved p pc k) { active = drop 1 k.active }

-- what a wait writes: that the current one has no parent any more, and the words of every switch
abbrev pub WaitExchange : List ℕ → List ℕ → ℕ → TaskCoroutines → ℕ → ℕ → Type 0
WaitExchange s v t k p pc =
    Rewrites s v (words_of_coroutines t k) (words_of_coroutines t (with_waiting p pc k))
    ((parent_cell (current_of k), 0) ∷ switch_words t k p pc (first_active (drop 1 k.active) 0))

-- the task's coroutines once c takes the place of the current one, unless it is that
abbrev pub with_resumed : ℕ → ℕ → ℕ → TaskCoroutines → TaskCoroutines
with_resumed c p pc k = if current_of k == c then k else record (with_saved p pc k) { active = c ∷ drop 1 k.active }

-- the words that a resume writes: c gets the parent of the current one, which then has none; where c is the current one, nothing
abbrev pub resume_words : ℕ → TaskCoroutines → ℕ → ℕ → ℕ → Pairs
resume_words t k c p pc =
    if current_of k == c
    then []
    else (parent_cell (current_of k), 0) ∷ (parent_cell c, first_active (drop 1 k.active) t) ∷ switch_words t k p pc c

-- what a resume of c writes: these words
abbrev pub ResumeExchange : List ℕ → List ℕ → ℕ → TaskCoroutines → ℕ → ℕ → ℕ → Type 0
ResumeExchange s v t k c p pc = Rewrites s v (words_of_coroutines t k) (words_of_coroutines t (with_resumed c p pc k)) (resume_words t k c p pc)

-- the function of the coroutine at c
abbrev pub function_of : ℕ → List Coroutine → ℕ
function_of c [] = 0
function_of c (x ∷ xs) = if x.address == c then x.function else function_of c xs

-- the function of the current one has returned
abbrev pub EndExchange : List ℕ → List ℕ → ℕ → TaskCoroutines → Type 0
EndExchange s v t k = WaitExchange s v t k (bottom (current_of k)) (function_of (current_of k) k.list)

-- ---- coroutines come and go

-- the task with these coroutines
abbrev pub with_list : List Coroutine → TaskCoroutines → TaskCoroutines
with_list cs k = record k { list = cs }

-- the coroutine that is made at c
abbrev pub new_coroutine : ℕ → ℕ → ℕ → Coroutine
new_coroutine c entry u = record { address = c; function = entry; highest = highest u; saved_p = bottom c; saved_pc = entry }

-- the head that leads to it, and its words
abbrev pub created_words : ℕ → TaskCoroutines → ℕ → ℕ → ℕ → Pairs
created_words t k c entry u = (first_coroutine t, c) ∷ coroutine_words t k.active (new_coroutine c entry u) (first_of address_of k.list 0)

-- A block is taken, and then the head is exchanged for these words, which are all written.
pub record CreateExchange (s v : List ℕ) (t : ℕ) (k : TaskCoroutines) (c entry u : ℕ) : Type 0 where
  -- the store once the block was taken
  pub taken : List ℕ
  -- what taking it exchanges
  pub block : TakeExchange s taken (highest u)
  -- what the new coroutine exchanges
  pub exchange : Exchange
      (words_of_coroutines t k)
      (words_of_coroutines t (with_list (new_coroutine c entry u ∷ k.list) k))
      ((first_coroutine t, first_of address_of k.list 0) ∷ [])
      (created_words t k c entry u)
  -- its words alone are written
  pub writes : v ≡ written (created_words t k c entry u) taken

-- the word that leads on after these coroutines
abbrev pub link_behind : ℕ → List Coroutine → ℕ
link_behind t front = last_cell (λ x. coroutine_link x.address) (first_coroutine t) front

-- The coroutine x goes out from between two parts of the list: the link to it and its words are exchanged for the link that
-- leads past it, which is written, and then its block is given back.
pub record DeleteExchange (s v : List ℕ) (t : ℕ) (k : TaskCoroutines) (front : List Coroutine) (x : Coroutine) (back : List Coroutine) : Type 0 where
  -- the store once the coroutine was linked out
  pub unlinked : List ℕ
  -- what linking it out exchanges
  pub exchange : Exchange
      (words_of_coroutines t (with_list (front ++ x ∷ back) k))
      (words_of_coroutines t (with_list (front ++ back) k))
      ((link_behind t front, x.address) ∷ coroutine_words t k.active x (first_of address_of back 0))
      ((link_behind t front, first_of address_of back 0) ∷ [])
  -- the link before it alone is written
  pub writes : unlinked ≡ written ((link_behind t front, first_of address_of back 0) ∷ []) s
  -- the blocks are as they were
  pub same_blocks : blocks_in unlinked ≡ blocks_in s
  -- where its block begins
  pub start : ℕ
  -- it comes after the block's size word
  pub here : x.address ≡ start + 1
  -- what giving the block back exchanges
  pub block : GiveExchange unlinked v (used_block start (need x.highest))

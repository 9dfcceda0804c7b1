-- What the calls do to the words that tasks own in the chain and in the table.
use Rattle.std.specs.Prelude.{◌≡◌, ℕ, List, [], ◌∷◌, ◌++◌, map, nat_lt}
use Rattle.std.specs.List.{range_with_len}
use Rattle.kernel_lists.specs.LinkedList.Chain.{last_cell}
use Rattle.kernel_lists.specs.LinkedList.Places.{insert_after}
use Rattle.kernel_lists.specs.OwnedWords.Exchange.{Exchange}
use Rattle.kernel_lists.specs.OwnedWords.LinkedWords.{first_of, headed_words}
use Rattle.kernel_lists.specs.OwnedWords.Owned.{Holds, Pairs, row_from, written}
use Rattle.kernel_lists.specs.TaskBlock.HeldTasks.{HeldTasks, address_with}
use Rattle.kernel_lists.specs.TaskBlock.RootWords.{first_task, table_entry}
use Rattle.kernel_lists.specs.TaskBlock.TaskChain.{IsNewTask, id_in, priority_in}
use Rattle.kernel_lists.specs.TaskBlock.TaskWords.{word_index}
use Rattle.kernel_lists.specs.TaskBlock.Versions.{highest_id}
use Rattle.kernel_lists.specs.declared.task_block.fields.TcbField.TheVariants.{Id, Pri}

-- things of a kind have a priority, which is among their words
pub record HavePriorities {X : Type 0} (address priority : X → ℕ) (words : X → ℕ → Pairs) : Type 0 where
  -- the words of each have its priority
  pub level : (s : List ℕ) (x : X) (n : ℕ) → Holds s (words x n) → priority_in s (address x) ≡ priority x

-- the entries of so many numbers from i on, where the entry of each holds what `to` says
abbrev pub entries : (ℕ → ℕ) → ℕ → ℕ → Pairs
entries to i n = map (λ k. (table_entry k, to k)) (range_with_len i n)

-- the table of these tasks, of which `top` is the highest number, and their words, from the head of the chain on
abbrev pub listed_words : {X : Type 0} → (X → ℕ) → (X → ℕ) → (X → ℕ → Pairs) → ℕ → List X → Pairs
listed_words address id words top xs = entries (address_with address id xs) 1 top ++ headed_words address words first_task xs 0

-- a thing may come in as a task, with its number and its priority
pub record ComesIn {X : Type 0} (address id priority : X → ℕ) (s : List ℕ) (x : X) : Type 0 where
  -- it is a task that is not in the chain
  pub task : IsNewTask s (address x)
  -- its words have its number
  pub number : id_in s (address x) ≡ id x
  -- and its priority
  pub level : priority_in s (address x) ≡ priority x

-- two words while x is not in the chain: its entry, which is 0, and the link after the tasks before its place, which leads to
-- those after it
abbrev pub absent_words : {X : Type 0} → (X → ℕ) → (X → ℕ) → List X → X → List X → Pairs
absent_words address id front x back = (table_entry (id x), 0) ∷ (last_cell address first_task front, first_of address back 0) ∷ []

-- the same two words while x is in the chain: both lead to x
abbrev pub present_words : {X : Type 0} → (X → ℕ) → (X → ℕ) → List X → X → Pairs
present_words address id front x = (table_entry (id x), address x) ∷ (last_cell address first_task front, address x) ∷ []

-- What an insert exchanges: for the two words where x is absent those where it is present, and the words of x. Written are
-- the two and the link of x.
pub record InsertExchange {X : Type 0} (address id priority : X → ℕ) (words : X → ℕ → Pairs) (s t : List ℕ) (xs : List X) (x : X) : Type 0 where
  -- the tasks before it
  pub front : List X
  -- the tasks after it
  pub back : List X
  -- these are the tasks of the chain
  pub is : xs ≡ front ++ back
  -- it comes after all of higher priority
  pub becomes : insert_after (λ y. nat_lt (priority x) (priority y)) x xs ≡ front ++ x ∷ back
  -- what it exchanges there
  pub exchange : Exchange
      (listed_words address id words (highest_id s) (front ++ back))
      (listed_words address id words (highest_id s) (front ++ x ∷ back))
      (absent_words address id front x back)
      (present_words address id front x ++ words x (first_of address back 0))
  -- these words alone are written
  pub writes : t ≡ written (present_words address id front x ++ (address x, first_of address back 0) ∷ []) s

-- What an unlink exchanges: the same words, the other way round. Written are the two.
pub record UnlinkExchange {X : Type 0} (address id : X → ℕ) (words : X → ℕ → Pairs) (s t : List ℕ) (front : List X) (x : X) (back : List X) : Type 0 where
  -- what it exchanges
  pub exchange : Exchange
      (listed_words address id words (highest_id s) (front ++ x ∷ back))
      (listed_words address id words (highest_id s) (front ++ back))
      (present_words address id front x ++ words x (first_of address back 0))
      (absent_words address id front x back)
  -- these words alone are written
  pub writes : t ≡ written (absent_words address id front x back) s

-- ---- a kind of task: its address, and what is in its words 1 to 22

-- a task, as the words of its block say
pub record TaskBlock : Type 0 where
  -- the word address of its word 0
  pub address : ℕ
  -- what its word i holds, for i from 1 to 22
  pub word : ℕ → ℕ

-- where the words of a task begin
abbrev pub block_address : TaskBlock → ℕ
block_address b = b.address

-- the number of a task
abbrev pub block_id : TaskBlock → ℕ
block_id b = b.word (word_index Id)

-- the priority of a task
abbrev pub block_priority : TaskBlock → ℕ
block_priority b = b.word (word_index Pri)

-- the words of a task's block, with this link
abbrev pub block_words : TaskBlock → ℕ → Pairs
block_words b link = (b.address, link) ∷ row_from b.address 1 (map b.word (range_with_len 1 22))

-- the store holds the words of these tasks, the table and the head of the chain
abbrev pub HeldBlocks : List ℕ → List TaskBlock → Type 0
HeldBlocks s bs = HeldTasks block_address block_id block_words s bs

-- this task, which is not in the chain, may come in
abbrev pub BlockComesIn : List ℕ → TaskBlock → Type 0
BlockComesIn s b = ComesIn block_address block_id block_priority s b

-- what it exchanges and writes when this task comes in
abbrev pub BlockInsert : List ℕ → List ℕ → List TaskBlock → TaskBlock → Type 0
BlockInsert s t bs b = InsertExchange block_address block_id block_priority block_words s t bs b

-- what it exchanges and writes when this task goes out from between two parts of the chain
abbrev pub BlockUnlink : List ℕ → List ℕ → List TaskBlock → TaskBlock → List TaskBlock → Type 0
BlockUnlink s t front b back = UnlinkExchange block_address block_id block_words s t front b back

-- All owned words around those of the chain of tasks.
use Rattle.std.proofs.Common.{◌≡◌, ℕ, ◌+◌, List, [], ◌∷◌, ◌++◌, map, cond, eqb, Bool, true, false, refl, sym, ap, ◌∙◌, arith}
use Rattle.std.proofs.lemmas.Bool.{eqb-true}
use Rattle.word_store.specs.Count.{times}
use Rattle.word_store.proofs.Counts.{hit-same}
use Rattle.kernel_lists.specs.OwnedWords.Exchange.{Exchange}
use Rattle.kernel_lists.specs.OwnedWords.Owned.{Pairs, owners}
use Rattle.kernel_lists.proofs.OwnedWords.Exchanges.{exchange-left, exchange-right}
use Rattle.kernel_lists.proofs.OwnedWords.OwnedWords.{owners-append}
use Rattle.kernel_lists.specs.GetvecChain.BlockWords.{blocks_words}
use Rattle.kernel_lists.specs.HunkLoader.ModuleExchanges.{modules_words}
use Rattle.kernel_lists.specs.TaskBlock.ChainWords.{listed_words}
use Rattle.kernel_lists.specs.TaskBlock.HeldTasks.{address_with}
use Rattle.kernel_model.specs.KernelRecord.Changes.{with_tasks}
use Rattle.kernel_model.specs.KernelRecord.Lists.{Lists, address_of_task}
use Rattle.kernel_model.specs.KernelRecord.Owned.{device_words, owned, tasks_words}
use Rattle.kernel_model.specs.KernelRecord.Residents.{resident_words}
use Rattle.kernel_model.specs.KernelRecord.Root.{root_words}
use Rattle.kernel_model.specs.KernelRecord.Task.{Task, task_address, task_id, task_words}
use Rattle.kernel_model.specs.KernelRecord.Versions.{highest_id_of}

-- the table leads to a task by its number, wherever it is in the chain
pub address_with-out : (front : List Task) (t : Task) (back : List Task) (i : ℕ) → times t.id (map task_id front) ≡ 0
    → address_with task_address task_id (front ++ t ∷ back) i ≡ cond (eqb t.id i) t.address (address_with task_address task_id (front ++ back) i)
address_with-out [] t back i none = refl
address_with-out (z ∷ zs) t back i none =
    ap (λ w. cond (eqb z.id i) z.address w) (address_with-out zs t back i (omega (arith, none)))
    ∙ on (eqb z.id i) refl (eqb t.id i) refl
  where
    rest : ℕ
    rest = address_with task_address task_id (zs ++ back) i

    on : (b : Bool) → eqb z.id i ≡ b → (c : Bool) → eqb t.id i ≡ c → cond b z.address (cond c t.address rest) ≡ cond c t.address (cond b z.address rest)
    on true p true q = absurd (omega (arith, none, hit-same t.id z.id (eqb-true t.id i q ∙ sym (eqb-true z.id i p))))
    on true p false q = refl
    on false p c q = refl

module _ (l : Lists) where
  -- all owned words, with these of the chain and the table
  abbrev pub around : Pairs → Pairs
  around L = root_words l (address_of_task l l.running) ++ (blocks_words l.blocks ++ (L ++ (modules_words l.modules ++ (device_words l ++ resident_words l))))

  abbrev pub listed : List Task → Pairs
  listed ts = listed_words task_address task_id (task_words l.version) (highest_id_of l.version) ts

  pub around-exchange : (L M old new : Pairs) → Exchange L M old new → Exchange (around L) (around M) old new
  around-exchange L M old new x = exchange-right (root_words l (address_of_task l l.running)) _ _ _ _ (exchange-right (blocks_words l.blocks) _ _ _ _ (exchange-left L M _ old new x))

  pub around-count : (a : ℕ) (L M : Pairs) (k : ℕ) → owners a L ≡ owners a M + k → owners a (around L) ≡ owners a (around M) + k
  around-count a L M k e =
      let root : Pairs = root_words l (address_of_task l l.running) in
      let blocks : Pairs = blocks_words l.blocks in
      let last : Pairs = modules_words l.modules ++ (device_words l ++ resident_words l) in
      omega (
        arith,
        e,
        owners-append a root (blocks ++ (L ++ last)),
        owners-append a root (blocks ++ (M ++ last)),
        owners-append a blocks (L ++ last),
        owners-append a blocks (M ++ last),
        owners-append a L last,
        owners-append a M last,
      )

  pub owned-around : owned l ≡ around (tasks_words l)
  unfolding owned
  owned-around = refl

  pub owned-chain : (ts : List Task) → address_with task_address task_id ts l.running ≡ address_of_task l l.running → owned (with_tasks ts l) ≡ around (listed ts)
  unfolding owned
  owned-chain ts same = ap (λ r. root_words l r ++ (blocks_words l.blocks ++ (listed ts ++ (modules_words l.modules ++ (device_words l ++ resident_words l))))) same

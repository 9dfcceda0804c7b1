-- A store of the kernel's after a load.
use Rattle.std.proofs.Common.{◌≡◌, ℕ, suc, ◌+◌, ◌<◌, ◌≤◌, List, [], ◌∷◌, ◌++◌, length, cond, Some, None, Ok, Err, refl, sym, ap, ◌∙◌, subst, arith, append-nil}
use Rattle.std.specs.Prelude.{is_some}
use Rattle.std.specs.List.{range_with_len}
use Rattle.word_store.specs.Count.{hit, times}
use Rattle.word_store.proofs.Counts.{times-above}
use Rattle.kernel_lists.specs.OwnedWords.Exchange.{Exchange}
use Rattle.kernel_lists.specs.OwnedWords.Owned.{Pairs, owners}
use Rattle.kernel_lists.proofs.OwnedWords.Exchanges.{exchange-insert}
use Rattle.kernel_lists.proofs.OwnedWords.OwnedWords.{Holds-append, Holds-left, Holds-right, owners-append}
use Rattle.kernel_lists.specs.GetvecChain.Run.{first_run, need}
use Rattle.kernel_lists.specs.GetvecChain.Tiling.{blocks_in}
use Rattle.module_text.specs.declared.modules.Hunk.{Hunk}
use Rattle.kernel_lists.specs.HunkLoader.HeldModules.{LoadedModule, module_address, module_words}
use Rattle.kernel_lists.specs.HunkLoader.LoadOutcome.{IsLoaded}
use Rattle.kernel_lists.specs.HunkLoader.ModuleExchanges.{first_of_modules, hunk_words, loaded_module, loaded_words}
use Rattle.kernel_lists.specs.HunkLoader.ModuleRow.{last_word}
use Rattle.kernel_lists.proofs.HunkLoader.HeldModuleLists.{are_modules}
use Rattle.kernel_lists.proofs.HunkLoader.LoadedModules.{length-lengths}
use Rattle.kernel_model.specs.KernelRecord.ChangedStore.{IsChanged, Knows}
use Rattle.kernel_model.specs.KernelRecord.Changes.{AreUnowned, with_modules}
use Rattle.kernel_model.specs.KernelRecord.HoldsLists.{HoldsLists}
use Rattle.kernel_model.specs.KernelRecord.Lists.{Lists}
use Rattle.kernel_model.specs.KernelRecord.Owned.{owned}
use Rattle.kernel_model.specs.KernelRecord.ValidBlocks.{HasBlock, last_module_word}
use Rattle.kernel_model.specs.KernelRecord.ValidLists.{AreValid}
use Rattle.kernel_model.proofs.KernelRecord.ChangedLists.{exchange-changed}
use Rattle.kernel_model.proofs.KernelRecord.DataInside.{HasBlock-inside}
use Rattle.kernel_model.proofs.KernelRecord.ModuleMoves.{new_module-valid, owners-module}
use Rattle.kernel_calls.specs.CallAnswers.CallChange.{CallChange, IsMade}
use Rattle.kernel_calls.proofs.CallAnswers.ChangedTwice.{changed-twice}
use Rattle.kernel_calls.proofs.CallAnswers.FoundTask.{reads}
use Rattle.kernel_calls.proofs.CallAnswers.MadeCalls.{made-accepted, made-refused}
use Rattle.kernel_model.specs.WordKinds.Keeper.{AreTogether}
use Rattle.kernel_model.proofs.WordKinds.KnownWords.{knows-claimed}
use Rattle.kernel_calls.specs.BlockCalls.FreeStore.{data_of_front, with_taken}
use Rattle.kernel_calls.proofs.BlockCalls.TakenStore.{HasTakenBlock, taken-changed}
use Rattle.kernel_calls.specs.ModuleCalls.LoadModule.{load_module, load_tests, loaded_at, with_loaded}
use Rattle.kernel_calls.proofs.ModuleCalls.LoadedWords.{hunks-apart, hunks-high, hunks-low, last-word, load-written}
use Rattle.kernel_calls.proofs.ModuleCalls.ModuleParts.{modules-exchange}

module _ (s t text : List ℕ) (l : Lists) (m : ℕ) (h : HoldsLists s l) (is_loaded : IsLoaded s t text m) where
  abbrev hunks : List Hunk
  hunks = is_loaded.hunks.hunks

  abbrev u : ℕ
  u = last_word hunks

  abbrev loaded : LoadedModule
  loaded = loaded_module m hunks

  abbrev between : Lists
  between = with_taken u l

  abbrev after : Lists
  after = with_modules (loaded ∷ l.modules) between

  taken : HasTakenBlock s is_loaded.with_block l u m
  taken = taken-changed s is_loaded.with_block l u m h is_loaded.block

  abbrev old : Pairs
  old = (104, first_of_modules l.modules) ∷ []

  abbrev new : Pairs
  new = loaded_words m hunks l.modules

  block : HasBlock between.blocks m (last_module_word loaded)
  block = subst (HasBlock between.blocks m) (sym (last-word m hunks)) taken.block

  unowned : AreUnowned between m (m + 2 + length loaded.lengths)
  unowned a low high = taken.unowned a low (omega (arith, high, length-lengths hunks))

  after-valid : AreValid after
  after-valid = new_module-valid between [] l.modules loaded taken.changed.lists.valid refl block unowned

  exchange : Exchange (owned between) (owned after) old new
  exchange = modules-exchange between (loaded ∷ l.modules) old new (exchange-insert module_address module_address module_words are_modules.links 104 [] loaded l.modules 0)

  -- the module's words are owned besides
  pub owners-loaded : (a : ℕ) → owners a (owned after) ≡ owners a (owned between) + times a (range_with_len m (2 + length hunks))
  owners-loaded a =
      let size : suc (suc (length loaded.lengths)) ≡ 2 + length hunks = omega (arith, length-lengths hunks) in
      plain _ _ (hit a 104) _ _ (exchange.first.count a) (exchange.then'.count a)
      (ap (λ n. hit a 104 + n) (owners-module a loaded (first_of_modules l.modules) ∙ ap (λ n. times a (range_with_len m n)) size))
    where
      plain : (w x k r n : ℕ) {c : ℕ} → w ≡ r + (k + 0) → x ≡ r + c → c ≡ k + n → x ≡ w + n
      plain w x k r n e f g = omega (arith, e, f, g)

  plain-unowned : (a : ℕ) → 0 < owners a (hunk_words m hunks) → owners a (owned after) ≡ 0
  plain-unowned a some =
      let low : m + 2 + length hunks ≤ a = hunks-low m hunks a some in
      let high : a ≤ m + last_word hunks = hunks-high m hunks a some in
      omega (arith, owners-loaded a, taken.unowned a (omega (arith, low)) (omega (arith, high)), times-above a m (2 + length hunks) (omega (arith, low)))

  plain-inside : (a : ℕ) → 0 < owners a (hunk_words m hunks) → a < length is_loaded.with_block
  plain-inside a some =
      let high : a ≤ m + last_word hunks = hunks-high m hunks a some in
      omega (arith, HasBlock-inside between m u a taken.changed.lists.valid.blocks taken.block (omega (arith, high)), taken.changed.lists.size)

  second : IsChanged is_loaded.with_block t after (hunk_words m hunks)
  second =
      exchange-changed is_loaded.with_block t between after old new (hunk_words m hunks) (new ++ hunk_words m hunks) taken.changed.lists after-valid refl exchange
      (record {
        count = λ a. omega (arith, owners-append a new (hunk_words m hunks));
        opens = λ v k. (Holds-right v new (hunk_words m hunks) k, Holds-left v new (hunk_words m hunks) k);
        closes = λ v j k. Holds-append v new (hunk_words m hunks) k j;
      })
      (hunks-apart m hunks) plain-inside plain-unowned
      (load-written is_loaded.with_block t m _ hunks l.modules (reads s l h).modules.held.holds.0 is_loaded.words)

  -- what it leaves, once the keeper knows its words
  pub load-changed : IsChanged s t (with_loaded hunks l) (hunk_words (loaded_at hunks l) hunks)
  load-changed =
      let at : m ≡ loaded_at hunks l = taken.front ∙ ap data_of_front (sym taken.first) in
      subst (λ a. IsChanged s t (with_modules (loaded_module a hunks ∷ l.modules) between) (hunk_words a hunks)) at
      (subst (IsChanged s t after) (append-nil (hunk_words m hunks))
      (changed-twice s is_loaded.with_block t between after [] (hunk_words m hunks) taken.changed second (λ a none. omega (arith, none, owners-loaded a))))

  pub load-knows : (tells told : List ℕ → Type 0) (n : ℕ) → n ≡ 2 + length hunks → Knows tells (with_taken u l)
      → ((known other : List ℕ) → tells known → AreTogether other known (range_with_len m n) → told other) → Knows told (with_loaded hunks l)
  load-knows tells told n is knows claim =
      let at : m ≡ loaded_at hunks l = taken.front ∙ ap data_of_front (sym taken.first) in
      subst (λ a. Knows told (with_modules (loaded_module a hunks ∷ l.modules) between)) at
      (knows-claimed tells told between after m n (λ a. subst (λ k. owners a (owned after) ≡ owners a (owned between) + times a (range_with_len m k)) (sym is) (owners-loaded a)) knows claim)

  pub load-made : (tells told : List ℕ → Type 0) (n : ℕ) → n ≡ 2 + length hunks → Knows tells (with_taken u l)
      → ((known other : List ℕ) → tells known → AreTogether other known (range_with_len m n) → told other) → IsMade s t told (Ok m) (load_module l hunks)
  load-made tells told n is knows claim =
      made-accepted s l (load_tests l hunks) made t told (Ok m) (ap (λ o. cond (is_some o) None (Some 1)) taken.first)
      (record { leaves = record { lists = load-changed; answered = ap Ok (taken.front ∙ ap data_of_front (sym taken.first)) }; knows = load-knows tells told n is knows claim })
    where
      made : CallChange
      made = record { answer = Ok (loaded_at hunks l); lists = with_loaded hunks l; plain = hunk_words (loaded_at hunks l) hunks; events = [] }

  -- its words are in the store
  pub load-inside : m + (2 + length hunks) ≤ length s
  load-inside =
      omega (arith, HasBlock-inside between m u (m + u) taken.changed.lists.valid.blocks taken.block (omega arith), taken.changed.lists.size, taken.changed.size)

-- where no run is large enough
pub load-refused : (s : List ℕ) (l : Lists) (hunks : List Hunk) (tells : List ℕ → Type 0) → HoldsLists s l → Knows tells l → first_run (need (last_word hunks)) (blocks_in s) ≡ None
    → IsMade s s tells (Err 1) (load_module l hunks)
load-refused s l hunks tells h knows none =
    made-refused s l (load_tests l hunks) made tells 1 h knows (ap (λ o. cond (is_some o) None (Some 1)) (ap (first_run (need (last_word hunks))) (sym (reads s l h).blocks) ∙ none))
  where
    made : CallChange
    made = record { answer = Ok (loaded_at hunks l); lists = with_loaded hunks l; plain = hunk_words (loaded_at hunks l) hunks; events = [] }

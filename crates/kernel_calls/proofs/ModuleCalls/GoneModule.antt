-- A store of the kernel's after a module went out, and its block was given back.
use Rattle.std.proofs.Common.{◌≡◌, ℕ, suc, ◌+◌, ◌-◌, ◌^◌, ◌<◌, ◌≤◌, List, [], ◌∷◌, ◌++◌, length, map, get_or, cond, eqb, not, ◌||◌, Bool, true, false, Some, None, Ok, Err, inl, inr, refl, sym, ap, ◌∙◌, subst, arith}
use Rattle.std.specs.List.{AllByRecursion, list_any, range_with_len}
use Rattle.std.proofs.lemmas.Bool.{cases_lt, eqb-true}
use Rattle.word_store.specs.Count.{IsApart, hit, times}
use Rattle.kernel_lists.specs.LinkedList.Places.{has, without_first, without_node}
use Rattle.word_store.proofs.Counts.{times-above}
use Rattle.kernel_lists.specs.OwnedWords.Exchange.{Exchange}
use Rattle.kernel_lists.specs.OwnedWords.LinkedWords.{AreHeld}
use Rattle.kernel_lists.specs.OwnedWords.Owned.{owners}
use Rattle.kernel_lists.proofs.OwnedWords.Exchanges.{exchange-remove}
use Rattle.kernel_lists.proofs.OwnedWords.HeldLists.{held-without_node}
use Rattle.kernel_lists.specs.declared.getvec_chain.pieces.Block.{Block}
use Rattle.kernel_lists.specs.GetvecChain.Block.{block_end, used_block}
use Rattle.kernel_lists.specs.GetvecChain.Give.{given_store}
use Rattle.kernel_lists.specs.GetvecChain.Run.{need}
use Rattle.kernel_lists.specs.GetvecChain.Tiling.{blocks_in, used_at}
use Rattle.kernel_lists.proofs.GetvecChain.UsedBlocks.{UsedBlock, used_at-is}
use Rattle.kernel_lists.specs.HunkLoader.HeldModules.{LoadedModule, module_address, module_words}
use Rattle.kernel_lists.specs.HunkLoader.ModuleExchanges.{first_of_modules, link_behind, modules_words}
use Rattle.kernel_lists.proofs.HunkLoader.HeldModuleLists.{are_modules, module_size}
use Rattle.kernel_lists.specs.TaskBlock.Lists.{module_link}
use Rattle.kernel_model.specs.KernelRecord.BlockUse.{use_of_data}
use Rattle.kernel_model.specs.declared.kernel_record.uses.Use.TheVariants.{User}
use Rattle.kernel_model.specs.KernelRecord.ChangedStore.{IsChanged, Knows}
use Rattle.kernel_model.specs.KernelRecord.Changes.{AreUnowned, IsIdleBlock, with_modules}
use Rattle.kernel_model.specs.KernelRecord.HoldsLists.{HoldsLists}
use Rattle.kernel_model.specs.KernelRecord.Lists.{Lists, queued}
use Rattle.kernel_model.specs.KernelRecord.Owned.{owned}
use Rattle.kernel_model.specs.KernelRecord.ValidBlocks.{HasBlock, last_module_word}
use Rattle.kernel_model.specs.KernelRecord.ValidLists.{AreValid}
use Rattle.kernel_model.proofs.KernelRecord.AllThings.{all-fail, all-here}
use Rattle.kernel_model.proofs.KernelRecord.ChangedLists.{changed-then, exchange-owned, knows-same}
use Rattle.kernel_model.proofs.KernelRecord.ListRanges.{HasCount}
use Rattle.kernel_model.proofs.KernelRecord.ModuleMoves.{gone_module-unowned, gone_module-valid, owners-module}
use Rattle.kernel_model.proofs.KernelRecord.UnownedBlocks.{unowned-user}
use Rattle.kernel_model.proofs.KernelRecord.WalkedLists.{counts-read}
use Rattle.kernel_calls.specs.CallAnswers.CallChange.{CallChange, IsMade, done, minus_one}
use Rattle.kernel_calls.specs.CallAnswers.Refusals.{first_refusal}
use Rattle.kernel_calls.proofs.CallAnswers.FoundTask.{reads}
use Rattle.kernel_calls.proofs.CallAnswers.MadeCalls.{made-accepted, made-refused}
use Rattle.kernel_calls.proofs.CallAnswers.Refusals.{first_refusal-failed, first_refusal-passed}
use Rattle.kernel_calls.specs.CallAnswers.Modules.{has_module}
use Rattle.kernel_model.specs.WordKinds.Keeper.{AreTogether}
use Rattle.kernel_model.proofs.WordKinds.KnownWords.{knows-released}
use Rattle.kernel_calls.specs.BlockCalls.Freevec.{has_packet_in, holds_packet, lies_in, with_given}
use Rattle.kernel_calls.proofs.BlockCalls.IdleBlocks.{idle-unowned, none-idle, unowned-empty}
use Rattle.kernel_model.proofs.WordKinds.OwnedMarks.{size-low}
use Rattle.kernel_calls.proofs.BlockCalls.TakenStore.{given-changed, given-owners}
use Rattle.kernel_calls.specs.ModuleCalls.UnloadModule.{is_in_use, unload_module, unload_tests, use_tests, without_module}
use Rattle.kernel_calls.proofs.ModuleCalls.ModuleParts.{modules-exchange}
use Rattle.kernel_calls.proofs.ModuleCalls.ModuleUses.{tests-use}

-- refused by the tests of its use
pub unload-refused : (s : List ℕ) (l : Lists) (m code : ℕ) (tells : List ℕ → Type 0) → HoldsLists s l → Knows tells l → first_refusal (use_tests l m) ≡ Some code → IsMade s s tells (Err code) (unload_module l m)
unload-refused s l m code tells h knows e =
    made-refused s l (unload_tests l m) (done (with_given m (without_module m l))) tells code h knows (first_refusal-failed (use_tests l m) ((not (has_packet_in l m), 7) ∷ []) code e)

-- the first module at an address, with those before and behind it
pub record ModuleAt (ms : List LoadedModule) (m : ℕ) : Type 0 where
  pub front : List LoadedModule
  pub it : LoadedModule
  pub back : List LoadedModule
  pub is : ms ≡ front ++ it ∷ back
  pub at : it.address ≡ m
  pub others : without_first (λ x. eqb m x.address) ms ≡ front ++ back

pub module-at : (m : ℕ) (ms : List LoadedModule) → has m (map module_address ms) ≡ true → ModuleAt ms m
module-at m [] some = cc
module-at m (x ∷ xs) some = on (eqb m x.address) refl some (module-at m xs)
  where
    on : (b : Bool) → eqb m x.address ≡ b → (b || has m (map module_address xs)) ≡ true → (has m (map module_address xs) ≡ true → ModuleAt xs m) → ModuleAt (x ∷ xs) m
    on true e some more =
        record { front = []; it = x; back = xs; is = refl; at = sym (eqb-true m x.address e); others = ap (λ b. cond b xs (x ∷ without_first (λ y. eqb m y.address) xs)) e }
    on false e some more =
        let r : ModuleAt xs m = more some in
        record {
          front = x ∷ r.front;
          it = r.it;
          back = r.back;
          is = ap (λ z. x ∷ z) r.is;
          at = r.at;
          others = ap (λ b. cond b xs (x ∷ without_first (λ y. eqb m y.address) xs)) e ∙ ap (λ z. x ∷ z) r.others;
        }

-- The word behind a module's link has the number of its hunks, and the word before it the size of its block, which has room for its
-- words before those of the hunks.
pub record HasModuleNumbers (s : List ℕ) (m : ℕ) (it : LoadedModule) (b : Block) : Type 0 where
  pub count : get_or s (m + 1) 0 ≡ length it.lengths
  pub size : get_or s (m - 1) 0 ≡ b.size
  pub some : 1 ≤ m
  pub enough : 3 + length it.lengths ≤ b.size
  pub end : m + (b.size - 1) ≡ block_end b
  pub low : m + b.size < 2 ^ 32

module _ (s : List ℕ) (l : Lists) (m : ℕ) (h : HoldsLists s l) (some : has_module l m ≡ true) where
  pub place : ModuleAt l.modules m
  place = module-at m l.modules some

  -- the words before those of its hunks, and its block
  abbrev head : ℕ
  head = 2 + length place.it.lengths

  pub block : HasBlock l.blocks m (last_module_word place.it)
  block =
      subst (λ a. HasBlock l.blocks a (last_module_word place.it)) place.at
      (all-here (λ x. HasBlock l.blocks x.address (last_module_word x)) place.front place.it place.back
      (subst (AllByRecursion (λ x. HasBlock l.blocks x.address (last_module_word x))) place.is h.valid.modules))

  abbrev pub own_block : Block
  own_block = used_block block.start (need (last_module_word place.it))

  -- what the store says of its size
  pub numbers : HasModuleNumbers s m place.it own_block
  numbers =
      let u : UsedBlock s 200 m own_block = used_at-is s 200 (blocks_in s) m own_block (reads s l h).tiled (ap (used_at m) (reads s l h).blocks ∙ block.block) in
      let inside : own_block.start + need (last_module_word place.it) + 2 ≤ length s = omega (arith, u.inside) in
      record {
        count =
            ap (λ a. get_or s (a + 1) 0) (sym place.at)
            ∙ all-here (HasCount s) place.front place.it place.back (subst (AllByRecursion (HasCount s)) place.is (counts-read s l h));
        size = ap (λ a. get_or s a 0) (let e : m - 1 ≡ block.start = omega (arith, u.start) in e) ∙ u.word;
        some = omega (arith, u.start);
        enough = omega arith;
        end = omega (arith, u.start);
        low = omega (arith, inside, u.start, size-low l h.valid, h.size);
      }

  module _ (unused : is_in_use l m ≡ false) where
    abbrev after : Lists
    after = with_modules (place.front ++ place.back) l

    after-is : without_module m l ≡ after
    after-is = ap (λ ms. with_modules ms l) place.others

    after-valid : AreValid after
    after-valid =
        gone_module-valid l place.front place.back place.it h.valid place.is
        (subst (λ a. AllByRecursion (λ t. has a t.modules ≡ false) l.tasks) (sym place.at) (all-fail (λ t. has m t.modules) l.tasks unused))

    exchange : Exchange (owned l) (owned after) ((link_behind place.front, place.it.address) ∷ module_words place.it (first_of_modules place.back)) ((link_behind place.front, first_of_modules place.back) ∷ [])
    exchange =
        modules-exchange l (place.front ++ place.back) _ _
        (subst (λ ms. Exchange (modules_words ms) (modules_words (place.front ++ place.back)) ((link_behind place.front, place.it.address) ∷ module_words place.it (first_of_modules place.back)) ((link_behind place.front, first_of_modules place.back) ∷ [])) (sym place.is)
        (exchange-remove module_address module_address module_words are_modules.links 104 place.front place.it place.back 0))

    -- its words are owned no more
    pub owners-gone : (a : ℕ) → owners a (owned l) ≡ owners a (owned after) + times a (range_with_len m head)
    owners-gone a =
        let size : suc (suc (length place.it.lengths)) ≡ head = omega arith in
        plain _ _ (hit a (link_behind place.front)) _ _ (exchange.first.count a) (exchange.then'.count a)
        (owners-module a place.it (first_of_modules place.back) ∙ (λ i. times a (range_with_len (place.at i) (size i))))
      where
        plain : (w x k r n : ℕ) {c : ℕ} → w ≡ r + (k + c) → x ≡ r + (k + 0) → c ≡ n → w ≡ x + n
        plain w x k r n e f g = omega (arith, e, f, g)

    gone-unowned : AreUnowned after m (m + 2 + length place.it.lengths)
    gone-unowned = subst (λ a. AreUnowned after a (a + 2 + length place.it.lengths)) place.at (gone_module-unowned l place.front place.back place.it h.valid place.is)

    used : used_at m after.blocks ≡ Some own_block
    used = block.block

    user : use_of_data after m ≡ User
    user = unowned-user after m after-valid (gone-unowned m (omega arith) (omega arith))

    -- nobody owns the words of its block behind its own exactly where no packet lies in it
    pub words-after : AreUnowned l (m + head) (block_end own_block) → AreUnowned after m (block_end own_block)
    words-after unowned a low high =
        elim (cases_lt a (m + head)) [
          | inl below ↦ gone-unowned a low (omega (arith, below))
          | inr behind ↦ omega (arith, unowned a behind high, owners-gone a)
        ]

    pub words-before : AreUnowned after m (block_end own_block) → AreUnowned l (m + head) (block_end own_block)
    words-before unowned a low high = omega (arith, unowned a (omega (arith, low)) high, owners-gone a, times-above a m head low)

    -- ---- the store

    abbrev between : List ℕ
    between = without_node s module_link 104 m

    unlinked : IsChanged s between after []
    unlinked =
        exchange-owned s between l after _ _ h after-valid refl exchange
        (ap (without_node s module_link 104) (sym place.at)
        ∙ held-without_node module_address module_words module_link module_size are_modules s 104 place.front place.it place.back
        (subst (AreHeld module_address module_words s 104) place.is (reads s l h).modules.held))

    pub gone-changed : IsIdleBlock after m → IsChanged s (given_store between m) (with_given m (without_module m l)) []
    gone-changed idle =
        subst (λ k. IsChanged s (given_store between m) (with_given m k) []) (sym after-is)
        (changed-then s between (given_store between m) after (with_given m after) [] unlinked (given-changed between after m unlinked.lists idle)
        (λ a none. sym (given-owners between after m unlinked.lists idle a) ∙ none))

    pub gone-knows : (tells told : List ℕ → Type 0) (n : ℕ) → n ≡ head → IsIdleBlock after m → Knows tells l
        → ((known other : List ℕ) → tells known → IsApart known → AreTogether known other (range_with_len m n) → told other) → Knows told (with_given m (without_module m l))
    gone-knows tells told n is idle knows release =
        subst (λ k. Knows told (with_given m k)) (sym after-is)
        (knows-same told after (with_given m after) (given-owners between after m unlinked.lists idle)
        (knows-released tells told l after m n h.valid.owns (λ a. subst (λ k. owners a (owned l) ≡ owners a (owned after) + times a (range_with_len m k)) (sym is) (owners-gone a)) knows release))

    -- ---- the call

    abbrev made : CallChange
    made = done (with_given m (without_module m l))

    tests-are : (x : Bool) → list_any (lies_in own_block) (queued l) ≡ x → first_refusal (unload_tests l m) ≡ cond (not x) None (Some 7)
    tests-are x e =
        first_refusal-passed (use_tests l m) ((not (has_packet_in l m), 7) ∷ []) (tests-use l m false some unused)
        ∙ ap (λ o. cond (not (holds_packet l o)) None (Some 7)) block.block ∙ ap (λ z. cond (not z) None (Some 7)) e

    pub unload-packet : (tells : List ℕ → Type 0) → Knows tells l → (AreUnowned l (m + head) (block_end own_block) → ⊥) → IsMade s s tells (Err 7) (unload_module l m)
    unload-packet tells knows owned = on (list_any (lies_in own_block) (queued l)) refl
      where
        on : (x : Bool) → list_any (lies_in own_block) (queued l) ≡ x → IsMade s s tells (Err 7) (unload_module l m)
        on true e = made-refused s l (unload_tests l m) made tells 7 h knows (tests-are true e)
        on false e = absurd (owned (words-before (idle-unowned after m own_block after-valid used (none-idle after m own_block after-valid used user e))))

    pub unload-made : (tells told : List ℕ → Type 0) (t : List ℕ) (n : ℕ) → n ≡ head → Knows tells l → AreUnowned l (m + head) (block_end own_block) → t ≡ given_store between m
        → ((known other : List ℕ) → tells known → IsApart known → AreTogether known other (range_with_len m n) → told other) → IsMade s t told (Ok minus_one) (unload_module l m)
    unload-made tells told t n is knows unowned words release =
        let empty : list_any (lies_in own_block) (queued after) ≡ false = unowned-empty after m own_block after-valid used (words-after unowned) in
        let idle : IsIdleBlock after m = none-idle after m own_block after-valid used user empty in
        made-accepted s l (unload_tests l m) made t told (Ok minus_one) (tests-are false empty)
        (subst (λ z. IsMade s z told (Ok minus_one) made) (sym words)
        (record { leaves = record { lists = gone-changed idle; answered = refl }; knows = gone-knows tells told n is idle knows release }))

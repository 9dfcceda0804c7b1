-- A user's block is given back, and the lists stay valid.
use Rattle.std.proofs.Common.{◌≡◌, ◌≢◌, ℕ, ◌+◌, ◌-◌, List, [], ◌∷◌, map, cond, eqb, ◌&&◌, Bool, true, false, Option, Some, refl, sym, ap, ◌∙◌}
use Rattle.std.specs.List.{AllByRecursion, flat_map}
use Rattle.std.proofs.lemmas.Bool.{eqb-false, false≢true, or_parts}
use Rattle.std.proofs.lemmas.List.Folds.{list_any-append}
use Rattle.word_store.specs.Count.{hit}
use Rattle.kernel_lists.specs.LinkedList.Places.{has}
use Rattle.kernel_lists.proofs.LinkedList.Members.{has-not}
use Rattle.kernel_lists.specs.OwnedWords.Owned.{owners}
use Rattle.kernel_lists.specs.declared.getvec_chain.pieces.Block.{Block}
use Rattle.kernel_lists.specs.GetvecChain.Block.{block_end, free_block, has_data, is_used_at}
use Rattle.kernel_lists.specs.GetvecChain.BlockWords.{blocks_words}
use Rattle.kernel_lists.specs.GetvecChain.Give.{given}
use Rattle.kernel_lists.specs.GetvecChain.Tiling.{Follow, used_at}
use Rattle.kernel_lists.proofs.GetvecChain.AfterGive.{used_at-given-other}
use Rattle.kernel_lists.specs.HunkLoader.HeldModules.{module_address}
use Rattle.kernel_lists.specs.Coroutines.HeldCoroutines.{address_of}
use Rattle.kernel_lists.specs.PacketQueue.QueueWords.{QueuedPacket}
use Rattle.kernel_model.specs.KernelRecord.BlockUse.{coroutine_addresses, use_of_data}
use Rattle.kernel_model.specs.declared.kernel_record.uses.Use.TheVariants.{OfCoroutine, OfModule, OfResidents, OfTask, User}
use Rattle.kernel_model.specs.KernelRecord.Changes.{IsIdleBlock, with_blocks}
use Rattle.kernel_model.specs.KernelRecord.Lists.{Lists, queued}
use Rattle.kernel_model.specs.KernelRecord.Task.{Task, is_guest_id, task_address}
use Rattle.kernel_model.specs.KernelRecord.ValidBlocks.{HasBlock, last_module_word, last_resident_word}
use Rattle.kernel_model.specs.KernelRecord.ValidLists.{AreValid}
use Rattle.kernel_model.proofs.KernelRecord.AllThings.{all-from_both, and-other}
use Rattle.kernel_model.proofs.KernelRecord.BlockChanges.{KeepsBlock, KeepsData, blocks-valid}
use Rattle.kernel_model.proofs.KernelRecord.BlockStarts.{AreData-kept}
use Rattle.word_store.proofs.Elements.{find-passes}
use Rattle.kernel_model.proofs.KernelRecord.EachMember.{all-each}
use Rattle.kernel_model.proofs.KernelRecord.OwnerCounts.{owned-blocks, owns-without}

-- ---- the blocks

given-Follow : (v at : ℕ) (bs : List Block) (end : ℕ) → Follow at bs end → Follow at (given v bs) end
given-Follow v at [] end f = f
given-Follow v at (b ∷ bs) end f = on (is_used_at v b) (given-Follow v (block_end b) bs end f.3)
  where
    on : (x : Bool) → Follow (block_end b) (given v bs) end → Follow at (cond x (free_block b.start b.size) b ∷ given v bs) end
    on true more = (f.0, f.1, f.2, more)
    on false more = (f.0, f.1, f.2, more)

-- blocks begin where they did
owners-given : (a v : ℕ) (bs : List Block) → owners a (blocks_words (given v bs)) ≡ owners a (blocks_words bs)
owners-given a v [] = refl
owners-given a v (b ∷ bs) = on (is_used_at v b) (owners-given a v bs)
  where
    on : (x : Bool) → owners a (blocks_words (given v bs)) ≡ owners a (blocks_words bs) → owners a (blocks_words (cond x (free_block b.start b.size) b ∷ given v bs)) ≡ owners a (blocks_words (b ∷ bs))
    on true more = ap (λ n. hit a b.start + n) more
    on false more = ap (λ n. hit a b.start + n) more

-- ---- a user's block is none of the lists'

-- things of which none has its address there
all-elsewhere : {X : Type 0} (address : X → ℕ) (v : ℕ) (xs : List X) → has v (map address xs) ≡ false → AllByRecursion (λ x. address x ≢ v) xs
all-elsewhere address v [] none = tt
all-elsewhere address v (x ∷ xs) none = (let r = has-not v (address x) (map address xs) none in (λ e. r.0 (sym e), all-elsewhere address v xs r.1))

coroutines-elsewhere : (v : ℕ) (ts : List Task) → has v (flat_map coroutine_addresses ts) ≡ false → AllByRecursion (λ t. AllByRecursion (λ c. c.address ≢ v) t.coroutines.list) ts
coroutines-elsewhere v [] none = tt
coroutines-elsewhere v (t ∷ ts) none =
    let r = or_parts (has v (coroutine_addresses t)) (has v (flat_map coroutine_addresses ts)) (sym (list_any-append (λ q. eqb v q) (coroutine_addresses t) (flat_map coroutine_addresses ts)) ∙ none) in
    (all-elsewhere address_of v t.coroutines.list r.0, coroutines-elsewhere v ts r.1)

pub record IsUsers (l : Lists) (v : ℕ) : Type 0 where
  pub residents : (l.residents && eqb v 201) ≡ false
  pub tasks : has v (map task_address l.tasks) ≡ false
  pub modules : has v (map module_address l.modules) ≡ false
  pub coroutines : has v (flat_map coroutine_addresses l.tasks) ≡ false

users-block : (l : Lists) (v : ℕ) → use_of_data l v ≡ User → IsUsers l v
users-block l v is = on (l.residents && eqb v 201) refl (has v (map task_address l.tasks)) refl (has v (map module_address l.modules)) refl (has v (flat_map coroutine_addresses l.tasks)) refl is
  where
    on : (r : Bool) → (l.residents && eqb v 201) ≡ r → (t : Bool) → has v (map task_address l.tasks) ≡ t → (m : Bool) → has v (map module_address l.modules) ≡ m → (c : Bool) → has v (flat_map coroutine_addresses l.tasks) ≡ c
        → cond r OfResidents (cond t OfTask (cond m OfModule (cond c OfCoroutine User))) ≡ User → IsUsers l v
    on true e t f m g c h is = cc
    on false e true f m g c h is = cc
    on false e false f true g c h is = cc
    on false e false f false g true h is = cc
    on false e false f false g false h is = record { residents = e; tasks = f; modules = g; coroutines = h }

-- ---- the law

pub given-valid : (l : Lists) (v : ℕ) → AreValid l → IsIdleBlock l v → AreValid (with_blocks (given v l.blocks) l)
given-valid l v valid idle =
    blocks-valid l (given v l.blocks) valid
    (record {
      follow = follow;
      residents = λ r. keeps 201 (λ e. eqb-false v 201 (and-other l.residents (eqb v 201) users.residents r) (sym e)) (last_resident_word l) (valid.numbers.residents r);
      modules =
          all-from_both (λ m. HasBlock l.blocks m.address (last_module_word m)) (λ m. m.address ≢ v) (λ m. HasBlock (given v l.blocks) m.address (last_module_word m))
          (λ m h ne. keeps m.address ne (last_module_word m) h) l.modules valid.modules (all-elsewhere module_address v l.modules users.modules);
      guests = all-each (λ t. t.address ≢ v) (λ t. is_guest_id t.id ≡ true → KeepsBlock l.blocks (given v l.blocks) t.address) (λ t ne _. keeps t.address ne) l.tasks (all-elsewhere task_address v l.tasks users.tasks);
      coroutines =
          all-each (λ t. AllByRecursion (λ c. c.address ≢ v) t.coroutines.list) (λ t. AllByRecursion (λ c. KeepsBlock l.blocks (given v l.blocks) c.address) t.coroutines.list)
          (λ t all. all-each (λ c. c.address ≢ v) (λ c. KeepsBlock l.blocks (given v l.blocks) c.address) (λ c ne. keeps c.address ne) t.coroutines.list all) l.tasks
          (coroutines-elsewhere v l.tasks users.coroutines);
      packets = all-each (λ p. has_data idle.block p.address ≡ false) (KeepsData l.blocks (given v l.blocks)) packet (queued l) idle.empty;
      owns = owns-without l (with_blocks (given v l.blocks) l) (λ _. 0) refl (λ a. owned-blocks a l 0 0 (given v l.blocks) (ap (λ n. n + 0) (owners-given a v l.blocks))) valid.owns;
    })
  where
    users : IsUsers l v
    users = users-block l v idle.user

    follow : Follow 200 (given v l.blocks) (l.size - 2)
    follow = given-Follow v 200 l.blocks (l.size - 2) valid.blocks

    keeps : (w : ℕ) → w ≢ v → KeepsBlock l.blocks (given v l.blocks) w
    keeps w ne u h = record { start = h.start; here = h.here; block = used_at-given-other v w l.blocks ne ∙ h.block }

    -- the block of a queued packet is another one
    packet : (p : QueuedPacket) → has_data idle.block p.address ≡ false → KeepsData l.blocks (given v l.blocks) p
    packet p none d =
        AreData-kept l.blocks (given v l.blocks) (l.size - 2) p.address 5 valid.blocks follow d (λ used. used_at-given-other v (d.block.start + 1) l.blocks (other used) ∙ used)
      where
        same : (b c : Block) → ◌≡◌ {A = Option Block} (Some b) (Some c) → b ≡ c
        same b c e = cc

        other : used_at (d.block.start + 1) l.blocks ≡ Some d.block → d.block.start + 1 ≢ v
        other used e =
            let is : idle.block ≡ d.block = same idle.block d.block (sym idle.used ∙ ap (λ w. used_at w l.blocks) (sym e) ∙ used) in
            false≢true (sym none ∙ ap (λ b. has_data b p.address) is ∙ find-passes (λ b. has_data b p.address) l.blocks d.block d.holds)

-- A user's block, in which nobody owns a word exactly where no packet lies in it.
use Rattle.std.proofs.Common.{◌≡◌, ℕ, ◌+◌, ◌-◌, ◌<◌, ◌||◌, List, [], ◌∷◌, ◌++◌, eqb, Bool, true, false, Option, Some, refl, sym, ap, ◌∙◌, arith}
use Rattle.std.specs.List.{AllByRecursion, flat_map, list_any, range_with_len}
use Rattle.std.proofs.lemmas.Bool.{eq-eqb}
use Rattle.word_store.specs.Count.{hit}
use Rattle.kernel_lists.specs.OwnedWords.Owned.{owners}
use Rattle.kernel_lists.specs.declared.getvec_chain.pieces.Block.{Block}
use Rattle.kernel_lists.specs.GetvecChain.Block.{block_end, free_block, has_data, is_used_at}
use Rattle.kernel_lists.specs.GetvecChain.BlockWords.{blocks_words}
use Rattle.kernel_lists.specs.GetvecChain.Give.{given}
use Rattle.kernel_lists.specs.GetvecChain.Tiling.{Follow, holding, used_at}
use Rattle.kernel_lists.proofs.GetvecChain.Splits.{GiveSplit, give_split}
use Rattle.kernel_lists.proofs.GetvecChain.UsedBlocks.{has_data-true, is_used_at-true}
use Rattle.kernel_lists.specs.PacketQueue.QueueWords.{QueuedPacket}
use Rattle.word_store.proofs.Elements.{all-append, find-passes}
use Rattle.kernel_model.specs.KernelRecord.BlockUse.{use_of_data}
use Rattle.kernel_model.specs.declared.kernel_record.uses.Use.TheVariants.{User}
use Rattle.kernel_model.specs.KernelRecord.Changes.{AreUnowned, IsIdleBlock, with_blocks}
use Rattle.kernel_model.specs.KernelRecord.Lists.{Lists, queued}
use Rattle.kernel_model.specs.KernelRecord.Owned.{owned}
use Rattle.kernel_model.specs.KernelRecord.ValidBlocks.{AreData}
use Rattle.kernel_model.specs.KernelRecord.ValidLists.{AreValid}
use Rattle.kernel_model.specs.KernelRecord.ValidQueues.Place.{Clock, Keyboard, Output, Pending, Work}
use Rattle.kernel_model.proofs.KernelRecord.AllThings.{all-fail, any-found}
use Rattle.kernel_model.proofs.KernelRecord.BlockStarts.{store-Tiles, store_of}
use Rattle.kernel_model.proofs.KernelRecord.DataLaw.{free-data}
use Rattle.kernel_model.proofs.KernelRecord.EachMember.{all-each}
use Rattle.kernel_model.proofs.KernelRecord.FollowedBlocks.{found-holding}
use Rattle.kernel_model.proofs.KernelRecord.GivenBlocks.{given-valid}
use Rattle.kernel_model.proofs.KernelRecord.OwnedPackets.{queued-owned}
use Rattle.kernel_model.proofs.KernelRecord.OwnerCounts.{owned-blocks}
use Rattle.kernel_model.proofs.KernelRecord.UsedData.{lodged}
use Rattle.kernel_calls.specs.BlockCalls.Freevec.{lies_in}

-- ---- an idle block

-- blocks that begin at the same words own the same
owners-put : (a : ℕ) (before : List Block) (b c : Block) (after : List Block) → b.start ≡ c.start → owners a (blocks_words (before ++ (b ∷ after))) ≡ owners a (blocks_words (before ++ (c ∷ after)))
owners-put a [] b c after e = ap (λ n. hit a n + owners a (blocks_words after)) e
owners-put a (z ∷ zs) b c after e = ap (λ n. hit a z.start + n) (owners-put a zs b c after e)

-- where it were free, nobody would own its data; and the same words are owned
pub idle-unowned : (l : Lists) (v : ℕ) (b : Block) → AreValid l → used_at v l.blocks ≡ Some b → IsIdleBlock l v → AreUnowned l v (block_end b)
idle-unowned l v b valid used i a low high =
    let m : Lists = with_blocks (given v l.blocks) l in
    let p : GiveSplit l.blocks (given v l.blocks) b = give_split (store_of l.blocks (l.size - 2)) 200 l.blocks v b (store-Tiles 200 l.blocks (l.size - 2) valid.blocks) used in
    let start : b.start + 1 ≡ v = (is_used_at-true v b (find-passes (is_used_at v) l.blocks b used)).1 in
    let none : owners a (owned m) ≡ 0 = free-data m p.before (free_block b.start b.size) p.after a (given-valid l v valid i) p.new_is refl (omega (arith, start, low)) high in
    let same : owners a (blocks_words (given v l.blocks)) ≡ owners a (blocks_words l.blocks) =
    ap (λ bs. owners a (blocks_words bs)) p.new_is ∙ owners-put a p.before (free_block b.start b.size) b p.after refl ∙ sym (ap (λ bs. owners a (blocks_words bs)) p.old_is)
    in
    omega (arith, none, owned-blocks a l 0 0 (given v l.blocks) (ap (λ n. n + 0) same))

-- ---- packets

-- what holds of all members of pieces
all-joined : {X Y : Type 0} (P : Y → Type 0) (f : X → List Y) (xs : List X) → AllByRecursion (λ x. AllByRecursion P (f x)) xs → AllByRecursion P (flat_map f xs)
all-joined P f [] all = tt
all-joined P f (x ∷ xs) all = all-append P (f x) (flat_map f xs) all.0 (all-joined P f xs all.1)

-- each queued packet lies in one used block
pub queued-lodged : (l : Lists) → AreValid l → AllByRecursion (λ p. AreData l.blocks p.address 5) (queued l)
queued-lodged l v =
    all-append P (flat_map (λ t. t.queue) l.tasks) (l.clock ++ (l.keyboard ++ (l.output ++ l.pending)))
    (all-joined P (λ t. t.queue) l.tasks (all-each _ (λ t. AllByRecursion P t.queue) (λ t all. lodged l (Work t.id) t.queue all) l.tasks v.queues.tasks))
    (all-append P l.clock (l.keyboard ++ (l.output ++ l.pending)) (lodged l Clock l.clock v.queues.clock)
    (all-append P l.keyboard (l.output ++ l.pending) (lodged l Keyboard l.keyboard v.queues.keyboard)
    (all-append P l.output l.pending (lodged l Output l.output v.queues.output) (lodged l Pending l.pending v.queues.pending))))
  where
    P : QueuedPacket → Type 0
    P p = AreData l.blocks p.address 5

module _ (bs : List Block) (end v : ℕ) (b : Block) (follow : Follow 200 bs end) (used : used_at v bs ≡ Some b) where
  start : b.start + 1 ≡ v
  start = (is_used_at-true v b (find-passes (is_used_at v) bs b used)).1

  same : (x y : Block) → ◌≡◌ {A = Option Block} (Some x) (Some y) → x ≡ y
  same x y e = cc

  -- a packet of which one word lies in the block lies in it from its first word on
  word-first : (p i : ℕ) → AreData bs p 5 → i < 5 → has_data b (p + i) ≡ true → has_data b p ≡ true
  word-first p i d low there =
      let within = has_data-true d.block p (find-passes (λ z. has_data z p) bs d.block d.holds) in
      let here = has_data-true b (p + i) there in
      let its : holding (p + i) bs ≡ Some d.block = found-holding (λ z. has_data z p) 200 bs end d.block (p + i) follow d.holds (omega (arith, within.0)) (omega (arith, d.whole, low)) in
      let mine : holding (p + i) bs ≡ Some b = found-holding (is_used_at v) 200 bs end b (p + i) follow used here.0 here.1 in
      ap (λ z. has_data z p) (same b d.block (sym mine ∙ its)) ∙ find-passes (λ z. has_data z p) bs d.block d.holds

  none-else : (p i : ℕ) → AreData bs p 5 → i < 5 → has_data b p ≡ false → has_data b (p + i) ≡ false
  none-else p i d low none = on (has_data b (p + i)) refl
    where
      on : (x : Bool) → has_data b (p + i) ≡ x → x ≡ false
      on true e = (let f : has_data b p ≡ true = word-first p i d low e in cc)
      on false e = refl

  -- so whether it lies in the block is told by its first word
  pub lies-first : (p : QueuedPacket) → AreData bs p.address 5 → lies_in b p ≡ has_data b p.address
  lies-first p d = on (has_data b p.address) refl
    where
      a : ℕ
      a = p.address

      step : (i j : ℕ) → a + j ≡ i → j < 5 → has_data b a ≡ false → has_data b i ≡ false
      step i j e low none = ap (has_data b) (sym e) ∙ none-else a j d low none

      on : (x : Bool) → has_data b a ≡ x → lies_in b p ≡ x
      on true e = ap (λ x. x || list_any (has_data b) (range_with_len (a + 1) 4)) e
      on false e =
          (λ i. e i || (step (a + 1) 1 (omega arith) (omega arith) e i || (step (a + 1 + 1) 2 (omega arith) (omega arith) e i
          || (step (a + 1 + 1 + 1) 3 (omega arith) (omega arith) e i || (step (a + 1 + 1 + 1 + 1) 4 (omega arith) (omega arith) e i || false)))))

-- a block in which a packet lies has an owned word
pub packet-owned : (l : Lists) (v : ℕ) (b : Block) → AreValid l → used_at v l.blocks ≡ Some b → list_any (lies_in b) (queued l) ≡ true → AreUnowned l v (block_end b) → ⊥
packet-owned l v b valid used some unowned =
    let found = any-found (lies_in b) (λ p. AreData l.blocks p.address 5 × (list_any (λ q. eqb q.address p.address) (queued l) ≡ true)) (queued l) some (all-there (queued l) (queued-lodged l valid)) in
    let p : QueuedPacket = found.0 in
    let here = has_data-true b p.address (sym (lies-first l.blocks (l.size - 2) v b valid.blocks used p found.2.0) ∙ found.1) in
    let at : b.start + 1 ≡ v = (is_used_at-true v b (find-passes (is_used_at v) l.blocks b used)).1 in
    omega (arith, unowned p.address (omega (arith, here.0, at)) here.1, queued-owned p.address l valid.queues.no_console found.2.1)
  where
    -- each of them is among them
    all-there : (ps : List QueuedPacket) → AllByRecursion (λ p. AreData l.blocks p.address 5) ps → AllByRecursion (λ p. AreData l.blocks p.address 5 × (list_any (λ q. eqb q.address p.address) ps ≡ true)) ps
    all-there [] all = tt
    all-there (p ∷ ps) all = (
      (all.0, ap (λ x. x || list_any (λ q. eqb q.address p.address) ps) (eq-eqb p.address p.address refl)),
      all-each (λ q. AreData l.blocks q.address 5 × (list_any (λ r. eqb r.address q.address) ps ≡ true)) (λ q. AreData l.blocks q.address 5 × (list_any (λ r. eqb r.address q.address) (p ∷ ps) ≡ true))
          (λ q h. (h.0, later (eqb p.address q.address) h.1)) ps (all-there ps all.1),
    )
      where
        later : (x : Bool) {y : Bool} → y ≡ true → (x || y) ≡ true
        later true e = refl
        later false e = e

-- and one in which none lies is idle
pub none-idle : (l : Lists) (v : ℕ) (b : Block) → AreValid l → used_at v l.blocks ≡ Some b → use_of_data l v ≡ User → list_any (lies_in b) (queued l) ≡ false → IsIdleBlock l v
none-idle l v b valid used user none =
    record {
      block = b;
      used = used;
      user = user;
      empty = first (queued l) (queued-lodged l valid) (all-fail (lies_in b) (queued l) none);
    }
  where
    first : (ps : List QueuedPacket) → AllByRecursion (λ p. AreData l.blocks p.address 5) ps → AllByRecursion (λ p. lies_in b p ≡ false) ps → AllByRecursion (λ p. has_data b p.address ≡ false) ps
    first [] all fail = tt
    first (p ∷ ps) all fail = (sym (lies-first l.blocks (l.size - 2) v b valid.blocks used p all.0) ∙ fail.0, first ps all.1 fail.1)

-- so nobody owns its words exactly where none lies in it
pub unowned-empty : (l : Lists) (v : ℕ) (b : Block) → AreValid l → used_at v l.blocks ≡ Some b → AreUnowned l v (block_end b) → list_any (lies_in b) (queued l) ≡ false
unowned-empty l v b valid used unowned = on (list_any (lies_in b) (queued l)) refl
  where
    on : (x : Bool) → list_any (lies_in b) (queued l) ≡ x → x ≡ false
    on true some = absurd (packet-owned l v b valid used some unowned)
    on false none = refl

-- A block is taken, and the lists stay valid.
use Rattle.std.proofs.Common.{◌≡◌, ℕ, ◌+◌, ◌-◌, ◌<◌, ◌≤◌, ◌⊎◌, List, [], ◌∷◌, ◌++◌, cond, Bool, true, false, Option, Some, None, inl, inr, refl, sym, ap, ◌∙◌, subst, arith, append_assoc}
use Rattle.std.proofs.lemmas.Bool.{cases_lt}
use Rattle.std.proofs.lemmas.Grind.{flat_map-append}
use Rattle.std.specs.List.{AllByRecursion}
use Rattle.kernel_lists.specs.OwnedWords.Owned.{owners}
use Rattle.kernel_lists.proofs.OwnedWords.OwnedWords.{owners-append}
use Rattle.kernel_lists.specs.declared.getvec_chain.pieces.Block.{Block}
use Rattle.kernel_lists.specs.declared.getvec_chain.pieces.Run.{Run}
use Rattle.kernel_lists.specs.GetvecChain.Block.{used_block}
use Rattle.kernel_lists.specs.GetvecChain.BlockWords.{block_words, blocks_words}
use Rattle.kernel_lists.specs.GetvecChain.Run.{after_run, begins_run, first_run, need, run_size}
use Rattle.kernel_lists.specs.GetvecChain.Take.{left_over, split_run, taken, taken_store}
use Rattle.kernel_lists.specs.GetvecChain.Tiling.{Follow, Tiles, used_at}
use Rattle.kernel_lists.proofs.GetvecChain.Runs.{FoundRun, first_run-found, need-even}
use Rattle.kernel_lists.proofs.GetvecChain.SizeWords.{length-with_size_words, split_run-Follow}
use Rattle.kernel_lists.proofs.GetvecChain.Splits.{TakeSplit, take_split}
use Rattle.kernel_lists.proofs.GetvecChain.Takes.{taken-Tiles, used_at-taken, used_at-taken-other}
use Rattle.kernel_lists.specs.PacketQueue.QueueWords.{QueuedPacket}
use Rattle.kernel_model.specs.KernelRecord.Changes.{AreUnowned, with_blocks}
use Rattle.kernel_model.specs.KernelRecord.Lists.{Lists, queued}
use Rattle.kernel_model.specs.KernelRecord.Owned.{OwnsApart, owned}
use Rattle.kernel_model.specs.KernelRecord.Task.{is_guest_id}
use Rattle.kernel_model.specs.KernelRecord.ValidBlocks.{HasBlock, last_module_word, last_resident_word}
use Rattle.kernel_model.specs.KernelRecord.ValidLists.{AreValid}
use Rattle.kernel_model.proofs.KernelRecord.AllThings.{all-always}
use Rattle.kernel_model.proofs.KernelRecord.BlockChanges.{KeepsBlock, KeepsData, blocks-valid}
use Rattle.kernel_model.proofs.KernelRecord.BlockStarts.{AreData-kept, InFree, Tiles-Follow, in-free, length-store, starts-once, starts-within, store-Tiles, store_of}
use Rattle.kernel_model.proofs.KernelRecord.DataLaw.{free-data}
use Rattle.kernel_model.proofs.KernelRecord.EachMember.{all-each}
use Rattle.kernel_model.proofs.KernelRecord.FollowedBlocks.{IsDataOf, member-data}
use Rattle.kernel_model.proofs.KernelRecord.OwnerCounts.{owned-blocks}

-- starts of joined blocks
owners-blocks : (a : ℕ) (xs ys zs : List Block) → owners a (blocks_words (xs ++ (ys ++ zs))) ≡ owners a (blocks_words xs) + (owners a (blocks_words ys) + owners a (blocks_words zs))
owners-blocks a xs ys zs =
    omega (
      arith,
      ap (owners a) (flat_map-append block_words xs (ys ++ zs)),
      ap (owners a) (flat_map-append block_words ys zs),
      owners-append a (blocks_words xs) (blocks_words (ys ++ zs)),
      owners-append a (blocks_words ys) (blocks_words zs),
    )

module _ (l : Lists) (u : ℕ) (run : Run) (v : AreValid l) (first : first_run (need u) l.blocks ≡ Some run) where
  abbrev end : ℕ
  end = l.size - 2

  abbrev after_take : List Block
  after_take = taken (need u) l.blocks

  tiles : Tiles (store_of l.blocks end) 200 l.blocks
  tiles = store-Tiles 200 l.blocks end v.blocks

  found : FoundRun (store_of l.blocks end) (need u) 200 run
  found = first_run-found (store_of l.blocks end) (need u) 200 l.blocks run tiles first

  split : TakeSplit (need u) l.blocks after_take run
  split = take_split (store_of l.blocks end) (need u) 200 l.blocks run tiles first

  new : (used_at (run.start + 1) after_take ≡ Some (used_block run.start (need u))) × (used_at (run.start + 1) l.blocks ≡ None)
  new = used_at-taken (store_of l.blocks end) (need u) 200 l.blocks run tiles first

  follow : Follow 200 after_take end
  follow =
      Tiles-Follow (taken_store (store_of l.blocks end) run (need u)) 200 after_take end
      (taken-Tiles (store_of l.blocks end) (need u) 200 l.blocks run (need-even u).0 (need-even u).1 tiles first)
      (length-with_size_words (store_of l.blocks end) (split_run run.start run.end (need u)) ∙ length-store l.blocks end)

  -- used blocks are still used
  used-kept : (w : ℕ) (b : Block) → used_at w l.blocks ≡ Some b → used_at w after_take ≡ Some b
  used-kept w b e = used_at-taken-other (need u) l.blocks run w first (λ same. none-some b (sym new.1 ∙ ap (λ z. used_at z l.blocks) (sym same) ∙ e)) ∙ e
    where
      none-some : (b : Block) → ◌≡◌ {A = Option Block} None (Some b) → ⊥
      none-some b e = cc

  keeps : (w : ℕ) → KeepsBlock l.blocks after_take w
  keeps w n h = record { start = h.start; here = h.here; block = used-kept w (used_block h.start (need n)) h.block }

  keeps-data : (p : QueuedPacket) → KeepsData l.blocks after_take p
  keeps-data p d = AreData-kept l.blocks after_take end p.address 5 v.blocks follow d (used-kept (d.block.start + 1) d.block)

  -- ---- what is owned

  -- a word of the run is the start of a free block, or nobody's
  in-run : (a : ℕ) → run.start ≤ a → a < run.end → (0 < owners a (blocks_words (split.free))) ⊎ (owners a (owned l) ≡ 0)
  in-run a low high =
      elim (cases_lt 0 (owners a (blocks_words split.free))) [
        | inl some ↦ inl some
        | inr none ↦ inr (nobody (in-free run.start split.free run.end a split.fills split.are_free low high (omega (arith, none))))
      ]
    where
      nobody : InFree split.free a → owners a (owned l) ≡ 0
      nobody r = free-data l (split.before ++ r.before) r.block (r.after ++ split.after) a v (split.old_is ∙ ap (λ z. split.before ++ (z ++ split.after)) r.is ∙ simp append_assoc) r.free r.above r.below

  -- in place of the starts in the run come those of its parts
  count : (a : ℕ) → owners a (owned (with_blocks after_take l)) + owners a (blocks_words split.free) ≡ owners a (owned l) + owners a (blocks_words (split_run run.start run.end (need u)))
  count a =
      plain (owners a (owned (with_blocks after_take l))) (owners a (owned l)) (owners a (blocks_words l.blocks)) (owners a (blocks_words after_take))
      (owners a (blocks_words split.before)) (owners a (blocks_words split.free)) (owners a (blocks_words (split_run run.start run.end (need u)))) (owners a (blocks_words split.after))
      (owned-blocks a l (owners a (blocks_words l.blocks)) (owners a (blocks_words after_take)) after_take (swap (owners a (blocks_words after_take)) (owners a (blocks_words l.blocks))))
      (ap (λ z. owners a (blocks_words z)) split.old_is ∙ owners-blocks a split.before split.free split.after)
      (ap (λ z. owners a (blocks_words z)) split.new_is ∙ owners-blocks a split.before (split_run run.start run.end (need u)) split.after)
    where
      swap : (x y : ℕ) → x + y ≡ y + x
      swap x y = omega arith

      plain : (m w k n b f s t : ℕ) → m + k ≡ w + n → k ≡ b + (f + t) → n ≡ b + (s + t) → m + f ≡ w + s
      plain m w k n b f s t e g h = omega arith

  parts : Follow run.start (split_run run.start run.end (need u)) run.end
  parts = split_run-Follow run.start run.end (need u) (need-even u).0 (need-even u).1 found.enough found.even

  -- the words are owned as before, or new
  owned-taken : (a : ℕ) → (owners a (owned (with_blocks after_take l)) ≤ owners a (owned l)) ⊎ ((owners a (owned (with_blocks after_take l)) ≤ 1) × (a < l.size))
  owned-taken a =
      elim (cases_lt 0 (owners a (blocks_words (split_run run.start run.end (need u))))) [
        | inr none ↦ inl (fewer _ _ _ _ (count a) none)
        | inl some ↦ start (starts-within run.start (split_run run.start run.end (need u)) run.end a parts some)
      ]
    where
      fewer : (m w f s : ℕ) → m + f ≡ w + s → s ≤ 0 → m ≤ w
      fewer m w f s e none = omega arith

      same : (m w f s : ℕ) → m + f ≡ w + s → s ≤ 1 → 0 < f → m ≤ w
      same m w f s e once some = omega arith

      one : (m w f s : ℕ) → m + f ≡ w + s → s ≤ 1 → w ≡ 0 → m ≤ 1
      one m w f s e once none = omega arith

      inside : a < run.end → a < l.size
      inside high = by (l.size) (l.size - 2) refl (subst (λ n. run.end + 2 ≤ n) (length-store l.blocks end) found.inside)
        where
          by : (n e : ℕ) → e ≡ n - 2 → run.end + 2 ≤ e + 2 → a < n
          by n e is h = omega (arith, high)

      start : (run.start ≤ a) × (a < run.end) → (owners a (owned (with_blocks after_take l)) ≤ owners a (owned l)) ⊎ ((owners a (owned (with_blocks after_take l)) ≤ 1) × (a < l.size))
      start w =
          elim (in-run a w.0 w.1) [
            | inl some ↦ inl (same _ _ _ _ (count a) (starts-once run.start (split_run run.start run.end (need u)) run.end a parts) some)
            | inr none ↦ inr (one _ _ _ _ (count a) (starts-once run.start (split_run run.start run.end (need u)) run.end a parts) none, inside w.1)
          ]

  taken-owns : OwnsApart (with_blocks after_take l)
  taken-owns =
      record {
        apart = λ a. elim (owned-taken a) [ inl fewer ↦ omega (arith, fewer, v.owns.apart a) | inr one ↦ one.0 ];
        inside = λ a some. elim (owned-taken a) [ inl fewer ↦ v.owns.inside a (omega (arith, some, fewer)) | inr one ↦ one.1 ];
      }

  taken-valid : AreValid (with_blocks after_take l)
  taken-valid =
      blocks-valid l after_take v
      (record {
        follow = follow;
        residents = λ r. keeps 201 (last_resident_word l) (v.numbers.residents r);
        modules =
            all-each (λ m. HasBlock l.blocks m.address (last_module_word m)) (λ m. HasBlock after_take m.address (last_module_word m)) (λ m h. keeps m.address (last_module_word m) h) l.modules
            v.modules;
        guests = all-always (λ t. is_guest_id t.id ≡ true → KeepsBlock l.blocks after_take t.address) (λ t _. keeps t.address) l.tasks;
        coroutines =
            all-always (λ t. AllByRecursion (λ c. KeepsBlock l.blocks after_take c.address) t.coroutines.list)
            (λ t. all-always (λ c. KeepsBlock l.blocks after_take c.address) (λ c. keeps c.address) t.coroutines.list) l.tasks;
        packets = all-always (KeepsData l.blocks after_take) keeps-data (queued l);
        owns = taken-owns;
      })

  pub taken-block : HasBlock after_take (run.start + 1) u
  taken-block = record { start = run.start; here = refl; block = new.0 }

  -- the data of the new block were data of free blocks, or the size words of some
  pub taken-unowned : AreUnowned (with_blocks after_take l) (run.start + 1) (run.start + need u)
  taken-unowned a low high = elim (in-run a (omega (arith, low)) (omega (arith, high, found.enough))) [ inl some ↦ was some | inr none ↦ never none ]
    where
      total : owners a (owned (with_blocks after_take l)) + owners a (blocks_words split.free) ≡ owners a (owned l) + owners a (blocks_words (split_run run.start run.end (need u)))
      total = count a

      there : IsDataOf run.start run.end (used_block run.start (need u) ∷ left_over (run.start + need u) (run.end - (run.start + need u))) (used_block run.start (need u)) a
      there = member-data run.start [] (used_block run.start (need u)) (left_over (run.start + need u) (run.end - (run.start + need u))) run.end a parts (omega (arith, low)) high

      was : 0 < owners a (blocks_words split.free) → owners a (owned (with_blocks after_take l)) ≡ 0
      was some = plain _ _ _ _ total there.no_start (v.owns.apart a) some
        where
          plain : (m w f s : ℕ) → m + f ≡ w + s → s ≡ 0 → w ≤ 1 → 0 < f → m ≡ 0
          plain m w f s e none once some = omega arith

      never : owners a (owned l) ≡ 0 → owners a (owned (with_blocks after_take l)) ≡ 0
      never none = plain _ _ _ _ total there.no_start none
        where
          plain : (m w f s : ℕ) → m + f ≡ w + s → s ≡ 0 → w ≡ 0 → m ≡ 0
          plain m w f s e none gone = omega arith

-- ---- where no run is large enough nothing changes

taken-none : (n : ℕ) (bs : List Block) → first_run n bs ≡ None → taken n bs ≡ bs
taken-none n [] e = refl
taken-none n (b ∷ bs) e = on (begins_run n (b ∷ bs)) e (taken-none n bs)
  where
    end_of_run : ℕ
    end_of_run = b.start + run_size (b ∷ bs)

    on : (x : Bool) → ◌≡◌ {A = Option Run} (cond x (Some (record { start = b.start; end = end_of_run })) (first_run n bs)) None → (first_run n bs ≡ None → taken n bs ≡ bs)
        → cond x (split_run b.start end_of_run n ++ after_run (b ∷ bs)) (b ∷ taken n bs) ≡ b ∷ bs
    on true e more = cc
    on false e more = ap (λ z. b ∷ z) (more e)

pub take-valid : (l : Lists) (u : ℕ) → AreValid l → AreValid (with_blocks (taken (need u) l.blocks) l)
take-valid l u v = on (first_run (need u) l.blocks) refl
  where
    on : (o : Option Run) → first_run (need u) l.blocks ≡ o → AreValid (with_blocks (taken (need u) l.blocks) l)
    on None none = subst (λ bs. AreValid (with_blocks bs l)) (sym (taken-none (need u) l.blocks none)) v
    on (Some run) first = taken-valid l u run v first

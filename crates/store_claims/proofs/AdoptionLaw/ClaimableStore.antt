-- The walks succeed exactly where all lists end, no word is met twice, and each is one of a used block's data.
use Rattle.std.proofs.Common.{◌≡◌, ℕ, ◌+◌, ◌-◌, ◌<◌, ◌≤◌, Bool, true, false, List, [], ◌∷◌, cond, get_or, length, map, refl, sym, ap, ◌∙◌, arith}
use Rattle.std.specs.List.{AllByRecursion, flat_map, range_with_len}
use Rattle.std.proofs.lemmas.Bool.{false≢true}
use Rattle.word_store.specs.Count.{times, words_of}
use Rattle.word_store.proofs.Counts.{times-append, times-within, times-words_more}
use Rattle.kernel_lists.specs.OwnedWords.LinkedWords.{linked_words}
use Rattle.kernel_lists.specs.OwnedWords.Owned.{Pairs, owners}
use Rattle.kernel_lists.proofs.OwnedWords.RowWords.{owners-row}
use Rattle.kernel_lists.specs.GetvecChain.Tiling.{Follow, IsTiled, blocks_in}
use Rattle.kernel_lists.proofs.GetvecChain.Tilings.{IsTiled-inside}
use Rattle.kernel_model.proofs.KernelRecord.BlockStarts.{Tiles-Follow}
use Rattle.store_claims.proofs.AdoptionLaw.BlockData.{lies-in-data}
use Rattle.kernel_lists.specs.HunkLoader.HeldModules.{module_address, module_words}
use Rattle.kernel_lists.specs.HunkLoader.ModuleHunks.{hunk_count}
use Rattle.kernel_lists.specs.TaskBlock.Lists.{modules_in}
use Rattle.kernel_lists.specs.TaskBlock.TaskChain.{tasks_in}
use Rattle.kernel_model.specs.KernelRecord.HoldsLists.{HoldsLists}
use Rattle.kernel_model.specs.KernelRecord.KernelRanges.{IsModuleIn, has_residents}
use Rattle.kernel_model.specs.KernelRecord.Lists.{Lists}
use Rattle.kernel_model.specs.KernelRecord.Owned.{clock_head, keyboard_head, output_head}
use Rattle.kernel_model.specs.KernelRecord.Recovered.{lists_in, module_in, packets_at, task_in}
use Rattle.kernel_model.specs.KernelRecord.Residents.{fault_packet_words, key_words, resident_words}
use Rattle.kernel_model.specs.KernelRecord.Task.{task_address, task_words}
use Rattle.kernel_model.proofs.KernelRecord.OwnerCounts.{owners-residents}
use Rattle.store_claims.specs.ListClaims.BlockData.{is_used_data}
use Rattle.store_claims.specs.WordClaims.Marks.{is_open}
use Rattle.store_claims.proofs.WordClaims.ClaimedWords.{open-low}
use Rattle.store_claims.specs.AdoptionLaw.Passes.{ListsEnd}
use Rattle.store_claims.proofs.AdoptionLaw.AllPasses.{passes}
use Rattle.store_claims.specs.AdoptionLaw.ClaimCounts.{claim_count, packet_count}
use Rattle.store_claims.proofs.AdoptionLaw.OwnedOnce.{claimed-once, claimed-used}
use Rattle.store_claims.specs.ListClaims.ListWords.{Can, Claimable, all_words, argument_rest, chain_words, console_rest, console_words, device_rest, fault_words_in, free_packet, keyboard_rest, module_rest, module_size_in, module_words_in, output_rest, packet_rest, queue_words_at, resident_words_in, task_list_words, task_rest}
use Rattle.store_claims.specs.ListClaims.ListEnds.{AllEnd}
use Rattle.store_claims.specs.AdoptionLaw.ClaimableStore.{AreClaimable, OpensData}
use Rattle.store_claims.proofs.AdoptionLaw.WordCounts.{count-fault, count-key, count-modules, count-queue, count-tasks}

none-if : (a : ℕ) (b : Bool) (es : Pairs) → b ≡ false → owners a (cond b es []) ≡ 0
none-if a true es none = absurd (false≢true (sym none))
none-if a false es none = refl

module _ (s : List ℕ) where
  abbrev l : Lists
  l = lists_in s

  -- ---- what is read off

  read-tasks : (a : ℕ) → owners a (linked_words task_address (task_words l.version) l.tasks 0) ≡ owners a (linked_words task_address (task_words (get_or s 111 0)) (map (task_in s) (tasks_in s)) 0)
  unfolding lists_in
  read-tasks a = refl

  read-modules : (a : ℕ) → owners a (linked_words module_address module_words l.modules 0) ≡ owners a (linked_words module_address module_words (map (module_in s) (modules_in s)) 0)
  unfolding lists_in
  read-modules a = refl

  read-devices : (a : ℕ) → packet_count a l.clock + (packet_count a l.keyboard + packet_count a l.output)
      ≡ packet_count a (packets_at s clock_head) + (packet_count a (packets_at s keyboard_head) + packet_count a (packets_at s output_head))
  unfolding lists_in
  read-devices a = refl

  -- ---- residents

  no-residents : (a : ℕ) → has_residents s ≡ false → owners a (resident_words l) ≡ 0
  unfolding lists_in
  no-residents a none = none-if a (has_residents s) _ none

  residents-there : has_residents s ≡ true → l.residents ≡ true
  unfolding lists_in
  residents-there is = is

  the-key : (a : ℕ) → has_residents s ≡ true → times a (free_packet true s 271) ≡ owners a (key_words l.key)
  unfolding lists_in
  the-key a is = count-key a s (has_residents s) is

  the-fault : (a : ℕ) → has_residents s ≡ true → times a (fault_words_in s) ≡ owners a (fault_packet_words l.fault_packet_free)
  unfolding lists_in
  the-fault a is = count-fault a s _ (has_residents s) is

  the-pending : (a : ℕ) → has_residents s ≡ true → packet_count a l.pending ≡ packet_count a (packets_at s 270)
  unfolding lists_in
  the-pending a is = ap (λ b. packet_count a (cond b (packets_at s 270) [])) is

  console-count : (a : ℕ) → has_residents s ≡ true → times a (console_words s) ≡ owners a (resident_words l)
  console-count a is =
      omega (
        arith,
        times-append a (range_with_len 270 1) (console_rest s),
        times-append a (queue_words_at s 270) (packet_rest s),
        times-append a (free_packet true s 271) (argument_rest s),
        times-append a (range_with_len 276 3) (fault_words_in s),
        count-queue a s 270,
        the-key a is,
        the-fault a is,
        the-pending a is,
        owners-row a 271 5 (0 ∷ 0 ∷ 0 ∷ []),
        owners-residents a l (residents-there is),
      )

  residents-count : (a : ℕ) → times a (resident_words_in s) ≡ owners a (resident_words l)
  residents-count a = on (has_residents s) refl
    where
      on : (b : Bool) → has_residents s ≡ b → times a (cond b (console_words s) []) ≡ owners a (resident_words l)
      on true is = console-count a is
      on false none = sym (no-residents a none)

  -- ---- all of them

  pub counted : (a : ℕ) → AllByRecursion (IsModuleIn s) (modules_in s) → times a (all_words s) ≡ claim_count a l
  counted a inside =
      omega (
        arith,
        times-append a (chain_words s) (module_rest s),
        times-append a (module_words_in s) (task_rest s),
        times-append a (flat_map (task_list_words s) (tasks_in s)) (device_rest s),
        times-append a (queue_words_at s clock_head) (keyboard_rest s),
        times-append a (queue_words_at s keyboard_head) (output_rest s),
        times-append a (queue_words_at s output_head) (resident_words_in s),
        count-tasks a s (tasks_in s) 0,
        count-modules a s (modules_in s) 0 inside,
        count-queue a s clock_head,
        count-queue a s keyboard_head,
        count-queue a s output_head,
        residents-count a,
        read-tasks a,
        read-modules a,
        read-devices a,
      )

  -- ---- where the walks succeed

  -- the first words of each module lie in the store
  modules-inside : (n : ℕ) (ms : List ℕ) → ((a : ℕ) → 0 < times a (words_of (module_size_in s) ms) → a < n) → AllByRecursion (λ m. m + 2 + hunk_count s m ≤ n) ms
  modules-inside n [] all = tt
  modules-inside n (m ∷ ms) all =
      let last : m + (1 + hunk_count s m) < n =
      all (m + (1 + hunk_count s m)) (omega (arith, times-words_more (module_size_in s) (m + (1 + hunk_count s m)) m ms, times-within (m + (1 + hunk_count s m)) m (2 + hunk_count s m) (omega arith) (omega arith)))
      in
      (omega (arith, last), modules-inside n ms (λ a some. all a (omega (arith, some, times-words_more (module_size_in s) a m ms))))

  module _ (marks : List Bool) (d : OpensData s marks) where
    inside : Claimable marks (all_words s) → AllByRecursion (IsModuleIn s) (modules_in s)
    inside c = modules-inside (length s) (modules_in s) (λ a some. omega (
      arith,
      d.size,
      open-low marks a (c.are_open a (omega (arith, some, times-append a (chain_words s) (module_rest s), times-append a (module_words_in s) (task_rest s)))),
    ))

    pub to-claimable : Can (AllEnd s) marks (all_words s) → AreClaimable s
    to-claimable c =
        let e = c.ends in
        let ms : AllByRecursion (IsModuleIn s) (modules_in s) = inside c.words in
        record {
          ends = record {
            chain = e.0;
            tasks = e.1.1.0;
            modules = e.1.0;
            lengths = ms;
            clock = e.1.1.1.0;
            keyboard = e.1.1.1.1.0;
            output = e.1.1.1.1.1.0;
            pending = λ there. (e.1.1.1.1.1.1 there).1.0;
          };
          once = λ a. omega (arith, counted a ms, c.words.apart a);
          used = λ a some.
              let shown : is_open marks a ≡ true = c.words.are_open a (omega (arith, some, counted a ms)) in
              sym (d.are_open a (omega (arith, d.size, open-low marks a shown))) ∙ shown;
        }

    pub from-claimable : IsTiled s → AreClaimable s → Can (AllEnd s) marks (all_words s)
    from-claimable tiled c =
        let e : ListsEnd s = c.ends in
        record {
          ends = (e.chain, (e.modules, (e.tasks, (e.clock, (e.keyboard, (e.output, λ there. (tt, (e.pending there, (tt, (tt, tt))))))))));
          words = record {
            are_open = λ a some.
                let used : is_used_data a (blocks_in s) ≡ true = c.used a (omega (arith, some, counted a e.lengths)) in
                d.are_open a (low a used) ∙ used;
            apart = λ a. omega (arith, counted a e.lengths, c.once a);
          };
        }
      where
        low : (a : ℕ) → is_used_data a (blocks_in s) ≡ true → a < length s
        low a used =
            let room : 202 ≤ length s = IsTiled-inside s tiled in
            let f : Follow 200 (blocks_in s) (length s - 2) = Tiles-Follow s 200 (blocks_in s) (length s - 2) tiled (omega (arith, room)) in
            omega (arith, (lies-in-data 200 (blocks_in s) (length s - 2) a f used).high)

  pub valid-claimable : HoldsLists s (lists_in s) → AreClaimable s
  valid-claimable h = record { ends = (passes s h).ends; once = claimed-once s h; used = claimed-used s h }

-- A module comes in or goes out, and the lists stay valid.
use Rattle.std.proofs.Common.{◌≡◌, ℕ, suc, ◌+◌, ◌<◌, ◌≤◌, List, ◌∷◌, ◌++◌, map, eqb, length, false, refl, sym, ap, ◌∙◌, subst, arith}
use Rattle.std.specs.List.{AllByRecursion, range_with_len}
use Rattle.std.proofs.lemmas.Bool.{false≢true, ne_eqb}
use Rattle.word_store.specs.Count.{hit, times}
use Rattle.kernel_lists.specs.LinkedList.Places.{has}
use Rattle.kernel_lists.proofs.LinkedList.AllMembers.{all-members}
use Rattle.word_store.proofs.Counts.{range-apart, range-high, range-low, times-within}
use Rattle.kernel_lists.proofs.LinkedList.MappedLists.{map-append}
use Rattle.kernel_lists.specs.OwnedWords.Owned.{owners}
use Rattle.kernel_lists.proofs.OwnedWords.RowWords.{owners-row}
use Rattle.kernel_lists.specs.HunkLoader.HeldModules.{LoadedModule, module_address, module_words}
use Rattle.kernel_lists.specs.HunkLoader.ModuleExchanges.{modules_words}
use Rattle.kernel_lists.specs.PacketQueue.QueueWords.{QueuedPacket}
use Rattle.kernel_model.specs.KernelRecord.Changes.{AreUnowned, with_modules}
use Rattle.kernel_model.specs.KernelRecord.Lists.{Lists}
use Rattle.kernel_model.specs.KernelRecord.Owned.{OwnsApart, owned}
use Rattle.kernel_model.specs.KernelRecord.Task.{Task}
use Rattle.kernel_model.specs.KernelRecord.ValidBlocks.{AreValidModules, HasBlock, last_module_word}
use Rattle.kernel_model.specs.KernelRecord.ValidLists.{AreValid}
use Rattle.kernel_model.specs.KernelRecord.ValidQueues.{IsValidPacket, Place}
use Rattle.kernel_model.specs.KernelRecord.ValidQueues.Place.{Clock, Keyboard, Output, Pending, Work}
use Rattle.kernel_model.specs.KernelRecord.ValidTasks.{AreValidCoroutines, IsTask}
use Rattle.kernel_model.proofs.KernelRecord.AllThings.{all-always, all-beside, all-between, all-from_both, any-between, any-more}
use Rattle.kernel_model.proofs.KernelRecord.DataInside.{HasBlock-inside}
use Rattle.kernel_model.proofs.KernelRecord.EachMember.{all-each}
use Rattle.kernel_model.proofs.KernelRecord.OwnerCounts.{owned-modules, owners-module_between, owns-more, owns-without}
use Rattle.kernel_model.proofs.KernelRecord.RulesKept.{AreValidCoroutines-same, AreValidTasks-same, HasModule, IsTask-kept, IsValidPacket-more}

-- other modules, of which each has its block, and among which each task has its own
modules-valid : (l : Lists) (ms : List LoadedModule) → AreValid l → AreValidModules (with_modules ms l)
    → AllByRecursion (λ t. AllByRecursion (HasModule l) t.modules → AllByRecursion (HasModule (with_modules ms l)) t.modules) l.tasks
    → OwnsApart (with_modules ms l) → AreValid (with_modules ms l)
modules-valid l ms v valid-modules keeps owns =
    record {
      blocks = v.blocks;
      numbers = record { version = v.numbers.version; size = v.numbers.size; period = v.numbers.period; residents = v.numbers.residents };
      modules = valid-modules;
      tasks =
          AreValidTasks-same l m refl refl
          (all-from_both (IsTask l) (λ t. AllByRecursion (HasModule l) t.modules → AllByRecursion (HasModule m) t.modules) (IsTask m) (λ t h keep. IsTask-kept l m t refl refl keep (λ _ u b. b) h) l.tasks v.tasks.each keeps)
          v.tasks;
      coroutines = all-each (AreValidCoroutines l) (AreValidCoroutines m) (λ t h. AreValidCoroutines-same l m t refl h) l.tasks v.coroutines;
      queues =
          record {
            tasks = all-each (λ t. AllByRecursion (IsValidPacket l (Work t.id)) t.queue) (λ t. AllByRecursion (IsValidPacket m (Work t.id)) t.queue) (λ t all. moved (Work t.id) t.queue all) l.tasks v.queues.tasks;
            clock = moved Clock l.clock v.queues.clock;
            keyboard = moved Keyboard l.keyboard v.queues.keyboard;
            output = moved Output l.output v.queues.output;
            pending = moved Pending l.pending v.queues.pending;
            due = v.queues.due;
            no_console = v.queues.no_console;
            key = v.queues.key;
            fault = v.queues.fault;
            running = v.queues.running;
          };
      owns = owns;
    }
  where
    m : Lists
    m = with_modules ms l

    moved : (at : Place) (ps : List QueuedPacket) → AllByRecursion (IsValidPacket l at) ps → AllByRecursion (IsValidPacket m at) ps
    moved at ps all = all-each (IsValidPacket l at) (IsValidPacket m at) (λ p h. IsValidPacket-more l m at p refl refl (λ d. d) (λ i some. some) h) ps all

-- a module owns its words before those of its hunks
pub owners-module : (a : ℕ) (m : LoadedModule) (n : ℕ) → owners a (module_words m n) ≡ times a (range_with_len m.address (suc (suc (length m.lengths))))
owners-module a m n = ap (λ z. hit a m.address + z) (owners-row a m.address 1 (length m.lengths ∷ m.lengths))

module _ (l : Lists) (front back : List LoadedModule) (m : LoadedModule) (v : AreValid l) where
  -- the addresses with it, and without it
  addresses : map module_address (front ++ m ∷ back) ≡ map module_address front ++ m.address ∷ map module_address back
  addresses = map-append module_address front (m ∷ back)

  pub new_module-valid : l.modules ≡ front ++ back → HasBlock l.blocks m.address (last_module_word m) → AreUnowned l m.address (m.address + 2 + length m.lengths)
      → AreValid (with_modules (front ++ m ∷ back) l)
  new_module-valid is block unowned =
      modules-valid l (front ++ m ∷ back) v (all-between IsInBlock front m back block (subst (AllByRecursion IsInBlock) is v.modules))
      (all-always (λ t. AllByRecursion (HasModule l) t.modules → AllByRecursion (HasModule (with_modules (front ++ m ∷ back) l)) t.modules)
      (λ t all. all-each (HasModule l) (HasModule (with_modules (front ++ m ∷ back) l)) keeps t.modules all) l.tasks)
      (owns-more l (with_modules (front ++ m ∷ back) l) (module_words m 0) refl count once fresh v.owns)
    where
      k : ℕ
      k = suc (suc (length m.lengths))

      IsInBlock : LoadedModule → Type 0
      IsInBlock x = HasBlock l.blocks x.address (last_module_word x)

      keeps : (a : ℕ) → HasModule l a → HasModule (with_modules (front ++ m ∷ back) l) a
      keeps a some =
          ap (has a) addresses
          ∙ any-more (λ q. eqb a q) (map module_address front) m.address (map module_address back) (ap (has a) (sym (map-append module_address front back)) ∙ ap (λ z. has a (map module_address z)) (sym is) ∙ some)

      count : (a : ℕ) → owners a (owned (with_modules (front ++ m ∷ back) l)) ≡ owners a (owned l) + owners a (module_words m 0)
      count a =
          plain (owners a (owned (with_modules (front ++ m ∷ back) l))) (owners a (owned l)) (owners a (module_words m 0))
          (owned-modules a l 0 (owners a (module_words m 0)) (front ++ m ∷ back)
          (added (owners a (modules_words (front ++ m ∷ back))) (owners a (modules_words l.modules)) (owners a (modules_words (front ++ back))) (owners a (module_words m 0)) (owners-module_between a front m back)
          (ap (λ z. owners a (modules_words z)) is)))
        where
          added : (x y b n : ℕ) → x ≡ b + n → y ≡ b → x + 0 ≡ y + n
          added x y b n e f = omega arith

          plain : (x y n : ℕ) → x + 0 ≡ y + n → x ≡ y + n
          plain x y n e = omega arith

      once : (a : ℕ) → owners a (module_words m 0) ≤ 1
      once a = subst (λ n. n ≤ 1) (sym (owners-module a m 0)) (range-apart m.address k a)

      fresh : (a : ℕ) → 0 < owners a (module_words m 0) → (owners a (owned l) ≡ 0) × (a < l.size)
      fresh a some =
          let there : 0 < times a (range_with_len m.address k) = subst (λ n. 0 < n) (owners-module a m 0) some in
          let high : a < m.address + k = range-high a m.address k there in
          (unowned a (range-low a m.address k there) (omega (arith, high)), HasBlock-inside l m.address (last_module_word m) a v.blocks block (omega (arith, high)))

  -- what it owned is taken away
  gone-count : l.modules ≡ front ++ m ∷ back → (a : ℕ) → owners a (owned (with_modules (front ++ back) l)) + owners a (module_words m 0) ≡ owners a (owned l) + 0
  gone-count is a =
      owned-modules a l (owners a (module_words m 0)) 0 (front ++ back)
      (removed (owners a (modules_words (front ++ back))) (owners a (modules_words l.modules)) (owners a (modules_words (front ++ m ∷ back))) (owners a (module_words m 0)) (owners-module_between a front m back)
      (ap (λ z. owners a (modules_words z)) is))
    where
      removed : (x y b n : ℕ) → b ≡ x + n → y ≡ b → x + n ≡ y + 0
      removed x y b n e f = omega arith

  pub gone_module-valid : l.modules ≡ front ++ m ∷ back → AllByRecursion (λ t. has m.address t.modules ≡ false) l.tasks → AreValid (with_modules (front ++ back) l)
  gone_module-valid is unused =
      modules-valid l (front ++ back) v (all-beside IsInBlock front m back (subst (AllByRecursion IsInBlock) is v.modules))
      (all-each (λ t. has m.address t.modules ≡ false) (λ t. AllByRecursion (HasModule l) t.modules → AllByRecursion (HasModule (with_modules (front ++ back) l)) t.modules) keep l.tasks unused)
      (owns-without l (with_modules (front ++ back) l) (λ a. owners a (module_words m 0)) refl (gone-count is) v.owns)
    where
      IsInBlock : LoadedModule → Type 0
      IsInBlock x = HasBlock l.blocks x.address (last_module_word x)

      keeps : (a : ℕ) → HasModule l a → eqb a m.address ≡ false → HasModule (with_modules (front ++ back) l) a
      keeps a some other =
          ap (has a) (map-append module_address front back)
          ∙ sym (any-between (λ q. eqb a q) (map module_address front) m.address (map module_address back) other)
          ∙ ap (has a) (sym addresses)
          ∙ ap (λ z. has a (map module_address z)) (sym is)
          ∙ some

      keep : (t : Task) → has m.address t.modules ≡ false → AllByRecursion (HasModule l) t.modules → AllByRecursion (HasModule (with_modules (front ++ back) l)) t.modules
      keep t none all =
          all-from_both (HasModule l) (λ a. eqb a m.address ≡ false) (HasModule (with_modules (front ++ back) l)) keeps t.modules all
          (all-members (λ a. eqb a m.address ≡ false) t.modules (λ a some. ne_eqb a m.address (λ e. false≢true (sym none ∙ ap (λ z. has z t.modules) (sym e) ∙ some))))

  pub gone_module-unowned : l.modules ≡ front ++ m ∷ back → AreUnowned (with_modules (front ++ back) l) m.address (m.address + 2 + length m.lengths)
  gone_module-unowned is a low high =
      plain (owners a (owned (with_modules (front ++ back) l))) (owners a (owned l)) (owners a (module_words m 0)) (gone-count is a)
      (owners-module a m 0 ∙ times-within a m.address (suc (suc (length m.lengths))) low (omega (arith, high))) (v.owns.apart a)
    where
      plain : (x y n : ℕ) → x + n ≡ y + 0 → n ≡ 1 → y ≤ 1 → x ≡ 0
      plain x y n e one once = omega arith

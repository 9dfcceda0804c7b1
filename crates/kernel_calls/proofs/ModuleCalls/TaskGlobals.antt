-- Where the globals of a guest lie: behind its task block, in a block of its own.
use Rattle.std.proofs.Common.{◌≡◌, ◌≢◌, ℕ, ◌+◌, ◌<◌, ◌≤◌, ◌⊎◌, List, ◌∷◌, ◌++◌, map, get_or, cond, eqb, true, Some, inl, inr, refl, sym, ap, ◌∙◌, subst, arith}
use Rattle.std.specs.Prelude.{find}
use Rattle.word_store.specs.Count.{IsApart}
use Rattle.kernel_lists.proofs.LinkedList.AllMembers.{all-has}
use Rattle.word_store.proofs.Counts.{hit-same}
use Rattle.kernel_lists.specs.OwnedWords.LinkedWords.{linked_words}
use Rattle.kernel_lists.specs.OwnedWords.Owned.{owners}
use Rattle.kernel_lists.specs.GetvecChain.Block.{used_block}
use Rattle.kernel_lists.specs.GetvecChain.Run.{need}
use Rattle.kernel_lists.specs.GetvecChain.Tiling.{blocks_in, used_at}
use Rattle.kernel_lists.proofs.GetvecChain.UsedBlocks.{AreDisjoint, used_at-apart}
use Rattle.kernel_lists.specs.HunkLoader.GlobalWords.{AreClear}
use Rattle.kernel_lists.specs.HunkLoader.HeldModules.{module_address, module_words}
use Rattle.kernel_lists.specs.HunkLoader.ModuleHunks.{module_end}
use Rattle.kernel_lists.specs.HunkLoader.Modules.{IsModuleAt}
use Rattle.kernel_lists.proofs.HunkLoader.HeldModuleLists.{held-modules}
use Rattle.kernel_lists.proofs.HunkLoader.ModuleBlocks.{InBlock, in_block}
use Rattle.kernel_lists.specs.TaskBlock.Lists.{modules_in}
use Rattle.kernel_model.specs.KernelRecord.HoldsLists.{HoldsLists}
use Rattle.kernel_model.specs.KernelRecord.Lists.{Lists}
use Rattle.kernel_model.specs.KernelRecord.Task.{globals_of, task_address, task_id, task_words}
use Rattle.kernel_model.specs.KernelRecord.ValidBlocks.{HasBlock}
use Rattle.kernel_model.specs.KernelRecord.Versions.{head_words_of}
use Rattle.kernel_model.proofs.KernelRecord.OwnerCounts.{owners-linked_here}
use Rattle.kernel_model.proofs.KernelRecord.RootCounts.{owners-nodes}
use Rattle.kernel_calls.specs.CallAnswers.Guests.{GuestAt}
use Rattle.kernel_calls.proofs.CallAnswers.FoundTask.{find-numbered, reads}
use Rattle.kernel_calls.specs.CallAnswers.Modules.{has_module}
use Rattle.kernel_calls.proofs.CallAnswers.ListedModules.{module-told}
use Rattle.kernel_calls.proofs.CallAnswers.GuestTask.{guest-words}
use Rattle.kernel_calls.specs.ModuleCalls.AddModule.{globals_at, globals_of_task, task_of}
use Rattle.kernel_calls.proofs.ModuleCalls.AdditionTests.{facts, is-guest}
use Rattle.kernel_calls.proofs.ModuleCalls.GoneModule.{ModuleAt, module-at}

module _ (s : List ℕ) (l : Lists) (id address : ℕ) (h : HoldsLists s l) (g : GuestAt l id address) where
  -- the task with the number
  pub task-is : task_of id l ≡ Some g.task
  task-is =
      ap (find (λ t. eqb t.id id)) g.is
      ∙ find-numbered id g.front g.task g.back g.number (subst (λ ts. IsApart (map task_id ts)) g.is h.valid.tasks.distinct)

  pub globals-are : globals_of_task id l ≡ globals_of l.version g.task
  globals-are = ap (λ o. globals_at l.version o) task-is

  pub globals-told : get_or s (address + 8) 0 ≡ globals_of l.version g.task
  globals-told = ap (λ a. get_or s (a + 8) 0) (sym g.at) ∙ (guest-words s l id address h g).1.1.1.1.0

  pub globals-behind : globals_of l.version g.task ≡ g.task.address + head_words_of l.version
  globals-behind = ap (λ b. cond b (g.task.address + head_words_of l.version) 0) (facts s l id address h g).guest

  module _ (m : ℕ) (there : has_module l m ≡ true) where
    place : ModuleAt l.modules m
    place = module-at m l.modules there

    -- a task and a module each own their first word
    elsewhere : g.task.address ≢ m
    elsewhere e =
        clash _ _ _ _ _ _ _ _ _ _ (owners-nodes m l) (h.valid.owns.apart m)
        (tasks (owners-linked_here m task_address (task_words l.version) (λ x n k. refl) g.front g.task g.back 0))
        (modules (owners-linked_here m module_address module_words (λ x n k. refl) place.front place.it place.back 0))
      where
        clash : (w r e b t k c d o s : ℕ) → w ≡ r + (e + (b + (t + (k + (c + (d + (o + s))))))) → w ≤ 1 → 1 ≤ t → 1 ≤ k → ⊥
        clash w r e b t k c d o s is once one two = omega (arith, is, once, one, two)

        tasks : owners m (task_words l.version g.task 0) ≤ owners m (linked_words task_address (task_words l.version) (g.front ++ g.task ∷ g.back) 0) → 1 ≤ owners m (linked_words task_address (task_words l.version) l.tasks 0)
        tasks le = subst (λ ts. 1 ≤ owners m (linked_words task_address (task_words l.version) ts 0)) (sym g.is) (omega (arith, le, hit-same m g.task.address (sym e)))

        modules : owners m (module_words place.it 0) ≤ owners m (linked_words module_address module_words (place.front ++ place.it ∷ place.back) 0) → 1 ≤ owners m (linked_words module_address module_words l.modules 0)
        modules le = subst (λ ms. 1 ≤ owners m (linked_words module_address module_words ms 0)) (sym place.is) (omega (arith, le, hit-same m place.it.address (sym place.at)))

    -- so the globals lie apart from the module's words
    pub globals-clear : AreClear (globals_of l.version g.task) m (module_end s m)
    globals-clear k low =
        let modules = (held-modules s l.modules (reads s l h).modules).modules in
        let at : IsModuleAt s m = all-has (IsModuleAt s) m (modules_in s) modules.modules (module-told s l m h ∙ there) in
        let b : InBlock s m at.block = in_block s m (reads s l h).tiled at in
        let own : HasBlock l.blocks g.task.address (head_words_of l.version + 1001 + g.task.highest) = (is-guest s l id address h g).block in
        by at b own
        (used_at-apart s 200 (blocks_in s) g.task.address m (used_block own.start (need (head_words_of l.version + 1001 + g.task.highest))) at.block (reads s l h).tiled
        (ap (used_at g.task.address) (reads s l h).blocks ∙ own.block) at.used)
      where
        by : (at : IsModuleAt s m) → InBlock s m at.block → (own : HasBlock l.blocks g.task.address (head_words_of l.version + 1001 + g.task.highest))
            → (g.task.address ≡ m) ⊎ AreDisjoint (used_block own.start (need (head_words_of l.version + 1001 + g.task.highest))) at.block
            → (globals_of l.version g.task + k < m) ⊎ (module_end s m ≤ globals_of l.version g.task + k)
        by at b own (inl e) = absurd (elsewhere e)
        by at b own (inr (inl before)) = inl (omega (arith, before, b.start, own.here, globals-behind, low))
        by at b own (inr (inr behind)) = inr (omega (arith, behind, b.words, own.here, globals-behind, low))

-- A store of the kernel's after a guest got one more module.
use Rattle.std.proofs.Common.{◌≡◌, ℕ, suc, ◌+◌, ◌-◌, ◌<◌, List, [], ◌∷◌, ◌++◌, length, map, set, cond, eqb, true, false, inl, inr, refl, sym, ap, ◌∙◌, subst, arith, length-append}
use Rattle.std.proofs.lemmas.Bool.{cases_lt, ne_eqb}
use Rattle.kernel_lists.specs.LinkedList.Places.{has}
use Rattle.word_store.proofs.Elements.{all-append}
use Rattle.kernel_lists.specs.OwnedWords.LinkedWords.{first_of}
use Rattle.kernel_lists.specs.OwnedWords.Owned.{Holds, Pairs, owners, written}
use Rattle.kernel_lists.proofs.OwnedWords.OwnedWords.{Holds-same, length-written, written-other}
use Rattle.kernel_lists.specs.HunkLoader.Globals.{globals_in, with_globals}
use Rattle.kernel_lists.specs.HunkLoader.HeldModules.{module_address}
use Rattle.kernel_lists.specs.TaskBlock.Versions.{module_index}
use Rattle.kernel_model.specs.KernelRecord.ChangedStore.{IsChanged}
use Rattle.kernel_model.specs.KernelRecord.Changes.{AreUnowned, SameTask, with_task, with_tasks}
use Rattle.kernel_model.specs.KernelRecord.HoldsLists.{HoldsLists}
use Rattle.kernel_model.specs.KernelRecord.Lists.{Lists}
use Rattle.kernel_model.specs.KernelRecord.Owned.{owned}
use Rattle.kernel_model.specs.KernelRecord.Task.{Task, is_guest_id, task_address}
use Rattle.kernel_model.specs.KernelRecord.ValidLists.{AreValid}
use Rattle.kernel_model.specs.KernelRecord.ValidTasks.{AreValidCoroutines, IsGuest, IsTask}
use Rattle.kernel_model.specs.KernelRecord.Versions.{head_words_of, most_modules_of}
use Rattle.kernel_model.proofs.KernelRecord.ChangedLists.{exchange-owned, one_task-owned}
use Rattle.kernel_model.proofs.KernelRecord.OneTask.{owned-one_task, same_task-valid}
use Rattle.kernel_model.proofs.KernelRecord.TaskCounts.{owners-same_task}
use Rattle.kernel_calls.specs.CallAnswers.Guests.{GuestAt}
use Rattle.kernel_calls.specs.CallAnswers.Modules.{has_module}
use Rattle.kernel_calls.proofs.CallAnswers.GuestTask.{guest-changed}
use Rattle.kernel_calls.specs.ModuleCalls.AddModule.{global_words, with_further}
use Rattle.kernel_calls.proofs.ModuleCalls.AddedWords.{further-exchange, globals-within, globals-written, module-globals}
use Rattle.kernel_calls.proofs.ModuleCalls.AdditionTests.{facts, is-guest}

-- there is a word for each module after the first
further-room : (version : ℕ) → most_modules_of version ≡ suc (head_words_of version - 23)
further-room version = elim (eqb version 2) as (λ b. cond b 8 1 ≡ suc (cond b 30 23 - 23)) [ true ↦ refl | false ↦ refl ]

-- ---- globals are set, in words that nobody owns

pub globals-changed : (s : List ℕ) (l : Lists) (m g : ℕ) → HoldsLists s l → AreUnowned l g (g + 1001) → IsChanged s (with_globals s g (globals_in s m)) l (global_words g (globals_in s m))
globals-changed s l m g h unowned =
    subst (λ z. IsChanged s z l plain) (sym (globals-written s g (globals_in s m)))
    (record {
      lists = record { valid = h.valid; size = length-written plain s ∙ h.size; holds = holds };
      size = length-written plain s;
      written = record { holds = holds; others = λ a none. refl };
    })
  where
    plain : Pairs
    plain = global_words g (globals_in s m)

    none-owned : (a : ℕ) → 0 < owners a (owned l) → owners a plain ≡ 0
    none-owned a some =
        elim (cases_lt 0 (owners a plain)) [
          | inl there ↦ (let w = globals-within g a (globals_in s m) (module-globals s m) there in absurd (omega (arith, some, unowned a w.0 w.1)))
          | inr none ↦ omega (arith, none)
        ]

    holds : Holds (written plain s) (owned l)
    holds = Holds-same s (written plain s) (owned l) h.holds (λ a some. written-other a plain s (none-owned a some))

-- ---- the task has one more module

module _ (s : List ℕ) (l : Lists) (id address m count : ℕ) (h : HoldsLists s l) (g : GuestAt l id address) (there : has_module l m ≡ true) (is : count ≡ length g.task.modules) (room : count < most_modules_of l.version) where
  abbrev u : Task
  u = with_further m g.task

  abbrev after : Lists
  after = with_tasks (g.front ++ u ∷ g.back) l

  same : SameTask g.task u
  same = record { id = refl; address = refl; priority = refl; queue = refl; coroutines = refl }

  task : IsTask l u
  task =
      let t : IsTask l g.task = (facts s l id address h g).task in
      let old : IsGuest l g.task = is-guest s l id address h g in
      record {
        low = t.low;
        high = t.high;
        maker = t.maker;
        field = t.field;
        byte = t.byte;
        guest = λ guest. record {
          high = old.high;
          block = old.block;
          some_module = omega (arith, length-append g.task.modules (m ∷ []));
          most = omega (arith, length-append g.task.modules (m ∷ []), is, room);
          modules = all-append (λ x. has x (map module_address l.modules) ≡ true) g.task.modules (m ∷ []) old.modules (there, tt);
          fault = old.fault;
          unreported = old.unreported;
        };
        resident = λ resident. (let guest : is_guest_id g.task.id ≡ true = (facts s l id address h g).guest in cc);
      }

  coroutines : AreValidCoroutines l u
  coroutines = (let c = (facts s l id address h g).coroutines in record { each = c.each; members = c.members; distinct = c.distinct })

  valid : AreValid after
  valid = same_task-valid l g.front g.back g.task u h.valid g.is same task coroutines

  -- the same addresses are owned
  pub added-owners : (a : ℕ) → owners a (owned after) ≡ owners a (owned l)
  added-owners a = plain _ _ (owned-one_task l g.front g.task u g.back g.is a 0 0 (ap (λ n. n + 0) (owners-same_task a l.version g.task u same)))
    where
      plain : (x y : ℕ) → x + 0 ≡ y + 0 → x ≡ y
      plain x y e = omega (arith, e)

  module-changed : IsChanged s (set s (address + module_index (count + 1)) m) after []
  module-changed = on g.task.modules refl
    where
      at : (xs : List ℕ) → count ≡ suc (length xs) → address + module_index (count + 1) ≡ g.task.address + (21 + suc (suc (length xs)))
      at xs e = (let i : module_index (count + 1) ≡ 21 + (count + 1) = further in omega (arith, i, e, g.at))
        where
          further : module_index (count + 1) ≡ 21 + (count + 1)
          further = ap (λ b. cond b 10 (21 + (count + 1))) (ne_eqb (count + 1) 1 (λ one. absurd (omega (arith, one, e))))

      on : (ms : List ℕ) → g.task.modules ≡ ms → IsChanged s (set s (address + module_index (count + 1)) m) after []
      on [] none = absurd (omega (arith, ap length none, (is-guest s l id address h g).some_module))
      on (x ∷ xs) some =
          let size : count ≡ suc (length xs) = is ∙ ap length some in
          subst (λ a. IsChanged s (set s a m) after []) (sym (at xs size))
          (exchange-owned s _ l after _ _ h valid refl
          (one_task-owned l g.front g.task u g.back _ _ g.is refl refl
          (further-exchange l.version g.task m (first_of task_address g.back 0) x xs some (facts s l id address h g).guest (omega (arith, size, room, further-room l.version))))
          refl)

  after-is : with_task id (with_further m) l ≡ after
  after-is = ap (λ ts. with_tasks ts l) (guest-changed l id address (with_further m) h.valid g)

  pub added-changed : IsChanged s (set s (address + module_index (count + 1)) m) (with_task id (with_further m) l) []
  added-changed = subst (λ k. IsChanged s (set s (address + module_index (count + 1)) m) k []) (sym after-is) module-changed

  pub added-same : (a : ℕ) → owners a (owned (with_task id (with_further m) l)) ≡ owners a (owned l)
  added-same a = ap (λ k. owners a (owned k)) after-is ∙ added-owners a

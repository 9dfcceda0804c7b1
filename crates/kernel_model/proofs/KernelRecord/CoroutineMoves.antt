-- A coroutine of a task comes in or goes out, and the lists stay valid.
use Rattle.std.proofs.Common.{◌≡◌, ℕ, ◌+◌, ◌<◌, ◌≤◌, List, [], ◌∷◌, ◌++◌, map, eqb, true, false, refl, sym, ap, ◌∙◌, subst, arith}
use Rattle.std.specs.List.{AllByRecursion, range_with_len}
use Rattle.std.proofs.lemmas.Bool.{false≢true, ne_eqb}
use Rattle.word_store.specs.Count.{times, words_of}
use Rattle.kernel_lists.specs.LinkedList.Places.{has}
use Rattle.kernel_lists.proofs.LinkedList.AllMembers.{all-members}
use Rattle.word_store.proofs.Counts.{range-apart, range-high, range-low, times-within, times-words_more, times-words_of}
use Rattle.kernel_lists.proofs.LinkedList.MappedLists.{map-append}
use Rattle.kernel_lists.specs.OwnedWords.Owned.{owners}
use Rattle.kernel_lists.specs.Coroutines.CoroutineWords.{coroutine_size}
use Rattle.kernel_lists.specs.Coroutines.HeldCoroutines.{Coroutine, address_of, coroutine_words}
use Rattle.kernel_model.specs.KernelRecord.BlockUse.{coroutine_addresses}
use Rattle.kernel_model.specs.KernelRecord.Changes.{AreUnowned, with_coroutines, with_tasks}
use Rattle.kernel_model.specs.KernelRecord.Lists.{Lists}
use Rattle.kernel_model.specs.KernelRecord.Owned.{owned}
use Rattle.kernel_model.specs.KernelRecord.Task.{Task, is_guest_id, task_words}
use Rattle.kernel_model.specs.KernelRecord.ValidLists.{AreValid}
use Rattle.kernel_model.specs.KernelRecord.ValidTasks.{AreValidCoroutines, IsCoroutine, IsTask}
use Rattle.kernel_model.proofs.KernelRecord.AllThings.{all-beside, all-between, all-from_both, all-here, any-between, any-more}
use Rattle.kernel_model.proofs.KernelRecord.DataInside.{HasBlock-inside}
use Rattle.kernel_model.proofs.KernelRecord.EachMember.{all-each}
use Rattle.kernel_model.proofs.KernelRecord.OneTask.{owned-one_task, task-same_queue}
use Rattle.kernel_model.proofs.KernelRecord.OwnerCounts.{owns-fewer, owns-more, packets_count}
use Rattle.kernel_model.proofs.KernelRecord.RulesKept.{IsTask-coroutines}
use Rattle.kernel_model.proofs.KernelRecord.TaskCounts.{further_count, owners-coroutine, owners-task_by}

-- one more among the words of coroutines
words-between : (a : ℕ) (front : List Coroutine) (c : Coroutine) (back : List Coroutine)
    → times a (words_of coroutine_size (map address_of (front ++ c ∷ back))) ≡ times a (words_of coroutine_size (map address_of (front ++ back))) + times a (range_with_len c.address 10)
words-between a front c back =
    plain (times a (words_of coroutine_size (map address_of (front ++ c ∷ back)))) (times a (words_of coroutine_size (map address_of (front ++ back)))) (times a (words_of coroutine_size (map address_of front)))
    (times a (words_of coroutine_size (map address_of (c ∷ back)))) (times a (range_with_len c.address 10)) (times a (words_of coroutine_size (map address_of back)))
    (ap (λ z. times a (words_of coroutine_size z)) (map-append address_of front (c ∷ back)) ∙ times-words_of coroutine_size a (map address_of front) (map address_of (c ∷ back)))
    (ap (λ z. times a (words_of coroutine_size z)) (map-append address_of front back) ∙ times-words_of coroutine_size a (map address_of front) (map address_of back))
    (times-words_more coroutine_size a c.address (map address_of back))
  where
    plain : (w v f m c b : ℕ) → w ≡ f + m → v ≡ f + b → m ≡ c + b → w ≡ v + c
    plain w v f m c b e g h = omega arith

-- a task with other coroutines owns their words in place of those of before
owners-with_coroutines : (a version : ℕ) (t : Task) (cs : List Coroutine)
    → owners a (task_words version (with_coroutines cs t) 0) + times a (words_of coroutine_size (coroutine_addresses t)) ≡ owners a (task_words version t 0) + times a (words_of coroutine_size (map address_of cs))
owners-with_coroutines a version t cs =
    plain (times a (range_with_len t.address 23)) (times a (range_with_len (t.address + 23) (further_count version t.id))) (packets_count a t.queue) (times a (words_of coroutine_size (coroutine_addresses t)))
    (times a (words_of coroutine_size (map address_of cs))) (owners a (task_words version t 0)) (owners a (task_words version (with_coroutines cs t) 0)) (owners-task_by a version t 0) (owners-task_by a version (with_coroutines cs t) 0)
  where
    plain : (h f q c d w v : ℕ) → w ≡ h + (f + (q + c)) → v ≡ h + (f + (q + d)) → v + c ≡ w + d
    plain h f q c d w v e g = omega arith

module _ (l : Lists) (before after : List Task) (t : Task) (front back : List Coroutine) (c : Coroutine) (v : AreValid l) (is : l.tasks ≡ before ++ t ∷ after) where
  task : IsTask l t
  task = all-here (IsTask l) before t after (subst (AllByRecursion (IsTask l)) is v.tasks.each)

  valid-coroutines : AreValidCoroutines l t
  valid-coroutines = all-here (AreValidCoroutines l) before t after (subst (AllByRecursion (AreValidCoroutines l)) is v.coroutines)

  addresses : map address_of (front ++ c ∷ back) ≡ map address_of front ++ c.address ∷ map address_of back
  addresses = map-append address_of front (c ∷ back)

  pub new_coroutine-valid : t.coroutines.list ≡ front ++ back → is_guest_id t.id ≡ true → IsCoroutine l c → AreUnowned l c.address (c.address + 10)
      → AreValid (with_tasks (before ++ with_coroutines (front ++ c ∷ back) t ∷ after) l)
  new_coroutine-valid list guest new unowned =
      task-same_queue l before t u after is v refl refl refl (IsTask-coroutines l t (front ++ c ∷ back) task (λ resident. absurd (false≢true (sym resident ∙ guest)))) coroutines
      (owns-more l (with_tasks (before ++ u ∷ after) l) (coroutine_words 0 [] c 0) refl count once fresh v.owns)
    where
      u : Task
      u = with_coroutines (front ++ c ∷ back) t

      keeps : (d : ℕ) → has d (coroutine_addresses t) ≡ true → has d (coroutine_addresses u) ≡ true
      keeps d some =
          ap (has d) addresses
          ∙ any-more (λ q. eqb d q) (map address_of front) c.address (map address_of back) (ap (has d) (sym (map-append address_of front back)) ∙ ap (λ z. has d (map address_of z)) (sym list) ∙ some)

      coroutines : AreValidCoroutines l u
      coroutines =
          record {
            each = all-between (IsCoroutine l) front c back new (subst (AllByRecursion (IsCoroutine l)) list valid-coroutines.each);
            members = all-each (λ d. has d (coroutine_addresses t) ≡ true) (λ d. has d (coroutine_addresses u) ≡ true) keeps t.coroutines.active valid-coroutines.members;
            distinct = valid-coroutines.distinct;
          }

      count : (a : ℕ) → owners a (owned (with_tasks (before ++ u ∷ after) l)) ≡ owners a (owned l) + owners a (coroutine_words 0 [] c 0)
      count a =
          plain (owners a (owned (with_tasks (before ++ u ∷ after) l))) (owners a (owned l)) (times a (words_of coroutine_size (coroutine_addresses t))) (times a (words_of coroutine_size (coroutine_addresses u)))
          (times a (words_of coroutine_size (map address_of (front ++ back)))) (times a (range_with_len c.address 10)) (owners a (coroutine_words 0 [] c 0))
          (owned-one_task l before t u after is a (times a (words_of coroutine_size (coroutine_addresses t))) (times a (words_of coroutine_size (coroutine_addresses u))) (owners-with_coroutines a l.version t (front ++ c ∷ back)))
          (ap (λ z. times a (words_of coroutine_size (map address_of z))) list) (words-between a front c back) (owners-coroutine a 0 [] c 0)
        where
          plain : (m w k n b r e : ℕ) → m + k ≡ w + n → k ≡ b → n ≡ b + r → e ≡ r → m ≡ w + e
          plain m w k n b r e p q s z = omega arith

      once : (a : ℕ) → owners a (coroutine_words 0 [] c 0) ≤ 1
      once a = subst (λ n. n ≤ 1) (sym (owners-coroutine a 0 [] c 0)) (range-apart c.address 10 a)

      fresh : (a : ℕ) → 0 < owners a (coroutine_words 0 [] c 0) → (owners a (owned l) ≡ 0) × (a < l.size)
      fresh a some =
          let there : 0 < times a (range_with_len c.address 10) = subst (λ n. 0 < n) (owners-coroutine a 0 [] c 0) some in
          let high : a < c.address + 10 = range-high a c.address 10 there in
          (unowned a (range-low a c.address 10 there) high, HasBlock-inside l c.address c.highest a v.blocks new.block (omega (arith, high, new.high)))

  -- what it owned is taken away
  gone-count : t.coroutines.list ≡ front ++ c ∷ back → (a : ℕ) → owners a (owned (with_tasks (before ++ with_coroutines (front ++ back) t ∷ after) l)) + times a (range_with_len c.address 10) ≡ owners a (owned l)
  gone-count list a =
      plain (owners a (owned (with_tasks (before ++ with_coroutines (front ++ back) t ∷ after) l))) (owners a (owned l)) (times a (words_of coroutine_size (coroutine_addresses t)))
      (times a (words_of coroutine_size (map address_of (front ++ back)))) (times a (words_of coroutine_size (map address_of (front ++ c ∷ back)))) (times a (range_with_len c.address 10))
      (owned-one_task l before t (with_coroutines (front ++ back) t) after is a (times a (words_of coroutine_size (coroutine_addresses t))) (times a (words_of coroutine_size (map address_of (front ++ back)))) (owners-with_coroutines a l.version t (front ++ back)))
      (ap (λ z. times a (words_of coroutine_size (map address_of z))) list) (words-between a front c back)
    where
      plain : (m w k n b r : ℕ) → m + k ≡ w + n → k ≡ b → b ≡ n + r → m + r ≡ w
      plain m w k n b r p q s = omega arith

  pub gone_coroutine-valid : t.coroutines.list ≡ front ++ c ∷ back → has c.address t.coroutines.active ≡ false → AreValid (with_tasks (before ++ with_coroutines (front ++ back) t ∷ after) l)
  gone_coroutine-valid list idle =
      task-same_queue l before t u after is v refl refl refl (IsTask-coroutines l t (front ++ back) task (λ resident. absurd (some front (sym (task.resident resident).coroutines ∙ list)))) coroutines
      (owns-fewer l (with_tasks (before ++ u ∷ after) l) refl count v.owns)
    where
      u : Task
      u = with_coroutines (front ++ back) t

      -- a resident has none
      some : (xs : List Coroutine) → ◌≡◌ {A = List Coroutine} [] (xs ++ c ∷ back) → ⊥
      some [] e = cc
      some (x ∷ xs) e = cc

      keeps : (d : ℕ) → has d (coroutine_addresses t) ≡ true → eqb d c.address ≡ false → has d (coroutine_addresses u) ≡ true
      keeps d there other =
          ap (has d) (map-append address_of front back)
          ∙ sym (any-between (λ q. eqb d q) (map address_of front) c.address (map address_of back) other)
          ∙ ap (has d) (sym addresses)
          ∙ ap (λ z. has d (map address_of z)) (sym list)
          ∙ there

      coroutines : AreValidCoroutines l u
      coroutines =
          record {
            each = all-beside (IsCoroutine l) front c back (subst (AllByRecursion (IsCoroutine l)) list valid-coroutines.each);
            members =
                all-from_both (λ d. has d (coroutine_addresses t) ≡ true) (λ d. eqb d c.address ≡ false) (λ d. has d (coroutine_addresses u) ≡ true) keeps t.coroutines.active valid-coroutines.members
                (all-members (λ d. eqb d c.address ≡ false) t.coroutines.active (λ d there. ne_eqb d c.address (λ e. false≢true (sym idle ∙ ap (λ z. has z t.coroutines.active) (sym e) ∙ there))));
            distinct = valid-coroutines.distinct;
          }

      count : (a : ℕ) → owners a (owned (with_tasks (before ++ u ∷ after) l)) ≤ owners a (owned l)
      count a = plain (owners a (owned (with_tasks (before ++ u ∷ after) l))) (owners a (owned l)) (times a (range_with_len c.address 10)) (gone-count list a)
        where
          plain : (m w r : ℕ) → m + r ≡ w → m ≤ w
          plain m w r e = omega arith

  pub gone_coroutine-unowned : t.coroutines.list ≡ front ++ c ∷ back → AreUnowned (with_tasks (before ++ with_coroutines (front ++ back) t ∷ after) l) c.address (c.address + 10)
  gone_coroutine-unowned list a low high =
      plain (owners a (owned (with_tasks (before ++ with_coroutines (front ++ back) t ∷ after) l))) (owners a (owned l)) (times a (range_with_len c.address 10)) (gone-count list a)
      (times-within a c.address 10 low high) (v.owns.apart a)
    where
      plain : (m w r : ℕ) → m + r ≡ w → r ≡ 1 → w ≤ 1 → m ≡ 0
      plain m w r e one once = omega arith

-- The lists that the words of a store say, one by one.
use Rattle.std.proofs.Common.{◌≡◌, ◌∙◌, ℕ, ◌||◌, Bool, cond, Option, Some, None, List, [], ◌∷◌, ◌++◌, is_some, map, refl, sym, ap}
use Rattle.std.specs.Iterator.{YieldsFirst}
use Rattle.std.specs.List.{flat_map, list_any}
use Rattle.std.proofs.lemmas.List.Folds.{list_any-append}
use Rattle.kernel_model.specs.KernelRecord.Lists.{Lists, queued}
use Rattle.kernel_model.specs.KernelRecord.Recovered.{lists_in, module_in, task_in}
use Rattle.kernel_model.specs.KernelRecord.Task.{Task}
use Rattle.kernel_lists.specs.PacketQueue.QueueWords.{QueuedPacket}
use Rattle.kernel_lists.specs.TaskBlock.Lists.{modules_in}
use Rattle.kernel_lists.specs.TaskBlock.TaskChain.{tasks_in}
use Rattle.state_text.specs.Deadlock.{two_pass}
use Rattle.state_text.specs.Runner.{has_member}

module _ (s : List ℕ) where
  pub listed-tasks : map (task_in s) (tasks_in s) ≡ (lists_in s).tasks
  unfolding lists_in
  listed-tasks = refl

  pub listed-modules : map (module_in s) (modules_in s) ≡ (lists_in s).modules
  unfolding lists_in
  listed-modules = refl

-- whether one of the things at these addresses passes a test
pub any-map : {X : Type 0} (test : X → Bool) (at : ℕ → X) (xs : List ℕ) → list_any test (map at xs) ≡ list_any (λ a. test (at a)) xs
any-map test at [] = refl
any-map test at (x ∷ xs) = ap (λ b. test (at x) || b) (any-map test at xs)

-- whether two of them do, or more
pub two-map : {X : Type 0} (test : X → Bool) (at : ℕ → X) (xs : List ℕ) → two_pass test (map at xs) ≡ two_pass (λ a. test (at a)) xs
two-map test at [] = refl
two-map test at (x ∷ xs) = λ i. cond (test (at x)) (any-map test at xs i) (two-map test at xs i)

-- whether a member of one of these lists passes it
any-flat_map : {X Y : Type 0} (test : Y → Bool) (at : X → List Y) (xs : List X) → list_any test (flat_map at xs) ≡ list_any (λ x. list_any test (at x)) xs
any-flat_map test at [] = refl
any-flat_map test at (x ∷ xs) = list_any-append test (at x) (flat_map at xs) ∙ ap (λ b. list_any test (at x) || b) (any-flat_map test at xs)

-- whether a queued packet passes it: on the queue of a task, at a device, or at the console
pub any-queued : (test : QueuedPacket → Bool) (l : Lists) → list_any test (queued l)
    ≡ (list_any (λ t. list_any test t.queue) l.tasks || (list_any test l.clock || (list_any test l.keyboard || (list_any test l.output || list_any test l.pending))))
any-queued test l =
    list_any-append test (flat_map (λ t. t.queue) l.tasks) (l.clock ++ (l.keyboard ++ (l.output ++ l.pending)))
    ∙ (λ i. any-flat_map test (λ (t : Task). t.queue) l.tasks i || at-devices i)
  where
    at-devices : list_any test (l.clock ++ (l.keyboard ++ (l.output ++ l.pending))) ≡ (list_any test l.clock || (list_any test l.keyboard || (list_any test l.output || list_any test l.pending)))
    at-devices =
        list_any-append test l.clock (l.keyboard ++ (l.output ++ l.pending))
        ∙ ap (λ b. list_any test l.clock || b)
        (list_any-append test l.keyboard (l.output ++ l.pending) ∙ ap (λ b. list_any test l.keyboard || b) (list_any-append test l.output l.pending))

-- whether there is a first one of the things at these addresses
pub first-member : {X : Type 0} (at : ℕ → X) (xs rest : List ℕ) (first : Option ℕ) → YieldsFirst (λ left. left) xs first rest → is_some first ≡ has_member (map at xs)
first-member at xs rest None none = sym (ap (λ left. has_member (map at left)) none.0)
first-member at xs rest (Some a) some = sym (ap (λ left. has_member (map at left)) some)

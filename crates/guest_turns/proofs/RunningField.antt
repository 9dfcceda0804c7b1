-- No task but the running one has the field of one that runs: how each kind of change keeps this.
use Rattle.std.proofs.Common.{◌≡◌, ℕ, List, [], ◌∷◌, Bool, true, false, Option, Some, None, map, cond, eqb, nat_lt}
use Rattle.std.specs.Prelude.{IfSome, find}
use Rattle.std.specs.List.{AllByRecursion}
use Rattle.kernel_lists.specs.LinkedList.Places.{insert_after, without_first}
use Rattle.kernel_lists.specs.PacketQueue.QueueWords.{QueuedPacket}
use Rattle.kernel_model.specs.KernelRecord.Changes.{change_of, with_queue, with_task}
use Rattle.kernel_model.specs.KernelRecord.Lists.{Lists}
use Rattle.kernel_model.specs.KernelRecord.MovedTask.{with_priority}
use Rattle.kernel_model.specs.KernelRecord.Running.{RunsAs}
use Rattle.kernel_model.specs.KernelRecord.Task.{Task}
use Rattle.kernel_model.specs.KernelRecord.ValidQueues.{Place}
use Rattle.kernel_model.specs.KernelRecord.ValidQueues.Place.{Clock, Keyboard, Output, Pending, Work}
use Rattle.kernel_model.specs.KernelRecord.ValidTasks.{runs}
use Rattle.kernel_model.proofs.KernelRecord.AllThings.{all-inserted}
use Rattle.kernel_calls.specs.TaskCalls.ChangePri.{moved}
use Rattle.guest_turns.specs.GuestTurn.{Numbers, numbers_of}

-- ---- the chain

-- one task changes
pub runs-changed : (id n : ℕ) (f : Task → Task) → ((t : Task) → RunsAs id t → RunsAs id (f t)) → (ts : List Task) → AllByRecursion (RunsAs id) ts → AllByRecursion (RunsAs id) (map (change_of n f) ts)
runs-changed id n f each [] all = tt
runs-changed id n f each (t ∷ ts) all = (on (eqb t.id n), runs-changed id n f each ts all.1)
  where
    on : (b : Bool) → RunsAs id (cond b (f t) t)
    on true = each t all.0
    on false = all.0

-- one comes in, at its place by priority
pub runs-inserted : (id : ℕ) (t : Task) (ts : List Task) → RunsAs id t → AllByRecursion (RunsAs id) ts → AllByRecursion (RunsAs id) (insert_after (λ u. nat_lt t.priority u.priority) t ts)
runs-inserted id t ts one all = all-inserted (RunsAs id) (λ u. nat_lt t.priority u.priority) t ts one all

-- one goes out
pub runs-without : (id : ℕ) (f : Task → Bool) (ts : List Task) → AllByRecursion (RunsAs id) ts → AllByRecursion (RunsAs id) (without_first f ts)
runs-without id f [] all = tt
runs-without id f (t ∷ ts) all = on (f t) (runs-without id f ts all.1)
  where
    on : (b : Bool) → AllByRecursion (RunsAs id) (without_first f ts) → AllByRecursion (RunsAs id) (cond b ts (t ∷ without_first f ts))
    on true more = all.1
    on false more = (all.0, more)

-- one is found
pub runs-found : (id : ℕ) (f : Task → Bool) (ts : List Task) → AllByRecursion (RunsAs id) ts → IfSome (find f ts) (RunsAs id)
runs-found id f [] all = tt
runs-found id f (t ∷ ts) all = on (f t) (runs-found id f ts all.1)
  where
    on : (b : Bool) → IfSome (find f ts) (RunsAs id) → IfSome (cond b (Some t) (find f ts)) (RunsAs id)
    on true more = all.0
    on false more = more

-- ---- the lists

-- the lists have these numbers, and no task but the running one has its field
pub record RunsIn (nums : Numbers) (l : Lists) : Type 0 where
  pub numbers : numbers_of l ≡ nums
  pub alone : AllByRecursion (RunsAs nums.running) l.tasks

pub one-runs : (nums : Numbers) (l : Lists) (n : ℕ) (f : Task → Task) → ((t : Task) → RunsAs nums.running t → RunsAs nums.running (f t)) → RunsIn nums l → RunsIn nums (with_task n f l)
one-runs nums l n f each h = record { numbers = h.numbers; alone = runs-changed nums.running n f each l.tasks h.alone }

pub queue-runs : (nums : Numbers) (l : Lists) (at : Place) (ps : List QueuedPacket) → RunsIn nums l → RunsIn nums (with_queue at ps l)
queue-runs nums l (Work n) ps h = record { numbers = h.numbers; alone = runs-changed nums.running n (λ t. record t { queue = ps }) (λ t one. one) l.tasks h.alone }
queue-runs nums l Clock ps h = record { numbers = h.numbers; alone = h.alone }
queue-runs nums l Keyboard ps h = record { numbers = h.numbers; alone = h.alone }
queue-runs nums l Output ps h = record { numbers = h.numbers; alone = h.alone }
queue-runs nums l Pending ps h = record { numbers = h.numbers; alone = h.alone }

-- the task that was found moves
pub moved-runs : (nums : Numbers) (l : Lists) (pri : ℕ) (o : Option Task) (others : List Task) → IfSome o (RunsAs nums.running) → AllByRecursion (RunsAs nums.running) others → RunsIn nums l → RunsIn nums (moved pri o others l)
moved-runs nums l pri None others one rest h = h
moved-runs nums l pri (Some t) others one rest h = record { numbers = h.numbers; alone = runs-inserted nums.running (with_priority pri t) others one rest }

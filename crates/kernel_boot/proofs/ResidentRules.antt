-- A kernel with residents keeps the rules of tasks, blocks and queues.
use Rattle.std.proofs.Common.{◌≡◌, ℕ, ◌%◌, ◌≤◌, Bool, true, false, Some, List, [], ◌∷◌, inl, inr, refl, sym, subst, arith}
use Rattle.std.specs.Prelude.{IsTrue}
use Rattle.std.specs.List.{AllByRecursion}
use Rattle.word_store.specs.Count.{IsApart}
use Rattle.kernel_lists.specs.LinkedList.Places.{has}
use Rattle.word_store.proofs.Counts.{IsApart-cons}
use Rattle.kernel_lists.specs.PacketQueue.QueueWords.{QueuedPacket}
use Rattle.kernel_model.specs.KernelRecord.Ranges.{IsVersion, is_period, is_store_size}
use Rattle.kernel_model.specs.KernelRecord.BlockUse.{coroutine_addresses}
use Rattle.kernel_model.specs.KernelRecord.Lists.{Lists}
use Rattle.kernel_model.specs.KernelRecord.Task.{Task, is_guest_id}
use Rattle.kernel_model.specs.KernelRecord.ValidBlocks.{AreValidNumbers, BlocksTile}
use Rattle.kernel_model.specs.KernelRecord.ValidQueues.{AreValidQueues, IsValidPacket, Keyboard, Work}
use Rattle.kernel_model.specs.KernelRecord.ValidTasks.{AreValidCoroutines, AreValidTasks, IsCoroutine, IsTask, resident_place}
use Rattle.kernel_lists.specs.GetvecChain.Block.{used_block}
use Rattle.kernel_boot.specs.ResidentKernel.{console, fault_reporter, files, packet_from, resident_lists, shell, waiting_resident}

-- a resident that waits at its place
waiting-task : (l : Lists) (id t priority : ℕ) (queue : List QueuedPacket) → is_guest_id id ≡ false → resident_place id ≡ Some (t, priority) → 1 ≤ priority → priority ≤ 10000
    → IsTask l (waiting_resident id t priority queue)
waiting-task l id t priority queue resident place low high = record {
  low = low;
  high = high;
  maker = omega arith;
  field = inr (inl refl);
  byte = omega arith;
  guest = λ e. cc;
  resident =
      λ e. record {
        place = place;
        modules = refl;
        stack = refl;
        fault = refl;
        fault_address = refl;
        saved = refl;
        coroutines = refl;
        active = refl;
        alive = λ is. absurd (omega (arith, is));
        free = refl;
      };
}

console-task : (l : Lists) → IsTask l console
console-task l = waiting-task l 3 224 6000 [] refl refl (omega arith) (omega arith)

files-task : (l : Lists) → IsTask l files
files-task l = waiting-task l 4 247 5000 [] refl refl (omega arith) (omega arith)

reporter-task : (l : Lists) → IsTask l fault_reporter
reporter-task l = waiting-task l 2 287 3000 [] refl refl (omega arith) (omega arith)

shell-task : (l : Lists) → IsTask l shell
shell-task l = waiting-task l 1 201 1000 (packet_from 1 279 ∷ []) refl refl (omega arith) (omega arith)

no-coroutines : (l : Lists) (t : Task) → t.coroutines.list ≡ [] → t.coroutines.active ≡ [] → AreValidCoroutines l t
no-coroutines l t none idle = record {
  each = subst (AllByRecursion (IsCoroutine l)) (sym none) tt;
  members = subst (AllByRecursion (λ c. has c (coroutine_addresses t) ≡ true)) (sym idle) tt;
  distinct = subst IsApart (sym idle) (λ a. omega arith);
}

module _ (n v p : ℕ) (large : 1024 ≤ n) (even : n % 2 ≡ 0) where
  abbrev lists : Bool → Lists
  lists r = resident_lists v p n r

  pub residents-tile : (r : Bool) → BlocksTile (lists r)
  residents-tile true = (refl, omega arith, refl, (refl, omega (arith, large), omega (arith, even, large), omega (arith, large)))
  residents-tile false = (refl, omega arith, refl, (refl, omega (arith, large), omega (arith, even, large), omega (arith, large)))

  pub residents-numbers : (r : Bool) → IsVersion v → IsTrue (is_store_size v n) → IsTrue (is_period p) → AreValidNumbers (lists r)
  residents-numbers true version size period = record { version = version; size = size; period = period; residents = λ e. record { start = 200; here = refl; block = refl } }
  residents-numbers false version size period = record { version = version; size = size; period = period; residents = λ e. record { start = 200; here = refl; block = refl } }

  last : IsApart (1 ∷ [])
  last = IsApart-cons 1 [] refl (λ a. omega arith)

  pub residents-tasks : (r : Bool) → AreValidTasks (lists r)
  residents-tasks true = record {
    each = (console-task (lists true), (files-task (lists true), (reporter-task (lists true), (shell-task (lists true), tt))));
    distinct = IsApart-cons 3 (4 ∷ 2 ∷ 1 ∷ []) refl (IsApart-cons 4 (2 ∷ 1 ∷ []) refl (IsApart-cons 2 (1 ∷ []) refl last));
    order = ((omega arith, (omega arith, (omega arith, tt))), ((omega arith, (omega arith, tt)), ((omega arith, tt), (tt, tt))));
    shell = refl;
    console = refl;
    files = refl;
    reporter = λ e. refl;
  }
  residents-tasks false = record {
    each = (console-task (lists false), (files-task (lists false), (shell-task (lists false), tt)));
    distinct = IsApart-cons 3 (4 ∷ 1 ∷ []) refl (IsApart-cons 4 (1 ∷ []) refl last);
    order = ((omega arith, (omega arith, tt)), ((omega arith, tt), (tt, tt)));
    shell = refl;
    console = refl;
    files = refl;
    reporter = λ e. refl;
  }

  pub residents-coroutines : (r : Bool) → AllByRecursion (AreValidCoroutines (lists r)) (lists r).tasks
  residents-coroutines true = (no-coroutines (lists true) console refl refl, (no-coroutines (lists true) files refl refl, (no-coroutines (lists true) fault_reporter refl refl, (no-coroutines (lists true) shell refl refl, tt))))
  residents-coroutines false = (no-coroutines (lists false) console refl refl, (no-coroutines (lists false) files refl refl, (no-coroutines (lists false) shell refl refl, tt)))

  key-valid : (r : Bool) → IsValidPacket (lists r) Keyboard (packet_from 3 271)
  key-valid true = record {
    lodged = record { block = used_block 200 116; holds = refl; used = refl; whole = omega arith };
    key = λ e. record { place = refl; kind = refl; last = refl };
    fault = λ e. cc;
    sender = λ e. cc;
  }
  key-valid false = record {
    lodged = record { block = used_block 200 88; holds = refl; used = refl; whole = omega arith };
    key = λ e. record { place = refl; kind = refl; last = refl };
    fault = λ e. cc;
    sender = λ e. cc;
  }

  shells-valid : (r : Bool) → IsValidPacket (lists r) (Work 1) (packet_from 1 279)
  shells-valid true = record {
    lodged = record { block = used_block 200 116; holds = refl; used = refl; whole = omega arith };
    key = λ e. cc;
    fault = λ e. cc;
    sender = λ e resident. refl;
  }
  shells-valid false = record {
    lodged = record { block = used_block 200 88; holds = refl; used = refl; whole = omega arith };
    key = λ e. cc;
    fault = λ e. cc;
    sender = λ e resident. refl;
  }

  pub residents-queues : (r : Bool) → AreValidQueues (lists r)
  residents-queues true = record {
    tasks = (tt, (tt, (tt, ((shells-valid true, tt), tt))));
    clock = tt;
    keyboard = (key-valid true, tt);
    output = tt;
    pending = tt;
    due = tt;
    no_console = λ e. refl;
    key = refl;
    fault = refl;
    running = inl refl;
  }
  residents-queues false = record {
    tasks = (tt, (tt, ((shells-valid false, tt), tt)));
    clock = tt;
    keyboard = (key-valid false, tt);
    output = tt;
    pending = tt;
    due = tt;
    no_console = λ e. refl;
    key = refl;
    fault = refl;
    running = inl refl;
  }

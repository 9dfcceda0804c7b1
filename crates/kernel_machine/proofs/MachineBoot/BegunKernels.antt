-- The kernel from the first one up to its dispatch.
use Rattle.std.proofs.Common.{◌≡◌, ℕ, ◌≤◌, ◌⊎◌, List, [], ◌∷◌, Bool, true, false, cond, None, Result, Ok, Err, inl, inr, refl, sym, ap, subst, arith}
use Rattle.std.specs.List.{AllByRecursion}
use Rattle.word_store.specs.declared.registers.Regs.{Regs}
use Rattle.kernel_lists.specs.PacketQueue.QueueWords.{QueuedPacket}
use Rattle.ram_disc.specs.Disc.{Disc, empty_disc}
use Rattle.session_text.specs.Canonical.{IsLawfulForm}
use Rattle.session_text.specs.declared.sessions.Session.{Session}
use Rattle.session_text.specs.declared.sessions.SessionLine.{SessionLine}
use Rattle.kernel_model.specs.KernelRecord.Image.{image}
use Rattle.kernel_model.specs.KernelRecord.Kernel.{Kernel, no_command, no_line}
use Rattle.kernel_model.specs.KernelRecord.Pipes.{no_pipes}
use Rattle.kernel_model.specs.KernelRecord.Task.{is_guest_id}
use Rattle.kernel_model.specs.KernelRecord.ValidTasks.{no_regs, runs}
use Rattle.kernel_model.proofs.KernelRecord.EachMember.{all-each}
use Rattle.kernel_model.specs.KernelDispatch.Dispatch.{CanDispatch}
use Rattle.guest_turns.specs.GuestTurn.{Numbers}
use Rattle.kernel_boot.specs.BootFiles.{load_files}
use Rattle.kernel_boot.specs.BootTasks.{AreBootLines, start_tasks}
use Rattle.kernel_model.specs.KernelRecord.StoreWithLists.{StoreWithLists, store_with_lists}
use Rattle.kernel_boot.specs.declared.refusals.BootRefusal.{BootRefusal}
use Rattle.kernel_boot.specs.EmptyKernel.{empty_lists}
use Rattle.kernel_boot.specs.ResidentKernel.{packet_from, resident_lists, resident_tasks, waiting_resident}
use Rattle.kernel_boot.proofs.LawfulLines.{boot-lines}
use Rattle.module_text.specs.TextReader.Steps.{◌>>=◌}
use Rattle.kernel_machine.specs.KernelSteps.ResidentSteps.{with_disc}
use Rattle.kernel_machine.specs.MachineBoot.Boot.{HasKernel, boot, first_kernel, first_lists, started, with_files, with_lines, with_store_of, with_tasks}
use Rattle.kernel_machine.specs.MachineBoot.Booted.{CanLoad, CanStart, IsFresh}
use Rattle.kernel_machine.proofs.MachineBoot.LoadedDiscs.{IsShutDisc, files-shut, no-stream}
use Rattle.kernel_machine.proofs.MachineBoot.ReadyTasks.{IsReady, tasks-ready}

-- nobody runs, and no tick has passed
abbrev pub first_numbers : Session → Numbers
first_numbers s = record { running = 0; period = s.period; tick = 0; version = s.version; residents = s.resident; size = s.store }

-- nothing was done but what the lines say
pub record HasBegun (s : Session) (k : Kernel) : Type 0 where
  pub ready : IsReady (first_numbers s) s.store k.lists
  pub regs : k.regs ≡ no_regs
  pub steps : k.steps ≡ 0
  pub console : k.console ≡ no_line
  pub shell : k.shell ≡ no_command
  pub disc : IsShutDisc k.disc
  pub ahead : k.type_ahead ≡ []
  pub keys : k.keys ≡ s.keys
  pub pipes : k.pipes ≡ no_pipes
  pub stop : k.stop ≡ None

empty-shut : IsShutDisc empty_disc
empty-shut = record {
  valid =
      record {
        in_order = tt;
        lawful = tt;
        few = omega arith;
        room = omega arith;
        numbers = refl;
        streams = λ k s e. (let none = no-stream empty_disc k refl in cc);
      };
  shut = refl;
}

-- the residents have done nothing
residents-fresh : (reporter : Bool) → AllByRecursion (IsFresh reporter) (resident_tasks reporter)
residents-fresh reporter = on reporter
  where
    waiting : (free : Bool) (id address priority : ℕ) (ps : List QueuedPacket) → 1 ≤ id → (ps ≡ []) ⊎ (is_guest_id id ≡ false) → (id ≡ 2 → (ps ≡ []) × (free ≡ true)) → IsFresh free (waiting_resident id address priority ps)
    waiting free id address priority ps some takes reports = record { number = some; idle = λ e. cc; takes = takes; fault = refl; reporter = reports }

    -- one that is not the reporter
    other : (free : Bool) (id address priority : ℕ) (ps : List QueuedPacket) → 1 ≤ id → (ps ≡ []) ⊎ (is_guest_id id ≡ false) → (id ≡ 2 → ⊥) → IsFresh free (waiting_resident id address priority ps)
    other free id address priority ps some takes never = waiting free id address priority ps some takes (λ e. absurd (never e))

    on : (b : Bool) → AllByRecursion (IsFresh b) (resident_tasks b)
    on true = (
      other true 3 224 6000 [] (omega arith) (inl refl) (λ e. cc),
      (
        other true 4 247 5000 [] (omega arith) (inl refl) (λ e. cc),
        (waiting true 2 287 3000 [] (omega arith) (inl refl) (λ e. (refl, refl)), (other true 1 201 1000 (packet_from 1 279 ∷ []) (omega arith) (inr refl) (λ e. cc), tt)),
      ),
    )
    on false = (
      other false 3 224 6000 [] (omega arith) (inl refl) (λ e. cc),
      (other false 4 247 5000 [] (omega arith) (inl refl) (λ e. cc), (other false 1 201 1000 (packet_from 1 279 ∷ []) (omega arith) (inr refl) (λ e. cc), tt)),
    )

lists-ready : (s : Session) → IsReady (first_numbers s) s.store (first_lists s)
lists-ready s = on s.resident
  where
    on : (b : Bool) → IsReady (record (first_numbers s) { residents = b }) s.store (cond b (resident_lists s.version s.period s.store s.debug) (empty_lists s.version s.period s.store))
    on true = record { numbers = refl; size = refl; fresh = record { tasks = residents-fresh s.debug; key = refl } }
    on false = record { numbers = refl; size = refl; fresh = record { tasks = tt; key = refl } }

module _ (s : Session) where
  pub first-begun : HasBegun s (first_kernel s)
  unfolding first_kernel
  first-begun = record {
    ready = lists-ready s;
    regs = refl;
    steps = refl;
    console = refl;
    shell = refl;
    disc = empty-shut;
    ahead = refl;
    keys = refl;
    pipes = refl;
    stop = refl;
  }

  module _ (h : HasKernel s) where
    lawful-lines : AllByRecursion (λ line. IsLawfulForm false s.version line.form) s.lines
    lawful-lines = subst (λ b. AllByRecursion (λ line. IsLawfulForm b s.version line.form) s.lines) h.full h.lawful.lines

    abbrev ready-lines : AreBootLines s.version s.lines
    ready-lines = boot-lines s h.lawful

    -- ---- the files

    pub files-begun : (k j : Kernel) → HasBegun s k → with_files s.lines k ≡ Ok j → HasBegun s j
    unfolding with_files
    files-begun k j b is = on (load_files k.disc s.lines) refl is
      where
        on : (r : Result Disc BootRefusal) → load_files k.disc s.lines ≡ r → (r >>= (λ d. Ok (with_disc d k))) ≡ Ok j → HasBegun s j
        on (Ok d) e f =
            let same : with_disc d k ≡ j = cc in
            subst (HasBegun s) same
            (record {
              ready = b.ready;
              regs = b.regs;
              steps = b.steps;
              console = b.console;
              shell = b.shell;
              disc = files-shut s.version s.lines k.disc d lawful-lines b.disc e;
              ahead = b.ahead;
              keys = b.keys;
              pipes = b.pipes;
              stop = b.stop;
            })
        on (Err refusal) e f = cc

    -- ---- the tasks

    pub tasks-begun : (k j : Kernel) → HasBegun s k → with_tasks s.lines k ≡ Ok j → HasBegun s j
    unfolding with_tasks
    tasks-begun k j b is = on (start_tasks k.disc s.lines (store_with_lists (image k) k.lists)) refl is
      where
        on : (r : Result StoreWithLists BootRefusal) → start_tasks k.disc s.lines (store_with_lists (image k) k.lists) ≡ r → (r >>= (λ x. Ok (with_store_of x k))) ≡ Ok j → HasBegun s j
        on (Ok x) e f =
            let same : with_store_of x k ≡ j = cc in
            subst (HasBegun s) same
            (record {
              ready = tasks-ready (first_numbers s) s.store s.version k.disc s.lines (store_with_lists (image k) k.lists) x ready-lines e b.ready;
              regs = b.regs;
              steps = b.steps;
              console = b.console;
              shell = b.shell;
              disc = b.disc;
              ahead = b.ahead;
              keys = b.keys;
              pipes = b.pipes;
              stop = b.stop;
            })
        on (Err refusal) e f = cc

    -- ---- the lines

    pub lines-begun : (k j : Kernel) → HasBegun s k → with_lines s.lines k ≡ Ok j → HasBegun s j
    unfolding with_lines
    lines-begun k j b is = on (with_files s.lines k) refl is
      where
        on : (r : Result Kernel BootRefusal) → with_files s.lines k ≡ r → (r >>= with_tasks s.lines) ≡ Ok j → HasBegun s j
        on (Ok i) e f = tasks-begun i j (files-begun k i b e) f
        on (Err refusal) e f = cc

    -- ---- what they ask

    pub begun-dispatches : (k : Kernel) → HasBegun s k → CanDispatch k.lists k.regs
    begun-dispatches k b = record {
      field = all-each (IsFresh k.lists.fault_packet_free) (λ t. t.field ≡ runs → t.id ≡ k.lists.running) (λ t fresh e. absurd (fresh.idle e)) k.lists.tasks b.ready.fresh.tasks;
      registers = record { byte = omega (arith, ap (λ (r : Regs). r.c) b.regs); idle = λ nobody. b.regs };
    }

    -- the first kernel may be loaded
    pub first-loads : (lines : List SessionLine) → lines ≡ s.lines → CanLoad lines (first_kernel s)
    unfolding first_kernel
    first-loads lines is =
        let begun : HasBegun s (first_kernel s) = first-begun in
        let version : (first_kernel s).lists.version ≡ s.version = ap (λ n. n.version) begun.ready.numbers in
        record {
          tasks = record { may_start = subst (λ v. AreBootLines v lines) (sym version) (subst (AreBootLines s.version) (sym is) ready-lines); fresh = begun.ready.fresh };
          streams = refl;
        }

-- files leave the lists
pub files-start : (lines : List SessionLine) (k j : Kernel) → CanStart lines k → with_files lines k ≡ Ok j → CanStart lines j
unfolding with_files
files-start lines k j can is = on (load_files k.disc lines) is
  where
    on : (r : Result Disc BootRefusal) → (r >>= (λ d. Ok (with_disc d k))) ≡ Ok j → CanStart lines j
    on (Ok d) f = (let same : with_disc d k ≡ j = cc in subst (CanStart lines) same (record { may_start = can.may_start; fresh = record { tasks = can.fresh.tasks; key = can.fresh.key } }))
    on (Err refusal) f = cc

-- ---- the boot

pub boot-ok : (s : Session) (k : Kernel) → with_lines s.lines (first_kernel s) ≡ Ok k → boot s ≡ Ok (started k)
unfolding boot
boot-ok s k is = ap (λ x. x >>= (λ j. Ok (started j))) is

pub boot-refused : (s : Session) (refusal : BootRefusal) → with_lines s.lines (first_kernel s) ≡ Err refusal → boot s ≡ Err refusal
unfolding boot
boot-refused s refusal is = ap (λ x. x >>= (λ j. Ok (started j))) is

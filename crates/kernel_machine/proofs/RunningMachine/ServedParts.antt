-- What the devices and dispatch leave of a machine.
use Rattle.std.proofs.Common.{◌≡◌, ℕ, ◌%◌, ◌++◌, List, [], ◌∷◌, length, Bool, true, false, cond, eqb, leb, append-nil, refl, sym, ap, ◌∙◌, subst}
use Rattle.std.proofs.lemmas.Bool.{eq-eqb, ne_eqb}
use Rattle.word_store.specs.declared.registers.Regs.{Regs}
use Rattle.kernel_lists.specs.OwnedWords.Owned.{Pairs, written}
use Rattle.kernel_model.specs.KernelRecord.ChangedStore.{IsChanged, Knows}
use Rattle.kernel_model.specs.KernelRecord.Image.{settled}
use Rattle.kernel_model.specs.KernelRecord.Kernel.{Kernel}
use Rattle.kernel_model.specs.KernelRecord.Lists.{Lists}
use Rattle.kernel_model.specs.KernelRecord.NotedEvents.{NotesAll}
use Rattle.kernel_model.proofs.KernelRecord.ChangedLists.{knows-same}
use Rattle.kernel_model.proofs.KernelRecord.ImageWords.{image-list}
use Rattle.kernel_model.specs.WordKinds.ByteMap.{MarksAll}
use Rattle.kernel_model.specs.KernelDispatch.Dispatch.{CanDispatch, dispatched}
use Rattle.kernel_model.specs.KernelDispatch.Turn.{IsDispatched}
use Rattle.kernel_calls.specs.PacketCalls.Returned.{DeviceChange, IsServed}
use Rattle.kernel_devices.specs.Tick.{ticked}
use Rattle.kernel_devices.specs.Keys.{left_typed, met}
use Rattle.kernel_devices.specs.Printed.{finished, printed}
use Rattle.kernel_devices.specs.Typed.{with_typed}
use Rattle.kernel_calls.specs.CallAnswers.Outside.{Outside}
use Rattle.guest_turns.specs.GuestTurn.{numbers_of}
use Rattle.kernel_machine.specs.declared.running_machine.parts.Parts.{Parts}
use Rattle.kernel_machine.specs.RunningMachine.RepresentedKernels.{RepresentsKernel}
use Rattle.kernel_machine.specs.KernelSteps.Parts.{numbers_after_tick}
use Rattle.kernel_machine.specs.KernelSteps.Step.{dispatch, key, output, served, switched, tick, typed_by, with_key_typed}
use Rattle.kernel_machine.specs.KernelSteps.Stepped.{quietly, with_store}
use Rattle.kernel_machine.proofs.KernelSteps.DevicesKept.{key-numbers, output-numbers, tick-numbers}
use Rattle.kernel_machine.proofs.KernelSteps.DispatchKept.{dispatch-numbers}
use Rattle.kernel_machine.specs.RunningMachine.Private.Leaves.{CanServe, Leaves}
use Rattle.kernel_machine.proofs.RunningMachine.LeftParts.{leaves-none, represents-changed}

-- the parts stand for the kernel with these lists, whose plain words were written over those of the image
pub represents-settled : (p : Parts) (k : Kernel) → RepresentsKernel p k → (t : List ℕ) (marks : List Bool) (regs : Regs) (l : Lists) (plain : Pairs) (r : Regs) → IsChanged p.store t l plain → Knows (MarksAll marks) l → length marks ≡ length p.kinds
    → regs ≡ r → l.period ≡ k.lists.period → RepresentsKernel (record p { store = t; regs = regs; kinds = marks }) (record (settled plain k l) { regs = r })
unfolding settled
represents-settled p k st t marks regs l plain r c knows room e same =
    subst (λ z. RepresentsKernel (record p { store = t; regs = regs; kinds = marks }) (record (with_store (written plain z) l k) { regs = r })) (image-list p.store k st.image)
    (represents-changed p k st p.store t marks regs l plain r k.stop refl c knows room e same)

-- ---- a device

module _ (p : Parts) (k : Kernel) (st : RepresentsKernel p k) where
  pub represents-served : (t : List ℕ) (m : DeviceChange) → IsServed p.store t k.lists m → m.lists.period ≡ k.lists.period → RepresentsKernel (record p { store = t }) (served k m).kernel
  unfolding settled
  represents-served t m is same =
      let found = represents-settled p k st t p.kinds p.regs m.lists [] k.regs is.lists (knows-same (MarksAll p.kinds) k.lists m.lists is.same st.keeper.knows) refl st.regs same in
      record {
        keeper = found.keeper;
        marks = found.marks;
        image = record { size = found.image.size; holds = found.image.holds; plain = found.image.plain };
        plain = record { size = found.plain.size; plain = found.plain.plain; owned = found.plain.owned };
        regs = found.regs;
        type_ahead = found.type_ahead;
        disc = found.disc;
        keys = found.keys;
        steps = found.steps;
        period = found.period;
        console = found.console;
        shell = found.shell;
        pipes = found.pipes;
      }

  -- other bytes are typed ahead
  pub represents-typed : (typed ahead : List ℕ) → typed ≡ ahead → RepresentsKernel (record p { tty = typed }) (record k { type_ahead = ahead })
  represents-typed typed ahead e = record {
    keeper = st.keeper;
    marks = st.marks;
    image = record { size = st.image.size; holds = st.image.holds; plain = st.image.plain };
    plain = record { size = st.plain.size; plain = st.plain.plain; owned = st.plain.owned };
    regs = st.regs;
    type_ahead = e;
    disc = st.disc;
    keys = st.keys;
    steps = st.steps;
    period = st.period;
    console = st.console;
    shell = st.shell;
    pipes = st.pipes;
  }

  -- ---- the clock

  tick-due : eqb (k.steps % k.lists.period) 0 ≡ true → tick k ≡ served k (ticked k.lists)
  unfolding tick
  tick-due due = λ i. cond (due i) (served k (ticked k.lists)) (quietly k)

  tick-not : eqb (k.steps % k.lists.period) 0 ≡ false → tick k ≡ quietly k
  unfolding tick
  tick-not none = λ i. cond (none i) (served k (ticked k.lists)) (quietly k)

  served-lists : (m : DeviceChange) → (served k m).kernel.lists ≡ m.lists
  unfolding settled
  served-lists m = refl

  ticked-same : CanServe k → eqb (k.steps % k.lists.period) 0 ≡ true → (ticked k.lists).lists.period ≡ k.lists.period
  ticked-same can due =
      let nums : numbers_of (ticked k.lists).lists ≡ numbers_after_tick k =
      ap numbers_of (sym (served-lists (ticked k.lists))) ∙ ap (λ x. numbers_of x.kernel.lists) (sym (tick-due due)) ∙ tick-numbers k can.dispatch in
      ap (λ n. n.period) nums

  same-time : p.step % p.period ≡ k.steps % k.lists.period
  same-time = λ i. st.steps i % st.period i

  pub leaves-tick : (t : List ℕ) (o n : Outside) → CanServe k → p.step % p.period ≡ 0 → IsServed p.store t k.lists (ticked k.lists) → n.shown ≡ o.shown → NotesAll o.noted n.noted o.failed n.failed (ticked k.lists).events
      → Leaves (record p { store = t }) o n (tick k)
  leaves-tick t o n can due is shown notes =
      let now : eqb (k.steps % k.lists.period) 0 ≡ true = eq-eqb (k.steps % k.lists.period) 0 (sym same-time ∙ due) in
      subst (Leaves (record p { store = t }) o n) (sym (tick-due now)) (record { represents = represents-served t (ticked k.lists) is (ticked-same can now); bytes = shown ∙ sym (append-nil o.shown); notes = notes })

  pub leaves-no_tick : (o : Outside) → (p.step % p.period ≡ 0 → ⊥) → Leaves p o o (tick k)
  leaves-no_tick o none = subst (Leaves p o o) (sym (tick-not (ne_eqb (k.steps % k.lists.period) 0 (λ z. none (same-time ∙ z))))) (leaves-none p o k st)

  -- ---- the output

  output-served : (output k).kernel ≡ (served k (finished k.lists)).kernel
  unfolding output
  output-served = refl

  finished-same : CanDispatch k.lists k.regs → (finished k.lists).lists.period ≡ k.lists.period
  finished-same can =
      let nums : numbers_of (finished k.lists).lists ≡ numbers_of k.lists = ap numbers_of (sym (served-lists (finished k.lists))) ∙ ap (λ x. numbers_of x.lists) (sym output-served) ∙ output-numbers k can in
      ap (λ n. n.period) nums

  pub leaves-output : (t : List ℕ) (o n : Outside) → CanDispatch k.lists k.regs → IsServed p.store t k.lists (finished k.lists) → n.shown ≡ o.shown ++ printed p.store k.lists.output
      → NotesAll o.noted n.noted o.failed n.failed (finished k.lists).events → Leaves (record p { store = t }) o n (output k)
  unfolding output
  leaves-output t o n can is shown notes = record {
    represents = represents-served t (finished k.lists) is (finished-same can);
    bytes = shown ∙ ap (λ z. o.shown ++ printed z k.lists.output) (image-list p.store k st.image);
    notes = notes;
  }

-- ---- the keyboard

module _ (p : Parts) (k : Kernel) where
  key-met : (key k).kernel.lists ≡ (met (with_key_typed k).type_ahead (with_key_typed k).lists).lists
  unfolding key settled
  key-met = refl

  met-same : CanDispatch k.lists k.regs → numbers_of (with_key_typed k).lists ≡ numbers_of k.lists → (met (with_key_typed k).type_ahead (with_key_typed k).lists).lists.period ≡ (with_key_typed k).lists.period
  met-same can typed =
      let nums : numbers_of (met (with_key_typed k).type_ahead (with_key_typed k).lists).lists ≡ numbers_of (with_key_typed k).lists = ap numbers_of (sym key-met) ∙ key-numbers k can ∙ sym typed in
      ap (λ n. n.period) nums

  pub leaves-key : (t typed : List ℕ) (o n : Outside) → RepresentsKernel p (with_key_typed k) → CanDispatch k.lists k.regs → numbers_of (with_key_typed k).lists ≡ numbers_of k.lists → IsServed p.store t (with_key_typed k).lists (met p.tty (with_key_typed k).lists)
      → typed ≡ left_typed p.tty (with_key_typed k).lists.keyboard → n.shown ≡ o.shown → NotesAll o.noted n.noted o.failed n.failed (met p.tty (with_key_typed k).lists).events → Leaves (record p { store = t; tty = typed }) o n (key k)
  unfolding key
  leaves-key t typed o n st can same is left shown notes =
      let j : Kernel = with_key_typed k in
      let ahead : p.tty ≡ j.type_ahead = st.type_ahead in
      let here = represents-typed p j st typed (left_typed j.type_ahead j.lists.keyboard) (left ∙ ap (λ z. left_typed z j.lists.keyboard) ahead) in
      let m : DeviceChange = met j.type_ahead j.lists in
      record {
        represents = represents-served (record p { tty = typed }) (record j { type_ahead = left_typed j.type_ahead j.lists.keyboard }) here t m (subst (λ z. IsServed p.store t j.lists (met z j.lists)) ahead is) (met-same can same);
        bytes = shown ∙ sym (append-nil o.shown);
        notes = subst (λ z. NotesAll o.noted n.noted o.failed n.failed (met z j.lists).events) ahead notes;
      }

-- a key that is typed leaves the lists
typed-lists : (keys : List (ℕ × ℕ)) (k : Kernel) → (typed_by keys k).lists ≡ k.lists
typed-lists [] k = refl
typed-lists (key ∷ keys) k = on (leb key.0 k.steps)
  where
    on : (b : Bool) → (cond b (record k { keys = keys; type_ahead = with_typed key.1 k.type_ahead }) k).lists ≡ k.lists
    on true = refl
    on false = refl

pub typed-numbers : (k : Kernel) → numbers_of (with_key_typed k).lists ≡ numbers_of k.lists
typed-numbers k = ap numbers_of (typed-lists k.keys k)

-- ---- dispatch

module _ (p : Parts) (k : Kernel) (st : RepresentsKernel p k) where
  switched-same : (dispatched p.store k.lists k.regs).lists.period ≡ k.lists.period
  switched-same = let nums = dispatch-numbers p.store k.lists k.regs in ap (λ n. n.period) nums

  pub leaves-dispatch : (t : List ℕ) (marks : List Bool) (regs : Regs) (o n : Outside) → IsDispatched p.store t k.lists p.regs regs (MarksAll marks) o.noted n.noted o.failed n.failed → length marks ≡ length p.kinds → n.shown ≡ o.shown
      → Leaves (record p { store = t; regs = regs; kinds = marks }) o n (dispatch k)
  unfolding dispatch
  leaves-dispatch t marks regs o n is room shown =
      let now : IsDispatched p.store t k.lists k.regs regs (MarksAll marks) o.noted n.noted o.failed n.failed = subst (λ r. IsDispatched p.store t k.lists r regs (MarksAll marks) o.noted n.noted o.failed n.failed) st.regs is in
      subst (λ z. Leaves (record p { store = t; regs = regs; kinds = marks }) o n (switched k (dispatched z k.lists k.regs))) (image-list p.store k st.image)
      (record {
        represents =
            represents-settled p k st t marks regs (dispatched p.store k.lists k.regs).lists (dispatched p.store k.lists k.regs).plain (dispatched p.store k.lists k.regs).regs now.lists now.knows room now.regs switched-same;
        bytes = shown ∙ sym (append-nil o.shown);
        notes = now.notes;
      })

-- The parts of a machine before the lines of its session.
use Rattle.std.proofs.Common.{◌≡◌, ℕ, List, [], length, map, get_or, replicate, cond, Bool, true, false, Option, Some, None, Result, Ok, Err, inl, inr, refl, sym, ap, ◌∙◌, subst, arith}
use Rattle.std.specs.Prelude.{IfOk, MatchResult, is_ok, is_some}
use Rattle.std.specs.List.{range_with_len}
use Rattle.std.proofs.lemmas.Bool.{cases_lt}
use Rattle.kernel_lists.specs.OwnedWords.Owned.{owners, word_in}
use Rattle.kernel_lists.proofs.OwnedWords.OwnedWords.{word_in-holds}
use Rattle.byte_streams.specs.declared.WantMemory.{WantMemory}
use Rattle.session_text.specs.declared.boot_ends.BootEnd.{BootEnd}
use Rattle.ram_disc.specs.Disc.{empty_disc}
use Rattle.session_text.specs.declared.sessions.Session.{Session}
use Rattle.kernel_model.specs.KernelRecord.ChangedStore.{IsChanged}
use Rattle.kernel_model.specs.KernelRecord.HoldsLists.{HoldsLists}
use Rattle.kernel_model.specs.KernelRecord.Image.{plain_words}
use Rattle.kernel_model.specs.KernelRecord.Lists.{Lists}
use Rattle.kernel_model.specs.KernelRecord.Owned.{owned}
use Rattle.kernel_model.specs.KernelRecord.Pipes.{no_pipes}
use Rattle.kernel_model.specs.KernelRecord.Kernel.{no_command, no_line}
use Rattle.kernel_model.specs.KernelRecord.ValidTasks.{no_regs}
use Rattle.kernel_model.specs.WordKinds.ByteMap.{MarksAll}
use Rattle.kernel_model.specs.WordKinds.Keeper.{IsStoreOf}
use Rattle.kernel_model.proofs.WordKinds.KnownWords.{store-known}
use Rattle.kernel_boot.specs.EmptyKernel.{empty_lists}
use Rattle.kernel_boot.specs.ResidentKernel.{resident_lists}
use Rattle.kernel_machine.proofs.KernelSteps.StoredWords.{HasStore, stored}
use Rattle.kernel_machine.specs.declared.running_machine.parts.Parts.{Parts}
use Rattle.kernel_machine.specs.RunningMachine.Script.{still_to_come}
use Rattle.kernel_machine.specs.RunningMachine.RepresentedKernels.{RepresentsKernel}
use Rattle.kernel_machine.specs.MachineBoot.Boot.{first_kernel, first_lists}

-- ---- plain words

-- those of two stores are the same, where the words are that nobody owns
pub plain-same : (s t : List ℕ) (l : Lists) → HoldsLists t l → ((a : ℕ) → owners a (owned l) ≡ 0 → get_or t a 0 ≡ get_or s a 0) → plain_words t l ≡ plain_words s l
unfolding plain_words
plain-same s t l h same = λ i. map (λ a. each a i) (range_with_len 0 l.size)
  where
    word : List ℕ → ℕ → Bool → Option ℕ
    word words a b = cond b None (Some (get_or words a 0))

    each : (a : ℕ) → word t a (is_some (word_in a (owned l))) ≡ word s a (is_some (word_in a (owned l)))
    each a =
        elim (cases_lt 0 (owners a (owned l))) [
          | inl some ↦
              let here : is_some (word_in a (owned l)) ≡ true = ap is_some (word_in-holds t a (owned l) h.holds some) in
              ap (word t a) here ∙ sym (ap (word s a) here)
          | inr few ↦ ap (λ w. cond (is_some (word_in a (owned l))) None (Some w)) (same a (omega (arith, few)))
        ]

-- ---- the parts

-- what was made is what its maker says, whatever became of the error
pub made-ok : {X : Type 0} (P : X → Type 0) (Q : WantMemory → Type 0) (r : Result X WantMemory) (y : X) → MatchResult r (λ x. ◌≡◌ {A = Result X BootEnd} (Ok y) (Ok x)) Q → true ≡ is_ok r → IfOk r P → P y
made-ok P Q (Ok x) y is ok h = (let same : x ≡ y = cc in subst P same h)
made-ok P Q (Err e) y is ok h = cc

-- lists were made in a store of zeros
pub made-changed : (n : ℕ) (l : Lists) (s t u : List ℕ) → s ≡ replicate n 0 → u ≡ t → IsChanged s t l [] → IsChanged (replicate n 0) u l []
made-changed n l s t u zeros is ch = subst (λ w. IsChanged (replicate n 0) w l []) (sym is) (subst (λ z. IsChanged z t l []) zeros ch)

-- they were made for the session
pub record AreMade (s : Session) (p : Parts) : Type 0 where
  pub store : IsChanged (replicate s.store 0) p.store (first_lists s) []
  pub marks : (known : List ℕ) (l : Lists) → IsStoreOf p.store known l → MarksAll p.kinds known
  pub kinds : length p.kinds ≡ length p.store
  pub regs : p.regs ≡ no_regs
  pub type_ahead : p.tty ≡ []
  pub disc : p.disc ≡ empty_disc
  pub console : p.console ≡ no_line
  pub shell : p.shell ≡ no_command
  pub pipes : p.pipes ≡ no_pipes
  pub keys : still_to_come p.keys ≡ s.keys
  pub step : p.step ≡ 0
  pub period : p.period ≡ s.period

-- the lists, with residents or without
abbrev lists_with : Bool → Session → Lists
lists_with b s = cond b (resident_lists s.version s.period s.store s.debug) (empty_lists s.version s.period s.store)

first-period : (s : Session) → (first_lists s).period ≡ s.period
first-period s = on s.resident
  where
    on : (b : Bool) → (lists_with b s).period ≡ s.period
    on true = refl
    on false = refl

module _ (s : Session) (p : Parts) (m : AreMade s p) where
  abbrev lists : Lists
  lists = first_lists s

  first-store : HasStore p.store (first_kernel s)
  unfolding first_kernel
  first-store =
      let words : plain_words p.store lists ≡ plain_words (replicate s.store 0) lists = plain-same (replicate s.store 0) p.store lists m.store.lists m.store.written.others in
      subst (λ ws. HasStore p.store (record (first_kernel s) { plain = ws })) words (stored p.store lists (first_kernel s) m.store.lists)

  pub made-represents : RepresentsKernel p (first_kernel s)
  unfolding first_kernel
  made-represents = record {
    keeper =
        record {
          lists = m.store.lists;
          knows = λ known same. m.marks known lists (store-known p.store known lists m.store.lists same);
          enough = omega (arith, m.kinds);
        };
    marks = m.kinds;
    image = first-store.image;
    plain = first-store.plain;
    regs = m.regs;
    type_ahead = m.type_ahead;
    disc = m.disc;
    console = m.console;
    shell = m.shell;
    pipes = m.pipes;
    keys = m.keys;
    steps = m.step;
    period = m.period ∙ sym (first-period s);
  }

-- Steps of a kernel of which nobody runs and no device can send a packet back.
use Rattle.std.proofs.Common.{◌≡◌, ℕ, zero, suc, ◌+◌, ◌/◌, ◌==◌, ◌&&◌, ◌||◌, ◌⊎◌, Bool, true, false, not, Option, Some, None, List, [], ◌∷◌, cond, set, inl, inr, refl, sym, ap, ◌∙◌, subst}
use Rattle.std.specs.Prelude.{is_some, nat_le}
use Rattle.std.proofs.lemmas.Bool.{and_parts, eqb-true, false≢true}
use Rattle.kernel_calls.specs.PacketCalls.Returned.{first_returned, unserved}
use Rattle.kernel_calls.specs.declared.packet_calls.returns.Device.TheVariants.{Keyboard}
use Rattle.kernel_devices.specs.Keys.{left_typed, met}
use Rattle.kernel_devices.specs.Typed.{with_typed}
use Rattle.kernel_lists.specs.PacketQueue.QueueWords.{QueuedPacket}
use Rattle.kernel_machine.specs.KernelSteps.Parts.{RunsFirst}
use Rattle.kernel_machine.specs.KernelSteps.Quiet.{AreDueAfter, ComeAfter}
use Rattle.kernel_machine.specs.KernelSteps.Step.{after_the_turn, dispatch, key, meet, output, run, served, step, tick, typed_by, unless_stopped, with_step}
use Rattle.kernel_machine.specs.KernelSteps.Stepped.{Stepped, and_then, quietly}
use Rattle.kernel_machine.proofs.KernelSteps.NextTick.{some-period, tick-periods}
use Rattle.kernel_machine.proofs.KernelSteps.QuietDevices.{key-stays, output-stays, tick-stays, ticked-store, ticks_to, unserved-stays}
use Rattle.kernel_machine.proofs.KernelSteps.QuietDispatch.{dispatch-stays}
use Rattle.kernel_machine.proofs.KernelSteps.QuietSpans.{valid-ready}
use Rattle.kernel_machine.proofs.KernelSteps.QuietSteps.{IsReady, other-steps, step-goes}
use Rattle.kernel_machine.proofs.KernelSteps.Runs.{run-stopped}
use Rattle.kernel_machine.proofs.KernelSteps.StoredWords.{HasStore}
use Rattle.kernel_machine.proofs.KernelSteps.TurnWays.{turn-nobody}
use Rattle.kernel_model.specs.KernelRecord.Between.{is_empty_queue}
use Rattle.kernel_model.specs.KernelRecord.Image.{image}
use Rattle.kernel_model.specs.KernelRecord.Kernel.{Kernel}
use Rattle.kernel_model.specs.KernelRecord.Lists.{Lists}
use Rattle.kernel_model.specs.KernelRecord.ValidKernel.{IsValid}
use Rattle.kernel_model.specs.declared.kernel_record.stops.Stop.{Stop}
use Rattle.state_text.specs.Deadlock.{LeavesStill, deadlock_text, is_still, stuck_text}
use Rattle.state_text.specs.Runner.{can_answer, has_keys, has_member}
use Rattle.tripos_machine.specs.State.State.{Full}

-- ---- the keyboard, where nothing waits for a key, or no key is left

abbrev pub with_keys : List (ℕ × ℕ) → List ℕ → Kernel → Kernel
with_keys keys bytes k = record k { keys = keys; type_ahead = bytes }

-- no packet is at the keyboard, or no key is to come and no byte is typed ahead
abbrev pub MeetsNone : Lists → List (ℕ × ℕ) → List ℕ → Type 0
MeetsNone l keys bytes = (l.keyboard ≡ []) ⊎ ((keys ≡ []) × (bytes ≡ []))

-- the keys are no part of the store
other-keys : (s : List ℕ) (k : Kernel) (keys : List (ℕ × ℕ)) (bytes : List ℕ) → HasStore s k → HasStore s (with_keys keys bytes k)
other-keys s k keys bytes h = record {
  valid = h.valid;
  image = record { size = h.image.size; holds = h.image.holds; plain = h.image.plain };
  plain = record { size = h.plain.size; plain = h.plain.plain; owned = h.plain.owned };
}

-- a key that comes is typed, and nothing else happens
typed-keys : (keys : List (ℕ × ℕ)) (k : Kernel) → typed_by keys k ≡ with_keys (typed_by keys k).keys (typed_by keys k).type_ahead k
typed-keys [] k = refl
typed-keys (key ∷ rest) k = on (nat_le key.0 k.steps)
  where
    on : (b : Bool) → (let j : Kernel = cond b (record k { keys = rest; type_ahead = with_typed key.1 k.type_ahead }) k in j ≡ with_keys j.keys j.type_ahead k)
    on true = refl
    on false = refl

met-none : (bytes : List ℕ) (l : Lists) → l.keyboard ≡ [] → met bytes l ≡ unserved l
met-none [] l none = refl
met-none (byte ∷ rest) l none = ap (λ ps. first_returned Keyboard byte ps l) none

meet-stays : (s : List ℕ) (k : Kernel) → HasStore s k → k.lists.keyboard ≡ [] → meet k ≡ quietly k
meet-stays s k h none =
    (λ i. served (record k { type_ahead = ap (left_typed k.type_ahead) none i }) (met-none k.type_ahead k.lists none i)) ∙ unserved-stays s k h

-- the keys and bytes that are left
record LeavesKeys (k : Kernel) : Type 0 where
  keys : List (ℕ × ℕ)
  bytes : List ℕ
  key : key k ≡ quietly (with_keys keys bytes k)
  none : MeetsNone k.lists keys bytes

leaves-keys : (s : List ℕ) (k : Kernel) → HasStore s k → MeetsNone k.lists k.keys k.type_ahead → LeavesKeys k
unfolding key
leaves-keys s k h (inl none) =
    let j : Kernel = typed_by k.keys k in
    record {
      keys = j.keys;
      bytes = j.type_ahead;
      key = ap meet (typed-keys k.keys k) ∙ meet-stays s (with_keys j.keys j.type_ahead k) (other-keys s k j.keys j.type_ahead h) none;
      none = inl none;
    }
leaves-keys s k h (inr none) = record {
  keys = k.keys;
  bytes = k.type_ahead;
  key = key-stays s k h (inr none.1) (subst (ComeAfter k.steps) (sym none.0) tt);
  none = inr none;
}

-- ---- a step, which leaves such a kernel again

-- what holds between steps
record IsStill (s : List ℕ) (k : Kernel) : Type 0 where
  ready : IsReady s k
  nobody : k.lists.running ≡ 0
  clock : k.lists.clock ≡ []
  output : k.lists.output ≡ []
  keyboard : MeetsNone k.lists k.keys k.type_ahead

module _ (s : List ℕ) (k : Kernel) (h : IsStill s k) where
  abbrev now : ℕ
  now = (k.steps + 1) / k.lists.period

  abbrev counted : Kernel
  counted = with_step k

  abbrev ticked : Kernel
  ticked = ticks_to now counted

  abbrev words : List ℕ
  words = set s 108 now

  counted-store : HasStore s counted
  counted-store = other-steps s k (k.steps + 1) h.ready.store

  tick-step : tick counted ≡ quietly ticked
  tick-step =
      tick-stays s counted counted-store now (tick-periods counted k.steps (some-period k.lists h.ready.store.valid) refl h.ready.ticks)
      (inl (subst (AreDueAfter now) (sym h.clock) tt))

  typed : LeavesKeys ticked
  typed = leaves-keys words ticked (ticked-store s counted counted-store now) h.keyboard

  abbrev left : Kernel
  left = with_keys typed.keys typed.bytes ticked

  left-store : HasStore words left
  left-store = other-keys words ticked typed.keys typed.bytes (ticked-store s counted counted-store now)

  left-runs : RunsFirst left.lists left.regs
  left-runs =
      let first = h.ready.runs in
      record {
        runs = record { running = first.runs.running; alone = first.runs.alone; alive = first.runs.alive };
        registers = record { byte = first.registers.byte; idle = first.registers.idle };
      }

  rest-step : after_the_turn counted ≡ quietly left
  rest-step =
      ap (λ x. and_then (and_then (and_then x key) output) dispatch) tick-step
      ∙ ap (λ x. and_then (and_then x output) dispatch) typed.key
      ∙ ap (λ x. and_then x dispatch) (output-stays words left left-store h.output)
      ∙ dispatch-stays words left left-store left-runs

  still-step : step k ≡ quietly left
  still-step =
      step-goes k h.ready.goes ∙ ap (λ x. and_then x (unless_stopped after_the_turn)) (turn-nobody counted h.nobody)
      ∙ ap (λ s. cond (is_some s) (quietly counted) (after_the_turn counted)) h.ready.goes ∙ rest-step

  still-left : IsStill words left
  still-left = record {
    ready = record { store = left-store; runs = left-runs; ticks = refl; goes = h.ready.goes };
    nobody = h.nobody;
    clock = h.clock;
    output = h.output;
    keyboard = typed.none;
  }

-- ---- runs

-- what steps leave, and that the kernel after them is such a one again
record RunsStill (k : Kernel) (x : Stepped) : Type 0 where
  leaves : LeavesStill k x
  words : List ℕ
  still : IsStill words x.kernel

still-run : (n : ℕ) (s : List ℕ) (k : Kernel) → IsStill s k → RunsStill k (run n k)
unfolding run
still-run zero s k h = record { leaves = record { lists = refl; bytes = refl; events = refl }; words = s; still = h }
still-run (suc n) s k h =
    let more : RunsStill (left s k h) (run n (left s k h)) = still-run n (words s k h) (left s k h) (still-left s k h) in
    subst (RunsStill k) (ap (λ x. and_then x (run n)) (sym (still-step s k h)))
    (record { leaves = record { lists = more.leaves.lists; bytes = more.leaves.bytes; events = more.leaves.events }; words = more.words; still = more.still })

-- ---- the definition

none-from : (ps : List QueuedPacket) → is_empty_queue ps ≡ true → ps ≡ []
none-from [] e = refl
none-from (p ∷ ps) e = absurd (false≢true e)

no-member : {X : Type 0} (xs : List X) → has_member xs ≡ false → xs ≡ []
no-member [] e = refl
no-member (x ∷ xs) e = absurd (false≢true (sym e))

-- the parts of what no device can answer
record IsUnanswered (l : Lists) (keys : Bool) : Type 0 where
  clock : is_empty_queue l.clock ≡ true
  output : is_empty_queue l.output ≡ true
  keyboard : (is_empty_queue l.keyboard ≡ true) ⊎ (keys ≡ false)

unanswered : (l : Lists) (keys : Bool) → can_answer l keys ≡ false → IsUnanswered l keys
unanswered l keys none = on (is_empty_queue l.clock) (is_empty_queue l.output) (is_empty_queue l.keyboard) keys refl refl refl refl none
  where
    on : (a b c d : Bool) → is_empty_queue l.clock ≡ a → is_empty_queue l.output ≡ b → is_empty_queue l.keyboard ≡ c → keys ≡ d
        → (not a || not b || (not c && d)) ≡ false → IsUnanswered l keys
    on true true true d e f g h none = record { clock = e; output = f; keyboard = inl g }
    on true true false false e f g h none = record { clock = e; output = f; keyboard = inr h }
    on true true false true e f g h none = absurd (false≢true (sym none))
    on true false c d e f g h none = absurd (false≢true (sym none))
    on false b c d e f g h none = absurd (false≢true (sym none))

no-keys : (k : Kernel) → has_keys (Full k) ≡ false → (k.keys ≡ []) × (k.type_ahead ≡ [])
no-keys k none = on (has_member k.keys) (has_member k.type_ahead) refl refl none
  where
    on : (a b : Bool) → has_member k.keys ≡ a → has_member k.type_ahead ≡ b → (a || b) ≡ false → (k.keys ≡ []) × (k.type_ahead ≡ [])
    on false false e f none = (no-member k.keys e, no-member k.type_ahead f)
    on false true e f none = absurd (false≢true (sym none))
    on true b e f none = absurd (false≢true (sym none))

module _ (k : Kernel) (valid : IsValid k) (goes : k.stop ≡ None) (is : is_still k.lists (has_keys (Full k)) ≡ true) where
  still-parts : (k.lists.running ≡ 0) × (can_answer k.lists (has_keys (Full k)) ≡ false)
  still-parts =
      let both = and_parts (k.lists.running == 0) (not (can_answer k.lists (has_keys (Full k)))) is in
      (eqb-true k.lists.running 0 both.0, not-true (can_answer k.lists (has_keys (Full k))) both.1)
    where
      not-true : (b : Bool) → not b ≡ true → b ≡ false
      not-true false e = refl
      not-true true e = absurd (false≢true e)

  begins-still : IsStill (image k) k
  begins-still =
      let none = unanswered k.lists (has_keys (Full k)) still-parts.1 in
      record {
        ready = valid-ready k valid goes;
        nobody = still-parts.0;
        clock = none-from k.lists.clock none.clock;
        output = none-from k.lists.output none.output;
        keyboard = keyboard none.keyboard;
      }
    where
      keyboard : (is_empty_queue k.lists.keyboard ≡ true) ⊎ (has_keys (Full k) ≡ false) → MeetsNone k.lists k.keys k.type_ahead
      keyboard (inl none) = inl (none-from k.lists.keyboard none)
      keyboard (inr none) = inr (no-keys k none)

-- ---- what is said of such a kernel

still-said : (s : List ℕ) (k : Kernel) → IsStill s k → deadlock_text (Full k) ≡ stuck_text k.lists.tasks
still-said s k h = ap (λ b. cond b (stuck_text k.lists.tasks) []) (still h.keyboard)
  where
    still : MeetsNone k.lists k.keys k.type_ahead → is_still k.lists (has_keys (Full k)) ≡ true
    still (inl none) = rw (h.nobody, h.clock, h.output, none) refl
    still (inr none) = rw (h.nobody, h.clock, h.output, none.0, none.1) (on (is_empty_queue k.lists.keyboard))
      where
        on : (b : Bool) → not (not b && false) ≡ true
        on true = refl
        on false = refl

-- ---- the laws

module _ (n : ℕ) (k : Kernel) (valid : IsValid k) (is : is_still k.lists (has_keys (Full k)) ≡ true) where
  abbrev Kept : Stepped → Type 0
  Kept x = LeavesStill k x × (deadlock_text (Full x.kernel) ≡ deadlock_text (Full k))

  kept : (o : Option Stop) → k.stop ≡ o → Kept (run n k)
  kept (Some stop) e =
      subst Kept (sym (run-stopped n k (λ none. some≢none (sym e ∙ none)))) (record { lists = refl; bytes = refl; events = refl }, refl)
    where
      some≢none : Some stop ≡ None → ⊥
      some≢none f = false≢true (sym (ap is_some f))
  kept None e =
      let h = begins-still k valid e is in
      let more = still-run n (image k) k h in
      (more.leaves, still-said more.words (run n k).kernel more.still ∙ ap (λ l. stuck_text l.tasks) more.leaves.lists ∙ sym (still-said (image k) k h))

  pub run-still : Kept (run n k)
  run-still = kept k.stop refl

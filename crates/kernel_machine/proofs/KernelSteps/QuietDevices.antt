-- Devices that have nothing to do.
use Rattle.std.proofs.Common.{◌≡◌, ℕ, ◌+◌, ◌%◌, ◌⊎◌, Bool, true, false, List, [], ◌∷◌, cond, eqb, set, inl, inr, refl, sym, ap, ◌∙◌, subst, arith}
use Rattle.std.proofs.lemmas.Bool.{lt-leb}
use Rattle.kernel_lists.specs.PacketQueue.QueueWords.{QueuedPacket}
use Rattle.kernel_model.specs.KernelRecord.Image.{image}
use Rattle.kernel_model.specs.KernelRecord.Kernel.{Kernel}
use Rattle.kernel_model.specs.KernelRecord.Lists.{Lists}
use Rattle.kernel_model.specs.KernelRecord.ValidQueues.{NeverFall}
use Rattle.kernel_calls.specs.PacketCalls.Returned.{first_returned, unserved}
use Rattle.kernel_calls.specs.declared.packet_calls.returns.Device.TheVariants.{Keyboard, Output}
use Rattle.kernel_devices.specs.Tick.{events_of_return, is_first_due, ticked, with_returned, with_tick}
use Rattle.kernel_devices.proofs.ReturnedPackets.{all-later}
use Rattle.kernel_devices.proofs.TickLists.{tick-changed, tick-owned}
use Rattle.kernel_devices.specs.Keys.{left_typed, met}
use Rattle.kernel_devices.specs.Printed.{printed}
use Rattle.kernel_devices.specs.Typed.{with_typed}
use Rattle.kernel_machine.specs.KernelSteps.Parts.{tick_after}
use Rattle.kernel_machine.specs.KernelSteps.Quiet.{AreDueAfter, AwaitsTick, ComeAfter}
use Rattle.kernel_machine.specs.KernelSteps.Step.{key, meet, output, served, tick, typed_by}
use Rattle.kernel_machine.specs.KernelSteps.Stepped.{Stepped, quietly, where_due}
use Rattle.kernel_machine.proofs.KernelSteps.StoredWords.{HasStore, changed-store, settled-same, store-holds}

-- a device that serves nobody
pub unserved-stays : (s : List ℕ) (k : Kernel) → HasStore s k → served k (unserved k.lists) ≡ quietly k
unserved-stays s k h = ap quietly (settled-same s k k.lists h refl (λ a. refl))

-- ---- the clock

none-due : (now : ℕ) (ps : List QueuedPacket) → AreDueAfter now ps → is_first_due now ps ≡ false
none-due now [] after = refl
none-due now (p ∷ ps) after = lt-leb p.last now after

ticked-stays : (l : Lists) → NeverFall l.clock → AreDueAfter (l.tick + 1) l.clock → ticked l ≡ unserved (with_tick (l.tick + 1) l)
ticked-stays l falls after =
    let now : ℕ = l.tick + 1 in
    let left = all-later now l.clock falls (none-due now l.clock after) in
    λ i. record { lists = with_returned (left.0 i) (record l { tick = now; clock = left.1 i }); events = events_of_return (left.0 i) }

abbrev pub ticks_to : ℕ → Kernel → Kernel
ticks_to now k = record k { lists = with_tick now k.lists }

module _ (s : List ℕ) (k : Kernel) (h : HasStore s k) (now : ℕ) where
  pub ticked-store : HasStore (set s 108 now) (ticks_to now k)
  ticked-store = changed-store s (set s 108 now) k (with_tick now k.lists) h refl (λ a. tick-owned k.lists now a) (tick-changed s (set s 108 now) k.lists now (store-holds s k h) refl)

  ticked-settled : served k (unserved (with_tick now k.lists)) ≡ quietly (ticks_to now k)
  ticked-settled = ap quietly (settled-same s k (with_tick now k.lists) h refl (λ a. tick-owned k.lists now a))

pub tick-stays : (s : List ℕ) (k : Kernel) → HasStore s k → (now : ℕ) → tick_after k ≡ now → AwaitsTick now k.lists → tick k ≡ quietly (ticks_to now k)
unfolding tick
tick-stays s k h now is after = on (eqb (k.steps % k.lists.period) 0) is
  where
    due-later : (later : AwaitsTick now k.lists) → k.lists.tick + 1 ≡ now → AreDueAfter (k.lists.tick + 1) k.lists.clock
    due-later (inl later) e = subst (λ n. AreDueAfter n k.lists.clock) (sym e) later
    due-later (inr same) e = absurd (omega (arith, same, e))

    on : (b : Bool) → cond b (k.lists.tick + 1) k.lists.tick ≡ now → where_due b (λ j. served j (ticked j.lists)) k ≡ quietly (ticks_to now k)
    on true e =
        ap (served k) (ticked-stays k.lists h.valid.queues.due (due-later after e)) ∙ ticked-settled s k h (k.lists.tick + 1) ∙ ap (λ n. quietly (ticks_to n k)) e
    on false e = ap (λ n. quietly (ticks_to n k)) e

-- ---- the keyboard

typed-stays : (keys : List (ℕ × ℕ)) (k : Kernel) → ComeAfter k.steps keys → typed_by keys k ≡ k
typed-stays [] k after = refl
typed-stays (key ∷ rest) k after = ap (λ b. cond b (record k { keys = rest; type_ahead = with_typed key.1 k.type_ahead }) k) (lt-leb key.0 k.steps after)

unmet : (bytes : List ℕ) (l : Lists) → (l.keyboard ≡ []) ⊎ (bytes ≡ []) → (met bytes l ≡ unserved l) × (left_typed bytes l.keyboard ≡ bytes)
unmet bytes l (inl none) = (without bytes, ap (left_typed bytes) none)
  where
    without : (bytes : List ℕ) → met bytes l ≡ unserved l
    without [] = refl
    without (byte ∷ rest) = ap (λ ps. first_returned Keyboard byte ps l) none
unmet bytes l (inr none) = (ap (λ b. met b l) none, ap (λ b. left_typed b l.keyboard) none ∙ left l.keyboard ∙ sym none)
  where
    left : (ps : List QueuedPacket) → left_typed [] ps ≡ []
    left [] = refl
    left (p ∷ ps) = refl

pub key-stays : (s : List ℕ) (k : Kernel) → HasStore s k → (k.lists.keyboard ≡ []) ⊎ (k.type_ahead ≡ []) → ComeAfter k.steps k.keys → key k ≡ quietly k
unfolding key
key-stays s k h none after =
    let u = unmet k.type_ahead k.lists none in
    ap meet (typed-stays k.keys k after) ∙ (λ i. served (record k { type_ahead = u.1 i }) (u.0 i)) ∙ unserved-stays s k h

-- ---- the output

pub output-stays : (s : List ℕ) (k : Kernel) → HasStore s k → k.lists.output ≡ [] → output k ≡ quietly k
unfolding output
output-stays s k h none =
    (λ i. record (served k (first_returned Output 0 (none i) k.lists)) { bytes = printed (image k) (none i) })
    ∙ ap (λ (x : Stepped). record x { bytes = [] }) (unserved-stays s k h)

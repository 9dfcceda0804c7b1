-- A step moves packets as its events say, where its turn does.
use Rattle.std.proofs.Common.{◌≡◌, ℕ, ◌+◌, ◌%◌, Bool, true, false, cond, eqb, is_some, List, [], ◌∷◌, ◌++◌, refl, sym, subst}
use Rattle.kernel_lists.specs.PacketQueue.QueueWords.{QueuedPacket}
use Rattle.kernel_lists.specs.declared.packet_queue.events.KernelEvent.{KernelEvent}
use Rattle.kernel_model.specs.KernelRecord.Changes.{queue_of, with_queue}
use Rattle.kernel_model.specs.KernelRecord.Image.{image, settled}
use Rattle.kernel_model.specs.KernelRecord.Kernel.{Kernel}
use Rattle.kernel_model.specs.KernelRecord.Lists.{Lists}
use Rattle.kernel_model.specs.KernelRecord.ValidLists.{AreValid}
use Rattle.kernel_model.specs.KernelRecord.ValidQueues.Place.{Clock}
use Rattle.kernel_calls.specs.PacketCalls.Returned.{first_returned, place_of, returned_by, with_work_for}
use Rattle.kernel_calls.specs.declared.packet_calls.returns.Device.{Device}
use Rattle.kernel_calls.specs.declared.packet_calls.returns.Device.TheVariants as devices
use Rattle.kernel_calls.proofs.PacketCalls.ReturnedLists.{returned-valid}
use Rattle.kernel_devices.specs.Tick.{due_packets, later_packets, ticked, with_returned, with_tick}
use Rattle.kernel_devices.specs.Keys.{met}
use Rattle.kernel_machine.specs.KernelSteps.Step.{after_the_turn, devices, dispatch, key, output, served, step, tick, turn, unless_stopped, with_key_typed, with_step}
use Rattle.kernel_machine.specs.KernelSteps.Stepped.{Stepped, and_then, quietly, where_due}
use Rattle.kernel_machine.proofs.KernelSteps.DevicesKept.{typed-lists}
use Rattle.tripos_machine.specs.PacketHistory.Queues.{Moves}
use Rattle.tripos_machine.proofs.PacketHistory.Moves.{move-none, moves-then}
use Rattle.tripos_machine.proofs.PacketHistory.DeviceMoves.{due-first, finished-moves, met-moves, ticked-moves}
use Rattle.tripos_machine.proofs.PacketHistory.DispatchMoves.{dispatch-moves}
use Rattle.kernel_devices.proofs.TickLists.{tick-valid}

-- ---- lists stay valid

first-valid : (l : Lists) (d : Device) (res1 : ℕ) → AreValid l → AreValid (first_returned d res1 (queue_of (place_of d) l) l).lists
first-valid l d res1 v = on (queue_of (place_of d) l) refl
  where
    on : (ps : List QueuedPacket) → queue_of (place_of d) l ≡ ps → AreValid (first_returned d res1 ps l).lists
    on [] is = v
    on (p ∷ ps) is = returned-valid l p ps v d res1 is

met-valid : (bytes : List ℕ) (l : Lists) → AreValid l → AreValid (met bytes l).lists
met-valid [] l v = v
met-valid (byte ∷ bytes) l v = first-valid l devices.Keyboard byte v

each-valid : (qs rs : List QueuedPacket) (l : Lists) → AreValid l → l.clock ≡ qs ++ rs → AreValid (with_returned qs (with_queue Clock rs l))
each-valid [] rs l v is = subst (λ c. AreValid (record l { clock = c })) is v
each-valid (q ∷ qs) rs l v is = each-valid qs rs (with_work_for q.sender (returned_by devices.Clock 0 q) (with_queue Clock (qs ++ rs) l)) (returned-valid l q (qs ++ rs) v devices.Clock 0 is) refl

ticked-valid : (l : Lists) → AreValid l → AreValid (ticked l).lists
ticked-valid l v =
    let now : ℕ = l.tick + 1 in
    let m : Lists = with_tick now l in
    let w : AreValid m = tick-valid l now v in
    each-valid (due_packets now m.clock) (later_packets now m.clock) m w (sym (due-first now m.clock w.queues.due))

-- ---- the parts of a step

-- the events of a part lead from its lists to those that it leaves, which are valid
pub record IsMoved (due : KernelEvent → ℕ) (l : Lists) (x : Stepped) : Type 0 where
  pub moves : Moves due l x.events x.kernel.lists
  pub valid : AreValid x.kernel.lists

module _ (due : KernelEvent → ℕ) where
  pub moved-then : (l : Lists) (x : Stepped) (part : Kernel → Stepped) → IsMoved due l x → IsMoved due x.kernel.lists (part x.kernel) → IsMoved due l (and_then x part)
  moved-then l x part a b =
      record { moves = moves-then due l x.kernel.lists (part x.kernel).kernel.lists x.events (part x.kernel).events a.moves b.moves; valid = b.valid }

  moved-none : (k : Kernel) → AreValid k.lists → IsMoved due k.lists (quietly k)
  moved-none k v = record { moves = move-none due k.lists k.lists refl; valid = v }

  pub tick-moved : (k : Kernel) → AreValid k.lists → IsMoved due k.lists (tick k)
  unfolding tick settled
  tick-moved k v = on (eqb (k.steps % k.lists.period) 0)
    where
      on : (b : Bool) → IsMoved due k.lists (where_due b (λ j. served j (ticked j.lists)) k)
      on true = record { moves = ticked-moves due k.lists v; valid = ticked-valid k.lists v }
      on false = moved-none k v

  pub key-moved : (k : Kernel) → AreValid k.lists → IsMoved due k.lists (key k)
  unfolding key settled
  key-moved k v =
      let j : Kernel = with_key_typed k in
      let w : AreValid j.lists = subst AreValid (sym (typed-lists k)) v in
      record {
        moves = subst (λ l. Moves due l (met j.type_ahead j.lists).events (met j.type_ahead j.lists).lists) (typed-lists k) (met-moves due j.lists w j.type_ahead);
        valid = met-valid j.type_ahead j.lists w;
      }

  pub output-moved : (k : Kernel) → AreValid k.lists → IsMoved due k.lists (output k)
  unfolding output settled
  output-moved k v = record { moves = finished-moves due k.lists v; valid = first-valid k.lists devices.Output 0 v }

  pub dispatch-moved : (k : Kernel) → AreValid k.lists → Moves due k.lists (dispatch k).events (dispatch k).kernel.lists
  unfolding dispatch settled
  dispatch-moved k v = dispatch-moves due (image k) k.lists k.regs v

  -- ---- the step

  pub devices-moved : (k : Kernel) → AreValid k.lists → IsMoved due k.lists (devices k)
  devices-moved k v =
      let t : IsMoved due k.lists (tick k) = tick-moved k v in
      let b : IsMoved due k.lists (and_then (tick k) key) = moved-then k.lists (tick k) key t (key-moved (tick k).kernel t.valid) in
      moved-then k.lists (and_then (tick k) key) output b (output-moved (and_then (tick k) key).kernel b.valid)

  rest-moved : (k : Kernel) → AreValid k.lists → Moves due k.lists (after_the_turn k).events (after_the_turn k).kernel.lists
  rest-moved k v =
      let d : IsMoved due k.lists (devices k) = devices-moved k v in
      moves-then due k.lists (devices k).kernel.lists (dispatch (devices k).kernel).kernel.lists (devices k).events (dispatch (devices k).kernel).events d.moves
      (dispatch-moved (devices k).kernel d.valid)

  unless-moved : (k : Kernel) → AreValid k.lists → Moves due k.lists (unless_stopped after_the_turn k).events (unless_stopped after_the_turn k).kernel.lists
  unless-moved k v = on (is_some k.stop)
    where
      on : (b : Bool) → Moves due k.lists (cond b (quietly k) (after_the_turn k)).events (cond b (quietly k) (after_the_turn k)).kernel.lists
      on true = move-none due k.lists k.lists refl
      on false = rest-moved k v

  -- A step moves packets as its events say, where its turn leaves valid lists and moves them so.
  pub step-moved : (k : Kernel) → IsMoved due k.lists (turn (with_step k)) → Moves due k.lists (step k).events (step k).kernel.lists
  unfolding step
  step-moved k t = on (is_some k.stop)
    where
      x : Stepped
      x = turn (with_step k)

      rest : Stepped
      rest = unless_stopped after_the_turn x.kernel

      on : (b : Bool) → Moves due k.lists (cond b (quietly k) (and_then (turn (with_step k)) (unless_stopped after_the_turn))).events
          (cond b (quietly k) (and_then (turn (with_step k)) (unless_stopped after_the_turn))).kernel.lists
      on true = move-none due k.lists k.lists refl
      on false = moves-then due k.lists x.kernel.lists rest.kernel.lists x.events rest.events t.moves (unless-moved x.kernel t.valid)

use Rattle.std.proofs.Common.{◌≡◌, ◌∙◌, ℕ, List, [], ◌∷◌, Some, None, drop, refl, sym, subst, ap}
use Rattle.std.specs.Prelude.{slice_get}
use Rattle.kernel_model.specs.KernelRecord.NotedEvents.{NotesAll}
use Rattle.kernel_model.specs.KernelRecord.Lists.{Lists}
use Rattle.kernel_model.proofs.KernelRecord.NotedInTurn.{notes-none}
use Rattle.kernel_lists.specs.PacketQueue.QueueWords.{QueuedPacket}
use Rattle.kernel_calls.proofs.PacketCalls.HeldPlaces.{HasFirst}
use Rattle.kernel_devices.specs.Keys.{left_typed, met}
use Rattle.kernel_calls.specs.PacketCalls.Returned.{DeviceChange, IsServed, first_returned, unserved}
use Rattle.kernel_calls.specs.declared.packet_calls.returns.Device.TheVariants.{Keyboard}
use Rattle.kernel_calls.proofs.PacketCalls.DeviceQueues.{none-waits, one-waits, served-none}
use Rattle.kernel_devices.proofs.typed.Tty.meet.Goals as goal

-- with no packet, or no byte, nothing is done
none-met : (bytes : List ℕ) (l : Lists) → l.keyboard ≡ [] → met bytes l ≡ unserved l
none-met [] l e = refl
none-met (byte ∷ bytes) l e = ap (λ ps. first_returned Keyboard byte ps l) e

no-byte : (bytes : List ℕ) → slice_get bytes 0 ≡ None → bytes ≡ []
no-byte [] e = refl
no-byte (byte ∷ bytes) e = cc

none-left : (ps : List QueuedPacket) → left_typed [] ps ≡ []
none-left [] = refl
none-left (p ∷ ps) = refl

-- and else the first byte meets the first packet
one-met : (bytes : List ℕ) (byte : ℕ) (l : Lists) → slice_get bytes 0 ≡ Some byte → met bytes l ≡ first_returned Keyboard byte l.keyboard l
one-met [] byte l e = cc
one-met (b ∷ bytes) byte l e = (let same : b ≡ byte = cc in ap (λ z. first_returned Keyboard z l.keyboard l) same)

one-left : (bytes : List ℕ) (p : ℕ) (ps : List QueuedPacket) → HasFirst p ps → left_typed bytes ps ≡ drop 1 bytes
one-left bytes p ps f = ap (left_typed bytes) f.is

pub returns-then-root-eq0-clause-lists : goal.returns-then-root-eq0-clause-lists
returns-then-root-eq0-clause-lists g c = λ l h.
    subst (IsServed c.args.store.now c.args.store.now l) (sym (none-met c.args.self.now l (none-waits c.args.store.now l Keyboard h (sym c.root.ensures ∙ c.if-root-eq0.true))))
    (served-none c.args.store.now l Keyboard h)

pub returns-then-root-eq0-clause-left : goal.returns-then-root-eq0-clause-left
returns-then-root-eq0-clause-left g c = λ l h. sym (ap (left_typed c.args.self.now) (none-waits c.args.store.now l Keyboard h (sym c.root.ensures ∙ c.if-root-eq0.true)))

pub returns-then-root-eq0-clause-notes : goal.returns-then-root-eq0-clause-notes
returns-then-root-eq0-clause-notes g c = λ l h.
    subst (λ (m : DeviceChange). NotesAll (g.L.EventLog.noted c.args.log.now) (g.L.EventLog.noted c.args.log.now) (g.L.EventLog.has_failed c.args.log.now) (g.L.EventLog.has_failed c.args.log.now) m.events)
    (sym (none-met c.args.self.now l (none-waits c.args.store.now l Keyboard h (sym c.root.ensures ∙ c.if-root-eq0.true)))) (notes-none (g.L.EventLog.noted c.args.log.now) (g.L.EventLog.has_failed c.args.log.now))

pub returns-in_default-clause-lists : goal.returns-in_default-clause-lists
returns-in_default-clause-lists g c = λ l h.
    subst (λ bytes. IsServed c.args.store.now c.args.store.now l (met bytes l)) (sym (sym c.self.view_is ∙ no-byte c.self.inside.bytes.items (sym c.pop_front.ensures.value ∙ c.in_default.is)))
    (served-none c.args.store.now l Keyboard h)

pub returns-in_default-clause-left : goal.returns-in_default-clause-left
returns-in_default-clause-left g c = λ l h.
    let none : c.self.inside.bytes.items ≡ [] = no-byte c.self.inside.bytes.items (sym c.pop_front.ensures.value ∙ c.in_default.is) in
    ap (λ b. b.items) c.pop_front.ensures.items ∙ ap (drop 1) none ∙ sym (none-left l.keyboard) ∙ ap (λ bytes. left_typed bytes l.keyboard) (sym (sym c.self.view_is ∙ none))

pub returns-in_default-clause-notes : goal.returns-in_default-clause-notes
returns-in_default-clause-notes g c = λ l h.
    subst (λ bytes. NotesAll (g.L.EventLog.noted c.args.log.now) (g.L.EventLog.noted c.args.log.now) (g.L.EventLog.has_failed c.args.log.now) (g.L.EventLog.has_failed c.args.log.now) (met bytes l).events)
    (sym (sym c.self.view_is ∙ no-byte c.self.inside.bytes.items (sym c.pop_front.ensures.value ∙ c.in_default.is))) (notes-none (g.L.EventLog.noted c.args.log.now) (g.L.EventLog.has_failed c.args.log.now))

pub returns-clause-lists : goal.returns-clause-lists
returns-clause-lists g c = λ l h.
    subst (IsServed c.args.store.now c.return_first.new.store l)
    (sym (one-met c.args.self.now c.in-Some.byte l (ap (λ bytes. slice_get bytes 0) (sym c.self.view_is) ∙ sym c.pop_front.ensures.value ∙ c.in-Some.is)))
    (subst (λ b. IsServed c.args.store.now c.return_first.new.store l (first_returned Keyboard b l.keyboard l)) c.from.ensures (c.return_first.ensures.lists l h))

pub returns-clause-left : goal.returns-clause-left
returns-clause-left g c = λ l h.
    ap (λ b. b.items) c.pop_front.ensures.items ∙ ap (drop 1) c.self.view_is
    ∙ sym (one-left c.args.self.now c.root.result l.keyboard (one-waits c.args.store.now l Keyboard h c.root.result c.root.ensures c.if-root-eq0.false))

pub returns-clause-notes : goal.returns-clause-notes
returns-clause-notes g c = λ l h.
    subst (λ m. NotesAll (g.L.EventLog.noted c.args.log.now) (g.L.EventLog.noted c.return_first.new.log) (g.L.EventLog.has_failed c.args.log.now) (g.L.EventLog.has_failed c.return_first.new.log) m.events)
    (sym (one-met c.args.self.now c.in-Some.byte l (ap (λ bytes. slice_get bytes 0) (sym c.self.view_is) ∙ sym c.pop_front.ensures.value ∙ c.in-Some.is)))
    (subst (λ b. NotesAll (g.L.EventLog.noted c.args.log.now) (g.L.EventLog.noted c.return_first.new.log) (g.L.EventLog.has_failed c.args.log.now) (g.L.EventLog.has_failed c.return_first.new.log) (first_returned Keyboard b l.keyboard l).events)
    c.from.ensures (c.return_first.ensures.notes l h))

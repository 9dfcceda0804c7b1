use Rattle.std.proofs.Common.{◌∙◌, ◌+◌, ◌%◌, ◌++◌, [], ◌∷◌, get_or, sym, subst, ap, append-nil}
use Rattle.kernel_model.specs.KernelRecord.NotedEvents.{NotesAll}
use Rattle.kernel_model.proofs.KernelRecord.NotedInTurn.{notes-none}
use Rattle.kernel_calls.proofs.PacketCalls.HeldPlaces.{HasFirst}
use Rattle.kernel_devices.specs.Printed.{printed}
use Rattle.kernel_calls.specs.PacketCalls.Returned.{IsServed}
use Rattle.kernel_calls.specs.declared.packet_calls.returns.Device.TheVariants.{Output}
use Rattle.kernel_calls.proofs.PacketCalls.DeviceQueues.{none-waits, one-waits, returned-none, served-none}
use Rattle.kernel_devices.proofs.output.finish_output.Goals as goal

pub returns-then-p-eq0-clause-lists : goal.returns-then-p-eq0-clause-lists
returns-then-p-eq0-clause-lists g c = λ l h.
    subst (IsServed c.args.store.now c.args.store.now l) (sym (returned-none c.args.store.now l Output h 0 (sym c.root-p.ensures ∙ c.if-p-eq0.true))) (served-none c.args.store.now l Output h)

pub returns-then-p-eq0-clause-bytes : goal.returns-then-p-eq0-clause-bytes
returns-then-p-eq0-clause-bytes g c = λ l h.
    sym (append-nil c.args.bytes.now) ∙ ap (λ ps. c.args.bytes.now ++ printed c.args.store.now ps) (sym (none-waits c.args.store.now l Output h (sym c.root-p.ensures ∙ c.if-p-eq0.true)))

pub returns-then-p-eq0-clause-notes : goal.returns-then-p-eq0-clause-notes
returns-then-p-eq0-clause-notes g c = λ l h.
    subst (λ m. NotesAll (g.L.EventLog.noted c.args.log.now) (g.L.EventLog.noted c.args.log.now) (g.L.EventLog.has_failed c.args.log.now) (g.L.EventLog.has_failed c.args.log.now) m.events)
    (sym (returned-none c.args.store.now l Output h 0 (sym c.root-p.ensures ∙ c.if-p-eq0.true))) (notes-none (g.L.EventLog.noted c.args.log.now) (g.L.EventLog.has_failed c.args.log.now))

pub returns-clause-bytes : goal.returns-clause-bytes
returns-clause-bytes g c = λ l h.
    let f : HasFirst c.root-p.result l.output = one-waits c.args.store.now l Output h c.root-p.result c.root-p.ensures c.if-p-eq0.false in
    c.append.ensures
    ∙ (λ i. c.args.bytes.now ++ (c.word_at.ensures i % 256 ∷ []))
    ∙ ap (λ p. c.args.bytes.now ++ (get_or c.args.store.now (p + 5) 0 % 256 ∷ [])) (sym f.address)
    ∙ ap (λ ps. c.args.bytes.now ++ printed c.args.store.now ps) (sym f.is)

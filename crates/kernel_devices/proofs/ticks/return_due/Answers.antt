use Rattle.std.proofs.Common.{◌∙◌, refl, sym}
use Rattle.kernel_devices.proofs.ReturnedPackets.{IsDue, all-noted, all-returned, is-due, returned-more, returned-none, shorter}
use Rattle.kernel_devices.proofs.ticks.return_due.Goals as goal

pub loop-store-init : goal.loop-store-init
loop-store-init g c = λ m h. returned-none c.args.store.now c.args.now m (g.L.EventLog.noted c.args.log.now) (g.L.EventLog.has_failed c.args.log.now) h

pub return_first-requires : goal.return_first-requires
return_first-requires g c = (let so = c.loop-store.invariant c.requires.0 c.requires.1 in (so.lists, so.changed.lists))

pub loop-store-smaller : goal.loop-store-smaller
loop-store-smaller g c =
    let so = c.loop-store.invariant c.requires.0 c.requires.1 in
    let x : IsDue c.args.now so.lists = is-due c.args.now so.lists (sym (c.is_first_due.ensures so.lists so.changed.lists) ∙ c.loop-store-test.true) in
    shorter c.args.now so.lists x c.loop-store.store c.return_first.new.store so.changed.lists (c.return_first.ensures.lists so.lists so.changed.lists)

pub loop-store-preserved : goal.loop-store-preserved
loop-store-preserved g c = λ m h.
    let so = c.loop-store.invariant m h in
    let x : IsDue c.args.now so.lists = is-due c.args.now so.lists (sym (c.is_first_due.ensures so.lists so.changed.lists) ∙ c.loop-store-test.true) in
    returned-more c.args.now so.lists x c.args.store.now c.loop-store.store c.return_first.new.store m (g.L.EventLog.noted c.args.log.now) (g.L.EventLog.noted c.loop-store.log)
    (g.L.EventLog.noted c.return_first.new.log) (g.L.EventLog.has_failed c.args.log.now) (g.L.EventLog.has_failed c.loop-store.log) (g.L.EventLog.has_failed c.return_first.new.log) so refl
    (c.return_first.ensures.lists so.lists so.changed.lists) (c.return_first.ensures.notes so.lists so.changed.lists)

pub returns-clause-lists : goal.returns-clause-lists
returns-clause-lists g c = λ l h.
    let so = c.loop-store.invariant l h in
    all-returned c.args.store.now c.loop-store.store c.args.now l (g.L.EventLog.noted c.args.log.now) (g.L.EventLog.noted c.loop-store.log) (g.L.EventLog.has_failed c.args.log.now) (g.L.EventLog.has_failed c.loop-store.log) so
    (sym (c.is_first_due.ensures so.lists so.changed.lists) ∙ c.loop-store-test.false)

pub returns-clause-notes : goal.returns-clause-notes
returns-clause-notes g c = λ l h.
    let so = c.loop-store.invariant l h in
    all-noted c.args.store.now c.loop-store.store c.args.now l (g.L.EventLog.noted c.args.log.now) (g.L.EventLog.noted c.loop-store.log) (g.L.EventLog.has_failed c.args.log.now) (g.L.EventLog.has_failed c.loop-store.log) so
    (sym (c.is_first_due.ensures so.lists so.changed.lists) ∙ c.loop-store-test.false)

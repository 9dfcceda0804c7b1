use Rattle.std.proofs.Common.{◌≡◌, ℕ, ◌+◌, ◌<◌, length, get_or, set, take, cond, true, false, Some, Ok, Err, sym, ap, ◌∙◌, subst, arith}
use Rattle.std.specs.List.{list_any, position}
use Rattle.std.specs.Option.{is_none}
use Rattle.ram_disc.specs.Contents.{bytes_at, chain_at}
use Rattle.ram_disc.specs.Disc.{Disc}
use Rattle.ram_disc.specs.DiscCalls.{after_open_read}
use Rattle.ram_disc.specs.Slots.{AreKept, disc_in, writes_on}
use Rattle.ram_disc.specs.declared.places.Place.{Place}
use Rattle.ram_disc.proofs.Calls.{open_read-done, open_read-full, open_read-kept, open_read-missing, open_read-written, to-open}
use Rattle.ram_disc.proofs.discs.Disc.open_read.Goals as goal

pub returns-in_default-clause-answer : goal.returns-in_default-clause-answer
returns-in_default-clause-answer c =
    let s = c.self.inside in
    let ns = s.directory.names.items in
    let us = s.directory.used.items in
    let fs = s.directory.unused.items in
    let ps = s.streams in
    subst (λ (d : Disc). Err 41 ≡ (after_open_read d c.args.name.now c.args.shell).answer) c.self.view_is
    (sym (ap (λ o. o.answer) (open_read-missing ns s.contents us fs ps c.self.invariant c.args.name.now c.args.shell c.in_default.field-0 c.in_default.ensures.place)))

pub returns-in_default-clause-disc : goal.returns-in_default-clause-disc
returns-in_default-clause-disc c =
    let s = c.self.inside in
    let ns = s.directory.names.items in
    let us = s.directory.used.items in
    let fs = s.directory.unused.items in
    let ps = s.streams in
    subst (λ (d : Disc). d ≡ (after_open_read d c.args.name.now c.args.shell).disc) c.self.view_is
    (sym (ap (λ o. o.disc) (open_read-missing ns s.contents us fs ps c.self.invariant c.args.name.now c.args.shell c.in_default.field-0 c.in_default.ensures.place)))

pub returns-then-is_written-clause-answer : goal.returns-then-is_written-clause-answer
returns-then-is_written-clause-answer c =
    let s = c.self.inside in
    let ns = s.directory.names.items in
    let us = s.directory.used.items in
    let fs = s.directory.unused.items in
    let ps = s.streams in
    let e = c.slot_at-slot.ensures in
    let at = c.in-Ok.ensures.place in
    let some : list_any (writes_on (get_or us c.in-Ok.place 0)) ps ≡ true = ap (λ t. list_any (writes_on t) ps) (sym e) ∙ sym c.is_written.ensures ∙ c.if-is_written.true in
    subst (λ (d : Disc). Err 47 ≡ (after_open_read d c.args.name.now c.args.shell).answer) c.self.view_is
    (sym (ap (λ o. o.answer) (open_read-written ns s.contents us fs ps c.self.invariant c.args.name.now c.args.shell c.in-Ok.place at some)))

pub returns-then-is_written-clause-disc : goal.returns-then-is_written-clause-disc
returns-then-is_written-clause-disc c =
    let s = c.self.inside in
    let ns = s.directory.names.items in
    let us = s.directory.used.items in
    let fs = s.directory.unused.items in
    let ps = s.streams in
    let e = c.slot_at-slot.ensures in
    let at = c.in-Ok.ensures.place in
    let some : list_any (writes_on (get_or us c.in-Ok.place 0)) ps ≡ true = ap (λ t. list_any (writes_on t) ps) (sym e) ∙ sym c.is_written.ensures ∙ c.if-is_written.true in
    subst (λ (d : Disc). d ≡ (after_open_read d c.args.name.now c.args.shell).disc) c.self.view_is
    (sym (ap (λ o. o.disc) (open_read-written ns s.contents us fs ps c.self.invariant c.args.name.now c.args.shell c.in-Ok.place at some)))

pub returns-in_default-stream_to_open-clause-answer : goal.returns-in_default-stream_to_open-clause-answer
returns-in_default-stream_to_open-clause-answer c =
    let s = c.self.inside in
    let ns = s.directory.names.items in
    let us = s.directory.used.items in
    let fs = s.directory.unused.items in
    let ps = s.streams in
    let e = c.slot_at-slot.ensures in
    let at = c.in-Ok.ensures.place in
    let none : list_any (writes_on (get_or us c.in-Ok.place 0)) ps ≡ false = ap (λ t. list_any (writes_on t) ps) (sym e) ∙ sym c.is_written.ensures ∙ c.if-is_written.false in
    subst (λ (d : Disc). Err 45 ≡ (after_open_read d c.args.name.now c.args.shell).answer) c.self.view_is
    (sym (ap (λ o. o.answer) (open_read-full ns s.contents us fs ps c.self.invariant c.args.name.now c.args.shell c.in-Ok.place at none (sym c.stream_to_open.ensures ∙ c.in_default-stream_to_open.is))))

pub returns-in_default-stream_to_open-clause-disc : goal.returns-in_default-stream_to_open-clause-disc
returns-in_default-stream_to_open-clause-disc c =
    let s = c.self.inside in
    let ns = s.directory.names.items in
    let us = s.directory.used.items in
    let fs = s.directory.unused.items in
    let ps = s.streams in
    let e = c.slot_at-slot.ensures in
    let at = c.in-Ok.ensures.place in
    let none : list_any (writes_on (get_or us c.in-Ok.place 0)) ps ≡ false = ap (λ t. list_any (writes_on t) ps) (sym e) ∙ sym c.is_written.ensures ∙ c.if-is_written.false in
    subst (λ (d : Disc). d ≡ (after_open_read d c.args.name.now c.args.shell).disc) c.self.view_is
    (sym (ap (λ o. o.disc) (open_read-full ns s.contents us fs ps c.self.invariant c.args.name.now c.args.shell c.in-Ok.place at none (sym c.stream_to_open.ensures ∙ c.in_default-stream_to_open.is))))

pub offset_bounds-self-inside-k : goal.offset_bounds-self-inside-k
offset_bounds-self-inside-k c =
    let s = c.self.inside in
    let ns = s.directory.names.items in
    let us = s.directory.used.items in
    let fs = s.directory.unused.items in
    let ps = s.streams in
    let found : cond c.args.shell (Some 16) (position is_none (take 16 ps)) ≡ Some c.in-Some.k = sym c.stream_to_open.ensures ∙ c.in-Some.is in
    omega (arith, (to-open ns s.contents us fs ps c.args.shell c.in-Some.k c.self.invariant found).2)

pub bounds-self-inside-k : goal.bounds-self-inside-k
bounds-self-inside-k c =
    let s = c.self.inside in
    let ns = s.directory.names.items in
    let us = s.directory.used.items in
    let fs = s.directory.unused.items in
    let ps = s.streams in
    let found : cond c.args.shell (Some 16) (position is_none (take 16 ps)) ≡ Some c.in-Some.k = sym c.stream_to_open.ensures ∙ c.in-Some.is in
    omega (arith, (to-open ns s.contents us fs ps c.args.shell c.in-Some.k c.self.invariant found).2)

pub overflow_cast-result : goal.overflow_cast-result
overflow_cast-result c =
    let s = c.self.inside in
    let ns = s.directory.names.items in
    let us = s.directory.used.items in
    let fs = s.directory.unused.items in
    let ps = s.streams in
    let found : cond c.args.shell (Some 16) (position is_none (take 16 ps)) ≡ Some c.in-Some.k = sym c.stream_to_open.ensures ∙ c.in-Some.is in
    omega (arith, (to-open ns s.contents us fs ps c.args.shell c.in-Some.k c.self.invariant found).2)

pub overflow_add-result : goal.overflow_add-result
overflow_add-result c =
    let s = c.self.inside in
    let ns = s.directory.names.items in
    let us = s.directory.used.items in
    let fs = s.directory.unused.items in
    let ps = s.streams in
    let found : cond c.args.shell (Some 16) (position is_none (take 16 ps)) ≡ Some c.in-Some.k = sym c.stream_to_open.ensures ∙ c.in-Some.is in
    omega (arith, (to-open ns s.contents us fs ps c.args.shell c.in-Some.k c.self.invariant found).2)

pub invariant_of-self : goal.invariant_of-self
invariant_of-self c =
    let s = c.self.inside in
    let ns = s.directory.names.items in
    let us = s.directory.used.items in
    let fs = s.directory.unused.items in
    let ps = s.streams in
    let e = c.slot_at-slot.ensures in
    let at = c.in-Ok.ensures.place in
    let none : list_any (writes_on (get_or us c.in-Ok.place 0)) ps ≡ false = ap (λ t. list_any (writes_on t) ps) (sym e) ∙ sym c.is_written.ensures ∙ c.if-is_written.false in
    let found : cond c.args.shell (Some 16) (position is_none (take 16 ps)) ≡ Some c.in-Some.k = sym c.stream_to_open.ensures ∙ c.in-Some.is in
    let P : ℕ → Place = λ t. record { slot = t; position = 0; sector = c.sector_at-sector.result; writes = false } in
    subst (λ t. AreKept ns s.contents us fs (set ps c.in-Some.k (Some (P t)))) (sym e)
    (open_read-kept ns s.contents us fs ps c.self.invariant c.args.name.now c.args.shell c.in-Ok.place c.in-Some.k c.sector_at-sector.result at none found
    (λ some. subst (λ t. 0 < length (bytes_at s.contents t) → c.sector_at-sector.result ≡ get_or (chain_at s.contents t) 0 0) e c.sector_at-sector.ensures some))

pub returns-clause-answer : goal.returns-clause-answer
returns-clause-answer c =
    let s = c.self.inside in
    let ns = s.directory.names.items in
    let us = s.directory.used.items in
    let fs = s.directory.unused.items in
    let ps = s.streams in
    let e = c.slot_at-slot.ensures in
    let at = c.in-Ok.ensures.place in
    let none : list_any (writes_on (get_or us c.in-Ok.place 0)) ps ≡ false = ap (λ t. list_any (writes_on t) ps) (sym e) ∙ sym c.is_written.ensures ∙ c.if-is_written.false in
    let found : cond c.args.shell (Some 16) (position is_none (take 16 ps)) ≡ Some c.in-Some.k = sym c.stream_to_open.ensures ∙ c.in-Some.is in
    subst (λ (d : Disc). Ok (c.in-Some.k + 1) ≡ (after_open_read d c.args.name.now c.args.shell).answer) c.self.view_is
    (sym (ap (λ o. o.answer) (open_read-done ns s.contents us fs ps c.self.invariant c.args.name.now c.args.shell c.in-Ok.place c.in-Some.k c.sector_at-sector.result at none found)))

pub returns-clause-disc : goal.returns-clause-disc
returns-clause-disc c =
    let s = c.self.inside in
    let ns = s.directory.names.items in
    let us = s.directory.used.items in
    let fs = s.directory.unused.items in
    let ps = s.streams in
    let e = c.slot_at-slot.ensures in
    let at = c.in-Ok.ensures.place in
    let none : list_any (writes_on (get_or us c.in-Ok.place 0)) ps ≡ false = ap (λ t. list_any (writes_on t) ps) (sym e) ∙ sym c.is_written.ensures ∙ c.if-is_written.false in
    let found : cond c.args.shell (Some 16) (position is_none (take 16 ps)) ≡ Some c.in-Some.k = sym c.stream_to_open.ensures ∙ c.in-Some.is in
    let P : ℕ → Place = λ t. record { slot = t; position = 0; sector = c.sector_at-sector.result; writes = false } in
    subst (λ (d : Disc). disc_in ns s.contents.bytes us (set ps c.in-Some.k (Some (P c.slot_at-slot.result))) ≡ (after_open_read d c.args.name.now c.args.shell).disc) c.self.view_is
    (ap (λ t. disc_in ns s.contents.bytes us (set ps c.in-Some.k (Some (P t)))) e ∙ sym (ap (λ o. o.disc) (open_read-done ns s.contents us fs ps c.self.invariant c.args.name.now c.args.shell c.in-Ok.place c.in-Some.k c.sector_at-sector.result at none found)))

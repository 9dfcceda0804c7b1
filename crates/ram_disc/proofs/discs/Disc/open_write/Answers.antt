use Rattle.std.proofs.Common.{◌≡◌, ℕ, ◌+◌, get_or, set, take, true, false, Some, Ok, Err, sym, ap, ◌∙◌, subst, arith}
use Rattle.std.specs.List.{insert, list_any, position}
use Rattle.std.specs.Option.{is_none}
use Rattle.ram_disc.specs.Contents.{Empties}
use Rattle.ram_disc.specs.Disc.{Disc}
use Rattle.ram_disc.specs.Slots.{AreKept, disc_in, is_on_slot}
use Rattle.ram_disc.specs.declared.places.Place.{Place}
use Rattle.ram_disc.specs.DiscCalls.{after_open_write}
use Rattle.ram_disc.proofs.Calls.{to-open}
use Rattle.ram_disc.proofs.ChangeCalls.{write-done, write-full, write-kept, write-new-done, write-new-full, write-new-kept, write-new-none, write-used}
use Rattle.ram_disc.proofs.discs.Disc.open_write.Goals as goal

pub returns-then-is_open-clause-answer : goal.returns-then-is_open-clause-answer
returns-then-is_open-clause-answer c =
    let s = c.self.inside in
    let ns = s.directory.names.items in
    let us = s.directory.used.items in
    let fs = s.directory.unused.items in
    let ps = s.streams in
    let k = c.self.invariant in
    let at = c.in-Ok.ensures.place in
    let some : list_any (is_on_slot (get_or us c.in-Ok.place 0)) ps ≡ true = ap (λ t. list_any (is_on_slot t) ps) (sym c.slot_at-slot.ensures) ∙ sym c.is_open.ensures ∙ c.if-is_open.true in
    subst (λ (d : Disc). Err 47 ≡ (after_open_write d c.args.name.now).answer) c.self.view_is
    (sym (ap (λ o. o.answer) (write-used ns s.contents us fs ps k c.args.name.now c.in-Ok.place at some)))

pub returns-then-is_open-clause-disc : goal.returns-then-is_open-clause-disc
returns-then-is_open-clause-disc c =
    let s = c.self.inside in
    let ns = s.directory.names.items in
    let us = s.directory.used.items in
    let fs = s.directory.unused.items in
    let ps = s.streams in
    let k = c.self.invariant in
    let at = c.in-Ok.ensures.place in
    let some : list_any (is_on_slot (get_or us c.in-Ok.place 0)) ps ≡ true = ap (λ t. list_any (is_on_slot t) ps) (sym c.slot_at-slot.ensures) ∙ sym c.is_open.ensures ∙ c.if-is_open.true in
    subst (λ (d : Disc). d ≡ (after_open_write d c.args.name.now).disc) c.self.view_is
    (sym (ap (λ o. o.disc) (write-used ns s.contents us fs ps k c.args.name.now c.in-Ok.place at some)))

pub returns-in_default-clause-answer : goal.returns-in_default-clause-answer
returns-in_default-clause-answer c =
    let s = c.self.inside in
    let ns = s.directory.names.items in
    let us = s.directory.used.items in
    let fs = s.directory.unused.items in
    let ps = s.streams in
    let k = c.self.invariant in
    let at = c.in-Ok.ensures.place in
    let none : list_any (is_on_slot (get_or us c.in-Ok.place 0)) ps ≡ false = ap (λ t. list_any (is_on_slot t) ps) (sym c.slot_at-slot.ensures) ∙ sym c.is_open.ensures ∙ c.if-is_open.false in
    subst (λ (d : Disc). Err 45 ≡ (after_open_write d c.args.name.now).answer) c.self.view_is
    (sym (ap (λ o. o.answer) (write-full ns s.contents us fs ps k c.args.name.now c.in-Ok.place at none (sym c.free_stream.ensures ∙ c.in_default.is))))

pub returns-in_default-clause-disc : goal.returns-in_default-clause-disc
returns-in_default-clause-disc c =
    let s = c.self.inside in
    let ns = s.directory.names.items in
    let us = s.directory.used.items in
    let fs = s.directory.unused.items in
    let ps = s.streams in
    let k = c.self.invariant in
    let at = c.in-Ok.ensures.place in
    let none : list_any (is_on_slot (get_or us c.in-Ok.place 0)) ps ≡ false = ap (λ t. list_any (is_on_slot t) ps) (sym c.slot_at-slot.ensures) ∙ sym c.is_open.ensures ∙ c.if-is_open.false in
    subst (λ (d : Disc). d ≡ (after_open_write d c.args.name.now).disc) c.self.view_is
    (sym (ap (λ o. o.disc) (write-full ns s.contents us fs ps k c.args.name.now c.in-Ok.place at none (sym c.free_stream.ensures ∙ c.in_default.is))))

pub offset_bounds-self-inside-k : goal.offset_bounds-self-inside-k
offset_bounds-self-inside-k c =
    let s = c.self.inside in
    let ns = s.directory.names.items in
    let us = s.directory.used.items in
    let fs = s.directory.unused.items in
    let ps = s.streams in
    let k = c.self.invariant in
    let found : position is_none (take 16 ps) ≡ Some c.in-Some.k = sym c.free_stream.ensures ∙ c.in-Some.is in
    omega (arith, (to-open ns s.contents us fs ps false c.in-Some.k k found).2)

pub bounds-self-inside-k : goal.bounds-self-inside-k
bounds-self-inside-k c =
    let s = c.self.inside in
    let ns = s.directory.names.items in
    let us = s.directory.used.items in
    let fs = s.directory.unused.items in
    let ps = s.streams in
    let k = c.self.invariant in
    let found : position is_none (take 16 ps) ≡ Some c.in-Some.k = sym c.free_stream.ensures ∙ c.in-Some.is in
    omega (arith, (to-open ns s.contents us fs ps false c.in-Some.k k found).2)

pub overflow_cast-result : goal.overflow_cast-result
overflow_cast-result c =
    let s = c.self.inside in
    let ns = s.directory.names.items in
    let us = s.directory.used.items in
    let fs = s.directory.unused.items in
    let ps = s.streams in
    let k = c.self.invariant in
    let found : position is_none (take 16 ps) ≡ Some c.in-Some.k = sym c.free_stream.ensures ∙ c.in-Some.is in
    omega (arith, (to-open ns s.contents us fs ps false c.in-Some.k k found).2)

pub overflow_add-result : goal.overflow_add-result
overflow_add-result c =
    let s = c.self.inside in
    let ns = s.directory.names.items in
    let us = s.directory.used.items in
    let fs = s.directory.unused.items in
    let ps = s.streams in
    let k = c.self.invariant in
    let found : position is_none (take 16 ps) ≡ Some c.in-Some.k = sym c.free_stream.ensures ∙ c.in-Some.is in
    omega (arith, (to-open ns s.contents us fs ps false c.in-Some.k k found).2)

pub invariant_of-self : goal.invariant_of-self
invariant_of-self c =
    let s = c.self.inside in
    let ns = s.directory.names.items in
    let us = s.directory.used.items in
    let fs = s.directory.unused.items in
    let ps = s.streams in
    let k = c.self.invariant in
    let at = c.in-Ok.ensures.place in
    let none : list_any (is_on_slot (get_or us c.in-Ok.place 0)) ps ≡ false = ap (λ t. list_any (is_on_slot t) ps) (sym c.slot_at-slot.ensures) ∙ sym c.is_open.ensures ∙ c.if-is_open.false in
    let found : position is_none (take 16 ps) ≡ Some c.in-Some.k = sym c.free_stream.ensures ∙ c.in-Some.is in
    let i = c.in-Ok.place in
    let b = c.clear.new.self in
    let empties : Empties s.contents b (get_or us i 0) = subst (Empties s.contents b) c.slot_at-slot.ensures c.clear.ensures in
    let W : ℕ → Place = λ t. record { slot = t; position = 0; sector = 0; writes = true } in
    let q : c.writer.result ≡ W (get_or us i 0) = c.writer.ensures ∙ ap W c.slot_at-slot.ensures in
    subst (λ p. AreKept ns b us fs (set ps c.in-Some.k (Some p))) (sym q) (write-kept ns s.contents us fs ps k b i c.in-Some.k at.within none found empties)

pub returns-in-Some-clause-answer : goal.returns-in-Some-clause-answer
returns-in-Some-clause-answer c =
    let s = c.self.inside in
    let ns = s.directory.names.items in
    let us = s.directory.used.items in
    let fs = s.directory.unused.items in
    let ps = s.streams in
    let k = c.self.invariant in
    let at = c.in-Ok.ensures.place in
    let none : list_any (is_on_slot (get_or us c.in-Ok.place 0)) ps ≡ false = ap (λ t. list_any (is_on_slot t) ps) (sym c.slot_at-slot.ensures) ∙ sym c.is_open.ensures ∙ c.if-is_open.false in
    let found : position is_none (take 16 ps) ≡ Some c.in-Some.k = sym c.free_stream.ensures ∙ c.in-Some.is in
    let i = c.in-Ok.place in
    let b = c.clear.new.self in
    let empties : Empties s.contents b (get_or us i 0) = subst (Empties s.contents b) c.slot_at-slot.ensures c.clear.ensures in
    let W : ℕ → Place = λ t. record { slot = t; position = 0; sector = 0; writes = true } in
    let q : c.writer.result ≡ W (get_or us i 0) = c.writer.ensures ∙ ap W c.slot_at-slot.ensures in
    subst (λ (d : Disc). Ok (c.in-Some.k + 1) ≡ (after_open_write d c.args.name.now).answer) c.self.view_is (sym (ap (λ o. o.answer) (write-done ns s.contents us fs ps k b c.args.name.now i c.in-Some.k at none found empties)))

pub returns-in-Some-clause-disc : goal.returns-in-Some-clause-disc
returns-in-Some-clause-disc c =
    let s = c.self.inside in
    let ns = s.directory.names.items in
    let us = s.directory.used.items in
    let fs = s.directory.unused.items in
    let ps = s.streams in
    let k = c.self.invariant in
    let at = c.in-Ok.ensures.place in
    let none : list_any (is_on_slot (get_or us c.in-Ok.place 0)) ps ≡ false = ap (λ t. list_any (is_on_slot t) ps) (sym c.slot_at-slot.ensures) ∙ sym c.is_open.ensures ∙ c.if-is_open.false in
    let found : position is_none (take 16 ps) ≡ Some c.in-Some.k = sym c.free_stream.ensures ∙ c.in-Some.is in
    let i = c.in-Ok.place in
    let b = c.clear.new.self in
    let empties : Empties s.contents b (get_or us i 0) = subst (Empties s.contents b) c.slot_at-slot.ensures c.clear.ensures in
    let W : ℕ → Place = λ t. record { slot = t; position = 0; sector = 0; writes = true } in
    let q : c.writer.result ≡ W (get_or us i 0) = c.writer.ensures ∙ ap W c.slot_at-slot.ensures in
    subst (λ (d : Disc). disc_in ns b.bytes us (set ps c.in-Some.k (Some c.writer.result)) ≡ (after_open_write d c.args.name.now).disc) c.self.view_is
    (ap (λ p. disc_in ns b.bytes us (set ps c.in-Some.k (Some p))) q ∙ sym (ap (λ o. o.disc) (write-done ns s.contents us fs ps k b c.args.name.now i c.in-Some.k at none found empties)))

pub returns-in_default-free_stream-clause-answer : goal.returns-in_default-free_stream-clause-answer
returns-in_default-free_stream-clause-answer c =
    let s = c.self.inside in
    let ns = s.directory.names.items in
    let us = s.directory.used.items in
    let fs = s.directory.unused.items in
    let ps = s.streams in
    let k = c.self.invariant in
    subst (λ (d : Disc). Err 45 ≡ (after_open_write d c.args.name.now).answer) c.self.view_is
    (sym (ap (λ o. o.answer) (write-new-full ns s.contents us fs ps k c.args.name.now c.in-Err.place c.in-Err.ensures.place (sym c.free_stream-in-Err.ensures ∙ c.in_default-free_stream.is))))

pub returns-in_default-free_stream-clause-disc : goal.returns-in_default-free_stream-clause-disc
returns-in_default-free_stream-clause-disc c =
    let s = c.self.inside in
    let ns = s.directory.names.items in
    let us = s.directory.used.items in
    let fs = s.directory.unused.items in
    let ps = s.streams in
    let k = c.self.invariant in
    subst (λ (d : Disc). d ≡ (after_open_write d c.args.name.now).disc) c.self.view_is
    (sym (ap (λ o. o.disc) (write-new-full ns s.contents us fs ps k c.args.name.now c.in-Err.place c.in-Err.ensures.place (sym c.free_stream-in-Err.ensures ∙ c.in_default-free_stream.is))))

pub returns-in_default-add-clause-answer : goal.returns-in_default-add-clause-answer
returns-in_default-add-clause-answer c =
    let s = c.self.inside in
    let ns = s.directory.names.items in
    let us = s.directory.used.items in
    let fs = s.directory.unused.items in
    let ps = s.streams in
    let k = c.self.invariant in
    let found : position is_none (take 16 ps) ≡ Some c.in-Some-free_stream.k = sym c.free_stream-in-Err.ensures ∙ c.in-Some-free_stream.is in
    subst (λ (d : Disc). Err 44 ≡ (after_open_write d c.args.name.now).answer) c.self.view_is (sym (ap (λ o. o.answer) (write-new-none ns s.contents us fs ps k c.args.name.now c.in-Err.place c.in-Some-free_stream.k c.in-Err.ensures.place found c.in_default-add.ensures.unused.0)))

pub returns-in_default-add-clause-disc : goal.returns-in_default-add-clause-disc
returns-in_default-add-clause-disc c =
    let s = c.self.inside in
    let ns = s.directory.names.items in
    let us = s.directory.used.items in
    let fs = s.directory.unused.items in
    let ps = s.streams in
    let k = c.self.invariant in
    let found : position is_none (take 16 ps) ≡ Some c.in-Some-free_stream.k = sym c.free_stream-in-Err.ensures ∙ c.in-Some-free_stream.is in
    let d = c.add.new.self in
    let same : disc_in d.names.items s.contents.bytes d.used.items ps ≡ disc_in ns s.contents.bytes us ps =
    ap (λ n. disc_in n s.contents.bytes d.used.items ps) c.in_default-add.ensures.names ∙ ap (λ u. disc_in ns s.contents.bytes u ps) c.in_default-add.ensures.used in
    subst (λ (x : Disc). disc_in d.names.items s.contents.bytes d.used.items ps ≡ (after_open_write x c.args.name.now).disc) c.self.view_is (same ∙ sym (ap (λ o. o.disc) (write-new-none ns s.contents us fs ps k c.args.name.now c.in-Err.place c.in-Some-free_stream.k c.in-Err.ensures.place found c.in_default-add.ensures.unused.0)))

pub offset_bounds-self-inside-k-in-Err : goal.offset_bounds-self-inside-k-in-Err
offset_bounds-self-inside-k-in-Err c =
    let s = c.self.inside in
    let ns = s.directory.names.items in
    let us = s.directory.used.items in
    let fs = s.directory.unused.items in
    let ps = s.streams in
    let k = c.self.invariant in
    let found : position is_none (take 16 ps) ≡ Some c.in-Some-free_stream.k = sym c.free_stream-in-Err.ensures ∙ c.in-Some-free_stream.is in
    omega (arith, (to-open ns s.contents us fs ps false c.in-Some-free_stream.k k found).2)

pub bounds-self-inside-k-in-Err : goal.bounds-self-inside-k-in-Err
bounds-self-inside-k-in-Err c =
    let s = c.self.inside in
    let ns = s.directory.names.items in
    let us = s.directory.used.items in
    let fs = s.directory.unused.items in
    let ps = s.streams in
    let k = c.self.invariant in
    let found : position is_none (take 16 ps) ≡ Some c.in-Some-free_stream.k = sym c.free_stream-in-Err.ensures ∙ c.in-Some-free_stream.is in
    omega (arith, (to-open ns s.contents us fs ps false c.in-Some-free_stream.k k found).2)

pub overflow_cast-result-in-Err : goal.overflow_cast-result-in-Err
overflow_cast-result-in-Err c =
    let s = c.self.inside in
    let ns = s.directory.names.items in
    let us = s.directory.used.items in
    let fs = s.directory.unused.items in
    let ps = s.streams in
    let k = c.self.invariant in
    let found : position is_none (take 16 ps) ≡ Some c.in-Some-free_stream.k = sym c.free_stream-in-Err.ensures ∙ c.in-Some-free_stream.is in
    omega (arith, (to-open ns s.contents us fs ps false c.in-Some-free_stream.k k found).2)

pub overflow_add-result-in-Err : goal.overflow_add-result-in-Err
overflow_add-result-in-Err c =
    let s = c.self.inside in
    let ns = s.directory.names.items in
    let us = s.directory.used.items in
    let fs = s.directory.unused.items in
    let ps = s.streams in
    let k = c.self.invariant in
    let found : position is_none (take 16 ps) ≡ Some c.in-Some-free_stream.k = sym c.free_stream-in-Err.ensures ∙ c.in-Some-free_stream.is in
    omega (arith, (to-open ns s.contents us fs ps false c.in-Some-free_stream.k k found).2)

pub invariant_of-self-in-Err : goal.invariant_of-self-in-Err
invariant_of-self-in-Err c =
    let s = c.self.inside in
    let ns = s.directory.names.items in
    let us = s.directory.used.items in
    let fs = s.directory.unused.items in
    let ps = s.streams in
    let k = c.self.invariant in
    let found : position is_none (take 16 ps) ≡ Some c.in-Some-free_stream.k = sym c.free_stream-in-Err.ensures ∙ c.in-Some-free_stream.is in
    let d = c.add.new.self in
    let m = c.in-Some-free_stream.k in
    let i = c.in-Err.place in
    let t = c.in-Some-add.slot in
    let n = c.args.name.now in
    let w : Place = record { slot = t; position = 0; sector = 0; writes = true } in
    let made = c.in-Some-add.ensures in
    let streams = set ps m (Some w) in
    let kept : AreKept (set ns t n) s.contents (insert us i t) d.unused.items streams = write-new-kept ns s.contents us fs ps k d.unused.items t n i m c.in-Err.ensures.place c.in-Err.ensures.lawful found made.unused in
    subst (λ p. AreKept d.names.items s.contents d.used.items d.unused.items (set ps m (Some p))) (sym c.writer-in-Err.ensures)
    (subst (λ x. AreKept x s.contents d.used.items d.unused.items streams) (sym made.names)
    (subst (λ x. AreKept (set ns t n) s.contents x d.unused.items streams) (sym made.used) kept))

pub returns-in-Some-add-clause-answer : goal.returns-in-Some-add-clause-answer
returns-in-Some-add-clause-answer c =
    let s = c.self.inside in
    let ns = s.directory.names.items in
    let us = s.directory.used.items in
    let fs = s.directory.unused.items in
    let ps = s.streams in
    let k = c.self.invariant in
    let found : position is_none (take 16 ps) ≡ Some c.in-Some-free_stream.k = sym c.free_stream-in-Err.ensures ∙ c.in-Some-free_stream.is in
    let d = c.add.new.self in
    let m = c.in-Some-free_stream.k in
    let i = c.in-Err.place in
    let t = c.in-Some-add.slot in
    let n = c.args.name.now in
    let w : Place = record { slot = t; position = 0; sector = 0; writes = true } in
    let made = c.in-Some-add.ensures in
    let streams = set ps m (Some w) in
    subst (λ (x : Disc). Ok (m + 1) ≡ (after_open_write x n).answer) c.self.view_is (sym (ap (λ o. o.answer) (write-new-done ns s.contents us fs ps k d.unused.items t n i m c.in-Err.ensures.place found made.unused)))

pub returns-in-Some-add-clause-disc : goal.returns-in-Some-add-clause-disc
returns-in-Some-add-clause-disc c =
    let s = c.self.inside in
    let ns = s.directory.names.items in
    let us = s.directory.used.items in
    let fs = s.directory.unused.items in
    let ps = s.streams in
    let k = c.self.invariant in
    let found : position is_none (take 16 ps) ≡ Some c.in-Some-free_stream.k = sym c.free_stream-in-Err.ensures ∙ c.in-Some-free_stream.is in
    let d = c.add.new.self in
    let m = c.in-Some-free_stream.k in
    let i = c.in-Err.place in
    let t = c.in-Some-add.slot in
    let n = c.args.name.now in
    let w : Place = record { slot = t; position = 0; sector = 0; writes = true } in
    let made = c.in-Some-add.ensures in
    let streams = set ps m (Some w) in
    subst (λ (x : Disc). disc_in d.names.items s.contents.bytes d.used.items (set ps m (Some c.writer-in-Err.result)) ≡ (after_open_write x n).disc) c.self.view_is
    (ap (λ p. disc_in d.names.items s.contents.bytes d.used.items (set ps m (Some p))) c.writer-in-Err.ensures
    ∙ ap (λ x. disc_in x s.contents.bytes d.used.items streams) made.names
    ∙ ap (λ x. disc_in (set ns t n) s.contents.bytes x streams) made.used
    ∙ sym (ap (λ o. o.disc) (write-new-done ns s.contents us fs ps k d.unused.items t n i m c.in-Err.ensures.place found made.unused)))

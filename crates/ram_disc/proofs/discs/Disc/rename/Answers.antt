use Rattle.std.proofs.Common.{◌≡◌, get_or, set, true, false, Ok, Err, sym, ap, ◌∙◌, subst}
use Rattle.std.specs.List.{insert, list_any, remove}
use Rattle.ram_disc.specs.Disc.{Disc}
use Rattle.ram_disc.specs.Slots.{AreKept, HasPlace, disc_in, is_on_slot}
use Rattle.ram_disc.specs.DiscCalls.{after_rename}
use Rattle.ram_disc.proofs.ChangeCalls.{place-without, rename-done, rename-missing, rename-there, rename-used}
use Rattle.ram_disc.proofs.KeptSlots.{keep-rename}
use Rattle.ram_disc.proofs.discs.Disc.rename.Goals as goal

pub returns-in_default-clause-answer : goal.returns-in_default-clause-answer
returns-in_default-clause-answer c =
    let s = c.self.inside in
    let ns = s.directory.names.items in
    let us = s.directory.used.items in
    let fs = s.directory.unused.items in
    let ps = s.streams in
    let k = c.self.invariant in
    subst (λ (d : Disc). Err 41 ≡ (after_rename d c.args.from.now c.args.to.now).answer) c.self.view_is
    (sym (ap (λ o. o.answer) (rename-missing ns s.contents us fs ps k c.args.from.now c.args.to.now c.in_default.field-0 c.in_default.ensures.place)))

pub returns-in_default-clause-disc : goal.returns-in_default-clause-disc
returns-in_default-clause-disc c =
    let s = c.self.inside in
    let ns = s.directory.names.items in
    let us = s.directory.used.items in
    let fs = s.directory.unused.items in
    let ps = s.streams in
    let k = c.self.invariant in
    subst (λ (d : Disc). d ≡ (after_rename d c.args.from.now c.args.to.now).disc) c.self.view_is
    (sym (ap (λ o. o.disc) (rename-missing ns s.contents us fs ps k c.args.from.now c.args.to.now c.in_default.field-0 c.in_default.ensures.place)))

pub returns-in_default-place_of-clause-answer : goal.returns-in_default-place_of-clause-answer
returns-in_default-place_of-clause-answer c =
    let s = c.self.inside in
    let ns = s.directory.names.items in
    let us = s.directory.used.items in
    let fs = s.directory.unused.items in
    let ps = s.streams in
    let k = c.self.invariant in
    let at = c.in-Ok.ensures.place in
    subst (λ (d : Disc). Err 42 ≡ (after_rename d c.args.from.now c.args.to.now).answer) c.self.view_is
    (sym (ap (λ o. o.answer) (rename-there ns s.contents us fs ps k c.args.from.now c.args.to.now c.in-Ok.place c.in_default-place_of.field-0 at c.in_default-place_of.ensures.place)))

pub returns-in_default-place_of-clause-disc : goal.returns-in_default-place_of-clause-disc
returns-in_default-place_of-clause-disc c =
    let s = c.self.inside in
    let ns = s.directory.names.items in
    let us = s.directory.used.items in
    let fs = s.directory.unused.items in
    let ps = s.streams in
    let k = c.self.invariant in
    let at = c.in-Ok.ensures.place in
    subst (λ (d : Disc). d ≡ (after_rename d c.args.from.now c.args.to.now).disc) c.self.view_is
    (sym (ap (λ o. o.disc) (rename-there ns s.contents us fs ps k c.args.from.now c.args.to.now c.in-Ok.place c.in_default-place_of.field-0 at c.in_default-place_of.ensures.place)))

pub returns-then-is_open-clause-answer : goal.returns-then-is_open-clause-answer
returns-then-is_open-clause-answer c =
    let s = c.self.inside in
    let ns = s.directory.names.items in
    let us = s.directory.used.items in
    let fs = s.directory.unused.items in
    let ps = s.streams in
    let k = c.self.invariant in
    let at = c.in-Ok.ensures.place in
    let some : list_any (is_on_slot (get_or us c.in-Ok.place 0)) ps ≡ true = ap (λ t. list_any (is_on_slot t) ps) (sym c.slot_at.ensures) ∙ sym c.is_open.ensures ∙ c.if-is_open.true in
    subst (λ (d : Disc). Err 47 ≡ (after_rename d c.args.from.now c.args.to.now).answer) c.self.view_is
    (sym (ap (λ o. o.answer) (rename-used ns s.contents us fs ps k c.args.from.now c.args.to.now c.in-Ok.place c.in-Err.end at c.in-Err.ensures.place some)))

pub returns-then-is_open-clause-disc : goal.returns-then-is_open-clause-disc
returns-then-is_open-clause-disc c =
    let s = c.self.inside in
    let ns = s.directory.names.items in
    let us = s.directory.used.items in
    let fs = s.directory.unused.items in
    let ps = s.streams in
    let k = c.self.invariant in
    let at = c.in-Ok.ensures.place in
    let some : list_any (is_on_slot (get_or us c.in-Ok.place 0)) ps ≡ true = ap (λ t. list_any (is_on_slot t) ps) (sym c.slot_at.ensures) ∙ sym c.is_open.ensures ∙ c.if-is_open.true in
    subst (λ (d : Disc). d ≡ (after_rename d c.args.from.now c.args.to.now).disc) c.self.view_is
    (sym (ap (λ o. o.disc) (rename-used ns s.contents us fs ps k c.args.from.now c.args.to.now c.in-Ok.place c.in-Err.end at c.in-Err.ensures.place some)))

pub invariant_of-self : goal.invariant_of-self
invariant_of-self c =
    let s = c.self.inside in
    let ns = s.directory.names.items in
    let us = s.directory.used.items in
    let fs = s.directory.unused.items in
    let ps = s.streams in
    let k = c.self.invariant in
    let at = c.in-Ok.ensures.place in
    let none : list_any (is_on_slot (get_or us c.in-Ok.place 0)) ps ≡ false = ap (λ t. list_any (is_on_slot t) ps) (sym c.slot_at.ensures) ∙ sym c.is_open.ensures ∙ c.if-is_open.false in
    let r = c.rename in
    let i = c.in-Ok.place in
    let t = get_or us i 0 in
    let there : HasPlace ns (remove us i) c.args.to.now c.place_without.result =
    subst (HasPlace ns (remove us i) c.args.to.now) (sym c.place_without.ensures) (place-without ns us c.args.to.now i c.in-Err.end at.within c.in-Err.ensures.place) in
    let kept : AreKept (set ns t c.args.to.now) s.contents (insert (remove us i) c.place_without.result t) fs ps = keep-rename ns s.contents us fs ps i c.place_without.result c.args.to.now k at.within there c.in-Err.ensures.lawful in
    subst (λ n. AreKept n s.contents r.new.self.used.items r.new.self.unused.items ps) (sym r.ensures.names)
    (subst (λ u. AreKept (set ns t c.args.to.now) s.contents u r.new.self.unused.items ps) (sym r.ensures.used)
    (subst (λ u. AreKept (set ns t c.args.to.now) s.contents (insert (remove us i) c.place_without.result t) u ps) (sym r.ensures.unused) kept))

pub returns-clause-answer : goal.returns-clause-answer
returns-clause-answer c =
    let s = c.self.inside in
    let ns = s.directory.names.items in
    let us = s.directory.used.items in
    let fs = s.directory.unused.items in
    let ps = s.streams in
    let k = c.self.invariant in
    let at = c.in-Ok.ensures.place in
    let none : list_any (is_on_slot (get_or us c.in-Ok.place 0)) ps ≡ false = ap (λ t. list_any (is_on_slot t) ps) (sym c.slot_at.ensures) ∙ sym c.is_open.ensures ∙ c.if-is_open.false in
    let r = c.rename in
    let i = c.in-Ok.place in
    let t = get_or us i 0 in
    let there : HasPlace ns (remove us i) c.args.to.now c.place_without.result =
    subst (HasPlace ns (remove us i) c.args.to.now) (sym c.place_without.ensures) (place-without ns us c.args.to.now i c.in-Err.end at.within c.in-Err.ensures.place) in
    subst (λ (d : Disc). Ok tt ≡ (after_rename d c.args.from.now c.args.to.now).answer) c.self.view_is
    (sym (ap (λ o. o.answer) (rename-done ns s.contents us fs ps k c.args.from.now c.args.to.now i c.in-Err.end c.place_without.result at c.in-Err.ensures.place none there)))

pub returns-clause-disc : goal.returns-clause-disc
returns-clause-disc c =
    let s = c.self.inside in
    let ns = s.directory.names.items in
    let us = s.directory.used.items in
    let fs = s.directory.unused.items in
    let ps = s.streams in
    let k = c.self.invariant in
    let at = c.in-Ok.ensures.place in
    let none : list_any (is_on_slot (get_or us c.in-Ok.place 0)) ps ≡ false = ap (λ t. list_any (is_on_slot t) ps) (sym c.slot_at.ensures) ∙ sym c.is_open.ensures ∙ c.if-is_open.false in
    let r = c.rename in
    let i = c.in-Ok.place in
    let t = get_or us i 0 in
    let there : HasPlace ns (remove us i) c.args.to.now c.place_without.result =
    subst (HasPlace ns (remove us i) c.args.to.now) (sym c.place_without.ensures) (place-without ns us c.args.to.now i c.in-Err.end at.within c.in-Err.ensures.place) in
    subst (λ (d : Disc). disc_in r.new.self.names.items s.contents.bytes r.new.self.used.items ps ≡ (after_rename d c.args.from.now c.args.to.now).disc) c.self.view_is
    (ap (λ n. disc_in n s.contents.bytes r.new.self.used.items ps) r.ensures.names ∙ ap (λ u. disc_in (set ns t c.args.to.now) s.contents.bytes u ps) r.ensures.used ∙ sym (ap (λ o. o.disc) (rename-done ns s.contents us fs ps k c.args.from.now c.args.to.now i c.in-Err.end c.place_without.result at c.in-Err.ensures.place none there)))

use Rattle.std.proofs.Common.{◌≡◌, [], ◌∷◌, ◌++◌, get_or, true, false, Ok, Err, sym, ap, ◌∙◌, subst}
use Rattle.std.specs.List.{list_any, remove}
use Rattle.ram_disc.specs.Contents.{Empties}
use Rattle.ram_disc.specs.Disc.{Disc}
use Rattle.ram_disc.specs.Slots.{AreKept, disc_in, is_on_slot}
use Rattle.ram_disc.specs.DiscCalls.{after_delete}
use Rattle.ram_disc.proofs.ChangeCalls.{delete-done, delete-missing, delete-used}
use Rattle.ram_disc.proofs.KeptSlots.{keep-delete}
use Rattle.ram_disc.proofs.discs.Disc.delete.Goals as goal

pub returns-in_default-clause-answer : goal.returns-in_default-clause-answer
returns-in_default-clause-answer c =
    let s = c.self.inside in
    let ns = s.directory.names.items in
    let us = s.directory.used.items in
    let fs = s.directory.unused.items in
    let ps = s.streams in
    let k = c.self.invariant in
    subst (λ (d : Disc). Err 41 ≡ (after_delete d c.args.name.now).answer) c.self.view_is
    (sym (ap (λ o. o.answer) (delete-missing ns s.contents us fs ps k c.args.name.now c.in_default.field-0 c.in_default.ensures.place)))

pub returns-in_default-clause-disc : goal.returns-in_default-clause-disc
returns-in_default-clause-disc c =
    let s = c.self.inside in
    let ns = s.directory.names.items in
    let us = s.directory.used.items in
    let fs = s.directory.unused.items in
    let ps = s.streams in
    let k = c.self.invariant in
    subst (λ (d : Disc). d ≡ (after_delete d c.args.name.now).disc) c.self.view_is
    (sym (ap (λ o. o.disc) (delete-missing ns s.contents us fs ps k c.args.name.now c.in_default.field-0 c.in_default.ensures.place)))

pub returns-then-is_open-clause-answer : goal.returns-then-is_open-clause-answer
returns-then-is_open-clause-answer c =
    let s = c.self.inside in
    let ns = s.directory.names.items in
    let us = s.directory.used.items in
    let fs = s.directory.unused.items in
    let ps = s.streams in
    let k = c.self.invariant in
    let at = c.in-Ok.ensures.place in
    let some : list_any (is_on_slot (get_or us c.in-Ok.place 0)) ps ≡ true = ap (λ t. list_any (is_on_slot t) ps) (sym c.slot_at.ensures) ∙ sym c.is_open.ensures ∙ c.if-is_open.true in
    subst (λ (d : Disc). Err 47 ≡ (after_delete d c.args.name.now).answer) c.self.view_is
    (sym (ap (λ o. o.answer) (delete-used ns s.contents us fs ps k c.args.name.now c.in-Ok.place at some)))

pub returns-then-is_open-clause-disc : goal.returns-then-is_open-clause-disc
returns-then-is_open-clause-disc c =
    let s = c.self.inside in
    let ns = s.directory.names.items in
    let us = s.directory.used.items in
    let fs = s.directory.unused.items in
    let ps = s.streams in
    let k = c.self.invariant in
    let at = c.in-Ok.ensures.place in
    let some : list_any (is_on_slot (get_or us c.in-Ok.place 0)) ps ≡ true = ap (λ t. list_any (is_on_slot t) ps) (sym c.slot_at.ensures) ∙ sym c.is_open.ensures ∙ c.if-is_open.true in
    subst (λ (d : Disc). d ≡ (after_delete d c.args.name.now).disc) c.self.view_is
    (sym (ap (λ o. o.disc) (delete-used ns s.contents us fs ps k c.args.name.now c.in-Ok.place at some)))

pub invariant_of-self : goal.invariant_of-self
invariant_of-self c =
    let s = c.self.inside in
    let ns = s.directory.names.items in
    let us = s.directory.used.items in
    let fs = s.directory.unused.items in
    let ps = s.streams in
    let k = c.self.invariant in
    let at = c.in-Ok.ensures.place in
    let none : list_any (is_on_slot (get_or us c.in-Ok.place 0)) ps ≡ false = ap (λ t. list_any (is_on_slot t) ps) (sym c.slot_at.ensures) ∙ sym c.is_open.ensures ∙ c.if-is_open.false in
    let empties : Empties s.contents c.clear.new.self (get_or us c.in-Ok.place 0) = subst (Empties s.contents c.clear.new.self) c.remove-slot.ensures.slot c.clear.ensures in
    let r = c.remove-slot in
    let kept : AreKept ns c.clear.new.self (remove us c.in-Ok.place) (fs ++ get_or us c.in-Ok.place 0 ∷ []) ps = keep-delete ns s.contents us fs ps c.clear.new.self c.in-Ok.place k at.within none empties in
    let unused : r.new.self.unused.items ≡ fs ++ get_or us c.in-Ok.place 0 ∷ [] = r.ensures.unused ∙ ap (λ t. fs ++ t ∷ []) r.ensures.slot in
    subst (λ n. AreKept n c.clear.new.self r.new.self.used.items r.new.self.unused.items ps) (sym r.ensures.names)
    (subst (λ u. AreKept ns c.clear.new.self u r.new.self.unused.items ps) (sym r.ensures.used)
    (subst (λ u. AreKept ns c.clear.new.self (remove us c.in-Ok.place) u ps) (sym unused) kept))

pub returns-clause-answer : goal.returns-clause-answer
returns-clause-answer c =
    let s = c.self.inside in
    let ns = s.directory.names.items in
    let us = s.directory.used.items in
    let fs = s.directory.unused.items in
    let ps = s.streams in
    let k = c.self.invariant in
    let at = c.in-Ok.ensures.place in
    let none : list_any (is_on_slot (get_or us c.in-Ok.place 0)) ps ≡ false = ap (λ t. list_any (is_on_slot t) ps) (sym c.slot_at.ensures) ∙ sym c.is_open.ensures ∙ c.if-is_open.false in
    let empties : Empties s.contents c.clear.new.self (get_or us c.in-Ok.place 0) = subst (Empties s.contents c.clear.new.self) c.remove-slot.ensures.slot c.clear.ensures in
    let r = c.remove-slot in
    subst (λ (d : Disc). Ok tt ≡ (after_delete d c.args.name.now).answer) c.self.view_is
    (sym (ap (λ o. o.answer) (delete-done ns s.contents us fs ps k c.clear.new.self c.args.name.now c.in-Ok.place at none empties)))

pub returns-clause-disc : goal.returns-clause-disc
returns-clause-disc c =
    let s = c.self.inside in
    let ns = s.directory.names.items in
    let us = s.directory.used.items in
    let fs = s.directory.unused.items in
    let ps = s.streams in
    let k = c.self.invariant in
    let at = c.in-Ok.ensures.place in
    let none : list_any (is_on_slot (get_or us c.in-Ok.place 0)) ps ≡ false = ap (λ t. list_any (is_on_slot t) ps) (sym c.slot_at.ensures) ∙ sym c.is_open.ensures ∙ c.if-is_open.false in
    let empties : Empties s.contents c.clear.new.self (get_or us c.in-Ok.place 0) = subst (Empties s.contents c.clear.new.self) c.remove-slot.ensures.slot c.clear.ensures in
    let r = c.remove-slot in
    subst (λ (d : Disc). disc_in r.new.self.names.items c.clear.new.self.bytes r.new.self.used.items ps ≡ (after_delete d c.args.name.now).disc) c.self.view_is
    (ap (λ n. disc_in n c.clear.new.self.bytes r.new.self.used.items ps) r.ensures.names ∙ ap (λ u. disc_in ns c.clear.new.self.bytes u ps) r.ensures.used ∙ sym (ap (λ o. o.disc) (delete-done ns s.contents us fs ps k c.clear.new.self c.args.name.now c.in-Ok.place at none empties)))

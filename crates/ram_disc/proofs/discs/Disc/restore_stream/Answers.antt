use Rattle.std.proofs.Common.{◌≡◌, ℕ, ◌-◌, ◌/◌, ◌<◌, length, get_or, set, cond, true, false, Some, sym, ap, ◌∙◌, subst}
use Rattle.ram_disc.specs.Contents.{bytes_at, chain_at}
use Rattle.ram_disc.specs.Disc.{Disc}
use Rattle.ram_disc.specs.Slots.{AreKept, disc_in}
use Rattle.ram_disc.specs.declared.places.Place.{Place}
use Rattle.ram_disc.specs.DiscCalls.{after_restore, can_restore, with_place}
use Rattle.ram_disc.proofs.RestoreCalls.{May, restore-can, restore-done, restore-kept, restore-missing, restore-not, restore-taken}
use Rattle.ram_disc.proofs.discs.Disc.restore_stream.Goals as goal

pub returns-then-not-is_free-clause-answer : goal.returns-then-not-is_free-clause-answer
returns-then-not-is_free-clause-answer c =
    let s = c.self.inside in
    let ns = s.directory.names.items in
    let us = s.directory.used.items in
    let fs = s.directory.unused.items in
    let ps = s.streams in
    let k = c.self.invariant in
    subst (λ (d : Disc). false ≡ can_restore d c.args.k c.args.name.now c.args.pos c.args.write) c.self.view_is (sym (restore-taken ns s.contents us fs ps k c.args.k c.args.name.now c.args.pos c.args.write (sym c.is_free.ensures ∙ c.if-not-is_free.true)))

pub returns-then-not-is_free-clause-disc : goal.returns-then-not-is_free-clause-disc
returns-then-not-is_free-clause-disc c =
    let s = c.self.inside in
    let ns = s.directory.names.items in
    let us = s.directory.used.items in
    let fs = s.directory.unused.items in
    let ps = s.streams in
    let k = c.self.invariant in
    let no = restore-taken ns s.contents us fs ps k c.args.k c.args.name.now c.args.pos c.args.write (sym c.is_free.ensures ∙ c.if-not-is_free.true) in
    subst (λ (d : Disc). d ≡ after_restore d c.args.k c.args.name.now c.args.pos c.args.write) c.self.view_is
    (sym (ap (λ t. cond t (with_place (disc_in ns s.contents.bytes us ps) c.args.k c.args.name.now c.args.pos c.args.write) (disc_in ns s.contents.bytes us ps)) no))

pub returns-in_default-clause-answer : goal.returns-in_default-clause-answer
returns-in_default-clause-answer c =
    let s = c.self.inside in
    let ns = s.directory.names.items in
    let us = s.directory.used.items in
    let fs = s.directory.unused.items in
    let ps = s.streams in
    let k = c.self.invariant in
    subst (λ (d : Disc). false ≡ can_restore d c.args.k c.args.name.now c.args.pos c.args.write) c.self.view_is (sym (restore-missing ns s.contents us fs ps k c.args.k c.args.name.now c.args.pos c.args.write c.in_default.field-0 c.in_default.ensures.place))

pub returns-in_default-clause-disc : goal.returns-in_default-clause-disc
returns-in_default-clause-disc c =
    let s = c.self.inside in
    let ns = s.directory.names.items in
    let us = s.directory.used.items in
    let fs = s.directory.unused.items in
    let ps = s.streams in
    let k = c.self.invariant in
    let no = restore-missing ns s.contents us fs ps k c.args.k c.args.name.now c.args.pos c.args.write c.in_default.field-0 c.in_default.ensures.place in
    subst (λ (d : Disc). d ≡ after_restore d c.args.k c.args.name.now c.args.pos c.args.write) c.self.view_is
    (sym (ap (λ t. cond t (with_place (disc_in ns s.contents.bytes us ps) c.args.k c.args.name.now c.args.pos c.args.write) (disc_in ns s.contents.bytes us ps)) no))

pub returns-then-not-may_be_placed-clause-answer : goal.returns-then-not-may_be_placed-clause-answer
returns-then-not-may_be_placed-clause-answer c =
    let s = c.self.inside in
    let ns = s.directory.names.items in
    let us = s.directory.used.items in
    let fs = s.directory.unused.items in
    let ps = s.streams in
    let k = c.self.invariant in
    let at = c.in-Ok.ensures.place in
    let t = get_or us c.in-Ok.place 0 in
    let free = sym c.is_free.ensures ∙ c.if-not-is_free.false in
    let size : c.len-size.result ≡ length (bytes_at s.contents t) = c.len-size.ensures ∙ ap (λ x. length (bytes_at s.contents x)) c.slot_at-slot.ensures in
    let may : c.may_be_placed.result ≡ May ps c.args.k t c.args.pos (length (bytes_at s.contents t)) c.args.write =
    c.may_be_placed.ensures ∙ ap (λ x. May ps c.args.k x c.args.pos c.len-size.result c.args.write) c.slot_at-slot.ensures ∙ ap (λ n. May ps c.args.k t c.args.pos n c.args.write) size in
    subst (λ (d : Disc). false ≡ can_restore d c.args.k c.args.name.now c.args.pos c.args.write) c.self.view_is (sym (restore-not ns s.contents us fs ps k c.args.k c.args.name.now c.args.pos c.args.write c.in-Ok.place at free (sym may ∙ c.if-not-may_be_placed.true)))

pub returns-then-not-may_be_placed-clause-disc : goal.returns-then-not-may_be_placed-clause-disc
returns-then-not-may_be_placed-clause-disc c =
    let s = c.self.inside in
    let ns = s.directory.names.items in
    let us = s.directory.used.items in
    let fs = s.directory.unused.items in
    let ps = s.streams in
    let k = c.self.invariant in
    let at = c.in-Ok.ensures.place in
    let t = get_or us c.in-Ok.place 0 in
    let free = sym c.is_free.ensures ∙ c.if-not-is_free.false in
    let size : c.len-size.result ≡ length (bytes_at s.contents t) = c.len-size.ensures ∙ ap (λ x. length (bytes_at s.contents x)) c.slot_at-slot.ensures in
    let may : c.may_be_placed.result ≡ May ps c.args.k t c.args.pos (length (bytes_at s.contents t)) c.args.write =
    c.may_be_placed.ensures ∙ ap (λ x. May ps c.args.k x c.args.pos c.len-size.result c.args.write) c.slot_at-slot.ensures ∙ ap (λ n. May ps c.args.k t c.args.pos n c.args.write) size in
    let no = restore-not ns s.contents us fs ps k c.args.k c.args.name.now c.args.pos c.args.write c.in-Ok.place at free (sym may ∙ c.if-not-may_be_placed.true) in
    subst (λ (d : Disc). d ≡ after_restore d c.args.k c.args.name.now c.args.pos c.args.write) c.self.view_is
    (sym (ap (λ t. cond t (with_place (disc_in ns s.contents.bytes us ps) c.args.k c.args.name.now c.args.pos c.args.write) (disc_in ns s.contents.bytes us ps)) no))

pub invariant_of-self : goal.invariant_of-self
invariant_of-self c =
    let s = c.self.inside in
    let ns = s.directory.names.items in
    let us = s.directory.used.items in
    let fs = s.directory.unused.items in
    let ps = s.streams in
    let k = c.self.invariant in
    let at = c.in-Ok.ensures.place in
    let t = get_or us c.in-Ok.place 0 in
    let free = sym c.is_free.ensures ∙ c.if-not-is_free.false in
    let size : c.len-size.result ≡ length (bytes_at s.contents t) = c.len-size.ensures ∙ ap (λ x. length (bytes_at s.contents x)) c.slot_at-slot.ensures in
    let may : c.may_be_placed.result ≡ May ps c.args.k t c.args.pos (length (bytes_at s.contents t)) c.args.write =
    c.may_be_placed.ensures ∙ ap (λ x. May ps c.args.k x c.args.pos c.len-size.result c.args.write) c.slot_at-slot.ensures ∙ ap (λ n. May ps c.args.k t c.args.pos n c.args.write) size in
    let yes = sym may ∙ c.if-not-may_be_placed.false in
    let P : ℕ → Place = λ x. record { slot = x; position = c.args.pos; sector = c.sector_at-sector.result; writes = c.args.write } in
    subst (λ x. AreKept ns s.contents us fs (set ps (c.args.k - 1) (Some (P x)))) (sym c.slot_at-slot.ensures)
    (restore-kept ns s.contents us fs ps k c.args.k c.args.name.now c.args.pos c.args.write c.in-Ok.place c.sector_at-sector.result at free yes
    (subst (λ x. c.args.pos < length (bytes_at s.contents x) → c.sector_at-sector.result ≡ get_or (chain_at s.contents x) (c.args.pos / 512) 0) c.slot_at-slot.ensures c.sector_at-sector.ensures))

pub returns-clause-answer : goal.returns-clause-answer
returns-clause-answer c =
    let s = c.self.inside in
    let ns = s.directory.names.items in
    let us = s.directory.used.items in
    let fs = s.directory.unused.items in
    let ps = s.streams in
    let k = c.self.invariant in
    let at = c.in-Ok.ensures.place in
    let t = get_or us c.in-Ok.place 0 in
    let free = sym c.is_free.ensures ∙ c.if-not-is_free.false in
    let size : c.len-size.result ≡ length (bytes_at s.contents t) = c.len-size.ensures ∙ ap (λ x. length (bytes_at s.contents x)) c.slot_at-slot.ensures in
    let may : c.may_be_placed.result ≡ May ps c.args.k t c.args.pos (length (bytes_at s.contents t)) c.args.write =
    c.may_be_placed.ensures ∙ ap (λ x. May ps c.args.k x c.args.pos c.len-size.result c.args.write) c.slot_at-slot.ensures ∙ ap (λ n. May ps c.args.k t c.args.pos n c.args.write) size in
    let yes = sym may ∙ c.if-not-may_be_placed.false in
    let P : ℕ → Place = λ x. record { slot = x; position = c.args.pos; sector = c.sector_at-sector.result; writes = c.args.write } in
    subst (λ (d : Disc). true ≡ can_restore d c.args.k c.args.name.now c.args.pos c.args.write) c.self.view_is (sym (restore-can ns s.contents us fs ps k c.args.k c.args.name.now c.args.pos c.args.write c.in-Ok.place at free yes))

pub returns-clause-disc : goal.returns-clause-disc
returns-clause-disc c =
    let s = c.self.inside in
    let ns = s.directory.names.items in
    let us = s.directory.used.items in
    let fs = s.directory.unused.items in
    let ps = s.streams in
    let k = c.self.invariant in
    let at = c.in-Ok.ensures.place in
    let t = get_or us c.in-Ok.place 0 in
    let free = sym c.is_free.ensures ∙ c.if-not-is_free.false in
    let size : c.len-size.result ≡ length (bytes_at s.contents t) = c.len-size.ensures ∙ ap (λ x. length (bytes_at s.contents x)) c.slot_at-slot.ensures in
    let may : c.may_be_placed.result ≡ May ps c.args.k t c.args.pos (length (bytes_at s.contents t)) c.args.write =
    c.may_be_placed.ensures ∙ ap (λ x. May ps c.args.k x c.args.pos c.len-size.result c.args.write) c.slot_at-slot.ensures ∙ ap (λ n. May ps c.args.k t c.args.pos n c.args.write) size in
    let yes = sym may ∙ c.if-not-may_be_placed.false in
    let P : ℕ → Place = λ x. record { slot = x; position = c.args.pos; sector = c.sector_at-sector.result; writes = c.args.write } in
    let can = restore-can ns s.contents us fs ps k c.args.k c.args.name.now c.args.pos c.args.write c.in-Ok.place at free yes in
    subst (λ (d : Disc). disc_in ns s.contents.bytes us (set ps (c.args.k - 1) (Some (P c.slot_at-slot.result))) ≡ after_restore d c.args.k c.args.name.now c.args.pos c.args.write) c.self.view_is
    (ap (λ x. disc_in ns s.contents.bytes us (set ps (c.args.k - 1) (Some (P x)))) c.slot_at-slot.ensures
    ∙ sym (ap (λ x. cond x (with_place (disc_in ns s.contents.bytes us ps) c.args.k c.args.name.now c.args.pos c.args.write) (disc_in ns s.contents.bytes us ps)) can ∙ restore-done ns s.contents us fs ps k c.args.k c.args.name.now c.args.pos c.args.write c.in-Ok.place c.sector_at-sector.result at))

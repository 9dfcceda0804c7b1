use Rattle.std.proofs.Common.{◌≡◌, ◌+◌, ◌-◌, ◌<◌, ◌≤◌, length, set, true, Some, Ok, Err, sym, ap, ◌∙◌, subst, arith}
use Rattle.ram_disc.specs.Contents.{bytes_at}
use Rattle.ram_disc.specs.Disc.{Disc, sectors_of}
use Rattle.ram_disc.specs.Slots.{disc_in, place_in}
use Rattle.ram_disc.specs.declared.places.Place.{Place}
use Rattle.std.proofs.lemmas.Bool.{false≢true, not-false}
use Rattle.ram_disc.specs.DiscCalls.{after_append}
use Rattle.ram_disc.proofs.TransferCalls.{append-done, append-full, append-kept, lt-of-not, size-kept}
use Rattle.ram_disc.proofs.ValidDisc.{place-number}
use Rattle.ram_disc.proofs.discs.Disc.append.Goals as goal

pub returns-then-not-has_room-clause-answer : goal.returns-then-not-has_room-clause-answer
returns-then-not-has_room-clause-answer c =
    let s = c.self.inside in
    let ns = s.directory.names.items in
    let us = s.directory.used.items in
    let fs = s.directory.unused.items in
    let ps = s.streams in
    let k = c.self.invariant in
    let p = c.in-Some.place in
    let e : place_in ps c.args.stream ≡ Some p = sym c.place_at.ensures ∙ c.in-Some.is in
    let w : p.writes ≡ true = not-false p.writes c.if-not-place.false in
    let full : sectors_of (length (bytes_at s.contents p.slot)) + s.contents.left < sectors_of (length (bytes_at s.contents p.slot) + length c.args.bytes.now) =
    lt-of-not _ _ (λ room. false≢true (sym c.if-not-has_room.true ∙ c.has_room.ensures.1 room)) in
    subst (λ (d : Disc). Err 43 ≡ (after_append d c.args.stream c.args.bytes.now).answer) c.self.view_is
    (sym (ap (λ o. o.answer) (append-full ns s.contents us fs ps k c.args.stream c.args.bytes.now p e w full)))

pub returns-then-not-has_room-clause-disc : goal.returns-then-not-has_room-clause-disc
returns-then-not-has_room-clause-disc c =
    let s = c.self.inside in
    let ns = s.directory.names.items in
    let us = s.directory.used.items in
    let fs = s.directory.unused.items in
    let ps = s.streams in
    let k = c.self.invariant in
    let p = c.in-Some.place in
    let e : place_in ps c.args.stream ≡ Some p = sym c.place_at.ensures ∙ c.in-Some.is in
    let w : p.writes ≡ true = not-false p.writes c.if-not-place.false in
    let full : sectors_of (length (bytes_at s.contents p.slot)) + s.contents.left < sectors_of (length (bytes_at s.contents p.slot) + length c.args.bytes.now) =
    lt-of-not _ _ (λ room. false≢true (sym c.if-not-has_room.true ∙ c.has_room.ensures.1 room)) in
    subst (λ (d : Disc). d ≡ (after_append d c.args.stream c.args.bytes.now).disc) c.self.view_is
    (sym (ap (λ o. o.disc) (append-full ns s.contents us fs ps k c.args.stream c.args.bytes.now p e w full)))

pub after-requires : goal.after-requires
after-requires c =
    let s = c.self.inside in
    let ns = s.directory.names.items in
    let us = s.directory.used.items in
    let fs = s.directory.unused.items in
    let ps = s.streams in
    let k = c.self.invariant in
    let p = c.in-Some.place in
    let e : place_in ps c.args.stream ≡ Some p = sym c.place_at.ensures ∙ c.in-Some.is in
    let w : p.writes ≡ true = not-false p.writes c.if-not-place.false in
    let st = k.streams (c.args.stream - 1) p (place-number ps c.args.stream p e).1 in
    omega (arith, st.within, size-kept ns s.contents us fs ps k p st.is_there, c.requires)

pub invariant_of-self : goal.invariant_of-self
invariant_of-self c =
    let s = c.self.inside in
    let ns = s.directory.names.items in
    let us = s.directory.used.items in
    let fs = s.directory.unused.items in
    let ps = s.streams in
    let k = c.self.invariant in
    let p = c.in-Some.place in
    let e : place_in ps c.args.stream ≡ Some p = sym c.place_at.ensures ∙ c.in-Some.is in
    let w : p.writes ≡ true = not-false p.writes c.if-not-place.false in
    let room : sectors_of (length (bytes_at s.contents p.slot) + length c.args.bytes.now) ≤ sectors_of (length (bytes_at s.contents p.slot)) + s.contents.left =
    c.has_room.ensures.0 c.if-not-has_room.false in
    let b = c.append.new.self in
    let q = c.after.result in
    let slot : q.slot ≡ p.slot = ap (λ (x : Place). x.slot) c.after.ensures in
    let mode : q.writes ≡ p.writes = ap (λ (x : Place). x.writes) c.after.ensures in
    let moved : q.position ≡ p.position + length c.args.bytes.now = ap (λ (x : Place). x.position) c.after.ensures in
    append-kept ns s.contents us fs ps k b c.args.stream c.args.bytes.now p q e w c.append.ensures slot mode moved

pub returns-clause-answer : goal.returns-clause-answer
returns-clause-answer c =
    let s = c.self.inside in
    let ns = s.directory.names.items in
    let us = s.directory.used.items in
    let fs = s.directory.unused.items in
    let ps = s.streams in
    let k = c.self.invariant in
    let p = c.in-Some.place in
    let e : place_in ps c.args.stream ≡ Some p = sym c.place_at.ensures ∙ c.in-Some.is in
    let w : p.writes ≡ true = not-false p.writes c.if-not-place.false in
    let room : sectors_of (length (bytes_at s.contents p.slot) + length c.args.bytes.now) ≤ sectors_of (length (bytes_at s.contents p.slot)) + s.contents.left =
    c.has_room.ensures.0 c.if-not-has_room.false in
    let b = c.append.new.self in
    let q = c.after.result in
    let slot : q.slot ≡ p.slot = ap (λ (x : Place). x.slot) c.after.ensures in
    let mode : q.writes ≡ p.writes = ap (λ (x : Place). x.writes) c.after.ensures in
    let moved : q.position ≡ p.position + length c.args.bytes.now = ap (λ (x : Place). x.position) c.after.ensures in
    subst (λ (d : Disc). Ok tt ≡ (after_append d c.args.stream c.args.bytes.now).answer) c.self.view_is
    (sym (ap (λ o. o.answer) (append-done ns s.contents us fs ps k b c.args.stream c.args.bytes.now p q e w room c.append.ensures slot mode moved)))

pub returns-clause-disc : goal.returns-clause-disc
returns-clause-disc c =
    let s = c.self.inside in
    let ns = s.directory.names.items in
    let us = s.directory.used.items in
    let fs = s.directory.unused.items in
    let ps = s.streams in
    let k = c.self.invariant in
    let p = c.in-Some.place in
    let e : place_in ps c.args.stream ≡ Some p = sym c.place_at.ensures ∙ c.in-Some.is in
    let w : p.writes ≡ true = not-false p.writes c.if-not-place.false in
    let room : sectors_of (length (bytes_at s.contents p.slot) + length c.args.bytes.now) ≤ sectors_of (length (bytes_at s.contents p.slot)) + s.contents.left =
    c.has_room.ensures.0 c.if-not-has_room.false in
    let b = c.append.new.self in
    let q = c.after.result in
    let slot : q.slot ≡ p.slot = ap (λ (x : Place). x.slot) c.after.ensures in
    let mode : q.writes ≡ p.writes = ap (λ (x : Place). x.writes) c.after.ensures in
    let moved : q.position ≡ p.position + length c.args.bytes.now = ap (λ (x : Place). x.position) c.after.ensures in
    subst (λ (d : Disc). disc_in ns b.bytes us (set ps (c.args.stream - 1) (Some q)) ≡ (after_append d c.args.stream c.args.bytes.now).disc) c.self.view_is
    (sym (ap (λ o. o.disc) (append-done ns s.contents us fs ps k b c.args.stream c.args.bytes.now p q e w room c.append.ensures slot mode moved)))

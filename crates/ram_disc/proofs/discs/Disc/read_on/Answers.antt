use Rattle.std.proofs.Common.{◌≡◌, ◌+◌, ◌-◌, ◌/◌, ◌<◌, ◌≤◌, ◌++◌, length, get_or, set, take, drop, min, Some, Ok, sym, ap, ◌∙◌, subst, arith}
use Rattle.ram_disc.specs.Contents.{bytes_at, chain_at}
use Rattle.ram_disc.specs.Disc.{Disc}
use Rattle.ram_disc.specs.Slots.{disc_in, place_in}
use Rattle.ram_disc.specs.declared.places.Place.{Place}
use Rattle.std.proofs.lemmas.List.{length-drop, length-take, length-take-le, take_min}
use Rattle.ram_disc.specs.DiscCalls.{after_read_on, bytes_read}
use Rattle.ram_disc.proofs.TransferCalls.{read-bytes, read-done, read-kept}
use Rattle.ram_disc.proofs.ValidDisc.{place-number}
use Rattle.ram_disc.proofs.discs.Disc.read_on.Goals as goal

pub invariant_of-self : goal.invariant_of-self
invariant_of-self c =
    let s = c.self.inside in
    let ns = s.directory.names.items in
    let us = s.directory.used.items in
    let fs = s.directory.unused.items in
    let ps = s.streams in
    let k = c.self.invariant in
    let p = c.in-Some.place in
    let e : place_in ps c.args.stream ≡ Some p = sym c.place_at.ensures ∙ c.in-Some.is in
    let st = k.streams (c.args.stream - 1) p (place-number ps c.args.stream p e).1 in
    let r = c.if-place.false in
    let n = c.min-count.result in
    let into = c.args.into.now in
    let left = drop p.position (bytes_at s.contents p.slot) in
    let size : length (take (length into) left) ≡ n =
    length-take (length into) left ∙ ap (min (length into)) (length-drop p.position (bytes_at s.contents p.slot) ∙ ap (λ m. m - p.position) (sym c.len.ensures)) ∙ sym c.min-count.ensures in
    let within : p.position + n ≤ length (bytes_at s.contents p.slot) = omega (arith, c.min-count.ensures, c.len.ensures, st.within) in
    let piece : length (take n into) ≡ n = length-take-le n into (omega (arith, c.min-count.ensures)) in
    let q = c.after.result in
    let slot : q.slot ≡ p.slot = ap (λ (x : Place). x.slot) c.after.ensures in
    let mode : q.writes ≡ p.writes = ap (λ (x : Place). x.writes) c.after.ensures in
    let moved : q.position ≡ p.position + n = ap (λ (x : Place). x.position) c.after.ensures in
    let sector : p.position + n < length (bytes_at s.contents p.slot) → q.sector ≡ get_or (chain_at s.contents p.slot) ((p.position + n) / 512) 0 =
    λ less. ap (λ (x : Place). x.sector) c.after.ensures
    ∙ subst (λ m. p.position + m < length (bytes_at s.contents p.slot) → c.read-sector.result ≡ get_or (chain_at s.contents p.slot) ((p.position + m) / 512) 0) piece c.read-sector.ensures.sector less in
    read-kept ns s.contents us fs ps k c.args.stream n p q e r within slot mode moved sector

pub returns-clause-answer : goal.returns-clause-answer
returns-clause-answer c =
    let s = c.self.inside in
    let ns = s.directory.names.items in
    let us = s.directory.used.items in
    let fs = s.directory.unused.items in
    let ps = s.streams in
    let k = c.self.invariant in
    let p = c.in-Some.place in
    let e : place_in ps c.args.stream ≡ Some p = sym c.place_at.ensures ∙ c.in-Some.is in
    let st = k.streams (c.args.stream - 1) p (place-number ps c.args.stream p e).1 in
    let r = c.if-place.false in
    let n = c.min-count.result in
    let into = c.args.into.now in
    let left = drop p.position (bytes_at s.contents p.slot) in
    let size : length (take (length into) left) ≡ n =
    length-take (length into) left ∙ ap (min (length into)) (length-drop p.position (bytes_at s.contents p.slot) ∙ ap (λ m. m - p.position) (sym c.len.ensures)) ∙ sym c.min-count.ensures in
    let within : p.position + n ≤ length (bytes_at s.contents p.slot) = omega (arith, c.min-count.ensures, c.len.ensures, st.within) in
    let piece : length (take n into) ≡ n = length-take-le n into (omega (arith, c.min-count.ensures)) in
    let q = c.after.result in
    let slot : q.slot ≡ p.slot = ap (λ (x : Place). x.slot) c.after.ensures in
    let mode : q.writes ≡ p.writes = ap (λ (x : Place). x.writes) c.after.ensures in
    let moved : q.position ≡ p.position + n = ap (λ (x : Place). x.position) c.after.ensures in
    subst (λ (d : Disc). Ok n ≡ (after_read_on d c.args.stream (length c.args.into.now)).answer) c.self.view_is (sym (ap (λ o. o.answer) (read-done ns s.contents us fs ps k c.args.stream (length into) n p q e r size slot mode moved)))

pub returns-clause-disc : goal.returns-clause-disc
returns-clause-disc c =
    let s = c.self.inside in
    let ns = s.directory.names.items in
    let us = s.directory.used.items in
    let fs = s.directory.unused.items in
    let ps = s.streams in
    let k = c.self.invariant in
    let p = c.in-Some.place in
    let e : place_in ps c.args.stream ≡ Some p = sym c.place_at.ensures ∙ c.in-Some.is in
    let st = k.streams (c.args.stream - 1) p (place-number ps c.args.stream p e).1 in
    let r = c.if-place.false in
    let n = c.min-count.result in
    let into = c.args.into.now in
    let left = drop p.position (bytes_at s.contents p.slot) in
    let size : length (take (length into) left) ≡ n =
    length-take (length into) left ∙ ap (min (length into)) (length-drop p.position (bytes_at s.contents p.slot) ∙ ap (λ m. m - p.position) (sym c.len.ensures)) ∙ sym c.min-count.ensures in
    let within : p.position + n ≤ length (bytes_at s.contents p.slot) = omega (arith, c.min-count.ensures, c.len.ensures, st.within) in
    let piece : length (take n into) ≡ n = length-take-le n into (omega (arith, c.min-count.ensures)) in
    let q = c.after.result in
    let slot : q.slot ≡ p.slot = ap (λ (x : Place). x.slot) c.after.ensures in
    let mode : q.writes ≡ p.writes = ap (λ (x : Place). x.writes) c.after.ensures in
    let moved : q.position ≡ p.position + n = ap (λ (x : Place). x.position) c.after.ensures in
    subst (λ (d : Disc). disc_in ns s.contents.bytes us (set ps (c.args.stream - 1) (Some q)) ≡ (after_read_on d c.args.stream (length c.args.into.now)).disc) c.self.view_is (sym (ap (λ o. o.disc) (read-done ns s.contents us fs ps k c.args.stream (length into) n p q e r size slot mode moved)))

pub returns-clause-bytes : goal.returns-clause-bytes
returns-clause-bytes c =
    let s = c.self.inside in
    let ns = s.directory.names.items in
    let us = s.directory.used.items in
    let fs = s.directory.unused.items in
    let ps = s.streams in
    let k = c.self.invariant in
    let p = c.in-Some.place in
    let e : place_in ps c.args.stream ≡ Some p = sym c.place_at.ensures ∙ c.in-Some.is in
    let st = k.streams (c.args.stream - 1) p (place-number ps c.args.stream p e).1 in
    let r = c.if-place.false in
    let n = c.min-count.result in
    let into = c.args.into.now in
    let left = drop p.position (bytes_at s.contents p.slot) in
    let size : length (take (length into) left) ≡ n =
    length-take (length into) left ∙ ap (min (length into)) (length-drop p.position (bytes_at s.contents p.slot) ∙ ap (λ m. m - p.position) (sym c.len.ensures)) ∙ sym c.min-count.ensures in
    let within : p.position + n ≤ length (bytes_at s.contents p.slot) = omega (arith, c.min-count.ensures, c.len.ensures, st.within) in
    let piece : length (take n into) ≡ n = length-take-le n into (omega (arith, c.min-count.ensures)) in
    let q = c.after.result in
    let slot : q.slot ≡ p.slot = ap (λ (x : Place). x.slot) c.after.ensures in
    let mode : q.writes ≡ p.writes = ap (λ (x : Place). x.writes) c.after.ensures in
    let moved : q.position ≡ p.position + n = ap (λ (x : Place). x.position) c.after.ensures in
    let got : bytes_read (disc_in ns s.contents.bytes us ps) c.args.stream (length into) ≡ take (length into) left = read-bytes ns s.contents us fs ps k c.args.stream (length into) p e r in
    let same : c.read-sector.new.into ≡ take (length into) left =
    c.read-sector.ensures.bytes ∙ ap (λ m. take m left) (piece ∙ sym size ∙ length-take (length into) left) ∙ take_min (length into) left in
    subst (λ (d : Disc). c.read-sector.new.into ++ drop n into ≡ bytes_read d c.args.stream (length into) ++ drop (length (bytes_read d c.args.stream (length into))) into) c.self.view_is
    (ap (λ xs. xs ++ drop n into) (same ∙ sym got)
    ∙ ap (λ m. bytes_read (disc_in ns s.contents.bytes us ps) c.args.stream (length into) ++ drop m into) (sym size ∙ ap length (sym got)))

use Rattle.std.proofs.Common.{◌≡◌, ◌-◌, set, not, None, Ok, Err, true, false, sym, ap, ◌∙◌, subst}
use Rattle.std.specs.Option.{is_some}
use Rattle.ram_disc.specs.Disc.{Disc}
use Rattle.ram_disc.specs.DiscCalls.{after_close}
use Rattle.ram_disc.specs.Slots.{disc_in, place_in}
use Rattle.ram_disc.proofs.Calls.{close-done, close-none, number-inside}
use Rattle.ram_disc.proofs.KeptStreams.{keep-none}
use Rattle.ram_disc.proofs.discs.Disc.close.Goals as goal

pub invariant_of-self : goal.invariant_of-self
invariant_of-self c =
    let s = c.self.inside in
    let some : is_some (place_in s.streams c.args.stream) ≡ true = ap is_some (sym c.place_at.ensures) ∙ c.is_none.ensures ∙ ap not c.if-is_none.false in
    keep-none s.directory.names.items s.contents s.directory.used.items s.directory.unused.items s.streams (c.args.stream - 1) c.self.invariant
    (number-inside s.directory.names.items s.contents s.directory.used.items s.directory.unused.items s.streams c.args.stream c.self.invariant some)

pub returns-clause-disc : goal.returns-clause-disc
returns-clause-disc c =
    let s = c.self.inside in
    let some : is_some (place_in s.streams c.args.stream) ≡ true = ap is_some (sym c.place_at.ensures) ∙ c.is_none.ensures ∙ ap not c.if-is_none.false in
    subst (λ (d : Disc). disc_in s.directory.names.items s.contents.bytes s.directory.used.items (set s.streams (c.args.stream - 1) None) ≡ (after_close d c.args.stream).disc)
    c.self.view_is
    (sym (ap (λ o. o.disc) (close-done s.directory.names.items s.contents s.directory.used.items s.directory.unused.items s.streams c.args.stream some)))

pub returns-clause-answer : goal.returns-clause-answer
returns-clause-answer c =
    let s = c.self.inside in
    let some : is_some (place_in s.streams c.args.stream) ≡ true = ap is_some (sym c.place_at.ensures) ∙ c.is_none.ensures ∙ ap not c.if-is_none.false in
    subst (λ (d : Disc). Ok tt ≡ (after_close d c.args.stream).answer) c.self.view_is
    (sym (ap (λ o. o.answer) (close-done s.directory.names.items s.contents s.directory.used.items s.directory.unused.items s.streams c.args.stream some)))

pub returns-then-is_none-clause-answer : goal.returns-then-is_none-clause-answer
returns-then-is_none-clause-answer c =
    let s = c.self.inside in
    let none : is_some (place_in s.streams c.args.stream) ≡ false = ap is_some (sym c.place_at.ensures) ∙ c.is_none.ensures ∙ ap not c.if-is_none.true in
    subst (λ (d : Disc). Err 46 ≡ (after_close d c.args.stream).answer) c.self.view_is
    (sym (ap (λ o. o.answer) (close-none s.directory.names.items s.contents s.directory.used.items s.directory.unused.items s.streams c.args.stream none)))

pub returns-then-is_none-clause-disc : goal.returns-then-is_none-clause-disc
returns-then-is_none-clause-disc c =
    let s = c.self.inside in
    let none : is_some (place_in s.streams c.args.stream) ≡ false = ap is_some (sym c.place_at.ensures) ∙ c.is_none.ensures ∙ ap not c.if-is_none.true in
    subst (λ (d : Disc). d ≡ (after_close d c.args.stream).disc) c.self.view_is
    (sym (ap (λ o. o.disc) (close-none s.directory.names.items s.contents s.directory.used.items s.directory.unused.items s.streams c.args.stream none)))

use Rattle.std.proofs.Common.{◌≡◌, length, Some, None, refl, sym, ap, ◌∙◌, subst}
use Rattle.std.specs.Option.{option_map}
use Rattle.ram_disc.specs.Contents.{bytes_at}
use Rattle.ram_disc.specs.Disc.{Disc, IsDisc}
use Rattle.ram_disc.specs.DiscCalls.{size_of}
use Rattle.ram_disc.specs.Slots.{disc_in}
use Rattle.ram_disc.proofs.SlotLemmas.{file_named-at, file_named-none}
use Rattle.ram_disc.proofs.ValidDisc.{valid-kept}
use Rattle.ram_disc.proofs.discs.Disc.size.Goals as goal

pub returns-in_default-clause-value : goal.returns-in_default-clause-value
returns-in_default-clause-value c =
    let s = c.self.inside in
    subst (λ (d : Disc). None ≡ size_of d c.args.name.now) c.self.view_is
    (sym (ap (option_map (λ f. length f.bytes))
    (file_named-none s.directory.names.items s.contents.bytes s.directory.used.items s.directory.unused.items
    (disc_in s.directory.names.items s.contents.bytes s.directory.used.items s.streams) (record { slots = c.self.invariant.slots; files = refl })
    c.args.name.now c.in_default.field-0 c.in_default.ensures.place)))

pub returns-in_default-clause-valid : goal.returns-in_default-clause-valid
returns-in_default-clause-valid c = subst IsDisc c.self.view_is (valid-kept _ _ _ _ _ c.self.invariant)

pub returns-clause-value : goal.returns-clause-value
returns-clause-value c =
    let s = c.self.inside in
    subst (λ (d : Disc). Some c.len.result ≡ size_of d c.args.name.now) c.self.view_is
    (ap Some (c.len.ensures ∙ ap (λ t. length (bytes_at s.contents t)) c.slot_at-slot.ensures)
    ∙ sym (ap (option_map (λ f. length f.bytes))
    (file_named-at s.directory.names.items s.contents.bytes s.directory.used.items s.directory.unused.items
    (disc_in s.directory.names.items s.contents.bytes s.directory.used.items s.streams) (record { slots = c.self.invariant.slots; files = refl })
    c.args.name.now c.in-Ok.place c.in-Ok.ensures.place)))

pub returns-clause-valid : goal.returns-clause-valid
returns-clause-valid c = subst IsDisc c.self.view_is (valid-kept _ _ _ _ _ c.self.invariant)

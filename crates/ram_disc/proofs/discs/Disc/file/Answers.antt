use Rattle.std.proofs.Common.{◌≡◌, Some, None, refl, sym, ap, ◌∙◌, subst}
use Rattle.std.specs.Option.{option_map}
use Rattle.ram_disc.specs.Contents.{bytes_at}
use Rattle.ram_disc.specs.Disc.{Disc, file_named}
use Rattle.ram_disc.specs.Slots.{disc_in}
use Rattle.ram_disc.proofs.SlotLemmas.{file_named-at, file_named-none}
use Rattle.ram_disc.proofs.discs.Disc.file.Goals as goal

pub returns-in_default : goal.returns-in_default
returns-in_default c =
    let s = c.self.inside in
    subst (λ (d : Disc). None ≡ option_map (λ f. f.bytes) (file_named d c.args.name.now)) c.self.view_is
    (sym (ap (option_map (λ f. f.bytes))
    (file_named-none s.directory.names.items s.contents.bytes s.directory.used.items s.directory.unused.items
    (disc_in s.directory.names.items s.contents.bytes s.directory.used.items s.streams) (record { slots = c.self.invariant.slots; files = refl })
    c.args.name.now c.in_default.field-0 c.in_default.ensures.place)))

pub returns : goal.returns
returns c =
    let s = c.self.inside in
    subst (λ (d : Disc). Some c.text.result ≡ option_map (λ f. f.bytes) (file_named d c.args.name.now)) c.self.view_is
    (ap Some (c.text.ensures ∙ ap (bytes_at s.contents) c.slot_at-slot.ensures)
    ∙ sym (ap (option_map (λ f. f.bytes))
    (file_named-at s.directory.names.items s.contents.bytes s.directory.used.items s.directory.unused.items
    (disc_in s.directory.names.items s.contents.bytes s.directory.used.items s.streams) (record { slots = c.self.invariant.slots; files = refl })
    c.args.name.now c.in-Ok.place c.in-Ok.ensures.place)))

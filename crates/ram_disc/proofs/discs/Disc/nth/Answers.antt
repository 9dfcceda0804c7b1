use Rattle.std.proofs.Common.{[], ◌≡◌, ◌-◌, ◌<◌, length, get_or, cond, Some, None, sym, ap, ◌∙◌, subst, arith}
use Rattle.std.specs.List.{slice_get}
use Rattle.std.specs.Option.{option_map}
use Rattle.std.proofs.lemmas.Bool.{ne_eqb}
use Rattle.std.proofs.lemmas.Option.{slice_get-get_or}
use Rattle.ram_disc.specs.Contents.{bytes_at}
use Rattle.ram_disc.specs.Disc.{Disc}
use Rattle.ram_disc.specs.DiscCalls.{file, nth_of}
use Rattle.ram_disc.specs.Slots.{disc_in, files_in, name_in}
use Rattle.ram_disc.proofs.SlotLemmas.{get_or-files, length-files, used-inside}
use Rattle.ram_disc.proofs.discs.Disc.nth.Goals as goal

pub name_of-requires : goal.name_of-requires
name_of-requires c =
    let s = c.self.inside in
    let us = s.directory.used.items in
    let lt : c.args.k - 1 < length us = omega (arith, c.if-k-len.false, c.if-k-eq0.false, c.len.ensures.value) in
    omega (arith, c.slot_at-slot.ensures, used-inside s.directory.names.items us s.directory.unused.items c.self.invariant.slots (c.args.k - 1) lt)

pub returns : goal.returns
returns c =
    let s = c.self.inside in
    let ns = s.directory.names.items in
    let us = s.directory.used.items in
    let k = c.args.k in
    let lt : k - 1 < length us = omega (arith, c.if-k-len.false, c.if-k-eq0.false, c.len.ensures.value) in
    let fs = files_in ns s.contents.bytes us in
    let d = disc_in ns s.contents.bytes us s.streams in
    let is : nth_of d k ≡ Some (name_in ns (get_or us (k - 1) 0), length (bytes_at s.contents (get_or us (k - 1) 0))) =
    ap (λ b. cond b None (option_map (λ f. (f.name, length f.bytes)) (slice_get fs (k - 1)))) (ne_eqb k 0 c.if-k-eq0.false)
    ∙ ap (option_map (λ f. (f.name, length f.bytes))) (slice_get-get_or fs (k - 1) (file [] []) (omega (arith, lt, length-files ns s.contents.bytes us))
    ∙ ap Some (get_or-files ns s.contents.bytes us (k - 1) (file [] []) lt)) in
    let name : c.name_of.result ≡ name_in ns (get_or us (k - 1) 0) = c.name_of.ensures ∙ ap (name_in ns) c.slot_at-slot.ensures in
    let size : c.len-2.result ≡ length (bytes_at s.contents (get_or us (k - 1) 0)) = c.len-2.ensures ∙ ap (λ t. length (bytes_at s.contents t)) c.slot_at-slot.ensures in
    subst (λ (d : Disc). Some (c.name_of.result, c.len-2.result) ≡ nth_of d k) c.self.view_is
    (ap (λ n. Some (n, c.len-2.result)) name ∙ ap (λ n. Some (name_in ns (get_or us (k - 1) 0), n)) size ∙ sym is)

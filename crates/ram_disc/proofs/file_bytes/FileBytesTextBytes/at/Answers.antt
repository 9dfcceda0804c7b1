use Rattle.std.proofs.Common.{◌≡◌, ◌<◌, ◌+◌, ◌*◌, ◌/◌, ◌%◌, Some, length, get_or, sym, ap, ◌∙◌, arith}
use Rattle.std.proofs.lemmas.Option.{slice_get-get_or, slice_get_past}
use Rattle.std.specs.List.{slice_get}
use Rattle.ram_disc.specs.Contents.{bytes_in, place_in}
use Rattle.ram_disc.proofs.ContentsLemmas.{get_or-bytes, length-bytes}
use Rattle.ram_disc.proofs.file_bytes.FileBytesTextBytes.at.Goals as goal

pub returns-then-i-self : goal.returns-then-i-self
returns-then-i-self c =
    let f = c.self.inside in
    sym (slice_get_past c.args.self.now c.args.i (omega (arith, ap length (sym c.self.view_is), length-bytes f.bytes.now f.sectors.now f.size, c.if-i-self.true)))

pub returns : goal.returns
returns c =
    let f = c.self.inside in
    let i = c.args.i in
    let all = bytes_in f.bytes.now f.sectors.now f.size in
    let lt : i < f.size = omega (arith, c.if-i-self.false) in
    let place : get_or f.sectors.now (i / 512) 0 * 512 + i % 512 ≡ place_in f.sectors.now i = omega arith in
    sym (ap (λ xs. slice_get xs i) (sym c.self.view_is)
    ∙ slice_get-get_or all i 0 (omega (arith, lt, length-bytes f.bytes.now f.sectors.now f.size))
    ∙ ap Some (get_or-bytes f.bytes.now f.sectors.now f.size i lt ∙ ap (λ p. get_or f.bytes.now p 0) (sym place)))

use Rattle.std.proofs.Common.{◌≡◌, ◌∙◌, ◌+◌, ◌≤◌, length, take, drop, ap, arith}
use Rattle.ram_disc.specs.Contents.{bytes_at}
use Rattle.ram_disc.proofs.PutBytes.{length-with_piece, read-more}
use Rattle.ram_disc.proofs.contents.Contents.read.Goals as goal

pub loop-done-preserved : goal.loop-done-preserved
loop-done-preserved c =
    let all = bytes_at c.args.self.now c.args.slot in
    let done = c.loop-done.done in
    let piece = c.piece-piece.result.now in
    let n = length piece in
    let fits : done + n ≤ length c.loop-done.into = omega (arith, c.piece-piece.ensures.most, c.loop-done-test.true) in
    let size : length c.put_at.new.list ≡ length c.args.into.now = ap length c.put_at.ensures ∙ length-with_piece c.loop-done.into done piece fits ∙ c.loop-done.invariant.size in
    record {
      place = omega (arith, c.loop-done.invariant.place);
      size = size;
      reach = omega (arith, fits, size, c.loop-done.invariant.size);
      here = c.sector_after-sector.ensures.sector;
      text = ap (take (done + n)) c.put_at.ensures
          ∙ read-more c.loop-done.into all piece c.args.position done fits c.loop-done.invariant.text
          (c.piece-piece.ensures.bytes ∙ ap (λ p. take n (drop p all)) c.loop-done.invariant.place);
    }

use Rattle.std.proofs.Common.{◌≡◌, ◌∙◌, ◌+◌, ◌-◌, ◌++◌, take, drop, sym, subst, ap, arith, take-add}
use Rattle.ram_disc.specs.Contents.{Adds}
use Rattle.ram_disc.proofs.ContentsLemmas.{Adds-more}
use Rattle.ram_disc.proofs.contents.Contents.append.Goals as goal

pub loop-done-preserved : goal.loop-done-preserved
loop-done-preserved c =
    let old = c.args.self.now in
    let bytes = c.args.bytes.now in
    let done = c.loop-done.done in
    let n = c.min.result in
    let piece = take (done + n - done) (drop done bytes) in
    let count : n ≡ done + n - done = omega arith in
    let more : take (done + n) bytes ≡ take done bytes ++ piece = take-add done n bytes ∙ ap (λ k. take done bytes ++ take k (drop done bytes)) count in
    record {
      reach = omega arith;
      adds = subst (Adds old c.push.new.self c.args.slot) (sym more)
          (Adds-more old c.loop-done.self c.push.new.self c.args.slot (take done bytes) piece (omega (arith, c.requires.slot, c.requires.slots)) c.loop-done.invariant.adds c.push.ensures);
    }

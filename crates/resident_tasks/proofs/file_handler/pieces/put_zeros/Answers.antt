use Rattle.std.proofs.Common.{◌≡◌, ◌∙◌, ℕ, ◌≤◌, ◌++◌, length, replicate, take, ap, arith, append_assoc}
use Rattle.std.proofs.lemmas.List.{length-replicate, replicate-append-replicate, take-replicate}
use Rattle.resident_tasks.proofs.file_handler.pieces.put_zeros.Goals as goal

pub loop-done-preserved : goal.loop-done-preserved
loop-done-preserved c =
    let old = c.args.bytes.now.items in
    let done = c.loop-done.done in
    let n = c.min-some.result in
    let few : n ≤ 64 = omega arith in
    let zeros : take n (replicate {A = ℕ} 64 0) ≡ replicate n 0 = take-replicate n 64 0 few in
    let size : length (take n (replicate {A = ℕ} 64 0)) ≡ n = ap length zeros ∙ length-replicate n 0 in
    record {
      reach = omega arith;
      sofar = c.put_all.ensures.items ∙ (λ k. c.loop-done.invariant.sofar k ++ zeros k)
          ∙ append_assoc old (replicate done 0) (replicate n 0) ∙ ap (λ more. old ++ more) (replicate-append-replicate done n 0);
      len = omega (arith, c.put_all.ensures.count, c.loop-done.invariant.len, size);
    }

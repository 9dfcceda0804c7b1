use Rattle.std.proofs.Common.{◌+◌, ◌∙◌, [], ◌∷◌, ◌++◌, sym, ap, arith}
use Rattle.std.proofs.lemmas.List.FromFn.{map-range_with_len_more}
use Rattle.resident_tasks.specs.ResidentRequests.Buffers.{byte_in}
use Rattle.resident_tasks.proofs.resident_requests.names.name_bytes.Goals as goal

pub loop-i-preserved : goal.loop-i-preserved
loop-i-preserved c = record {
  items =
      c.push.ensures.items
      ∙ (λ k. c.loop-i.invariant.items k ++ c.byte_in.ensures k ∷ [])
      ∙ sym (map-range_with_len_more (byte_in c.args.store.now c.args.a) 1 c.loop-i.i (c.loop-i.i + 1) (omega arith));
  count = c.push.ensures.len ∙ ap (λ n. n + 1) c.loop-i.invariant.count;
}

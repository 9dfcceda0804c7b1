use Rattle.std.proofs.Common.{◌≡◌, ◌∙◌, ◌+◌, ◌*◌, ◌≤◌, ◌++◌, Result, Ok, Err, length, take, refl, sym, ap, arith}
use Rattle.std.specs.Prelude.{OnOk}
use Rattle.std.specs.Int.{w32, to_le_bytes}
use Rattle.resident_tasks.proofs.ResidentRequests.WordBytes.{front-bytes, word-more}
use Rattle.resident_tasks.proofs.resident_requests.buffers.read_buffer_into.Goals as goal

on-ok : {T E : Type 0} (r : Result T E) (x : T) (P : Type 0) → r ≡ Ok x → OnOk r P → P
on-ok (Ok y) x P ok p = p
on-ok (Err e) x P ok p = cc

pub loop-i-preserved : goal.loop-i-preserved
loop-i-preserved c =
    let s = c.args.store.now in
    let a = c.args.a in
    let i = c.loop-i.i in
    let word = c.to_le_bytes-word.ensures ∙ ap (to_le_bytes w32) c.word_at.ensures in
    let four : length c.to_le_bytes-word.result ≡ 4 = ap length word in
    record {
      items = on-ok c.try_extend_from_slice.result c.unwrap.result _ c.unwrap.ensures c.try_extend_from_slice.ensures.ok
          ∙ (λ k. c.loop-i.invariant.items k ++ word k) ∙ sym (word-more s a i (4 * (i + 1)) refl);
      count = omega (arith, on-ok c.try_extend_from_slice.result c.unwrap.result _ c.unwrap.ensures c.try_extend_from_slice.ensures.len, c.loop-i.invariant.count, four);
    }

pub returns : goal.returns
returns c =
    let s = c.args.store.now in
    let a = c.args.a in
    let all : c.args.n ≤ 4 * c.loop-i.i = omega (arith, c.covered-i-end.ensures, c.loop-i-test.false) in
    c.truncate.ensures.items ∙ ap (take c.args.n) c.loop-i.invariant.items ∙ front-bytes s a c.args.n (4 * c.loop-i.i) all

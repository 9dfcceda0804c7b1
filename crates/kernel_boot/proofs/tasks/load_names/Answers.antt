use Rattle.std.proofs.Common.{◌∙◌, ◌+◌, ℕ, List, Ok, drop, sym, ap, arith}
use Rattle.std.proofs.lemmas.List.{at_drop_all}
use Rattle.kernel_model.specs.KernelRecord.Lists.{Lists}
use Rattle.kernel_boot.specs.BootTasks.{load_named, load_names}
use Rattle.kernel_model.specs.KernelRecord.StoreWithLists.{store_with_lists}
use Rattle.kernel_boot.proofs.StoresAfterCalls.{keeper-made, names-next}
use Rattle.kernel_boot.proofs.tasks.load_names.Goals as goal

pub loop-name-preserved : goal.loop-name-preserved
loop-name-preserved g c = record {
  count = omega (arith, c.push.ensures.len);
  room = c.load_named.ensures.room ∙ c.loop-name.invariant.room;
  so_far = λ h k.
      let d = c.args.disc.now in
      let names : List (List ℕ) = c.args.names.now in
      let i : ℕ = c.loop-name.name-index in
      let s : List ℕ = c.loop-name.store in
      let t : List ℕ = c.load_named.new.store in
      let tells = g.Q.KindKeeper.tells c.load_named.new.kinds in
      let before = c.loop-name.invariant.so_far h k in
      let l : Lists = before.0 in
      let name : List ℕ = c.name-item.result in
      let m : ℕ = c.in_ok-load_named.field-0 in
      let made = c.in_ok-load_named.ensures.made l before.1 in (
        (load_named d name l).lists,
        keeper-made s t tells (Ok m) (load_named d name l) made (g.Q.KindKeeper.room c.load_named.new.kinds) (omega (arith, before.1.enough, c.load_named.ensures.room)),
        ap (λ ms. load_names d (drop (i + 1) names) ms (store_with_lists t (load_named d name l).lists)) c.push.ensures.items
            ∙ sym (names-next d names i name s t tells (Ok m) c.loop-name.modules.items l c.loop-name-test.true c.name-item.is made) ∙ before.2,
      );
}

pub returns-clause-loaded : goal.returns-clause-loaded
returns-clause-loaded g c = λ l k.
    let before = c.loop-name.invariant.so_far l k in (
      before.0,
      sym before.2 ∙ at_drop_all (λ ns. load_names c.args.disc.now ns c.loop-name.modules.items (store_with_lists c.loop-name.store before.0)) c.args.names.now c.loop-name.name-index c.loop-name-test.false,
      before.1,
    )

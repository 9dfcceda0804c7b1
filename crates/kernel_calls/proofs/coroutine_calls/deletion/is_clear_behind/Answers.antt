use Rattle.std.proofs.Common.{◌≡◌, ◌∙◌, ◌+◌, ◌-◌, ◌≤◌, ℕ, refl, subst, arith}
use Rattle.std.specs.Prelude.{◌↔◌, IsTrue}
use Rattle.kernel_lists.specs.GetvecChain.Block.{block_end}
use Rattle.kernel_model.specs.KernelRecord.Changes.{AreUnowned}
use Rattle.kernel_calls.proofs.CoroutineCalls.DeletedCoroutine.{roomy-block}
use Rattle.kernel_calls.proofs.coroutine_calls.deletion.is_clear_behind.Goals as goal

pub overflow_sub-c : goal.overflow_sub-c
overflow_sub-c g c = (let r = roomy-block c.args.store.now c.requires.0 c.args.c c.requires.1 c.requires.2.lists c.requires.3 in omega (arith, r.low))

pub address_of-behind-requires : goal.address_of-behind-requires
address_of-behind-requires g c =
    let r = roomy-block c.args.store.now c.requires.0 c.args.c c.requires.1 c.requires.2.lists c.requires.3 in
    omega (arith, r.room, r.end, r.inside)

pub overflow_sub-size : goal.overflow_sub-size
overflow_sub-size g c =
    let r = roomy-block c.args.store.now c.requires.0 c.args.c c.requires.1 c.requires.2.lists c.requires.3 in
    omega (arith, c.word-size.ensures, r.word, r.room)

pub overflow_sub-size-2 : goal.overflow_sub-size-2
overflow_sub-size-2 g c =
    let r = roomy-block c.args.store.now c.requires.0 c.args.c c.requires.1 c.requires.2.lists c.requires.3 in
    omega (arith, c.word-size.ensures, r.word, r.room)

pub are_unowned-requires : goal.are_unowned-requires
are_unowned-requires g c = (c.requires.0, c.requires.2)

-- the words from behind those of the coroutine up to the block's end
up-to : (c size a w end : ℕ) → a ≡ c + 10 → w ≡ size → 11 ≤ size → c + size ≡ end + 1 → a + (w - 1 - 10) ≡ end
up-to c size a w end at is room all = omega arith

pub returns : goal.returns
returns g c = λ l b k roomy.
    let r = roomy-block c.args.store.now l c.args.c b k.lists roomy in
    subst (λ e. IsTrue c.are_unowned.result ↔ AreUnowned l (c.args.c + 10) e)
    (up-to c.args.c b.size (c.args.c + 10) c.word-size.result (block_end b) refl (c.word-size.ensures ∙ r.word) r.room r.end)
    (subst (λ a. IsTrue c.are_unowned.result ↔ AreUnowned l a (a + (c.word-size.result - 1 - 10))) c.address_of-behind.ensures (c.are_unowned.ensures l k))

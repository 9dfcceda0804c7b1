use Rattle.std.proofs.Common.{◌≡◌, ◌∙◌, sym, subst, ap, set, arith, ◌∷◌, [], ◌+◌, ℕ, List}
use Rattle.word_store.specs.Row.{with_words}
use Rattle.kernel_lists.specs.GetvecChain.Take.{IsTaken}
use Rattle.kernel_lists.specs.GetvecChain.Tiling.{blocks_in}
use Rattle.kernel_lists.specs.TaskBlock.Lists.{coroutines_in}
use Rattle.kernel_lists.specs.Coroutines.Active.{active_in}
use Rattle.kernel_lists.proofs.Coroutines.CoroutineLists.{Built}
use Rattle.kernel_lists.proofs.Coroutines.NewCoroutine.{create-blocks, create-built, made, made-room}
use Rattle.kernel_lists.proofs.coroutine_lists.creation.create.Goals as goal
use Rattle.kernel_lists.proofs.coroutine_lists.creation.create.Goals.{After-set_field}

pub address_of-bottom-requires : goal.address_of-bottom-requires
address_of-bottom-requires c =
    omega (
      arith,
      made-room c.args.store.now c.take_from-c.new.store c.args.t c.take_from-c.result c.args.u c.requires.coroutines.tiled
          (subst (λ z. IsTaken c.args.store.now c.take_from-c.new.store z c.take_from-c.result) c.max-highest.ensures c.take_from-c.ensures.taken),
    )

pub set_words-requires : goal.set_words-requires
set_words-requires c =
    made-room c.args.store.now c.take_from-c.new.store c.args.t c.take_from-c.result c.args.u c.requires.coroutines.tiled
    (subst (λ z. IsTaken c.args.store.now c.take_from-c.new.store z c.take_from-c.result) c.max-highest.ensures c.take_from-c.ensures.taken)

-- the words that are written, one after the other
words : (c : After-set_field) → c.set_field.new.store ≡ made c.args.store.now c.take_from-c.new.store c.args.t c.take_from-c.result c.args.entry c.args.u
words c =
    let x : List ℕ = c.take_from-c.new.store in
    let at : ℕ = c.take_from-c.result in
    let entry : ℕ = c.args.entry in
    c.set_field.ensures ∙ ap (λ z. set z (c.args.t + 17) at) c.set_words.ensures
    ∙ (λ i. set (with_words x at (c.address_of-bottom.ensures i ∷ 0 ∷ c.field-next.ensures i ∷ entry ∷ c.max-highest.ensures i ∷ at ∷ entry ∷ 0 ∷ 0 ∷ entry ∷ [])) (c.args.t + 17) at)

after : (c : After-set_field) → Built c.set_field.new.store c.args.t (c.take_from-c.result ∷ coroutines_in c.args.store.now c.args.t) (active_in c.args.store.now c.args.t)
after c =
    subst (λ z. Built z c.args.t (c.take_from-c.result ∷ coroutines_in c.args.store.now c.args.t) (active_in c.args.store.now c.args.t)) (sym (words c))
    (create-built c.args.store.now c.take_from-c.new.store c.args.t c.take_from-c.result c.args.entry c.args.u c.requires.coroutines
    (subst (λ z. IsTaken c.args.store.now c.take_from-c.new.store z c.take_from-c.result) c.max-highest.ensures c.take_from-c.ensures.taken))

pub returns-clause-coroutines : goal.returns-clause-coroutines
returns-clause-coroutines c = (after c).list

pub returns-clause-active : goal.returns-clause-active
returns-clause-active c = (after c).active

pub returns-clause-valid : goal.returns-clause-valid
returns-clause-valid c = (after c).valid

pub returns-clause-blocks : goal.returns-clause-blocks
returns-clause-blocks c =
    ap blocks_in (words c)
    ∙ create-blocks c.args.store.now c.take_from-c.new.store c.args.t c.take_from-c.result c.args.entry c.args.u c.requires.coroutines
    (subst (λ z. IsTaken c.args.store.now c.take_from-c.new.store z c.take_from-c.result) c.max-highest.ensures c.take_from-c.ensures.taken)

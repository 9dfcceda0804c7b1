use Rattle.std.proofs.Common.{◌≡◌, ◌∙◌, Bool, not, true, false, refl, sym}
use Rattle.std.proofs.lemmas.Bool.{eq-eqb, ne_eqb}
use Rattle.kernel_lists.proofs.HunkLoader.HeldModuleLists.{held-modules}
use Rattle.kernel_model.proofs.KernelRecord.WalkedLists.{can-walk}
use Rattle.kernel_calls.proofs.CallAnswers.FoundTask.{reads}
use Rattle.kernel_calls.proofs.CallAnswers.ListedModules.{module-told}
use Rattle.kernel_calls.proofs.ModuleCalls.AdditionTests.{count-told, dead-told, fits-told, heads-inside, room-told, tests-by, tests-not_dead}
use Rattle.kernel_calls.proofs.module_calls.addition.check_addition.Goals as goal

full-of : (b : Bool) → not b ≡ true → b ≡ false
full-of true e = cc
full-of false e = refl

room-of : (b : Bool) → not b ≡ false → b ≡ true
room-of true e = refl
room-of false e = cc

pub returns-then-not-is_dead : goal.returns-then-not-is_dead
returns-then-not-is_dead c = λ l id g h.
    tests-not_dead c.args.store.now l id c.args.m (sym (dead-told c.args.store.now l id c.args.task h g) ∙ sym c.is_dead.ensures ∙ c.if-not-is_dead.true)

pub is_module-requires : goal.is_module-requires
is_module-requires c = (can-walk c.args.store.now c.requires.0 c.requires.2).modules

pub returns-then-not-is_module : goal.returns-then-not-is_module
returns-then-not-is_module c = λ l id g h.
    tests-by c.args.store.now l id c.args.m false _ _ (sym (dead-told c.args.store.now l id c.args.task h g) ∙ sym c.is_dead.ensures ∙ c.if-not-is_dead.false)
    (sym (module-told c.args.store.now l c.args.m h) ∙ sym c.is_module.ensures ∙ c.if-not-is_module.true) refl refl

pub count_modules-count-requires : goal.count_modules-count-requires
count_modules-count-requires c = heads-inside c.args.store.now c.requires.0 c.requires.1 c.args.task c.requires.2 c.requires.3

pub returns-then-count-most_modules : goal.returns-then-count-most_modules
returns-then-count-most_modules c = λ l id g h.
    let count = c.count_modules-count.ensures ∙ count-told c.args.store.now l id c.args.task h g in
    let full = full-of _ (sym (room-told c.args.store.now l id c.args.task h g c.count_modules-count.result count) ∙ eq-eqb c.count_modules-count.result _ (c.if-count-most_modules.true ∙ c.most_modules.ensures)) in
    tests-by c.args.store.now l id c.args.m true false _ (sym (dead-told c.args.store.now l id c.args.task h g) ∙ sym c.is_dead.ensures ∙ c.if-not-is_dead.false)
    (sym (module-told c.args.store.now l c.args.m h) ∙ sym c.is_module.ensures ∙ c.if-not-is_module.false) full refl

pub globals_fit-requires-clause-modules : goal.globals_fit-requires-clause-modules
globals_fit-requires-clause-modules c = (held-modules c.args.store.now c.requires.0.modules (reads c.args.store.now c.requires.0 c.requires.2).modules).modules

pub returns-then-not-globals_fit : goal.returns-then-not-globals_fit
returns-then-not-globals_fit c = λ l id g h.
    let count = c.count_modules-count.ensures ∙ count-told c.args.store.now l id c.args.task h g in
    let room = room-of _ (sym (room-told c.args.store.now l id c.args.task h g c.count_modules-count.result count) ∙ ne_eqb c.count_modules-count.result _ (λ e. c.if-count-most_modules.false (e ∙ sym c.most_modules.ensures))) in
    tests-by c.args.store.now l id c.args.m true true false (sym (dead-told c.args.store.now l id c.args.task h g) ∙ sym c.is_dead.ensures ∙ c.if-not-is_dead.false)
    (sym (module-told c.args.store.now l c.args.m h) ∙ sym c.is_module.ensures ∙ c.if-not-is_module.false) room
    (sym (fits-told c.args.store.now c.args.m c.globals_fit.result c.globals_fit.ensures) ∙ c.if-not-globals_fit.true)

pub returns : goal.returns
returns c = λ l id g h.
    let count = c.count_modules-count.ensures ∙ count-told c.args.store.now l id c.args.task h g in
    let room = room-of _ (sym (room-told c.args.store.now l id c.args.task h g c.count_modules-count.result count) ∙ ne_eqb c.count_modules-count.result _ (λ e. c.if-count-most_modules.false (e ∙ sym c.most_modules.ensures))) in (
      tests-by c.args.store.now l id c.args.m true true true (sym (dead-told c.args.store.now l id c.args.task h g) ∙ sym c.is_dead.ensures ∙ c.if-not-is_dead.false)
          (sym (module-told c.args.store.now l c.args.m h) ∙ sym c.is_module.ensures ∙ c.if-not-is_module.false) room
          (sym (fits-told c.args.store.now c.args.m c.globals_fit.result c.globals_fit.ensures) ∙ c.if-not-globals_fit.false),
      count,
    )

use Rattle.std.proofs.Common.{◌≡◌, ◌∙◌, ℕ, ◌+◌, ◌-◌, List, Bool, true, false, Result, Ok, Err, length, get_or, refl, ap, subst, arith}
use Rattle.std.specs.Prelude.{IsOk, OnErr, OnOk}
use Rattle.std.proofs.lemmas.Result.{err_from_is_err_and}
use Rattle.kernel_lists.specs.GetvecChain.Block.{block_end}
use Rattle.kernel_lists.specs.GetvecChain.Give.{given_store}
use Rattle.kernel_lists.proofs.HunkLoader.HeldModuleLists.{held-modules}
use Rattle.kernel_lists.specs.LinkedList.Places.{without_node}
use Rattle.kernel_lists.specs.TaskBlock.Lists.{module_link}
use Rattle.kernel_model.specs.KernelRecord.HoldsLists.{HoldsLists}
use Rattle.kernel_model.specs.KernelRecord.Lists.{Lists}
use Rattle.kernel_calls.specs.CallAnswers.Refusals.{answer_of, first_refusal}
use Rattle.kernel_calls.proofs.CallAnswers.FoundTask.{reads}
use Rattle.kernel_calls.proofs.CallAnswers.Refusals.{answer_of-err, answer_of-ok}
use Rattle.kernel_calls.proofs.CallAnswers.MadeCalls.{handed-plain}
use Rattle.kernel_calls.proofs.CallAnswers.ListedModules.{module-told}
use Rattle.kernel_calls.specs.ModuleCalls.UnloadModule.{unload_module, use_tests}
use Rattle.kernel_calls.proofs.ModuleCalls.GoneModule.{numbers, own_block, place, unload-made, unload-packet, unload-refused}
use Rattle.kernel_calls.proofs.ModuleCalls.ModuleUses.{IsUnused, tests-passed}
use Rattle.kernel_calls.proofs.module_calls.unloading.unload_module.Goals as goal

-- the tests were passed
unused : (l : Lists) (m : ℕ) (u : Unit {0}) → ◌≡◌ {A = Result (Unit {0}) ℕ} (Ok u) (answer_of (first_refusal (use_tests l m))) → IsUnused l m
unused l m u e = tests-passed l m (answer_of-ok (first_refusal (use_tests l m)) u e)

gives : {A E : Type 0} (r : Result A E) (x : Bool) → OnErr r (x ≡ false) → x ≡ true → IsOk r
gives (Ok a) x none some = refl
gives (Err e) x none some = cc

clash : (x : Bool) → x ≡ false → x ≡ true → ⊥
clash x e f = cc

pub returns-in_err-check_unused-clause-made : goal.returns-in_err-check_unused-clause-made
returns-in_err-check_unused-clause-made g c = λ l k.
    let s = c.args.store.now in
    let p = err_from_is_err_and c.from_residual.result c.from_residual.ensures.1 in
    handed-plain s s (g.Q.KindKeeper.tells c.args.kinds.now) c.from_residual.result p.0 (unload_module l c.args.m) p.1
    (unload-refused s l c.args.m p.0 (g.Q.KindKeeper.tells c.args.kinds.now) k.lists k.knows
    (answer_of-err (first_refusal (use_tests l c.args.m)) p.0 (ap Err p.2 ∙ c.in_err-check_unused.ensures l k.lists)))

pub overflow_add-head : goal.overflow_add-head
overflow_add-head g c =
    let u = unused c.requires.0 c.args.m c.in_ok-check_unused.field-0 (c.in_ok-check_unused.ensures c.requires.0 c.requires.1.lists) in
    let n = numbers c.args.store.now c.requires.0 c.args.m c.requires.1.lists u.there in
    omega (arith, n.count, n.low, n.enough, c.word_at-head.ensures)

pub overflow_sub-m : goal.overflow_sub-m
overflow_sub-m g c =
    let u = unused c.requires.0 c.args.m c.in_ok-check_unused.field-0 (c.in_ok-check_unused.ensures c.requires.0 c.requires.1.lists) in
    let n = numbers c.args.store.now c.requires.0 c.args.m c.requires.1.lists u.there in
    n.some

pub overflow_add-m : goal.overflow_add-m
overflow_add-m g c =
    let u = unused c.requires.0 c.args.m c.in_ok-check_unused.field-0 (c.in_ok-check_unused.ensures c.requires.0 c.requires.1.lists) in
    let n = numbers c.args.store.now c.requires.0 c.args.m c.requires.1.lists u.there in
    omega (arith, n.count, n.low, n.enough, c.word_at-head.ensures)

pub overflow_sub-size : goal.overflow_sub-size
overflow_sub-size g c =
    let u = unused c.requires.0 c.args.m c.in_ok-check_unused.field-0 (c.in_ok-check_unused.ensures c.requires.0 c.requires.1.lists) in
    let n = numbers c.args.store.now c.requires.0 c.args.m c.requires.1.lists u.there in
    omega (arith, n.size, n.enough, c.word-size.ensures)

pub overflow_sub-size-2 : goal.overflow_sub-size-2
overflow_sub-size-2 g c =
    let u = unused c.requires.0 c.args.m c.in_ok-check_unused.field-0 (c.in_ok-check_unused.ensures c.requires.0 c.requires.1.lists) in
    let n = numbers c.args.store.now c.requires.0 c.args.m c.requires.1.lists u.there in
    omega (arith, n.count, n.size, n.enough, c.word_at-head.ensures, c.word-size.ensures)

-- the words that were asked about are those of the block behind the module's own
words-are : (s : List ℕ) (l : Lists) (m count size : ℕ) (h : HoldsLists s l) (u : IsUnused l m) → count ≡ get_or s (m + 1) 0 → size ≡ get_or s (m - 1) 0
    → (m + (2 + count) ≡ m + (2 + length (place s l m h u.there).it.lengths)) × (m + (2 + count) + (size - 1 - (2 + count)) ≡ block_end (own_block s l m h u.there))
words-are s l m count size h u c z =
    let n = numbers s l m h u.there in
    (omega (arith, c, n.count), omega (arith, c, z, n.count, n.size, n.enough, n.end))

pub returns-then-not-are_unowned-clause-made : goal.returns-then-not-are_unowned-clause-made
returns-then-not-are_unowned-clause-made g c = λ l k.
    let s = c.args.store.now in
    let u = unused l c.args.m c.in_ok-check_unused.field-0 (c.in_ok-check_unused.ensures l k.lists) in
    let w = words-are s l c.args.m c.word_at-head.result c.word-size.result k.lists u c.word_at-head.ensures c.word-size.ensures in
    unload-packet s l c.args.m k.lists u.there u.unused (g.Q.KindKeeper.tells c.args.kinds.now) k.knows
    (λ unowned. clash c.are_unowned.result c.if-not-are_unowned.true ((c.are_unowned.ensures l k).1 (λ a low high. unowned a (omega (arith, low, w.0)) (omega (arith, high, w.1)))))

pub unload-requires : goal.unload-requires
unload-requires g c = (held-modules c.args.store.now c.requires.0.modules (reads c.args.store.now c.requires.0 c.requires.1.lists).modules).modules

pub unwrap-requires : goal.unwrap-requires
unwrap-requires g c =
    let u = unused c.requires.0 c.args.m c.in_ok-check_unused.field-0 (c.in_ok-check_unused.ensures c.requires.0 c.requires.1.lists) in
    gives c.unload.result _ c.unload.ensures.not_listed (module-told c.args.store.now c.requires.0 c.args.m c.requires.1.lists ∙ u.there)

pub returns-clause-made : goal.returns-clause-made
returns-clause-made g c = λ l k.
    let s = c.args.store.now in
    let u = unused l c.args.m c.in_ok-check_unused.field-0 (c.in_ok-check_unused.ensures l k.lists) in
    let n = numbers s l c.args.m k.lists u.there in
    let w = words-are s l c.args.m c.word_at-head.result c.word-size.result k.lists u c.word_at-head.ensures c.word-size.ensures in
    unload-made s l c.args.m k.lists u.there u.unused (g.Q.KindKeeper.tells c.args.kinds.now) (g.Q.KindKeeper.tells c.release.new.self) c.unload.new.store (2 + c.word_at-head.result)
    (ap (λ z. 2 + z) (c.word_at-head.ensures ∙ n.count)) k.knows
    (λ a low high. (c.are_unowned.ensures l k).0 c.if-not-are_unowned.false a (omega (arith, low, w.0)) (omega (arith, high, w.1)))
    (subst (λ r. OnOk r (c.unload.new.store ≡ given_store (without_node s module_link 104 c.args.m) c.args.m)) c.unwrap.ensures c.unload.ensures.words) c.release.ensures.tells

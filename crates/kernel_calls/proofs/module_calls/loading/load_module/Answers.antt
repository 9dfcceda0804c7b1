use Rattle.std.proofs.Common.{◌≡◌, ◌∙◌, ℕ, ◌+◌, List, Option, Some, None, Result, Ok, Err, refl, sym, ap, subst, arith}
use Rattle.std.specs.Prelude.{IfErr, IfOk, IsOk}
use Rattle.std.proofs.lemmas.Result.{err_from_is_err_and}
use Rattle.kernel_lists.specs.declared.getvec_chain.pieces.Run.{Run}
use Rattle.kernel_lists.specs.GetvecChain.Run.{first_run, need}
use Rattle.kernel_lists.specs.GetvecChain.Tiling.{blocks_in}
use Rattle.module_text.specs.Shapes.{check_of}
use Rattle.module_text.specs.declared.check.Shape.{Shape}
use Rattle.module_text.specs.declared.modules.Module.{Module}
use Rattle.kernel_lists.specs.HunkLoader.LoadOutcome.{IsLoaded, IsRefused}
use Rattle.kernel_lists.specs.declared.hunk_loader.calls.LoadEnd.{LoadEnd}
use Rattle.kernel_lists.specs.declared.hunk_loader.calls.LoadEnd.TheVariants.{Module as BadText, NoRoom}
use Rattle.kernel_lists.proofs.HunkLoader.HeldModuleLists.{held-modules}
use Rattle.kernel_model.specs.KernelRecord.ChangedStore.{Knows}
use Rattle.kernel_calls.specs.CallAnswers.CallChange.{IsMade}
use Rattle.kernel_calls.proofs.CallAnswers.FoundTask.{reads}
use Rattle.kernel_calls.proofs.CallAnswers.MadeCalls.{handed-on}
use Rattle.kernel_calls.specs.BlockCalls.FreeStore.{with_taken}
use Rattle.kernel_model.proofs.WordKinds.OwnedMarks.{size-low}
use Rattle.kernel_calls.specs.ModuleCalls.LoadModule.{load_module}
use Rattle.kernel_calls.proofs.ModuleCalls.CheckedTexts.{code-low, no-module, one-module, text-shape}
use Rattle.kernel_calls.proofs.ModuleCalls.LoadedModule.{load-inside, load-made, load-refused}
use Rattle.kernel_calls.proofs.module_calls.loading.load_module.Goals as goal

two : (text : List ℕ) (shape : Shape) (code : ℕ) → check_of text ≡ Ok shape → check_of text ≡ Err code → ⊥
two text shape code e f = (let k : ◌≡◌ {A = Result Shape ℕ} (Ok shape) (Err code) = sym e ∙ f in cc)

-- a load of a text that was checked, where there is room, is not refused
loads : (s text : List ℕ) (r : Result ℕ LoadEnd) (shape : Shape) (n : ℕ) (run : Run) → IfErr r (IsRefused s text) → check_of text ≡ Ok shape → n ≡ 1 + shape.hunks + shape.words → first_run (need n) (blocks_in s) ≡ Some run → IsOk r
loads s text (Ok m) shape n run refused is size room = refl
loads s text (Err (BadText code)) shape n run refused is size room = absurd (two text shape code is refused)
loads s text (Err NoRoom) shape n run (m, also, none) is size room =
    absurd (some (sym room ∙ ap (λ k. first_run (need k) (blocks_in s)) (size ∙ (text-shape text shape m is also).words) ∙ none))
  where
    some : ◌≡◌ {A = Option Run} (Some run) None → ⊥
    some e = cc

found : (s t text : List ℕ) (r : Result ℕ LoadEnd) (m : ℕ) → IfOk r (IsLoaded s t text) → r ≡ Ok m → IsLoaded s t text m
found s t text r m h is = subst (λ z. IfOk z (IsLoaded s t text)) is h

pub overflow_add-result : goal.overflow_add-result
overflow_add-result g c = omega (arith, code-low (g.X.TextBytes.text c.args.text.now) c.in-Err.code (sym c.in-Err.ensures))

pub returns-in-Err-clause-made : goal.returns-in-Err-clause-made
returns-in-Err-clause-made g c = λ l m k is. absurd (no-module (g.X.TextBytes.text c.args.text.now) c.in-Err.code m (sym c.in-Err.ensures) is)

pub returns-in_err-tell_take-clause-made : goal.returns-in_err-tell_take-clause-made
returns-in_err-tell_take-clause-made g c = λ l m k is.
    let s = c.args.store.now in
    let p = err_from_is_err_and c.from_residual.result c.from_residual.ensures.1 in
    let size = c.last_word.ensures ∙ (text-shape (g.X.TextBytes.text c.args.text.now) c.in-Ok.shape m (sym c.in-Ok.ensures) is).words in
    handed-on s s (g.Q.KindKeeper.tells c.tell_take.new.kinds) c.from_residual.result p.0 1 (load_module l m.hunks) p.1 (p.2 ∙ c.in_err-tell_take.ensures.code)
    (subst (λ q. IsMade s s (g.Q.KindKeeper.tells q) (Err 1) (load_module l m.hunks)) (sym c.in_err-tell_take.ensures.unchanged)
    (load-refused s l m.hunks (g.Q.KindKeeper.tells c.args.kinds.now) k.lists k.knows (ap (λ n. first_run (need n) (blocks_in s)) (sym size) ∙ c.in_err-tell_take.ensures.no_room)))

pub load-requires : goal.load-requires
load-requires g c = (held-modules c.args.store.now c.requires.0.modules (reads c.args.store.now c.requires.0 c.requires.1.lists).modules).modules

pub unwrap-m-requires : goal.unwrap-m-requires
unwrap-m-requires g c =
    loads c.args.store.now (g.X.TextBytes.text c.args.text.now) c.load.result c.in-Ok.shape c.last_word.result _ c.load.ensures.refused (sym c.in-Ok.ensures) c.last_word.ensures c.in_ok-tell_take.ensures.first

pub overflow_add-shape : goal.overflow_add-shape
overflow_add-shape g c =
    let l = c.requires.0 in
    let h = c.requires.1.lists in
    let is_loaded = found c.args.store.now c.load.new.store (g.X.TextBytes.text c.args.text.now) c.load.result c.unwrap-m.result c.load.ensures.loaded c.unwrap-m.ensures in
    let count = (text-shape (g.X.TextBytes.text c.args.text.now) c.in-Ok.shape is_loaded.hunks (sym c.in-Ok.ensures) is_loaded.is).count in
    omega (arith, count, load-inside c.args.store.now c.load.new.store (g.X.TextBytes.text c.args.text.now) l c.unwrap-m.result h is_loaded, size-low l h.valid, h.size)

pub claim-requires : goal.claim-requires
claim-requires g c =
    let l = c.requires.0 in
    let h = c.requires.1.lists in
    let is_loaded = found c.args.store.now c.load.new.store (g.X.TextBytes.text c.args.text.now) c.load.result c.unwrap-m.result c.load.ensures.loaded c.unwrap-m.ensures in
    let count = (text-shape (g.X.TextBytes.text c.args.text.now) c.in-Ok.shape is_loaded.hunks (sym c.in-Ok.ensures) is_loaded.is).count in
    omega (arith, count, load-inside c.args.store.now c.load.new.store (g.X.TextBytes.text c.args.text.now) l c.unwrap-m.result h is_loaded, c.requires.1.enough, c.tell_take.ensures.room)

pub returns-clause-made : goal.returns-clause-made
returns-clause-made g c = λ l m k is.
    let text = g.X.TextBytes.text c.args.text.now in
    let is_loaded = found c.args.store.now c.load.new.store text c.load.result c.unwrap-m.result c.load.ensures.loaded c.unwrap-m.ensures in
    let same = one-module text is_loaded.hunks m is_loaded.is is in
    let shape = text-shape text c.in-Ok.shape is_loaded.hunks (sym c.in-Ok.ensures) is_loaded.is in
    subst (λ (n : Module). IsMade c.args.store.now c.load.new.store (g.Q.KindKeeper.tells c.claim.new.self) (Ok c.unwrap-m.result) (load_module l n.hunks)) same
    (load-made c.args.store.now c.load.new.store text l c.unwrap-m.result k.lists is_loaded (g.Q.KindKeeper.tells c.tell_take.new.kinds) (g.Q.KindKeeper.tells c.claim.new.self) (2 + c.in-Ok.shape.hunks)
    (ap (λ n. 2 + n) shape.count)
    (subst (λ n. Knows (g.Q.KindKeeper.tells c.tell_take.new.kinds) (with_taken n l)) (c.last_word.ensures ∙ shape.words) (c.in_ok-tell_take.ensures.knows l k)) c.claim.ensures.tells)

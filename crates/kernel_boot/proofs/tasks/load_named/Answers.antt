use Rattle.std.proofs.Common.{◌∙◌, ℕ, List, Option, sym, subst}
use Rattle.kernel_calls.specs.CallAnswers.CallChange.{IsMade}
use Rattle.kernel_boot.specs.BootTasks.{load_bytes}
use Rattle.kernel_boot.proofs.StoresAfterCalls.{text-made}
use Rattle.kernel_boot.proofs.tasks.load_named.Goals as goal

pub returns-clause-made : goal.returns-clause-made
returns-clause-made g c = λ l k.
    let s = c.args.store.now in
    let t = c.load_module.new.store in
    let tells = g.Q.KindKeeper.tells c.load_module.new.kinds in
    let r = c.load_module.result in
    let bytes : List ℕ = c.in-Some.text in
    subst (λ (o : Option (List ℕ)). IsMade s t tells r (load_bytes l o)) (sym c.in-Some.is ∙ c.file.ensures)
    (text-made s t tells r l bytes (λ m is. c.load_module.ensures.made l m k is) (λ code e. c.load_module.ensures.no_module l code k e))

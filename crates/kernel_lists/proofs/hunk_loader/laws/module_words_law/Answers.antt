use Rattle.std.proofs.Common.{sym, subst}
use Rattle.kernel_lists.specs.HunkLoader.ModuleExchanges.{UnloadExchange}
use Rattle.kernel_lists.proofs.HunkLoader.ModuleExchanges.{load-exchange, unload-exchange}
use Rattle.kernel_lists.proofs.hunk_loader.laws.module_words_law.Goals as goal

pub returns-clause-load : goal.returns-clause-load
returns-clause-load c = load-exchange

pub returns-clause-unload : goal.returns-clause-unload
returns-clause-unload c = λ s t front m back h words. subst (λ v. UnloadExchange s v front m back) (sym words) (unload-exchange s front m back h)

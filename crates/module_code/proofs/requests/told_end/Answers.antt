use Rattle.std.proofs.Common.{Result, IfOk, subst}
use Rattle.std.proofs.lemmas.Result.{IfOk-weaker}
use Rattle.module_code.specs.ReadBack.{HasCause}
use Rattle.module_code.specs.declared.requests.NoAnswer.{NoAnswer}
use Rattle.module_code.specs.declared.requests.NoAnswer.TheVariants.{NoModule}
use Rattle.module_code.proofs.requests.told_end.Goals as goal

pub returns-in-NoModule-clause-cause : goal.returns-in-NoModule-clause-cause
returns-in-NoModule-clause-cause c = λ bundle cause.
    let caused = subst (λ (e : NoAnswer). HasCause bundle e) c.in-NoModule.is cause in
    IfOk-weaker c.wrong-in-NoModule.result _ _ (λ _ _. (NoModule c.in-NoModule.module c.in-NoModule.line c.in-NoModule.code, caused)) c.wrong-in-NoModule.ensures

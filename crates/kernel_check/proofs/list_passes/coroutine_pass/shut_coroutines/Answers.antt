use Rattle.kernel_check.proofs.ListPasses.CoroutineWalks.{shut-next}
use Rattle.kernel_check.proofs.list_passes.coroutine_pass.shut_coroutines.Goals as goal

pub loop-c-preserved : goal.loop-c-preserved
loop-c-preserved c =
    shut-next _ _ _ _ _ _ c.claim-was_open.result c.loop-c.invariant c.in-Some.ensures.steps c.claim-was_open.ensures.answer c.claim-was_open.ensures.claimed c.claim-was_open.ensures.unchanged

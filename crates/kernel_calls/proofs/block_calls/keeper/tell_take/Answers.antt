use Rattle.std.proofs.Common.{◌≡◌, ℕ, List, Option, Some, None, Ok, sym, subst, arith}
use Rattle.std.specs.Option.{ok_or}
use Rattle.kernel_lists.specs.declared.getvec_chain.pieces.Run.{Run}
use Rattle.kernel_lists.specs.GetvecChain.Run.{first_run, need}
use Rattle.kernel_lists.specs.GetvecChain.Tiling.{blocks_in}
use Rattle.kernel_lists.proofs.GetvecChain.Runs.{FoundRun, run-tiled}
use Rattle.kernel_model.specs.KernelRecord.HoldsLists.{HoldsLists}
use Rattle.kernel_model.specs.KernelRecord.Lists.{Lists}
use Rattle.kernel_calls.proofs.CallAnswers.FoundTask.{reads}
use Rattle.kernel_model.specs.WordKinds.Private.ToldWords.{WasReleased}
use Rattle.kernel_model.proofs.WordKinds.OwnedMarks.{size-low}
use Rattle.kernel_calls.proofs.BlockCalls.JoinedRuns.{joined-from}
use Rattle.kernel_calls.proofs.BlockCalls.TakenWords.{found, knows-take}
use Rattle.kernel_calls.proofs.block_calls.keeper.tell_take.Goals as goal

-- the run that the `?` lets through is the first one
first : (o p : Option Run) (run : Run) (e : ℕ) → Ok run ≡ ok_or o e → o ≡ p → p ≡ Some run
first None p run e is same = cc
first (Some a) p run e is same = cc

-- and it lies in the store
inside : (s : List ℕ) (l : Lists) (u : ℕ) (o : Option Run) (run : Run) (e : ℕ) → HoldsLists s l → Ok run ≡ ok_or o e → o ≡ first_run (need u) (blocks_in s) → FoundRun s (need u) 200 run
inside s l u o run e h is same = found s l u run h (first o (first_run (need u) (blocks_in s)) run e is same)

pub first_run-requires : goal.first_run-requires
first_run-requires g c = (reads c.args.store.now c.requires.0 c.requires.1.lists).tiled

pub overflow_add-rest : goal.overflow_add-rest
overflow_add-rest g c =
    let f = inside c.args.store.now c.requires.0 c.args.u _ c.in_ok-run.run' _ c.requires.1.lists c.in_ok-run.ensures.value c.first_run.ensures in
    omega (arith, f.enough, f.low, f.inside, size-low c.requires.0 c.requires.1.lists.valid, c.requires.1.lists.size)

pub overflow_mul-rest : goal.overflow_mul-rest
overflow_mul-rest g c =
    let f = inside c.args.store.now c.requires.0 c.args.u _ c.in_ok-run.run' _ c.requires.1.lists c.in_ok-run.ensures.value c.first_run.ensures in
    omega (arith, f.enough, f.low, f.inside, size-low c.requires.0 c.requires.1.lists.valid, c.requires.1.lists.size)

pub overflow_add-rest-2 : goal.overflow_add-rest-2
overflow_add-rest-2 g c =
    let f = inside c.args.store.now c.requires.0 c.args.u _ c.in_ok-run.run' _ c.requires.1.lists c.in_ok-run.ensures.value c.first_run.ensures in
    omega (arith, f.enough, f.low, f.inside, size-low c.requires.0 c.requires.1.lists.valid, c.requires.1.lists.size)

pub release_joined-requires : goal.release_joined-requires
release_joined-requires g c =
    run-tiled _ (need c.args.u) 200 (blocks_in c.args.store.now) c.in_ok-run.run' (reads c.args.store.now c.requires.0 c.requires.1.lists).tiled
    (first _ (first_run (need c.args.u) (blocks_in c.args.store.now)) c.in_ok-run.run' _ c.in_ok-run.ensures.value c.first_run.ensures)

pub claim_rest-requires : goal.claim_rest-requires
claim_rest-requires g c =
    let f = inside c.args.store.now c.requires.0 c.args.u _ c.in_ok-run.run' _ c.requires.1.lists c.in_ok-run.ensures.value c.first_run.ensures in
    omega (arith, f.inside, c.requires.1.enough, c.release_joined.ensures.room)

pub returns-clause-knows : goal.returns-clause-knows
returns-clause-knows g c = λ l k.
    let s = c.args.store.now in
    let is = first _ (first_run (need c.args.u) (blocks_in s)) c.in_ok-run.run' _ c.in_ok-run.ensures.value c.first_run.ensures in
    let joined = joined-from s (need c.args.u) 200 (blocks_in s) c.in_ok-run.run' (reads s l k.lists).tiled is in
    knows-take s l c.args.u c.in_ok-run.run' k.lists is
    (g.Q.KindKeeper.tells c.args.kinds.now) (g.Q.KindKeeper.tells c.release_joined.new.kinds) (g.Q.KindKeeper.tells c.claim_rest.new.kinds) k.knows
    (subst (WasReleased (g.Q.KindKeeper.tells c.args.kinds.now) (g.Q.KindKeeper.tells c.release_joined.new.kinds)) (sym joined) c.release_joined.ensures.released)
    c.claim_rest.ensures.claimed

pub returns-clause-first : goal.returns-clause-first
returns-clause-first g c = first _ (first_run (need c.args.u) (blocks_in c.args.store.now)) c.in_ok-run.run' _ c.in_ok-run.ensures.value c.first_run.ensures

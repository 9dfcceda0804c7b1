use Rattle.std.proofs.Common.{◌∙◌, sym}
use Rattle.kernel_machine.proofs.RunningMachine.PartsBeside.{represents-buffer}
use Rattle.kernel_machine.proofs.RunningMachine.ResidentParts.{leaves-file, leaves-pipe, runs-handler, takes-pipes}
use Rattle.kernel_machine.proofs.running_machine.residents.handle.Goals as goal

pub serves_pipes-requires : goal.serves_pipes-requires
serves_pipes-requires g c = (let (k, st, r) = c.requires in (k.lists, st.keeper.lists, (runs-handler c.args.parts.now k st r).runs))

pub pipe_turn-requires : goal.pipe_turn-requires
pipe_turn-requires g c = (let (k, st, r) = c.requires in (k.lists, st.keeper, takes-pipes c.args.parts.now k st r, sym r.is))

pub file_turn-requires : goal.file_turn-requires
file_turn-requires g c = (let (k, st, r) = c.requires in (k.lists, st.keeper, runs-handler c.args.parts.now k st r))

pub returns-then-serves_pipes-clause-turned : goal.returns-then-serves_pipes-clause-turned
returns-then-serves_pipes-clause-turned g c = λ k st r.
    let runs = runs-handler c.args.parts.now k st r in
    let takes = takes-pipes c.args.parts.now k st r in
    let x = c.pipe_turn.ensures in
    leaves-pipe c.args.parts.now k st r _ _ _ _ _ (x.turn k.lists c.args.bytes.now st.keeper takes (sym r.is)) x.room (x.pipes k.lists st.keeper takes) (sym (c.serves_pipes.ensures k.lists st.keeper.lists runs.runs) ∙ c.if-serves_pipes.true)

pub returns-clause-turned : goal.returns-clause-turned
returns-clause-turned g c = λ k st r.
    let runs = runs-handler c.args.parts.now k st r in
    let x = c.file_turn.ensures in
    leaves-file (record c.args.parts.now { bytes = c.file_turn.new.bytes }) k (represents-buffer c.args.parts.now k c.file_turn.new.bytes st) r _ _ _ _ _ (x.turn k.lists c.args.bytes.now st.keeper runs) x.room (x.disc k.lists st.keeper runs) (sym (c.serves_pipes.ensures k.lists st.keeper.lists runs.runs) ∙ c.if-serves_pipes.false)

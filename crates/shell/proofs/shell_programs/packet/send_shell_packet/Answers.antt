use Rattle.std.proofs.Common.{ℕ, sym, subst}
use Rattle.kernel_model.specs.KernelRecord.ChangedStore.{HasKeeper}
use Rattle.kernel_model.specs.KernelRecord.StoreWithLists.{store_with_lists}
use Rattle.shell.specs.ShellPrograms.ShellPacket.{posted}
use Rattle.shell.specs.ShellPrograms.StoresWithLists.{RepresentsStoreWithLists}
use Rattle.shell.proofs.ShellPrograms.PostedPacket.{request-keeper}
use Rattle.shell.proofs.shell_programs.packet.send_shell_packet.Goals as goal

pub post_shell_packet-requires : goal.post_shell_packet-requires
post_shell_packet-requires g c =
    let l = c.requires.0 in
    let tells = g.Q.KindKeeper.tells c.args.kinds.now in
    let room : ℕ = g.Q.KindKeeper.room c.args.kinds.now in
    (l, subst (λ w. HasKeeper w tells room l) (sym c.write_request.ensures) (request-keeper c.args.store.now l c.args.to c.args.kind tells room c.requires.1 c.requires.2), c.requires.2)

pub returns-clause-sent : goal.returns-clause-sent
returns-clause-sent g c = λ l k r.
    let tells = g.Q.KindKeeper.tells c.args.kinds.now in
    let room : ℕ = g.Q.KindKeeper.room c.args.kinds.now in
    subst (λ w. RepresentsStoreWithLists c.post_shell_packet.new.store (g.Q.KindKeeper.tells c.post_shell_packet.new.kinds) (g.Q.KindKeeper.room c.post_shell_packet.new.kinds) (posted c.args.to (store_with_lists w l))) c.write_request.ensures
    (c.post_shell_packet.ensures.sent l (subst (λ w. HasKeeper w tells room l) (sym c.write_request.ensures) (request-keeper c.args.store.now l c.args.to c.args.kind tells room k r)) r)

pub returns-clause-notes : goal.returns-clause-notes
returns-clause-notes g c = λ l k r.
    let tells = g.Q.KindKeeper.tells c.args.kinds.now in
    let room : ℕ = g.Q.KindKeeper.room c.args.kinds.now in
    c.post_shell_packet.ensures.notes l (subst (λ w. HasKeeper w tells room l) (sym c.write_request.ensures) (request-keeper c.args.store.now l c.args.to c.args.kind tells room k r)) r

use Rattle.std.proofs.Common.{◌∙◌, rules, w32}
use mir.Val.{SFits}
use Rattle.std.proofs.Math.Facts.{to_z-of_z}
use Rattle.shell.proofs.ShellPrograms.PostedPacket.{can-post, posted-notes, posted-represents}
use Rattle.shell.proofs.shell_programs.packet.post_shell_packet.Goals as goal

pub send_own-requires : goal.send_own-requires
send_own-requires g c =
    let l = c.requires.0 in
    let k = c.requires.1 in
    let fits : SFits w32 c.signed.result = search rules in
    (l, k, can-post c.args.store.now l c.args.to _ (g.Q.KindKeeper.tells c.args.kinds.now) (g.Q.KindKeeper.room c.args.kinds.now) k c.requires.2 (to_z-of_z {w = w32} {z = c.signed.result} fits ∙ c.signed.ensures))

pub returns-clause-sent : goal.returns-clause-sent
returns-clause-sent g c = λ l k r.
    let fits : SFits w32 c.signed.result = search rules in
    let is = to_z-of_z {w = w32} {z = c.signed.result} fits ∙ c.signed.ensures in
    posted-represents c.args.store.now l c.args.to _ (g.Q.KindKeeper.tells c.args.kinds.now) (g.Q.KindKeeper.room c.args.kinds.now) k r is c.send_own.new.store (g.Q.KindKeeper.tells c.send_own.new.kinds)
    (g.Q.KindKeeper.room c.send_own.new.kinds) c.send_own.ensures.room
    (c.send_own.ensures.made l k (can-post c.args.store.now l c.args.to _ (g.Q.KindKeeper.tells c.args.kinds.now) (g.Q.KindKeeper.room c.args.kinds.now) k r is))

pub returns-clause-notes : goal.returns-clause-notes
returns-clause-notes g c = λ l k r.
    let fits : SFits w32 c.signed.result = search rules in
    let is = to_z-of_z {w = w32} {z = c.signed.result} fits ∙ c.signed.ensures in
    posted-notes c.args.store.now l c.args.to _ (g.Q.KindKeeper.tells c.args.kinds.now) (g.Q.KindKeeper.room c.args.kinds.now) k r is (g.L.EventLog.noted c.args.log.now) (g.L.EventLog.noted c.send_own.new.log)
    (g.L.EventLog.has_failed c.args.log.now) (g.L.EventLog.has_failed c.send_own.new.log)
    (c.send_own.ensures.notes l k (can-post c.args.store.now l c.args.to _ (g.Q.KindKeeper.tells c.args.kinds.now) (g.Q.KindKeeper.room c.args.kinds.now) k r is))

use Rattle.std.proofs.Common.{◌∙◌, subst, sym}
use Rattle.resident_tasks.specs.ResidentRequests.Requests.{IsTaken, taken}
use Rattle.shell.specs.ShellTurn.{packet_taken}
use Rattle.shell.proofs.DoneParts.{done-is}
use Rattle.shell.proofs.TakenPackets.{done-returned, done-taken, other-treated, own-treated, ready-own, shell-takes, taken-treated}
use Rattle.shell.proofs.turns.treat_first.Goals as goal

pub take_request-requires : goal.take_request-requires
take_request-requires g c = (let h = c.requires.done.2 in (_, h.represents.keeper, shell-takes h))

pub returns-in_default-clause-done : goal.returns-in_default-clause-done
returns-in_default-clause-done g c = λ b x h.
    let l = x.store.lists in
    let k = h.represents.keeper in
    let takes = shell-takes h in
    let y = subst (IsTaken c.args.store.now c.take_request.new.store (g.Q.KindKeeper.tells c.take_request.new.kinds) l) c.in_default.is (c.take_request.ensures.taken l k takes) in
    let z = done-taken h c.take_request.new.store (g.Q.KindKeeper.tells c.take_request.new.kinds) (g.Q.KindKeeper.room c.take_request.new.kinds) _ y c.take_request.ensures.room _ _ (c.take_request.ensures.notes l k takes) in
    done-is z _ (taken-treated x c.take_request.new.store _ y.request z.represents.words)

pub return_request-requires : goal.return_request-requires
return_request-requires g c =
    let x = c.requires.done.1 in
    let h = c.requires.done.2 in
    let l = x.store.lists in
    let k = h.represents.keeper in
    let takes = shell-takes h in
    let y = subst (IsTaken c.args.store.now c.take_request.new.store (g.Q.KindKeeper.tells c.take_request.new.kinds) l) c.in-Some.is (c.take_request.ensures.taken l k takes) in
    let z = done-taken h c.take_request.new.store (g.Q.KindKeeper.tells c.take_request.new.kinds) (g.Q.KindKeeper.room c.take_request.new.kinds) _ y c.take_request.ensures.room _ _ (c.take_request.ensures.notes l k takes) in
    ((taken l).lists, z.represents.keeper, y.runs, y.has_request, sym z.is)

pub returns-then-request-ne-SHELL_PACKET-clause-done : goal.returns-then-request-ne-SHELL_PACKET-clause-done
returns-then-request-ne-SHELL_PACKET-clause-done g c = λ b x h.
    let l = x.store.lists in
    let k = h.represents.keeper in
    let takes = shell-takes h in
    let y = subst (IsTaken c.args.store.now c.take_request.new.store (g.Q.KindKeeper.tells c.take_request.new.kinds) l) c.in-Some.is (c.take_request.ensures.taken l k takes) in
    let z = done-taken h c.take_request.new.store (g.Q.KindKeeper.tells c.take_request.new.kinds) (g.Q.KindKeeper.room c.take_request.new.kinds) _ y c.take_request.ensures.room _ _ (c.take_request.ensures.notes l k takes) in
    let m = c.return_request.ensures.made (taken l).lists z.represents.keeper y.runs y.has_request (sym z.is) in
    let w = done-returned z c.in-Some.request c.return_request.new.store (g.Q.KindKeeper.tells c.return_request.new.kinds) (g.Q.KindKeeper.room c.return_request.new.kinds) m c.return_request.ensures.room
    (c.return_request.ensures.runs (taken l).lists y.runs) _ _ (c.return_request.ensures.notes (taken l).lists z.represents.keeper y.runs y.has_request (sym z.is)) in
    done-is w _ (other-treated c.in-Some.request (packet_taken x) c.if-request-ne-SHELL_PACKET.true ∙ taken-treated x c.take_request.new.store _ y.request z.represents.words)

pub treat_own-requires-clause-ready : goal.treat_own-requires-clause-ready
treat_own-requires-clause-ready g c =
    let x = c.requires.done.1 in
    let h = c.requires.done.2 in
    let l = x.store.lists in
    let k = h.represents.keeper in
    let takes = shell-takes h in
    let y = subst (IsTaken c.args.store.now c.take_request.new.store (g.Q.KindKeeper.tells c.take_request.new.kinds) l) c.in-Some.is (c.take_request.ensures.taken l k takes) in
    let z = done-taken h c.take_request.new.store (g.Q.KindKeeper.tells c.take_request.new.kinds) (g.Q.KindKeeper.room c.take_request.new.kinds) _ y c.take_request.ensures.room _ _ (c.take_request.ensures.notes l k takes) in
    (_, _, ready-own z c.in-Some.request y.has_request c.if-request-ne-SHELL_PACKET.false)

pub returns-clause-done : goal.returns-clause-done
returns-clause-done g c = λ b x h.
    let l = x.store.lists in
    let k = h.represents.keeper in
    let takes = shell-takes h in
    let y = subst (IsTaken c.args.store.now c.take_request.new.store (g.Q.KindKeeper.tells c.take_request.new.kinds) l) c.in-Some.is (c.take_request.ensures.taken l k takes) in
    let z = done-taken h c.take_request.new.store (g.Q.KindKeeper.tells c.take_request.new.kinds) (g.Q.KindKeeper.room c.take_request.new.kinds) _ y c.take_request.ensures.room _ _ (c.take_request.ensures.notes l k takes) in
    done-is (c.treat_own.ensures.done b _ (ready-own z c.in-Some.request y.has_request c.if-request-ne-SHELL_PACKET.false)) _
    (own-treated c.in-Some.request (packet_taken x) c.args.state.now h.shell c.if-request-ne-SHELL_PACKET.false ∙ taken-treated x c.take_request.new.store _ y.request z.represents.words)

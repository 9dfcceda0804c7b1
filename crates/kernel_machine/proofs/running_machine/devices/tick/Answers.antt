use Rattle.std.proofs.Common.{◌∙◌, ◌%◌, ap, refl, sym}
use Rattle.kernel_machine.proofs.RunningMachine.ServedParts.{leaves-no_tick, leaves-tick}
use Rattle.kernel_machine.proofs.running_machine.devices.tick.Goals as goal

pub returns-then-parts-from-eq0-clause-left : goal.returns-then-parts-from-eq0-clause-left
returns-then-parts-from-eq0-clause-left g c = λ k st can. leaves-tick c.args.parts.now k st c.tick.new.store _ _ can (ap (λ z. c.args.parts.now.step % z) (sym c.from.ensures) ∙ c.if-parts-from-eq0.true) (c.tick.ensures.lists k.lists st.keeper.lists can.tick) refl (c.tick.ensures.notes k.lists st.keeper.lists can.tick)

pub returns-else-parts-from-eq0-clause-left : goal.returns-else-parts-from-eq0-clause-left
returns-else-parts-from-eq0-clause-left g c = λ k st can. leaves-no_tick c.args.parts.now k st _ (λ z. c.if-parts-from-eq0.false (ap (λ n. c.args.parts.now.step % n) c.from.ensures ∙ z))

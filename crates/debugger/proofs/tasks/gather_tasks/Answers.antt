use Rattle.std.proofs.Common.{◌∙◌, ◌++◌, ap, subst}
use Rattle.byte_streams.specs.Pending.{Gathers}
use Rattle.shell.specs.ShellListings.TaskLines.{task_lines}
use Rattle.debugger.specs.Texts.{tasks_text}
use Rattle.debugger.proofs.KernelParts.{held-lists, on-full}
use Rattle.debugger.proofs.tasks.gather_tasks.Goals as goal

pub write_tasks-requires-clause-lists : goal.write_tasks-requires-clause-lists
write_tasks-requires-clause-lists g c = held-lists _ c.args.machine.now.state c.in-Some.ensures.represents

pub returns-in-Some-clause-text : goal.returns-in-Some-clause-text
returns-in-Some-clause-text g c =
    let holds = g.K.Sink.holds in
    let end = c.gather in
    on-full _ c.args.machine.now.state (λ s. Gathers (holds c.args.out.now) (holds end.new.out) c.args.pending.now end.new.pending (tasks_text s) end.result) c.in-Some.ensures.represents
    (λ k h. subst (λ text. Gathers (holds c.args.out.now) (holds end.new.out) c.args.pending.now end.new.pending text end.result)
    (c.bytes.ensures ∙ c.write_tasks.ensures.text k.lists h ∙ ap (λ text. text ++ task_lines k.lists.tasks) c.new-lines.ensures) end.ensures.text)

use Rattle.std.proofs.Common.{◌∙◌, refl, sym}
use Rattle.std.specs.List.{list_any}
use Rattle.std.proofs.lemmas.Bool.{false≢true}
use Rattle.kernel_model.specs.KernelRecord.Between.{is_unreported}
use Rattle.kernel_model.specs.KernelRecord.Lists.{has_task}
use Rattle.kernel_model.specs.KernelRecord.Recovered.{lists_in}
use Rattle.kernel_model.proofs.KernelRecord.WalkedLists.{can-walk}
use Rattle.kernel_check.proofs.ListPasses.Residents.{has-id}
use Rattle.kernel_check.proofs.FaultReports.{under-task, waits-free, waits-queued}
use Rattle.kernel_check.proofs.QueueRules.{fault-free, fault-other}
use Rattle.kernel_check.proofs.fault_reports.packet_waits.Goals as goal

pub has_task-requires : goal.has_task-requires
has_task-requires c = (can-walk c.args.store.now (lists_in c.args.store.now) c.requires).chain

pub are_unreported-waits-requires : goal.are_unreported-waits-requires
are_unreported-waits-requires c = (can-walk c.args.store.now (lists_in c.args.store.now) c.requires).chain

pub returns-then-not-has_task : goal.returns-then-not-has_task
returns-then-not-has_task c = (λ t e. absurd (false≢true (sym (sym (has-id c.args.store.now 2) ∙ sym c.has_task.ensures ∙ c.if-not-has_task.true) ∙ e)), λ h. refl)

pub returns-then-word-eq-NO_QUEUE : goal.returns-then-word-eq-NO_QUEUE
returns-then-word-eq-NO_QUEUE c =
    let there = sym (has-id c.args.store.now 2) ∙ sym c.has_task.ensures ∙ c.if-not-has_task.false in
    under-task _ (has_task 2 (lists_in c.args.store.now).tasks) _ there
    (waits-free (lists_in c.args.store.now).fault_packet_free (list_any is_unreported (lists_in c.args.store.now).tasks) c.are_unreported-waits.result
    (fault-free c.args.store.now c.requires.valid.tasks c.word.result c.word.ensures c.if-word-eq-NO_QUEUE.true there) c.are_unreported-waits.ensures)

pub returns : goal.returns
returns c =
    let there = sym (has-id c.args.store.now 2) ∙ sym c.has_task.ensures ∙ c.if-not-has_task.false in
    under-task _ (has_task 2 (lists_in c.args.store.now).tasks) _ there
    (waits-queued (lists_in c.args.store.now).fault_packet_free (list_any is_unreported (lists_in c.args.store.now).tasks) c.are_unreported-waits.result
    (fault-other c.args.store.now c.word.result c.word.ensures c.if-word-eq-NO_QUEUE.false) c.are_unreported-waits.ensures)

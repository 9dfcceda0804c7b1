use Rattle.std.proofs.Common.{◌+◌, [], Ok, bit_or, set, refl, sym, ap, ◌∙◌, subst}
use Rattle.kernel_model.specs.KernelRecord.ChangedStore.{IsChanged}
use Rattle.kernel_model.specs.KernelRecord.Changes.{with_task}
use Rattle.kernel_calls.specs.CallAnswers.Guests.{GuestAt, guest_tests}
use Rattle.kernel_calls.specs.CallAnswers.CallChange.{done, minus_one}
use Rattle.kernel_calls.proofs.CallAnswers.MadeCalls.{leaves-accepted}
use Rattle.kernel_calls.specs.TaskCalls.SetFlags.{flagged}
use Rattle.kernel_calls.proofs.TaskCalls.Flagged.{flags-changed}
use Rattle.kernel_calls.proofs.task_calls.flags.set_flags.Goals as goal

pub returns : goal.returns
returns c = λ l h.
    let g : GuestAt l c.args.id c.in_ok-task.task = c.in_ok-task.ensures l h in
    leaves-accepted c.args.store.now l (guest_tests l c.args.id) (done (with_task c.args.id (flagged c.args.flags) l)) c.set_field.new.store (Ok minus_one) g.accepted
    (record {
      lists =
          subst (λ t. IsChanged c.args.store.now t (with_task c.args.id (flagged c.args.flags) l) [])
          (sym (c.set_field.ensures ∙ ap (λ w. set c.args.store.now (c.in_ok-task.task + 5) (bit_or w c.args.flags)) c.field-old.ensures))
          (flags-changed c.args.store.now l c.args.id c.in_ok-task.task (λ f. bit_or f c.args.flags) h g);
      answered = refl;
    })

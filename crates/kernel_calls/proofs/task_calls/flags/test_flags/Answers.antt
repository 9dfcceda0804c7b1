use Rattle.std.proofs.Common.{◌+◌, ◌-◌, ◌^◌, [], Ok, bit_and, set, sym, ap, ◌∙◌, subst}
use Rattle.kernel_model.specs.KernelRecord.ChangedStore.{IsChanged}
use Rattle.kernel_model.specs.KernelRecord.Changes.{with_task}
use Rattle.kernel_calls.specs.CallAnswers.Guests.{GuestAt}
use Rattle.kernel_calls.specs.TaskCalls.TestFlags.{cleared}
use Rattle.kernel_calls.proofs.TaskCalls.Flagged.{flags-changed, flags-tested}
use Rattle.kernel_calls.proofs.task_calls.flags.test_flags.Goals as goal

pub returns : goal.returns
returns c = λ l h k.
    let g : GuestAt l l.running c.caller-task.result = c.caller-task.ensures l h k in
    record {
      lists =
          subst (λ t. IsChanged c.args.store.now t (with_task l.running (cleared c.args.mask) l) [])
          (sym (c.set_field.ensures ∙ ap (λ w. set c.args.store.now (c.caller-task.result + 5) (bit_and w (2 ^ 32 - 1 - c.args.mask))) c.field-flags.ensures))
          (flags-changed c.args.store.now l l.running c.caller-task.result (λ f. bit_and f (2 ^ 32 - 1 - c.args.mask)) h g);
      answered = ap (λ w. Ok (bit_and w c.args.mask)) c.field-flags.ensures ∙ flags-tested c.args.store.now l c.caller-task.result c.args.mask h g;
    }

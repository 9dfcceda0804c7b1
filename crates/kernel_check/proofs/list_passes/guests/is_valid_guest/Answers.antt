use Rattle.std.proofs.Common.{◌∙◌, ◌+◌, get_or, sym, subst, arith}
use Rattle.std.proofs.lemmas.Bool.{false≢true}
use Rattle.kernel_model.specs.KernelRecord.ValidTasks.{IsFaultWord}
use Rattle.kernel_check.proofs.ListPasses.GuestWords.{guest-block}
use Rattle.kernel_check.proofs.list_passes.guests.is_valid_guest.Goals as goal
use Rattle.kernel_check.proofs.list_passes.guests.is_valid_guest.Goals.{else-fault-ne0-via-then-fault-ne0+else-not-has_task, else-fault-ne0-via-else-fault-ne0}

pub returns-then-not-has_block : goal.returns-then-not-has_block
returns-then-not-has_block c = (
  λ t. absurd (false≢true t),
  λ h. sym c.if-not-has_block.true ∙ c.has_block.ensures.1 ((guest-block c.args.store.now c.args.t _ (omega (arith, c.from.ensures, c.from-stack.ensures, c.field-2.ensures, c.head_words.ensures))).1 h.block),
)

pub returns : goal.returns
returns c = (
  λ t. (let m = c.has_modules.ensures.0 t in
      record {
        high = omega (arith, c.if-field-highest_of.false, c.field.ensures, c.highest_of.ensures.value);
        block = (guest-block c.args.store.now c.args.t _ (omega (arith, c.from.ensures, c.from-stack.ensures, c.field-2.ensures, c.head_words.ensures))).0 (c.has_block.ensures.0 c.if-not-has_block.false);
        some_module = m.some_module;
        most = m.most;
        modules = m.modules;
        fault = subst (λ z. IsFaultWord z (get_or c.args.store.now (c.args.t + 22) 0)) c.field-fault.ensures (subst (IsFaultWord c.field-fault.result) c.field-3.ensures (c.is_fault_word.ensures.0 c.if-not-is_fault_word.false));
        unreported = λ none. sym c.field-fault.ensures
            ∙ elim c.else-fault-ne0.branch [
              | else-fault-ne0-via-then-fault-ne0+else-not-has_task w ↦ absurd (false≢true (sym none ∙ sym w.has_task.ensures ∙ w.if-not-has_task.false))
              | else-fault-ne0-via-else-fault-ne0 w ↦ w.if-fault-ne0.false
            ];
      }),
  λ h. c.has_modules.ensures.1 (record { some_module = h.some_module; most = h.most; modules = h.modules }),
)

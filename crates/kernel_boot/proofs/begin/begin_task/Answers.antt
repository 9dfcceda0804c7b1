use Rattle.std.proofs.Common.{◌+◌, ◌%◌, get_or, ap, ◌∙◌, subst}
use Rattle.kernel_lists.specs.OwnedWords.Owned.{written}
use Rattle.kernel_model.specs.KernelDispatch.Private.DispatchWords.{saved_words}
use Rattle.kernel_calls.specs.CallAnswers.Guests.{GuestAt, IsGuestOf}
use Rattle.kernel_boot.proofs.BegunTask.{begun-changed, regs-read}
use Rattle.kernel_boot.proofs.begin.begin_task.Goals as goal

pub returns : goal.returns
returns c = λ l h there.
    let s = c.args.store.now in
    let task = c.unwrap-task.result in
    let g : GuestAt l c.args.id task = subst (IsGuestOf l c.args.id) c.unwrap-task.ensures (c.guest.ensures l h) in
    begun-changed s l c.args.id task h g c.save.new.store
    (record { a = 0; b = 0; c = 0; p = c.field.result; g = c.field-globals.result; pc = c.word_at.result })
    ((λ i. record { a = 0; b = 0; c = 0; p = c.field.ensures i; g = c.field-globals.ensures i; pc = (c.word_at.ensures ∙ ap (λ x. get_or s (x + 1) 0) c.field-globals.ensures) i }) ∙ regs-read s l c.args.id task h g)
    (c.save.ensures ∙ ap (λ w. written (saved_words task (w % 4 + 8) (record { a = 0; b = 0; c = 0; p = c.field.result; g = c.field-globals.result; pc = c.word_at.result })) s) c.field-2.ensures)

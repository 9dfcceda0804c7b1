use Rattle.std.proofs.Common.{◌≡◌, ◌∙◌, false, refl, sym, true}
use Rattle.kernel_model.specs.KernelRecord.Between.{is_empty_queue}
use Rattle.kernel_model.specs.KernelRecord.Recovered.{lists_in}
use Rattle.state_text.proofs.runner.can_answer.Goals as goal

pub returns-then-not-is_empty_queue : goal.returns-then-not-is_empty_queue
unfolding lists_in
returns-then-not-is_empty_queue c =
    let s = c.args.store.now in
    let clock : is_empty_queue (lists_in s).clock ≡ false = sym (rw c.address.ensures at c.is_empty_queue.ensures) ∙ c.if-not-is_empty_queue.true in
    rw (clock) refl

pub returns-then-not-is_empty_queue-2 : goal.returns-then-not-is_empty_queue-2
unfolding lists_in
returns-then-not-is_empty_queue-2 c =
    let s = c.args.store.now in
    let clock : is_empty_queue (lists_in s).clock ≡ true = sym (rw c.address.ensures at c.is_empty_queue.ensures) ∙ c.if-not-is_empty_queue.false in
    let output : is_empty_queue (lists_in s).output ≡ false = sym (rw c.address-2.ensures at c.is_empty_queue-2.ensures) ∙ c.if-not-is_empty_queue-2.true in
    rw (clock, output) refl

pub returns-then-is_empty_queue : goal.returns-then-is_empty_queue
unfolding lists_in
returns-then-is_empty_queue c =
    let s = c.args.store.now in
    let clock : is_empty_queue (lists_in s).clock ≡ true = sym (rw c.address.ensures at c.is_empty_queue.ensures) ∙ c.if-not-is_empty_queue.false in
    let output : is_empty_queue (lists_in s).output ≡ true = sym (rw c.address-2.ensures at c.is_empty_queue-2.ensures) ∙ c.if-not-is_empty_queue-2.false in
    let keyboard : is_empty_queue (lists_in s).keyboard ≡ true = sym (rw c.address-3.ensures at c.is_empty_queue-3.ensures) ∙ c.if-is_empty_queue.true in
    rw (clock, output, keyboard) refl

pub returns : goal.returns
unfolding lists_in
returns c =
    let s = c.args.store.now in
    let clock : is_empty_queue (lists_in s).clock ≡ true = sym (rw c.address.ensures at c.is_empty_queue.ensures) ∙ c.if-not-is_empty_queue.false in
    let output : is_empty_queue (lists_in s).output ≡ true = sym (rw c.address-2.ensures at c.is_empty_queue-2.ensures) ∙ c.if-not-is_empty_queue-2.false in
    let keyboard : is_empty_queue (lists_in s).keyboard ≡ false = sym (rw c.address-3.ensures at c.is_empty_queue-3.ensures) ∙ c.if-is_empty_queue.false in
    rw (clock, output, keyboard) refl

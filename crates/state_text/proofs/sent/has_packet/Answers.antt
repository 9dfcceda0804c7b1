use Rattle.std.proofs.Common.{◌≡◌, ◌∙◌, false, refl, sym, true}
use Rattle.std.specs.List.{list_any}
use Rattle.kernel_model.specs.KernelRecord.Recovered.{lists_in}
use Rattle.state_text.specs.AwaitedPackets.{is_from}
use Rattle.state_text.proofs.ListedWords.{any-queued}
use Rattle.state_text.proofs.sent.has_packet.Goals as goal

pub returns-then-is_at_tasks : goal.returns-then-is_at_tasks
unfolding lists_in
returns-then-is_at_tasks c =
    let s = c.args.store.now in
    let tasks : list_any (λ t. list_any (is_from c.args.id) t.queue) (lists_in s).tasks ≡ true = sym c.is_at_tasks.ensures ∙ c.if-is_at_tasks.true in
    rw (any-queued (is_from c.args.id) (lists_in s), tasks) refl

pub returns-then-is_on_queue : goal.returns-then-is_on_queue
unfolding lists_in
returns-then-is_on_queue c =
    let s = c.args.store.now in
    let tasks : list_any (λ t. list_any (is_from c.args.id) t.queue) (lists_in s).tasks ≡ false = sym c.is_at_tasks.ensures ∙ c.if-is_at_tasks.false in
    let clock : list_any (is_from c.args.id) (lists_in s).clock ≡ true = sym (rw c.address.ensures at c.is_on_queue.ensures) ∙ c.if-is_on_queue.true in
    rw (any-queued (is_from c.args.id) (lists_in s), tasks, clock) refl

pub returns-then-is_on_queue-2 : goal.returns-then-is_on_queue-2
unfolding lists_in
returns-then-is_on_queue-2 c =
    let s = c.args.store.now in
    let tasks : list_any (λ t. list_any (is_from c.args.id) t.queue) (lists_in s).tasks ≡ false = sym c.is_at_tasks.ensures ∙ c.if-is_at_tasks.false in
    let clock : list_any (is_from c.args.id) (lists_in s).clock ≡ false = sym (rw c.address.ensures at c.is_on_queue.ensures) ∙ c.if-is_on_queue.false in
    let keyboard : list_any (is_from c.args.id) (lists_in s).keyboard ≡ true = sym (rw c.address-2.ensures at c.is_on_queue-2.ensures) ∙ c.if-is_on_queue-2.true in
    rw (any-queued (is_from c.args.id) (lists_in s), tasks, clock, keyboard) refl

pub returns-then-is_on_queue-3 : goal.returns-then-is_on_queue-3
unfolding lists_in
returns-then-is_on_queue-3 c =
    let s = c.args.store.now in
    let tasks : list_any (λ t. list_any (is_from c.args.id) t.queue) (lists_in s).tasks ≡ false = sym c.is_at_tasks.ensures ∙ c.if-is_at_tasks.false in
    let clock : list_any (is_from c.args.id) (lists_in s).clock ≡ false = sym (rw c.address.ensures at c.is_on_queue.ensures) ∙ c.if-is_on_queue.false in
    let keyboard : list_any (is_from c.args.id) (lists_in s).keyboard ≡ false = sym (rw c.address-2.ensures at c.is_on_queue-2.ensures) ∙ c.if-is_on_queue-2.false in
    let output : list_any (is_from c.args.id) (lists_in s).output ≡ true = sym (rw c.address-3.ensures at c.is_on_queue-3.ensures) ∙ c.if-is_on_queue-3.true in
    rw (any-queued (is_from c.args.id) (lists_in s), tasks, clock, keyboard, output) refl

pub returns : goal.returns
unfolding lists_in
returns c =
    let s = c.args.store.now in
    let tasks : list_any (λ t. list_any (is_from c.args.id) t.queue) (lists_in s).tasks ≡ false = sym c.is_at_tasks.ensures ∙ c.if-is_at_tasks.false in
    let clock : list_any (is_from c.args.id) (lists_in s).clock ≡ false = sym (rw c.address.ensures at c.is_on_queue.ensures) ∙ c.if-is_on_queue.false in
    let keyboard : list_any (is_from c.args.id) (lists_in s).keyboard ≡ false = sym (rw c.address-2.ensures at c.is_on_queue-2.ensures) ∙ c.if-is_on_queue-2.false in
    let output : list_any (is_from c.args.id) (lists_in s).output ≡ false = sym (rw c.address-3.ensures at c.is_on_queue-3.ensures) ∙ c.if-is_on_queue-3.false in
    rw (any-queued (is_from c.args.id) (lists_in s), tasks, clock, keyboard, output) c.is_at_console.ensures

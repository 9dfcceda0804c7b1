use Rattle.std.proofs.Common.{◌≡◌, ℕ, ◌+◌, List, drop, set, ap, ◌∙◌, arith}
use Rattle.word_store.specs.Row.{with_words}
use Rattle.kernel_lists.specs.OwnedWords.LinkedWords.{first_of}
use Rattle.kernel_lists.specs.TaskBlock.Versions.{head_words}
use Rattle.kernel_calls.proofs.TaskCalls.NewTaskRow.{modules-room, row-written}
use Rattle.kernel_calls.proofs.task_calls.new_tasks.write_head.Goals as goal

pub returns : goal.returns
returns c = λ s rest is.
    let old : List ℕ = c.args.store.now in
    let t : ℕ = c.args.t in
    let head : ℕ = head_words old in
    let modules : List ℕ = c.args.modules.now in
    let room = modules-room old in
    let globals : c.address_of-globals.result ≡ t + head = c.address_of-globals.ensures ∙ ap (λ z. t + z) c.head_words.ensures in
    let stack : c.address_of-stack.result ≡ t + head + 1001 = c.address_of-stack.ensures ∙ ap (λ z. z + 1001) globals in
    let two = c.set_field-2.ensures ∙ ap (λ z. set z (t + 2) c.args.pri) c.set_field.ensures in
    let three = c.set_field-3.ensures ∙ ap (λ z. set z (t + 4) 12) two in
    let four = c.set_field-4.ensures ∙ (λ i. set (three i) (t + 6) (stack i)) in
    let five = c.set_field-5.ensures ∙ ap (λ z. set z (t + 7) c.args.u) four in
    let six = c.set_field-6.ensures ∙ (λ i. set (five i) (t + 8) (globals i)) in
    let seven = c.set_field-7.ensures ∙ ap (λ z. set z (t + 9) c.args.maker) six in
    let eight = c.write_modules.ensures ∙ ap (λ z. with_words (set z (t + 10) (first_of (λ m. m) modules 0)) (t + 23) (drop 1 modules)) seven in
    c.set.ensures.after ∙ (λ i. set (eight i) (globals i) 1000)
    ∙ row-written s t head c.args.number modules c.args.u c.args.pri c.args.maker rest room.1 (omega (arith, room.0, c.requires.most)) old is

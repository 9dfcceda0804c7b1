use Rattle.std.proofs.Common.{◌∙◌, ◌&&◌, ap, leb, sym}
use Rattle.std.proofs.lemmas.Bool.{le-leb, lt-leb}
use Rattle.kernel_machine.proofs.RunningMachine.TurnTests.{other-version, pipes-told}
use Rattle.kernel_machine.proofs.running_machine.residents.serves_pipes.Goals as goal

pub returns-then-root-ne-SECOND_VERSION : goal.returns-then-root-ne-SECOND_VERSION
returns-then-root-ne-SECOND_VERSION c = λ l h r. other-version c.args.store.now l h (λ e. c.if-root-ne-SECOND_VERSION.true (c.root.ensures ∙ e))

pub returns-then-kind-ge-FIRST_PIPE_KIND : goal.returns-then-kind-ge-FIRST_PIPE_KIND
returns-then-kind-ge-FIRST_PIPE_KIND c = λ l h r.
    let told = pipes-told c.args.store.now l h r c.in-Some.p (sym c.root.ensures ∙ c.if-root-ne-SECOND_VERSION.false) (sym c.in-Some.is ∙ c.first_packet.ensures l h r) in
    ap (λ b. b && leb c.word_at-kind.result 23) (sym (le-leb 20 c.word_at-kind.result c.if-kind-ge-FIRST_PIPE_KIND.true)) ∙ ap (λ k. leb 20 k && leb k 23) c.word_at-kind.ensures ∙ sym told

pub returns-else-kind-ge-FIRST_PIPE_KIND : goal.returns-else-kind-ge-FIRST_PIPE_KIND
returns-else-kind-ge-FIRST_PIPE_KIND c = λ l h r.
    let told = pipes-told c.args.store.now l h r c.in-Some.p (sym c.root.ensures ∙ c.if-root-ne-SECOND_VERSION.false) (sym c.in-Some.is ∙ c.first_packet.ensures l h r) in
    let low = lt-leb 20 c.word_at-kind.result c.if-kind-ge-FIRST_PIPE_KIND.false in
    low ∙ ap (λ b. b && leb c.word_at-kind.result 23) (sym low) ∙ ap (λ k. leb 20 k && leb k 23) c.word_at-kind.ensures ∙ sym told

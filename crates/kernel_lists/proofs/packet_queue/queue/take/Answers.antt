use Rattle.std.proofs.Common.{◌≡◌, ◌∙◌, ◌∷◌, Bool, true, false, ap, sym, refl}
use Rattle.std.specs.Bool.{OnTrue}
use Rattle.std.proofs.lemmas.Bool.{false≢true}
use Rattle.kernel_lists.proofs.PacketQueue.QueueChanges.{first-packet, queue_at-none}
use Rattle.kernel_lists.proofs.packet_queue.queue.take.Goals as goal

pub returns-then-p-eq0-clause-empty : goal.returns-then-p-eq0-clause-empty
returns-then-p-eq0-clause-empty c = (λ _. queue_at-none c.args.store.now c.args.head (sym c.word-p.ensures ∙ c.if-p-eq0.true), λ _. refl)

pub returns-clause-first : goal.returns-clause-first
returns-clause-first c =
    (first-packet c.args.store.now c.args.head c.word-p.result c.requires c.word-p.ensures c.if-p-eq0.false).whole
    ∙ ap (λ z. c.word-p.result ∷ z) (sym c.remove.ensures.queue)

pub returns-clause-words : goal.returns-clause-words
returns-clause-words c =
    known c.remove.result _ (c.remove.ensures.found ∙ (first-packet c.args.store.now c.args.head c.word-p.result c.requires c.word-p.ensures c.if-p-eq0.false).among)
    c.remove.ensures.words
  where
    known : (b : Bool) (P : Type 0) → b ≡ true → OnTrue b P → P
    known true P e words = words
    known false P e words = absurd (false≢true e)

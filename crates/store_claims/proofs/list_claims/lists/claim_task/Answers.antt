use Rattle.std.proofs.Common.{◌≡◌, ◌↔◌, ◌∙◌, ◌+◌, ℕ, Bool, true, List, ap, subst}
use Rattle.std.proofs.lemmas.Bool.{false≢true}
use Rattle.store_claims.specs.WordClaims.Marks.{AreClaimed}
use Rattle.store_claims.specs.ListClaims.ListWords.{Can, coroutine_words_at, queue_words_at}
use Rattle.store_claims.specs.ListClaims.ListEnds.{QueueEnds}
use Rattle.store_claims.proofs.ListClaims.JoinedClaims.{claimed-both, refused, went-on}
use Rattle.store_claims.proofs.ListClaims.ListAnswers.{on-true, when-true}
use Rattle.store_claims.proofs.list_claims.lists.claim_task.Goals as goal

-- what is said of the address that was computed is said of the queue's head
at-head : (s : List ℕ) (m : List Bool) (b : Bool) (h t i : ℕ) → h ≡ t + i → i ≡ 3 → ((b ≡ true) ↔ Can (QueueEnds s h) m (queue_words_at s h)) → (b ≡ true) ↔ Can (QueueEnds s (t + 3)) m (queue_words_at s (t + 3))
at-head s m b h t i is three answer = subst (λ h. (b ≡ true) ↔ Can (QueueEnds s h) m (queue_words_at s h)) (is ∙ ap (λ i. t + i) three) answer

claimed-at : (s : List ℕ) (m v : List Bool) (h t i : ℕ) → h ≡ t + i → i ≡ 3 → AreClaimed m v (queue_words_at s h) → AreClaimed m v (queue_words_at s (t + 3))
claimed-at s m v h t i is three claimed = subst (λ h. AreClaimed m v (queue_words_at s h)) (is ∙ ap (λ i. t + i) three) claimed

pub returns-then-not-claim_queue-clause-answer : goal.returns-then-not-claim_queue-clause-answer
returns-then-not-claim_queue-clause-answer c = (
  λ t. absurd (false≢true t),
  λ all. refused c.args.words.now (queue_words_at c.args.store.now (c.args.t + 3)) (coroutine_words_at c.args.store.now c.args.t) c.claim_queue.result
      (at-head c.args.store.now c.args.words.now c.claim_queue.result c.address_of.result c.args.t c.index.result c.address_of.ensures c.index.ensures c.claim_queue.ensures.answer) c.if-not-claim_queue.true all,
)

pub returns-clause-answer : goal.returns-clause-answer
returns-clause-answer c =
    went-on c.args.words.now c.claim_queue.new.words (queue_words_at c.args.store.now (c.args.t + 3)) (coroutine_words_at c.args.store.now c.args.t) c.claim_queue.result c.claim_coroutines.result
    (at-head c.args.store.now c.args.words.now c.claim_queue.result c.address_of.result c.args.t c.index.result c.address_of.ensures c.index.ensures c.claim_queue.ensures.answer) c.if-not-claim_queue.false
    (claimed-at c.args.store.now c.args.words.now c.claim_queue.new.words c.address_of.result c.args.t c.index.result c.address_of.ensures c.index.ensures c.if-not-claim_queue.ensures.claimed)
    c.claim_coroutines.ensures.answer

pub returns-clause-claimed : goal.returns-clause-claimed
returns-clause-claimed c =
    on-true c.claim_coroutines.result _
    (λ t. claimed-both c.args.words.now c.claim_queue.new.words c.claim_coroutines.new.words (queue_words_at c.args.store.now (c.args.t + 3)) (coroutine_words_at c.args.store.now c.args.t)
    (claimed-at c.args.store.now c.args.words.now c.claim_queue.new.words c.address_of.result c.args.t c.index.result c.address_of.ensures c.index.ensures c.if-not-claim_queue.ensures.claimed)
    (when-true c.claim_coroutines.result _ t c.claim_coroutines.ensures.claimed))

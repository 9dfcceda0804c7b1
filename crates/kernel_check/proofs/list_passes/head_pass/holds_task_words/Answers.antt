use Rattle.std.proofs.Common.{◌∙◌, sym}
use Rattle.std.proofs.lemmas.Bool.{false≢true}
use Rattle.kernel_check.proofs.ListPasses.FrameWords.{parents-are}
use Rattle.kernel_check.proofs.ListPasses.HeadWords.{holds-state}
use Rattle.kernel_check.proofs.list_passes.head_pass.holds_task_words.Goals as goal

pub holds_further_words-requires-clause-first : goal.holds_further_words-requires-clause-first
holds_further_words-requires-clause-first c = ((holds-state c.args.store.now c.args.t).1 (c.holds_state_words.ensures.0 c.if-not-holds_state_words.false)).first

pub holds_frames-requires-clause-parents : goal.holds_frames-requires-clause-parents
holds_frames-requires-clause-parents c = parents-are c.args.store.now c.args.t c.requires.can c.requires.own

pub returns-then-not-holds_state_words : goal.returns-then-not-holds_state_words
returns-then-not-holds_state_words c = (λ t. absurd (false≢true t), λ h. sym c.if-not-holds_state_words.true ∙ c.holds_state_words.ensures.1 h.state)

pub returns-then-not-holds_further_words : goal.returns-then-not-holds_further_words
returns-then-not-holds_further_words c = (λ t. absurd (false≢true t), λ h. sym c.if-not-holds_further_words.true ∙ c.holds_further_words.ensures.1 h.fault)

pub returns : goal.returns
returns c = (
  λ t. record { state = c.holds_state_words.ensures.0 c.if-not-holds_state_words.false; fault = c.holds_further_words.ensures.0 c.if-not-holds_further_words.false; coroutines = c.holds_frames.ensures.0 t },
  λ h. c.holds_frames.ensures.1 h.coroutines,
)

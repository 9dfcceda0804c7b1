use Rattle.std.proofs.Common.{◌∙◌, ◌-◌, sym, ap}
use Rattle.std.proofs.lemmas.Bool.{false≢true}
use Rattle.kernel_check.proofs.ListPasses.GuestWords.{had-first, had-named, had-word, modules-had, word-behind, word-here}
use Rattle.kernel_check.proofs.list_passes.guests.has_modules.Goals as goal

pub returns-then-not-are_named : goal.returns-then-not-are_named
returns-then-not-are_named c = (
  λ t. absurd (false≢true t),
  λ h. sym c.if-not-are_named.true
      ∙ c.are_named.ensures.1
      (had-named c.args.store.now c.args.modules.now c.args.t c.field-first.result c.address_of.result _ c.in-Some.further.now c.requires.claimed c.requires.modules c.requires.guest c.field-first.ensures
      c.in-Some.ensures.inside c.address_of.ensures (ap (λ z. z - 23) c.head_words.ensures) h),
)

pub returns-then-first-eq0 : goal.returns-then-first-eq0
returns-then-first-eq0 c = (
  λ t. modules-had c.args.store.now c.args.modules.now c.args.t c.field-first.result c.address_of.result _ c.in-Some.further.now c.requires.claimed c.requires.modules c.requires.guest c.field-first.ensures
      c.in-Some.ensures.inside c.address_of.ensures (ap (λ z. z - 23) c.head_words.ensures) (c.are_named.ensures.0 c.if-not-are_named.false) (λ some. absurd (some c.if-first-eq0.true))
      (word-behind c.field-first.result c.in-Some.further.now (c.has_word.ensures.0 t)),
  λ h. c.has_word.ensures.1
      (had-word c.args.store.now c.args.modules.now c.args.t c.field-first.result c.address_of.result _ c.in-Some.further.now c.requires.claimed c.requires.modules c.requires.guest c.field-first.ensures
      c.in-Some.ensures.inside c.address_of.ensures (ap (λ z. z - 23) c.head_words.ensures) h c.if-first-eq0.true),
)

pub returns : goal.returns
returns c = (
  λ t. modules-had c.args.store.now c.args.modules.now c.args.t c.field-first.result c.address_of.result _ c.in-Some.further.now c.requires.claimed c.requires.modules c.requires.guest c.field-first.ensures
      c.in-Some.ensures.inside c.address_of.ensures (ap (λ z. z - 23) c.head_words.ensures) (c.are_named.ensures.0 c.if-not-are_named.false) (λ some. sym c.is_open.ensures ∙ t)
      (word-here c.field-first.result c.in-Some.further.now c.if-first-eq0.false),
  λ h. c.is_open.ensures
      ∙ had-first c.args.store.now c.args.modules.now c.args.t c.field-first.result c.address_of.result _ c.in-Some.further.now c.requires.claimed c.requires.modules c.requires.guest c.field-first.ensures
      c.in-Some.ensures.inside c.address_of.ensures (ap (λ z. z - 23) c.head_words.ensures) h c.if-first-eq0.false,
)

use Rattle.std.proofs.Common.{◌≡◌, ◌≢◌, ◌∙◌, arith, ap, sym, eqb, Bool, true, false, refl}
use Rattle.std.specs.Prelude.{not}
use Rattle.std.proofs.lemmas.Bool.Decides.{nat_tests}
use Rattle.kernel_lists.specs.Coroutines.Refusals.{has_parent}
use Rattle.kernel_lists.proofs.Coroutines.KnownCoroutines.{no_parent-word, parent-word}
use Rattle.kernel_lists.proofs.coroutine_lists.members.has_parent.Goals as goal

pub returns : goal.returns
returns c = on (has_parent c.args.store.now c.args.t c.args.c) refl
  where
    on : (b : Bool) → has_parent c.args.store.now c.args.t c.args.c ≡ b → not (eqb c.word_at.result 0) ≡ b
    on true e =
        let some : c.word_at.result ≢ 0 = λ z. parent-word c.args.store.now c.args.t c.args.c c.requires.coroutines c.requires.known e (sym c.word_at.ensures ∙ z) in
        let test : eqb c.word_at.result 0 ≡ false = grind (arith, nat_tests) in
        ap not test
    on false e =
        let none : c.word_at.result ≡ 0 = c.word_at.ensures ∙ no_parent-word c.args.store.now c.args.t c.args.c c.requires.coroutines c.requires.known e in
        let test : eqb c.word_at.result 0 ≡ true = grind (arith, nat_tests) in
        ap not test

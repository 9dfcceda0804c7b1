use Rattle.std.proofs.Common.{◌∙◌, ◌<◌, ◌≤◌, ℕ, List, length, ap, arith, sym}
use Rattle.kernel_lists.specs.HunkLoader.RelocatedWords.{relocated}
use Rattle.state_text.proofs.LoadedWords.{starts-end, starts-none, starts-other}
use Rattle.state_text.proofs.programs.has_image.Goals as goal
use Rattle.kernel_lists.proofs.HunkLoader.RelocationLists.{length-relocated}

pub returns-in_default-clause-words : goal.returns-in_default-clause-words
returns-in_default-clause-words c =
    let h = c.args.hunk.now in
    let image : List ℕ = relocated c.args.base h.words h.relocations in
    let inside : c.loop-i.i < length image = omega (arith, length-relocated c.args.base h.words h.relocations, c.loop-i-test.true, ap length c.as_slice-i-end.ensures) in
    starts-none c.loop-i.rest.now image c.loop-i.i c.in_default.len_below inside ∙ sym c.loop-i.invariant.0

pub returns-in_default-2-clause-words : goal.returns-in_default-2-clause-words
returns-in_default-2-clause-words c =
    let h = c.args.hunk.now in
    let image : List ℕ = relocated c.args.base h.words h.relocations in
    let inside : c.loop-i.i < length image = omega (arith, length-relocated c.args.base h.words h.relocations, c.loop-i-test.true, ap length c.as_slice-i-end.ensures) in
    starts-other c.loop-i.rest.now image c.loop-i.i c.in-len1-up.len_at_least inside (λ same. c.if-word-relocated_word.false (same ∙ sym c.relocated_word.ensures)) ∙ sym c.loop-i.invariant.0

pub returns-clause-words : goal.returns-clause-words
returns-clause-words c =
    let h = c.args.hunk.now in
    let image : List ℕ = relocated c.args.base h.words h.relocations in
    let all : length image ≤ c.loop-i.i = omega (arith, length-relocated c.args.base h.words h.relocations, c.loop-i-test.false, ap length c.as_slice-i-end.ensures) in
    starts-end c.loop-i.rest.now image c.loop-i.i all ∙ sym c.loop-i.invariant.0

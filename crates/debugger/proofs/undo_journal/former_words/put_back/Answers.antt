use Rattle.std.proofs.Common.{◌≡◌, ◌+◌, ◌-◌, ◌<◌, [], ◌∷◌, ◌++◌, length, get_or, set, take, drop, sym, ap, ◌∙◌, arith}
use Rattle.std.proofs.lemmas.List.{drop_more, take_more}
use Rattle.std.proofs.lemmas.Option.{same_Some}
use Rattle.circular_buffer.specs.Buffer.{Buffer, buffer, last_item}
use Rattle.debugger.specs.UndoJournal.FormerWords.{words_before}
use Rattle.debugger.proofs.UndoJournal.RingLemmas.{last_item-push, take-push}
use Rattle.debugger.proofs.undo_journal.former_words.put_back.Goals as goal

pub loop-i-preserved : goal.loop-i-preserved
loop-i-preserved c =
    let fs = c.args.former.now.items in
    let capacity = c.args.former.now.capacity in
    let inv = c.loop-i.invariant in
    let f = c.in-Some.last in
    let n = length fs - (c.loop-i._i + 1) in
    let inside : n < length fs = omega arith in
    let at : length fs - c.loop-i._i ≡ n + 1 = omega arith in
    let former : c.loop-i.former ≡ buffer (take n fs ++ get_or fs n f ∷ []) capacity =
    inv.former ∙ (ap (λ k. buffer (take k fs) capacity) at ∙ ap (λ l. buffer l capacity) (take_more fs n f inside)) in
    let is : f ≡ get_or fs n f =
    same_Some f (get_or fs n f) (c.in-Some.ensures.value ∙ (ap (λ (b : Buffer _). last_item b.items) former ∙ last_item-push (take n fs) (get_or fs n f))) in
    let back : drop (length fs - c.loop-i._i) fs ≡ drop (n + 1) fs = ap (λ k. drop k fs) at in
    let all : drop n fs ≡ f ∷ drop (n + 1) fs = drop_more fs n f inside ∙ ap (λ g. g ∷ drop (n + 1) fs) (sym is) in
    record {
      former =
          c.in-Some.ensures.items
          ∙ (ap (λ (b : Buffer _). buffer (take (length b.items - 1) b.items) b.capacity) former
          ∙ ap (λ l. buffer l capacity) (take-push (take n fs) (get_or fs n f)));
      latest =
          c.set.ensures.after
          ∙ (ap (λ v. set v f.address f.word) (inv.latest ∙ ap (λ l. words_before l c.args.latest.now) back)
          ∙ ap (λ l. words_before l c.args.latest.now) (sym all));
      store = c.set-in-loop-i.ensures.after ∙ (ap (λ v. set v f.address f.word) inv.store ∙ sym c.set.ensures.after);
    }

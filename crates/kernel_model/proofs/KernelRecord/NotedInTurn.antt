-- Events that a log notes one after the other.
use Rattle.std.proofs.Common.{◌≡◌, Bool, true, false, List, [], ◌∷◌, ◌++◌, Option, Some, None, refl, sym, ap, ◌∙◌}
use Rattle.std.specs.Prelude.{IsTrue}
use Rattle.std.specs.Bool.{OnFalse, OnTrue}
use Rattle.std.specs.Option.{option_map}
use Rattle.std.proofs.lemmas.List.{append_assoc, append-nil}
use Rattle.kernel_lists.specs.PacketQueue.Log.{Notes}
use Rattle.kernel_lists.specs.declared.packet_queue.events.KernelEvent.{KernelEvent}
use Rattle.kernel_model.specs.KernelRecord.NotedEvents.{NotesAll}

abbrev Events : Type 0
Events = List KernelEvent

gained-none : (n : Option Events) → n ≡ option_map (λ es. es ++ []) n
gained-none None = refl
gained-none (Some es) = ap Some (sym (append-nil es))

nothing-false : (f : Bool) (es : Events) → es ≡ [] → OnFalse f (es ≡ [])
nothing-false true es e = tt
nothing-false false es e = e

nothing-true : (f : Bool) (es : Events) → es ≡ [] → OnTrue f (es ≡ [])
nothing-true true es e = e
nothing-true false es e = tt

never : IsTrue false → ⊥
never e = cc

pub notes-none : (n : Option Events) (f : Bool) → NotesAll n n f f []
notes-none n f = record { front = []; rest = []; is = refl; gained = gained-none n; whole = nothing-false f [] refl; none = nothing-true f [] refl; for_good = λ h. h }

pub notes-one : (b n : Option Events) (f g : Bool) (e : KernelEvent) → Notes b n f g e → NotesAll b n f g (e ∷ [])
notes-one b n f true e x = record { front = []; rest = e ∷ []; is = refl; gained = x.kept ∙ gained-none b; whole = tt; none = nothing-true f [] refl; for_good = x.for_good }
notes-one b n false false e x = record { front = e ∷ []; rest = []; is = refl; gained = x.added; whole = refl; none = tt; for_good = x.for_good }
notes-one b n true false e x = absurd (never (x.for_good refl))

gained-both : (b m n : Option Events) (xs ys : Events) → m ≡ option_map (λ es. es ++ xs) b → n ≡ option_map (λ es. es ++ ys) m → n ≡ option_map (λ es. es ++ (xs ++ ys)) b
gained-both None m n xs ys e f = f ∙ ap (option_map (λ es. es ++ ys)) e
gained-both (Some es) m n xs ys e f = f ∙ ap (option_map (λ es. es ++ ys)) e ∙ ap Some (append_assoc es xs ys)

pub notes-then : (b m n : Option Events) (f g h : Bool) (xs ys : Events) → NotesAll b m f g xs → NotesAll m n g h ys → NotesAll b n f h (xs ++ ys)
notes-then b m n f true true xs ys x y =
    record {
      front = x.front ++ y.front;
      rest = x.rest ++ ys;
      is = ap (λ z. z ++ ys) x.is ∙ append_assoc x.front x.rest ys ∙ ap (λ z. z ++ (x.rest ++ ys)) (sym (append-nil x.front)) ∙ ap (λ z. (x.front ++ z) ++ (x.rest ++ ys)) (sym y.none);
      gained = gained-both b m n x.front y.front x.gained y.gained;
      whole = tt;
      none = both f x.none;
      for_good = λ _. refl;
    }
  where
    both : (f : Bool) → OnTrue f (x.front ≡ []) → OnTrue f (x.front ++ y.front ≡ [])
    both true e = ap (λ z. z ++ y.front) e ∙ y.none
    both false e = tt
notes-then b m n f true false xs ys x y = absurd (never (y.for_good refl))
notes-then b m n true false h xs ys x y = absurd (never (x.for_good refl))
notes-then b m n false false h xs ys x y =
    record {
      front = x.front ++ y.front;
      rest = y.rest;
      is = ap (λ z. z ++ ys) (x.is ∙ ap (λ z. x.front ++ z) x.whole ∙ append-nil x.front) ∙ ap (λ z. x.front ++ z) y.is ∙ sym (append_assoc x.front y.front y.rest);
      gained = gained-both b m n x.front y.front x.gained y.gained;
      whole = y.whole;
      none = tt;
      for_good = λ e. absurd (never e);
    }

-- The files that stood once so many steps were taken.
use Rattle.std.proofs.Common.{◌≡◌, ℕ, zero, suc, ◌+◌, ◌-◌, ◌<◌, ◌≤◌, Bool, true, false, cond, leb, ltb, Option, Some, None, List, [], ◌∷◌, ◌++◌, length, take, map, refl, sym, ap, subst, ◌∙◌, arith, append_assoc, append-nil}
use Rattle.std.specs.List.{AllByRecursion}
use Rattle.std.proofs.lemmas.Bool.{le-leb, lt-leb, lt-ltb, le-ltb}
use Rattle.std.proofs.lemmas.List.{length-take}
use Rattle.circular_buffer.specs.Buffer.{last_item}
use Rattle.debugger.proofs.UndoJournal.RingLemmas.{last_item-push, take-push}
use Rattle.debugger.specs.MachineHistory.FilesBefore.{files_at, files_from, files_in, forgotten, front_from_last, gone_back, is_later, to_front}
use Rattle.debugger.specs.declared.machine_history.files.KeptFiles.{KeptFiles}

abbrev pub Until : ℕ → List KeptFiles → Type 0
Until n fs = AllByRecursion (λ f. f.since ≤ n) fs

abbrev pub After : ℕ → List KeptFiles → Type 0
After n fs = AllByRecursion (λ f. n < f.since) fs

-- ---- what was not yet, and what is no more

pub later-one : (n : ℕ) (f : KeptFiles) (gs : List KeptFiles) (g : KeptFiles) → n < g.since → files_from n f (gs ++ g ∷ []) ≡ files_from n f gs
later-one n f [] g h = ap (λ b. cond b (files_in g) (files_in f)) (lt-leb g.since n h)
later-one n f (e ∷ gs) g h = ap (λ x. cond (leb e.since n) x (files_in f)) (later-one n e gs g h)

pub later-all : (n : ℕ) (f : KeptFiles) (gs hs : List KeptFiles) → After n hs → files_from n f (gs ++ hs) ≡ files_from n f gs
later-all n f gs [] after = ap (λ l. files_from n f l) (append-nil gs)
later-all n f gs (h ∷ hs) after =
    sym (ap (λ l. files_from n f l) (append_assoc gs (h ∷ []) hs)) ∙ later-all n f (gs ++ h ∷ []) hs after.1 ∙ later-one n f gs h after.0

pub later-at : (n : ℕ) (fs hs : List KeptFiles) → 0 < length fs → After n hs → files_at n (fs ++ hs) ≡ files_at n fs
later-at n [] hs some after = absurd (omega (arith, some))
later-at n (f ∷ fs) hs some after = later-all n f fs hs after

-- the first, behind which another one had come to be
pub earlier-one : (n : ℕ) (f g : KeptFiles) (gs : List KeptFiles) → g.since ≤ n → files_at n (f ∷ g ∷ gs) ≡ files_at n (g ∷ gs)
earlier-one n f g gs h = ap (λ b. cond b (files_from n g gs) (files_in f)) (le-leb g.since n h)

pub earlier-all : (n : ℕ) (es : List KeptFiles) (f : KeptFiles) (fs : List KeptFiles) → Until n es → f.since ≤ n → files_at n (es ++ f ∷ fs) ≡ files_at n (f ∷ fs)
earlier-all n [] f fs until one = refl
earlier-all n (e ∷ []) f fs until one = earlier-one n e f fs one
earlier-all n (e ∷ d ∷ es) f fs until one = earlier-one n e d (es ++ f ∷ fs) until.1.0 ∙ earlier-all n (d ∷ es) f fs until.1 one

-- ---- the last

pub last-from : (n : ℕ) (f : KeptFiles) (gs : List KeptFiles) (g : KeptFiles) → Until n gs → g.since ≤ n → files_from n f (gs ++ g ∷ []) ≡ files_in g
last-from n f [] g until one = ap (λ b. cond b (files_in g) (files_in f)) (le-leb g.since n one)
last-from n f (e ∷ gs) g until one = ap (λ b. cond b (files_from n e (gs ++ g ∷ [])) (files_in f)) (le-leb e.since n until.0) ∙ last-from n e gs g until.1 one

pub last-at : (n : ℕ) (fs : List KeptFiles) (g : KeptFiles) → Until n fs → g.since ≤ n → files_at n (fs ++ g ∷ []) ≡ files_in g
last-at n [] g until one = refl
last-at n (f ∷ fs) g until one = last-from n f fs g until.1 one

-- where all have come to be, time changes nothing
pub same-from : (m n : ℕ) (f : KeptFiles) (gs : List KeptFiles) → Until m gs → Until n gs → files_from m f gs ≡ files_from n f gs
same-from m n f [] one two = refl
same-from m n f (g ∷ gs) one two =
    ap (λ b. cond b (files_from m g gs) (files_in f)) (le-leb g.since m one.0)
    ∙ same-from m n g gs one.1 two.1
    ∙ sym (ap (λ b. cond b (files_from n g gs) (files_in f)) (le-leb g.since n two.0))

pub same-at : (m n : ℕ) (fs : List KeptFiles) → Until m fs → Until n fs → files_at m fs ≡ files_at n fs
same-at m n [] one two = refl
same-at m n (f ∷ fs) one two = same-from m n f fs one.1 two.1

-- ---- going back

front-one : (n : ℕ) (fs : List KeptFiles) (f : KeptFiles) → n < f.since → front_from_last n (last_item (fs ++ f ∷ [])) (fs ++ f ∷ []) ≡ forgotten f ∷ fs
front-one n fs f h =
    ap (λ o. front_from_last n o (fs ++ f ∷ [])) (last_item-push fs f)
    ∙ ap (λ b. cond b (to_front (Some f) (fs ++ f ∷ [])) (fs ++ f ∷ [])) (lt-ltb n f.since h)
    ∙ ap (λ l. forgotten f ∷ l) (take-push fs f)

front-none : (n : ℕ) (fs : List KeptFiles) (f : KeptFiles) → f.since ≤ n → front_from_last n (last_item (fs ++ f ∷ [])) (fs ++ f ∷ []) ≡ fs ++ f ∷ []
front-none n fs f h =
    ap (λ o. front_from_last n o (fs ++ f ∷ [])) (last_item-push fs f)
    ∙ ap (λ b. cond b (to_front (Some f) (fs ++ f ∷ [])) (fs ++ f ∷ [])) (le-ltb n f.since h)

-- there are as many as before
pub front-length : (n : ℕ) (fs : List KeptFiles) → length (front_from_last n (last_item fs) fs) ≡ length fs
front-length n [] = refl
front-length n (f ∷ fs) = on (last_item (f ∷ fs))
  where
    short : length (take (length (f ∷ fs) - 1) (f ∷ fs)) ≡ length fs
    short = length-take (length (f ∷ fs) - 1) (f ∷ fs) ∙ omega arith

    moved : (b : Bool) (g : KeptFiles) → length (cond b (forgotten g ∷ take (length (f ∷ fs) - 1) (f ∷ fs)) (f ∷ fs)) ≡ length (f ∷ fs)
    moved true g = ap suc short
    moved false g = refl

    on : (o : Option KeptFiles) → length (front_from_last n o (f ∷ fs)) ≡ length (f ∷ fs)
    on None = refl
    on (Some g) = moved (ltb n g.since) g

back-none : (most n : ℕ) (fs : List KeptFiles) (f : KeptFiles) → f.since ≤ n → gone_back most n (fs ++ f ∷ []) ≡ fs ++ f ∷ []
unfolding gone_back
back-none zero n fs f h = refl
back-none (suc most) n fs f h = ap (gone_back most n) (front-none n fs f h) ∙ back-none most n fs f h

-- none goes where the last had come to be
pub back-same : (most n : ℕ) (fs : List KeptFiles) → is_later n (last_item fs) ≡ false → gone_back most n fs ≡ fs
unfolding gone_back
back-same zero n fs early = refl
back-same (suc most) n fs early = ap (gone_back most n) (ap (λ b. cond b (to_front (last_item fs) fs) fs) early) ∙ back-same most n fs early

-- once more, in front of what may follow
pub back-once : (most n : ℕ) (fs : List KeptFiles) → gone_back (suc most) n fs ≡ gone_back most n (front_from_last n (last_item fs) fs)
unfolding gone_back
back-once most n fs = refl

pub back-nothing : (n : ℕ) (fs : List KeptFiles) → gone_back 0 n fs ≡ fs
unfolding gone_back
back-nothing n fs = refl

back-later : (most n : ℕ) (fs hs : List KeptFiles) → After n hs → gone_back (length hs + most) n (fs ++ hs) ≡ gone_back most n (map forgotten hs ++ fs)
back-later most n fs [] after = (let none : 0 + most ≡ most = omega arith in ap (λ m. gone_back m n (fs ++ [])) none ∙ ap (gone_back most n) (append-nil fs))
back-later most n fs (h ∷ hs) after =
    let count : suc (length hs) + most ≡ length hs + suc most = omega arith in
    ap (λ m. gone_back m n (fs ++ h ∷ hs)) count
    ∙ ap (gone_back (length hs + suc most) n) (sym (append_assoc fs (h ∷ []) hs))
    ∙ back-later (suc most) n (fs ++ h ∷ []) hs after.1
    ∙ ap (gone_back (suc most) n) (sym (append_assoc (map forgotten hs) fs (h ∷ [])))
    ∙ back-once most n ((map forgotten hs ++ fs) ++ h ∷ [])
    ∙ ap (gone_back most n) (front-one n (map forgotten hs ++ fs) h after.0)

-- a list that is not empty has a last member, of which holds what holds of all
pub record HasLast (P : KeptFiles → Type 0) (fs : List KeptFiles) : Type 0 where
  pub front : List KeptFiles
  pub last : KeptFiles
  pub is : fs ≡ front ++ last ∷ []
  pub holds : P last

pub has-last : (P : KeptFiles → Type 0) (fs : List KeptFiles) → 0 < length fs → AllByRecursion P fs → HasLast P fs
has-last P [] some all = absurd (omega (arith, some))
has-last P (f ∷ []) some all = record { front = []; last = f; is = refl; holds = all.0 }
has-last P (f ∷ g ∷ gs) some all =
    let rest = has-last P (g ∷ gs) (omega arith) all.1 in
    record { front = f ∷ rest.front; last = rest.last; is = ap (λ l. f ∷ l) rest.is; holds = rest.holds }

-- the later ones go to the front
pub back-is : (n : ℕ) (fs hs : List KeptFiles) → 0 < length fs → Until n fs → After n hs → length hs ≤ 17 → gone_back 17 n (fs ++ hs) ≡ map forgotten hs ++ fs
back-is n fs hs some until after few =
    let l = has-last (λ f. f.since ≤ n) fs some until in
    let count : 17 ≡ length hs + (17 - length hs) = omega (arith, few) in
    ap (λ m. gone_back m n (fs ++ hs)) count
    ∙ back-later (17 - length hs) n fs hs after
    ∙ ap (λ k. gone_back (17 - length hs) n (map forgotten hs ++ k)) l.is
    ∙ ap (gone_back (17 - length hs) n) (sym (append_assoc (map forgotten hs) l.front (l.last ∷ [])))
    ∙ back-none (17 - length hs) n (map forgotten hs ++ l.front) l.last l.holds
    ∙ append_assoc (map forgotten hs) l.front (l.last ∷ [])
    ∙ ap (λ k. map forgotten hs ++ k) (sym l.is)

-- the last of them are those that are now
pub record IsLatest (n : ℕ) (fs : List KeptFiles) : Type 0 where
  pub files : KeptFiles
  pub last : last_item fs ≡ Some files
  pub is : files_at n fs ≡ files_in files

pub is-latest : (n : ℕ) (fs : List KeptFiles) → 0 < length fs → Until n fs → IsLatest n fs
is-latest n fs some until =
    let l = has-last (λ f. f.since ≤ n) fs some until in
    record {
      files = l.last;
      last = ap last_item l.is ∙ last_item-push l.front l.last;
      is = ap (files_at n) l.is ∙ last-at n l.front l.last (front-until n l.front l.last (subst (Until n) l.is until)) l.holds;
    }
  where
    front-until : (n : ℕ) (fs : List KeptFiles) (g : KeptFiles) → Until n (fs ++ g ∷ []) → Until n fs
    front-until n [] g until = tt
    front-until n (f ∷ fs) g until = (until.0, front-until n fs g until.1)

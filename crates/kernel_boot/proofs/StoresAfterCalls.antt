-- A store and its lists, call after call.
use Rattle.std.proofs.Common.{◌≡◌, cond, false, ℕ, ◌+◌, ◌<◌, ◌≤◌, List, [], ◌∷◌, ◌++◌, length, get_or, drop, Option, Some, Result, Ok, Err, inl, inr, refl, sym, ap, ◌∙◌, arith, add-one, drop-cons}
use Rattle.std.proofs.lemmas.Bool.{cases_eq}
use Rattle.std.proofs.lemmas.List.{ext_get_or}
use Rattle.kernel_lists.specs.OwnedWords.Owned.{Holds, Pairs, owners, written}
use Rattle.kernel_lists.proofs.OwnedWords.OwnedWords.{Holds-written, length-written, word_in-holds, written-other}
use Rattle.module_text.specs.ModuleForm.{IsModule}
use Rattle.module_text.specs.ModuleOfText.{module_of}
use Rattle.module_text.specs.TextReader.Refusal.{Refusal}
use Rattle.module_text.specs.Shapes.{check, check_of}
use Rattle.module_text.specs.declared.modules.Module.{Module}
use Rattle.module_text.proofs.Sound.{sound}
use Rattle.kernel_model.specs.KernelRecord.ChangedStore.{HasKeeper, IsChanged}
use Rattle.kernel_model.specs.KernelRecord.Lists.{Lists, has_task}
use Rattle.kernel_model.specs.KernelRecord.ValidQueues.{HasGuest}
use Rattle.kernel_model.proofs.KernelRecord.ChangedLists.{knows-same}
use Rattle.ram_disc.specs.Disc.{Disc}
use Rattle.session_text.specs.declared.sessions.SessionLine.{SessionLine}
use Rattle.kernel_calls.specs.TaskCalls.CreateTask.{create_task}
use Rattle.kernel_boot.specs.BegunTask.{with_begun}
use Rattle.kernel_boot.specs.BootFiles.{at_line}
use Rattle.kernel_boot.proofs.BegunTask.{begun-same}
use Rattle.kernel_boot.proofs.StartedTasks.{form-keeps}
use Rattle.kernel_model.specs.KernelRecord.Owned.{owned}
use Rattle.kernel_calls.specs.CallAnswers.CallChange.{CallChange, IsMade, refused}
use Rattle.kernel_calls.specs.ModuleCalls.LoadModule.{load_module}
use Rattle.kernel_boot.specs.BootTasks.{IsLeft, after_call, begin_it, create_it, load_named, load_names, load_text, on_answer, start_form, start_task, start_tasks}
use Rattle.kernel_model.specs.KernelRecord.StoreWithLists.{StoreWithLists, left_with, store_with_lists}

module _ (s t : List ℕ) (l : Lists) (plain : Pairs) (ch : IsChanged s t l plain) where
  abbrev words : List ℕ
  words = written (owned l) (written plain s)

  long : length words ≡ length s
  long = length-written (owned l) (written plain s) ∙ length-written plain s

  holds : Holds words (owned l)
  holds = Holds-written (owned l) (written plain s) ch.lists.valid.owns.apart (λ a some. omega (arith, ch.lists.valid.owns.inside a some, ch.lists.size, ch.size, length-written plain s))

  word : (a : ℕ) → get_or t a 0 ≡ get_or words a 0
  word a =
      elim (cases_eq (owners a (owned l)) 0) [
        | inl none ↦ ch.written.others a none ∙ sym (written-other a (owned l) (written plain s) none)
        | inr ne ↦ (
            let some : 0 < owners a (owned l) = omega arith in
            let both : ◌≡◌ {A = Option ℕ} (Some (get_or t a 0)) (Some (get_or words a 0)) = sym (word_in-holds t a (owned l) ch.written.holds some) ∙ word_in-holds words a (owned l) holds some in
            cc
            )
      ]

  -- a store that holds these lists, and of which only these plain words have changed besides, has these words
  pub left-is : t ≡ words
  left-is = ext_get_or 0 t words (ch.size ∙ sym long) (λ a lt. word a)

module _ (s t : List ℕ) (tells : List ℕ → Type 0) (r : Result ℕ ℕ) (m : CallChange) (made : IsMade s t tells r m) where
  -- what follows a call follows its answer, of the store that it leaves
  pub call-then : {A : Type 0} → (next : ℕ → StoreWithLists → Result A ℕ) → after_call s m next ≡ on_answer r (store_with_lists t m.lists) next
  call-then next =
      ap (λ a. on_answer a (left_with s m.lists m.plain) next) (sym made.leaves.answered)
      ∙ ap (λ w. on_answer r (store_with_lists w m.lists) next) (sym (left-is s t m.lists m.plain made.leaves.lists))

  pub keeper-made : (room : ℕ) → length s ≤ room → HasKeeper t tells room m.lists
  keeper-made room enough = record { lists = made.leaves.lists.lists; knows = made.knows; enough = omega (arith, made.leaves.lists.size, enough) }

-- what loading a text makes, by what its two clauses say
pub text-made : (s t : List ℕ) (tells : List ℕ → Type 0) (r : Result ℕ ℕ) (l : Lists) (bytes : List ℕ) → ((m : Module) → IsModule bytes m → IsMade s t tells r (load_module l m.hunks))
    → ((code : ℕ) → check_of bytes ≡ Err code → IsMade s t tells r (refused l (60 + code))) → IsMade s t tells r (load_text l (module_of bytes))
text-made s t tells r l bytes made no_module = on (module_of bytes) refl
  where
    on : (o : Result Module Refusal) → module_of bytes ≡ o → IsMade s t tells r (load_text l o)
    on (Ok m) e = made m (sound bytes m e)
    on (Err d) e = no_module d.code (ap check e)

-- ---- name after name, and line after line

module _ {X : Type 0} (xs : List X) (i : ℕ) (x : X) (lt : i < length xs) (is : x ≡ get_or xs i x) where
  pub drop-first : drop i xs ≡ x ∷ drop (i + 1) xs
  drop-first = rw (drop-cons xs i x lt, ← is, add-one) refl

pub names-next : (d : Disc) (names : List (List ℕ)) (i : ℕ) (name : List ℕ) (s t : List ℕ) (tells : List ℕ → Type 0) (r : Result ℕ ℕ) (modules : List ℕ) (l : Lists)
    → i < length names → name ≡ get_or names i name → IsMade s t tells r (load_named d name l)
    → load_names d (drop i names) modules (store_with_lists s l) ≡ on_answer r (store_with_lists t (load_named d name l).lists) (λ m j. load_names d (drop (i + 1) names) (modules ++ m ∷ []) j)
names-next d names i name s t tells r modules l lt is made =
    ap (λ ns. load_names d ns modules (store_with_lists s l)) (drop-first names i name lt is)
    ∙ call-then s t tells r (load_named d name l) made (λ m j. load_names d (drop (i + 1) names) (modules ++ m ∷ []) j)

module _ (d : Disc) (lines : List SessionLine) (i : ℕ) (line : SessionLine) (lt : i < length lines) (is : line ≡ get_or lines i line) where
  lines-next : (k : StoreWithLists) (r : Result StoreWithLists ℕ) → start_form d line.form k ≡ r → start_tasks d (drop i lines) k ≡ at_line line.line r (λ j. start_tasks d (drop (i + 1) lines) j)
  lines-next k r e =
      ap (λ ls. start_tasks d ls k) (drop-first lines i line lt is) ∙ ap (λ x. at_line line.line x (λ j. start_tasks d (drop (i + 1) lines) j)) e

  pub line-started : (s t : List ℕ) (l : Lists) (tells : List ℕ → Type 0) (room : ℕ) (r : Result (Unit {0}) ℕ) → ((code : ℕ) → r ≡ Err code → ⊥)
      → IsLeft t tells room r (start_form d line.form (store_with_lists s l))
      → (j : Lists) × HasKeeper t tells room j × (j.version ≡ l.version) × (start_tasks d (drop i lines) (store_with_lists s l) ≡ start_tasks d (drop (i + 1) lines) (store_with_lists t j))
  line-started s t l tells room (Ok u) never (j, e, keeper) =
      (j, keeper, form-keeps d line.form (store_with_lists s l) (store_with_lists t j) e, lines-next (store_with_lists s l) (Ok (store_with_lists t j)) e)
  line-started s t l tells room (Err code) never left = absurd (never code refl)

-- ---- a task

module _ (d : Disc) (id pri stack : ℕ) (names : List (List ℕ)) (s : List ℕ) (l : Lists) (away : has_task id l.tasks ≡ false) where
  start-is : start_task d id pri stack names (store_with_lists s l) ≡ create_it id pri stack (load_names d names [] (store_with_lists s l))
  start-is = ap (λ b. cond b (Err 27) (create_it id pri stack (load_names d names [] (store_with_lists s l)))) away

  module _ (u v : List ℕ) (m : Lists) (modules : List ℕ) (tells : List ℕ → Type 0) (r : Result ℕ ℕ) (loaded : load_names d names [] (store_with_lists s l) ≡ Ok (modules, store_with_lists u m))
      (made : IsMade u v tells r (create_task u m id modules stack pri 0)) where
    abbrev left : Lists
    left = (create_task u m id modules stack pri 0).lists

    pub created-is : start_task d id pri stack names (store_with_lists s l) ≡ on_answer r (store_with_lists v left) begin_it
    created-is = start-is ∙ ap (create_it id pri stack) loaded ∙ call-then u v tells r (create_task u m id modules stack pri 0) made begin_it

    pub begun-is : (w : List ℕ) (room n : ℕ) → r ≡ Ok n → length u ≤ room → HasGuest left n → IsChanged v w (with_begun v n left) []
        → IsLeft w tells room (Ok tt) (start_task d id pri stack names (store_with_lists s l))
    begun-is w room n ok enough guest ch = (
      with_begun v n left,
      created-is ∙ ap (λ x. on_answer x (store_with_lists v left) begin_it) ok ∙ ap (λ x. Ok (store_with_lists x (with_begun v n left))) (sym (left-is v w (with_begun v n left) [] ch)),
      record {
        lists = ch.lists;
        knows = knows-same tells left (with_begun v n left) (begun-same v left n made.leaves.lists.lists guest) made.knows;
        enough = omega (arith, ch.size, made.leaves.lists.size, enough);
      },
    )

-- Lists that begin with marks.
use Rattle.std.proofs.Common.{◌≡◌, ◌∙◌, ℕ, Bool, Option, None, Some, List, [], ◌∷◌, ◌++◌, refl, sym, ap, append_assoc}
use Rattle.kernel_model.specs.KernelRecord.NotedEvents.{NotesAll}
use Rattle.kernel_lists.specs.declared.packet_queue.events.KernelEvent.{KernelEvent}
use Rattle.kernel_lists.specs.declared.packet_queue.events.KernelEvent.TheVariants.{Runs}
use Rattle.program_answers.specs.TraceLog.Marks.{Kept, byte_marks, marks, number_marks}

number_marks-same : (ns ms : List ℕ) (es fs : List KernelEvent) → number_marks ns ++ es ≡ number_marks ms ++ fs → (ns ≡ ms) × (es ≡ fs)
number_marks-same [] [] es fs e = (refl, cc e)
number_marks-same [] (m ∷ ms) es fs e = absurd (cc e)
number_marks-same (n ∷ ns) [] es fs e = absurd (cc e)
number_marks-same (n ∷ ns) (m ∷ ms) es fs e =
    let tail : number_marks ns ++ es ≡ number_marks ms ++ fs = cc e in
    let head : n ≡ m = cc e in
    let rest = number_marks-same ns ms es fs tail in
    (cc (head, rest.0), rest.1)

byte_marks-same : (h k : Option (List ℕ)) (es fs : List KernelEvent) → byte_marks h ++ es ≡ byte_marks k ++ fs → (h ≡ k) × (es ≡ fs)
byte_marks-same None None es fs e = (refl, cc e)
byte_marks-same None (Some ms) es fs e = absurd (cc e)
byte_marks-same (Some ns) None es fs e = absurd (cc e)
byte_marks-same (Some ns) (Some ms) es fs e =
    let rest : number_marks ns ++ es ≡ number_marks ms ++ fs = cc e in
    let same = number_marks-same ns ms es fs rest in
    (ap Some same.0, same.1)

-- what a log keeps, one after another, and its events
marks-split : (k : Kept) (es : List KernelEvent) → marks k ++ es ≡ Runs k.name ∷ Runs k.faults ∷ byte_marks k.first ++ (number_marks k.before ++ (number_marks k.numbers ++ es))
marks-split k es =
    let first = byte_marks k.first in
    let before = number_marks k.before in
    let numbers = number_marks k.numbers in
    ap (λ v. Runs k.name ∷ Runs k.faults ∷ v) (append_assoc first (before ++ numbers) es ∙ ap (λ v. first ++ v) (append_assoc before numbers es))

-- two lists that begin alike
pub record IsMarkedAs (k m : Kept) (es fs : List KernelEvent) : Type 0 where
  pub name : k.name ≡ m.name
  pub faults : k.faults ≡ m.faults
  pub first : k.first ≡ m.first
  pub before : k.before ≡ m.before
  pub numbers : k.numbers ≡ m.numbers
  pub rest : es ≡ fs

pub marks-same : (k m : Kept) (es fs : List KernelEvent) → marks k ++ es ≡ marks m ++ fs → IsMarkedAs k m es fs
marks-same k m es fs e =
    let split = sym (marks-split k es) ∙ e ∙ marks-split m fs in
    let tail : byte_marks k.first ++ (number_marks k.before ++ (number_marks k.numbers ++ es)) ≡ byte_marks m.first ++ (number_marks m.before ++ (number_marks m.numbers ++ fs)) = cc split in
    let first = byte_marks-same k.first m.first _ _ tail in
    let before = number_marks-same k.before m.before _ _ first.1 in
    let numbers = number_marks-same k.numbers m.numbers es fs before.1 in
    record { name = cc split; faults = cc split; first = first.0; before = before.0; numbers = numbers.0; rest = numbers.1 }

-- a log that has gained events still has its marks
module _ (k m : Kept) (es fs : List KernelEvent) (had_failed has_failed : Bool) (events : List KernelEvent)
    (all : NotesAll (Some (marks k ++ es)) (Some (marks m ++ fs)) had_failed has_failed events) where
  pub marked : IsMarkedAs m k fs (es ++ all.front)
  marked = marks-same m k fs (es ++ all.front) (cc all.gained ∙ append_assoc (marks k) es all.front)

  pub NotesAll-rest : NotesAll (Some es) (Some fs) had_failed has_failed events
  NotesAll-rest = record { front = all.front; rest = all.rest; is = all.is; gained = ap Some marked.rest; whole = all.whole; none = all.none; for_good = all.for_good }

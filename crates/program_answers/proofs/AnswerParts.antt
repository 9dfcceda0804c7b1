-- Answers, from what was read and written.
use Rattle.std.proofs.Common.{◌≡◌, ◌∙◌, ℕ, ◌≤◌, ◌<◌, ◌+◌, Option, None, Some, Result, Ok, Err, List, [], ◌++◌, length, refl, sym, ap, subst, arith, append-nil, length-append}
use Rattle.std.specs.Prelude.{is_ok, if◌then◌else◌}
use Rattle.std.proofs.lemmas.Bool.{le-leb, lt-leb}
use Rattle.std.specs.Io.KnownBytes.{Consumes, IsAtEnd, Keeps}
use Rattle.std.proofs.KnownBytes.{Keeps-refl}
use Rattle.byte_streams.specs.Write.{Prints}
use Rattle.module_text.specs.TextReader.Refusal.{Refusal}
use Rattle.program_answers.specs.declared.status.Status.{Status}
use Rattle.program_answers.specs.declared.status.Status.TheVariants.{Done, GuestFault, Usage, Refused, NoBoot, ReadFault, WriteFault, TooLong, WantMemory}
use Rattle.program_answers.specs.Answer.{Answer, Answers, no_boot_answer, refused_answer, too_long_answer}
use Rattle.program_answers.specs.Answered.{Answered}
use Rattle.program_answers.specs.Input.{IsAnswerWithin, IsInput, IsInputAnswer, limit}
use Rattle.program_answers.specs.Texts.{no_boot_text, refused_text, too_long_text}

-- the status of a call that has printed its text
abbrev pub status_after : {T E : Type 0} → Result T E → Status → Status
status_after written s = if is_ok written then s else WriteFault

-- ---- texts that are printed

-- the refusal to boot is printed
pub Answers-no_boot : {T E : Type 0} (r : Refusal) (h k : Option (List ℕ)) (written : Result T E) → Prints h k (no_boot_text r) written → Answers (no_boot_answer r) h k (status_after written NoBoot)
Answers-no_boot r h k (Ok t) p = (refl, p)
Answers-no_boot r h k (Err d) p = p

-- the refusal of a text is printed
pub Answers-refused : {T E : Type 0} (r : Refusal) (h k : Option (List ℕ)) (written : Result T E) → Prints h k (refused_text r) written → Answers (refused_answer r) h k (status_after written Refused)
Answers-refused r h k (Ok t) p = (refl, p)
Answers-refused r h k (Err d) p = p

-- the usage is printed
pub Answers-usage_text : {T E : Type 0} (a : Answer) (h k : Option (List ℕ)) (written : Result T E) → a.status ≡ Usage → Prints h k a.bytes written → Answers a h k (status_after written Usage)
Answers-usage_text a h k (Ok t) e p = (e, p)
Answers-usage_text a h k (Err d) e p = p

-- a text that is done is printed
pub Answers-done : {T E : Type 0} (a : Answer) (h k : Option (List ℕ)) (written : Result T E) → a.status ≡ Done → Prints h k a.bytes written → Answers a h k (status_after written Done)
Answers-done a h k (Ok t) e p = (e, p)
Answers-done a h k (Err d) e p = p

Answers-too_long_text : {T E : Type 0} (h k : Option (List ℕ)) (written : Result T E) → Prints h k too_long_text written → Answers too_long_answer h k (status_after written TooLong)
Answers-too_long_text h k (Ok t) p = (refl, p)
Answers-too_long_text h k (Err d) p = p

-- ---- answers of a kind

-- an answer of a kind was given
pub Answered-by : (IsIt : Answer → Type 0) (a : Answer) → IsIt a → (h k : Option (List ℕ)) (s : Status) → Answers a h k s → Answered IsIt h k s
Answered-by IsIt a is h k Done x = (a, is, x)
Answered-by IsIt a is h k GuestFault x = (a, is, x)
Answered-by IsIt a is h k Usage x = (a, is, x)
Answered-by IsIt a is h k Refused x = (a, is, x)
Answered-by IsIt a is h k NoBoot x = (a, is, x)
Answered-by IsIt a is h k TooLong x = (a, is, x)
Answered-by IsIt a is h k WriteFault x = (a, is, x)
Answered-by IsIt a is h k ReadFault x = x
Answered-by IsIt a is h k WantMemory x = x

-- and so one of each kind that has all of these
pub Answered-as : (IsIt IsThat : Answer → Type 0) → ((a : Answer) → IsIt a → IsThat a) → (h k : Option (List ℕ)) (s : Status) → Answered IsIt h k s → Answered IsThat h k s
Answered-as IsIt IsThat f h k Done x = (x.0, f x.0 x.1, x.2)
Answered-as IsIt IsThat f h k GuestFault x = (x.0, f x.0 x.1, x.2)
Answered-as IsIt IsThat f h k Usage x = (x.0, f x.0 x.1, x.2)
Answered-as IsIt IsThat f h k Refused x = (x.0, f x.0 x.1, x.2)
Answered-as IsIt IsThat f h k NoBoot x = (x.0, f x.0 x.1, x.2)
Answered-as IsIt IsThat f h k TooLong x = (x.0, f x.0 x.1, x.2)
Answered-as IsIt IsThat f h k WriteFault x = (x.0, f x.0 x.1, x.2)
Answered-as IsIt IsThat f h k ReadFault x = x
Answered-as IsIt IsThat f h k WantMemory x = x

-- ---- inputs

IsInputAnswer-short : (IsText : List ℕ → Answer → Type 0) (input : List ℕ) → length input ≤ limit → (a : Answer) → IsText input a → IsInputAnswer IsText input a
unfolding IsInputAnswer
IsInputAnswer-short IsText input h a is = subst (λ b. IsAnswerWithin b IsText input a) (sym (le-leb (length input) limit h)) is

IsInputAnswer-long : (IsText : List ℕ → Answer → Type 0) (input : List ℕ) → limit < length input → IsInputAnswer IsText input too_long_answer
unfolding IsInputAnswer
IsInputAnswer-long IsText input h = subst (λ b. IsAnswerWithin b IsText input too_long_answer) (sym (lt-leb (length input) limit h)) refl

-- some input there is, whatever the source tells
IsInput-some : (left : Option (List ℕ)) → (input : List ℕ) × IsInput left input
IsInput-some None = ([], tt)
IsInput-some (Some xs) = (xs, refl)

-- where nothing is written, whatever the input is
pub Answers-nothing : (left h : Option (List ℕ)) → (input : List ℕ) × IsInput left input × Keeps h h
Answers-nothing left h = let some = IsInput-some left in (some.0, some.1, Keeps-refl h)

-- an answer that no input changes
pub Answers-any : (a : Answer) (left h k : Option (List ℕ)) (s : Status) → Answers a h k s → (input : List ℕ) × IsInput left input × Answered (λ b. b ≡ a) h k s
Answers-any a left h k s x = let some = IsInput-some left in (some.0, some.1, Answered-by (λ b. b ≡ a) a refl h k s x)

IsInput-long : (left left' : Option (List ℕ)) (items : List ℕ) → Consumes left left' items → length items ≡ limit + 1 → (input : List ℕ) × IsInput left input × (limit < length input)
IsInput-long None left' items c l = (items, tt, omega arith)
IsInput-long (Some xs) None items c l = absurd c
IsInput-long (Some xs) (Some ys) items c l = (xs, refl, omega (arith, ap length c, length-append items ys))

pub Answers-too_long : {T E : Type 0} (IsText : List ℕ → Answer → Type 0) (left left' : Option (List ℕ)) (items : List ℕ) (h k : Option (List ℕ)) (written : Result T E) → Consumes left left' items
    → length items ≡ limit + 1 → Prints h k too_long_text written → (input : List ℕ) × IsInput left input × Answered (IsInputAnswer IsText input) h k (status_after written TooLong)
Answers-too_long IsText left left' items h k written c l p =
    let long = IsInput-long left left' items c l in
    (long.0, long.1, Answered-by (IsInputAnswer IsText long.0) too_long_answer (IsInputAnswer-long IsText long.0 long.2) h k (status_after written TooLong) (Answers-too_long_text h k written p))

-- all that was taken is all that was left
IsInput-whole : (left left' : Option (List ℕ)) (items : List ℕ) → Consumes left left' items → IsAtEnd left' → IsInput left items
IsInput-whole None left' items c e = tt
IsInput-whole (Some xs) None items c e = absurd c
IsInput-whole (Some xs) (Some ys) items c e = sym (c ∙ ap (λ v. items ++ v) e ∙ append-nil items)

pub Answers-text : (IsText : List ℕ → Answer → Type 0) (left left' : Option (List ℕ)) (items text : List ℕ) (h k : Option (List ℕ)) (s : Status) → Consumes left left' items → IsAtEnd left' → length items ≤ limit
    → text ≡ items → Answered (IsText text) h k s → (input : List ℕ) × IsInput left input × Answered (IsInputAnswer IsText input) h k s
Answers-text IsText left left' items text h k s c e short same a =
    (items, IsInput-whole left left' items c e, Answered-as (IsText items) (IsInputAnswer IsText items) (IsInputAnswer-short IsText items short) h k s (rw (← same) a))

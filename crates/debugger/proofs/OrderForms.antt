-- What a line asks for, by its form.
use Rattle.std.proofs.Common.{◌≡◌, ◌≢◌, ◌⊎◌, inl, inr, ℕ, ◌-◌, ◌^◌, ◌&&◌, Bool, true, false, Option, Some, None, Result, Ok, Err, List, [], ◌∷◌, ◌++◌, nat_eq, nat_le, nat_lt, refl, ap, ◌∙◌, arith}
use Rattle.std.specs.Prelude.{codes, if◌then◌else◌}
use Rattle.std.specs.Option.{option_map_or}
use Rattle.std.specs.Str.{bytes_eq}
use Rattle.std.proofs.lemmas.Bool.Decides.{nat_tests}
use Rattle.std.proofs.lemmas.Slice.Eq.{bytes_eq-Decides}
use Rattle.std.proofs.lemmas.Str.Parse.{digit_from_value}
use Rattle.module_text.specs.TextReader.Fields.{after_word}
use Rattle.module_text.specs.TextReader.Numbers.{IsNumber, number_of}
use Rattle.module_text.specs.TextReader.Steps.{◌>>=◌}
use Rattle.module_text.proofs.TextReader.FieldLemmas.{after_word-ok}
use Rattle.module_text.proofs.TextReader.NumberLemmas.{number_in-again, number_in-ok}
use Rattle.session_text.specs.Statements.{number_field}
use Rattle.session_text.proofs.Blanks.{number_field-again, number_field-ok}
use Rattle.debugger.specs.declared.orders.BadLine.{BadLine}
use Rattle.debugger.specs.declared.orders.Order.{Order}
use Rattle.debugger.specs.declared.orders.Order.TheVariants.{Back, Blocks, Break, Continue, DeviceQueue, Instructions, Registers, Step, TaskQueue, Tasks, Unbreak, Words}
use Rattle.debugger.specs.Orders.{Asks, at_most, back_order, bad, break_order, device_queue_order, given, instructions_order, is_in_range, is_span, most_device, most_shown, order_alone, order_of, queue_order, span_fields, step_order, task_queue_order, unbreak_order, word_field, words_order}

-- what is asked for, where it is in its range
abbrev pub ranged : {X : Type 0} → ℕ → Bool → X → Result X BadLine
ranged n b x = if b then Ok x else Err (bad n 2)

-- ---- numbers

given-again : (n : ℕ) (digits : List ℕ) (v : ℕ) → IsNumber digits v → given n (number_of digits) ≡ Ok v
given-again n digits v h = ap (given n) (number_in-again 10 10 digits v h)

word-again : (n : ℕ) (digits : List ℕ) (v : ℕ) → IsNumber digits v → word_field n digits ≡ ranged n (nat_lt v (2 ^ 32)) v
word-again n digits v h =
    let same : nat_le v (2 ^ 32 - 1) ≡ nat_lt v (2 ^ 32) = grind (arith, nat_tests) in
    ap (λ (r : Result ℕ BadLine). r >>= at_most (2 ^ 32 - 1) n) (given-again n digits v h) ∙ ap (λ b. ranged n b v) same

-- a word, and what is made of it
ranged-then : {X : Type 0} (n : ℕ) (b : Bool) (v : ℕ) (f : ℕ → X) → (ranged n b v >>= (λ a. Ok (f a))) ≡ ranged n b (f v)
ranged-then n true v f = refl
ranged-then n false v f = refl

word-order : (n : ℕ) (digits : List ℕ) (v : ℕ) (f : ℕ → Order) → IsNumber digits v → (word_field n digits >>= (λ a. Ok (f a))) ≡ ranged n (nat_lt v (2 ^ 32)) (f v)
word-order n digits v f h = ap (λ (r : Result ℕ BadLine). r >>= (λ a. Ok (f a))) (word-again n digits v h) ∙ ranged-then n (nat_lt v (2 ^ 32)) v f

span-again : (n : ℕ) (x y : List ℕ) (a count : ℕ) → IsNumber x a → IsNumber y count → span_fields n (x ++ 32 ∷ y) ≡ ranged n (is_span a count) (a, count)
span-again n x y a count h k =
    rw (number_field-again x y a h, number_in-again 10 10 y count k) (
    let same : nat_le a (2 ^ 32 - 1) ≡ nat_lt a (2 ^ 32) = grind (arith, nat_tests) in
    rw same (both (nat_lt a (2 ^ 32)) (nat_le count most_shown))
    )
  where
    pair : ℕ → ℕ → Result (ℕ × ℕ) BadLine
    pair from many = Ok (from, many)

    both : (b d : Bool) → (ranged n b a >>= (λ (from : ℕ). ranged n d count >>= (λ (many : ℕ). pair from many))) ≡ ranged n (b && d) (a, count)
    both true true = refl
    both true false = refl
    both false d = refl

span-order : (n : ℕ) (x y : List ℕ) (a count : ℕ) (f : ℕ → ℕ → Order) → IsNumber x a → IsNumber y count
    → (span_fields n (x ++ 32 ∷ y) >>= (λ span. Ok (f span.0 span.1))) ≡ ranged n (is_span a count) (f a count)
span-order n x y a count f h k =
    ap (λ (r : Result (ℕ × ℕ) BadLine). r >>= (λ span. Ok (f span.0 span.1))) (span-again n x y a count h k) ∙ made (is_span a count)
  where
    made : (b : Bool) → (ranged n b (a, count) >>= (λ (span : ℕ × ℕ). Ok (f span.0 span.1))) ≡ ranged n b (f a count)
    made true = refl
    made false = refl

-- ---- queues

-- no number begins with a sign
no-sign : (digits : List ℕ) (v : ℕ) → IsNumber digits v → after_word (codes "-") digits ≡ None
no-sign [] v h = refl
no-sign (c ∷ cs) v h =
    let r = digit_from_value c h.numeral.1.0 in
    let other : c ≢ 45 = λ e. absurd (omega arith) in
    let no : nat_eq 45 c ≡ false = grind (arith, nat_tests) in
    rw no refl

task-again : (n : ℕ) (digits : List ℕ) (id : ℕ) → IsNumber digits id → queue_order n digits ≡ ranged n (nat_lt id (2 ^ 32)) (TaskQueue id)
task-again n digits id h = ap (λ o. option_map_or (device_queue_order n) o (task_queue_order n digits)) (no-sign digits id h) ∙ word-order n digits id TaskQueue h

device-again : (n : ℕ) (digits : List ℕ) (v : ℕ) → IsNumber digits v → device_queue_order n digits ≡ ranged n (nat_le v most_device) (DeviceQueue v)
device-again n digits v h =
    ap (λ (r : Result ℕ BadLine). r >>= (λ value. at_most most_device n value >>= (λ number. Ok (DeviceQueue number)))) (given-again n digits v h)
    ∙ ranged-then n (nat_le v most_device) v DeviceQueue

-- ---- what a line of a form asks for

pub asked-again : (n : ℕ) (line : List ℕ) (o : Order) → Asks o line → order_of n line ≡ ranged n (is_in_range o) o
unfolding order_of
asked-again n line (Break a) h = ap (order_of n) h.1 ∙ word-order n h.0 a Break h.2
asked-again n line (Unbreak a) h = ap (order_of n) h.1 ∙ word-order n h.0 a Unbreak h.2
asked-again n line (Step steps) h = ap (order_of n) h.1 ∙ word-order n h.0 steps Step h.2
asked-again n line (Back steps) h = ap (order_of n) h.1 ∙ word-order n h.0 steps Back h.2
asked-again n line Continue h = ap (order_of n) h
asked-again n line Registers h = ap (order_of n) h
asked-again n line (Words a count) h = ap (order_of n) h.4 ∙ span-order n h.0 h.1 a count Words h.2 h.3
asked-again n line Tasks h = ap (order_of n) h
asked-again n line (TaskQueue id) h = ap (order_of n) h.1 ∙ task-again n h.0 id h.2
asked-again n line (DeviceQueue number) h = ap (order_of n) h.1 ∙ device-again n h.0 number h.2
asked-again n line Blocks h = ap (order_of n) h
asked-again n line (Instructions a count) h = ap (order_of n) h.4 ∙ span-order n h.0 h.1 a count Instructions h.2 h.3

-- ---- a line of no form

-- a line asks for something, or is refused with code 1
abbrev Judged : ℕ → List ℕ → Result Order BadLine → Type 0
Judged n line r = ((o : Order) × Asks o line) ⊎ (r ≡ Err (bad n 1))

word-judged : (n : ℕ) (line digits : List ℕ) (f : ℕ → Order) → ((v : ℕ) → IsNumber digits v → Asks (f v) line) → Judged n line (word_field n digits >>= (λ a. Ok (f a)))
word-judged n line digits f asks = on (number_of digits) refl
  where
    on : (o : Option ℕ) → number_of digits ≡ o → Judged n line (word_field n digits >>= (λ a. Ok (f a)))
    on None is = inr (ap (λ (o : Option ℕ). (given n o >>= at_most (2 ^ 32 - 1) n) >>= (λ a. Ok (f a))) is)
    on (Some v) is = inl (f v, asks v (number_in-ok 10 10 digits v is))

device-judged : (n : ℕ) (line digits : List ℕ) → ((v : ℕ) → IsNumber digits v → Asks (DeviceQueue v) line) → Judged n line (device_queue_order n digits)
device-judged n line digits asks = on (number_of digits) refl
  where
    on : (o : Option ℕ) → number_of digits ≡ o → Judged n line (device_queue_order n digits)
    on None is = inr (ap (λ (o : Option ℕ). given n o >>= (λ value. at_most most_device n value >>= (λ number. Ok (DeviceQueue number)))) is)
    on (Some v) is = inl (DeviceQueue v, asks v (number_in-ok 10 10 digits v is))

-- two numbers, or none where one of them is missing
abbrev span_with : (ℕ → ℕ → Order) → ℕ → List ℕ → Result Order BadLine
span_with f n text = span_fields n text >>= (λ span. Ok (f span.0 span.1))

-- behind the first number
abbrev second_with : (ℕ → ℕ → Order) → ℕ → ℕ → Option ℕ → Result Order BadLine
second_with f n a o =
    (given n o >>= (λ second. at_most (2 ^ 32 - 1) n a >>= (λ (from : ℕ). at_most most_shown n second >>= (λ (count : ℕ). Ok (from, count)))))
    >>= (λ (span : ℕ × ℕ). Ok (f span.0 span.1))

first_with : (f : ℕ → ℕ → Order) (n : ℕ) (text : List ℕ) (x : ℕ × List ℕ) → number_field text ≡ Some x → span_with f n text ≡ second_with f n x.0 (number_of x.1)
first_with f n text x is = rw is refl

span-judged : (n : ℕ) (line text : List ℕ) (f : ℕ → ℕ → Order) → ((x y : List ℕ) (a count : ℕ) → IsNumber x a → IsNumber y count → text ≡ x ++ 32 ∷ y → Asks (f a count) line) → Judged n line (span_with f n text)
span-judged n line text f asks = on (number_field text) refl
  where
    behind : (x : ℕ × List ℕ) → number_field text ≡ Some x → (o : Option ℕ) → number_of x.1 ≡ o → Judged n line (span_with f n text)
    behind x first None is = inr (first_with f n text x first ∙ ap (second_with f n x.0) is)
    behind x first (Some count) is =
        let p = number_field-ok text x first in
        inl (f x.0 count, asks p.0 x.1 x.0 count p.1 (number_in-ok 10 10 x.1 count is) p.2)

    on : (o : Option (ℕ × List ℕ)) → number_field text ≡ o → Judged n line (span_with f n text)
    on None is = inr (rw is refl)
    on (Some x) is = behind x is (number_of x.1) refl

-- a word in front, or something else
one-of : (n : ℕ) (line word : List ℕ) (f : List ℕ → Result Order BadLine) (rest : Result Order BadLine) → ((text : List ℕ) → line ≡ word ++ text → Judged n line (f text)) → Judged n line rest
    → Judged n line (option_map_or f (after_word word line) rest)
one-of n line word f rest one other = on (after_word word line) refl
  where
    on : (o : Option (List ℕ)) → after_word word line ≡ o → Judged n line (option_map_or f o rest)
    on None is = other
    on (Some text) is = one text (after_word-ok word line text is)

if-alone : (n : ℕ) (line : List ℕ) (b : Bool) (o : Order) (rest : Result Order BadLine) → (b ≡ true → Asks o line) → Judged n line rest → Judged n line (if b then Ok o else rest)
if-alone n line true o rest one other = inl (o, one refl)
if-alone n line false o rest one other = other

alone-judged : (n : ℕ) (line : List ℕ) → Judged n line (order_alone n line)
alone-judged n line =
    if-alone n line (bytes_eq line (codes "CONT")) Continue _ (bytes_eq-Decides line (codes "CONT")).0
    (if-alone n line (bytes_eq line (codes "REGS")) Registers _ (bytes_eq-Decides line (codes "REGS")).0
    (if-alone n line (bytes_eq line (codes "TASKS")) Tasks _ (bytes_eq-Decides line (codes "TASKS")).0
    (if-alone n line (bytes_eq line (codes "BLOCKS")) Blocks _ (bytes_eq-Decides line (codes "BLOCKS")).0
    (inr refl))))

queue-judged : (n : ℕ) (line text : List ℕ) → line ≡ codes "QUEUE " ++ text → Judged n line (queue_order n text)
queue-judged n line text is = on (after_word (codes "-") text) refl
  where
    on : (o : Option (List ℕ)) → after_word (codes "-") text ≡ o → Judged n line (option_map_or (device_queue_order n) o (task_queue_order n text))
    on None none = word-judged n line text TaskQueue (λ v h. (text, is, h))
    on (Some digits) sign = device-judged n line digits (λ v h. (digits, is ∙ ap (λ (t : List ℕ). codes "QUEUE " ++ t) (after_word-ok (codes "-") text digits sign), h))

judged : (n : ℕ) (line : List ℕ) → Judged n line (order_of n line)
unfolding order_of
judged n line =
    one-of n line (codes "BP ") (break_order n) _ (λ text is. word-judged n line text Break (λ v h. (text, is, h)))
    (one-of n line (codes "UNBP ") (unbreak_order n) _ (λ text is. word-judged n line text Unbreak (λ v h. (text, is, h)))
    (one-of n line (codes "STEP ") (step_order n) _ (λ text is. word-judged n line text Step (λ v h. (text, is, h)))
    (one-of n line (codes "BACK ") (back_order n) _ (λ text is. word-judged n line text Back (λ v h. (text, is, h)))
    (one-of n line (codes "MEM ") (words_order n) _ (λ text is. span-judged n line text Words (λ x y a count h k t. (x, y, h, k, is ∙ ap (λ (z : List ℕ). codes "MEM " ++ z) t)))
    (one-of n line (codes "QUEUE ") (queue_order n) _ (λ text is. queue-judged n line text is)
    (one-of n line (codes "DIS ") (instructions_order n) _ (λ text is. span-judged n line text Instructions (λ x y a count h k t. (x, y, h, k, is ∙ ap (λ (z : List ℕ). codes "DIS " ++ z) t)))
    (alone-judged n line)))))))

pub asked-none : (n : ℕ) (line : List ℕ) → ((o : Order) → Asks o line → ⊥) → order_of n line ≡ Err (bad n 1)
asked-none n line none = on (order_of n line) (judged n line)
  where
    on : (r : Result Order BadLine) → Judged n line r → r ≡ Err (bad n 1)
    on r (inl x) = absurd (none x.0 x.1)
    on r (inr is) = is

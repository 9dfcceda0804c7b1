-- The text of a saved machine with other steps in its last line is that of the same machine with these steps.
use Rattle.std.proofs.Common.{◌≡◌, Bool, true, false, ℕ, ◌+◌, ◌-◌, ◌<◌, ◌≤◌, ◌^◌, List, [], ◌∷◌, ◌++◌, append_assoc, arith, length, length-append, map, refl, subst, sym, take, ap, ◌∙◌}
use Rattle.std.specs.Prelude.{codes, decimal}
use Rattle.std.specs.List.{AllByRecursion}
use Rattle.std.proofs.Math.Seq.{take-append_seam}
use Rattle.module_text.specs.TextReader.Lines.{lines_of, text_of_lines}
use Rattle.module_text.proofs.TextReader.PlainLines.{IsPlain, lines_of_text_of_lines, plain_append, plain_decimal, plain_literal}
use Rattle.word_store.proofs.Elements.{all-append}
use Rattle.saved_text.specs.SavedLines.Canonical.{printed_regs, statement_text}
use Rattle.saved_text.specs.SavedLines.Statements.{Statement, Go}
use Rattle.saved_text.specs.Canonical.{IsLawful, canonical, canonical_lines, front_of, kernel_text, machine_text, with_steps}
use Rattle.saved_text.specs.ImageForm.{statements_of}
use Rattle.saved_text.specs.declared.images.Image.{Image}
use Rattle.saved_text.proofs.PrintedText.{plain_canonical}

abbrev Lines : Type 0
Lines = List (List ℕ)

-- ---- the last line

abbrev go_line : ℕ → List ℕ
go_line n = codes "GO " ++ decimal n

front-is : (lines : Lines) (last : List ℕ) → front_of (lines ++ last ∷ []) ≡ lines
front-is lines last =
    let more : length (lines ++ last ∷ []) - 1 ≡ length lines = omega (arith, length-append lines (last ∷ [])) in
    ap (λ n. take n (lines ++ last ∷ [])) more ∙ take-append_seam lines (last ∷ [])

abbrev head_lines : Image → Lines → Lines
head_lines x rest =
    (codes "TRIPOS-IMAGE " ++ decimal x.version) ∷ (codes "STORE " ++ decimal (length x.store)) ∷ machine_text x.bare x.period ∷ (codes "STEP " ++ decimal x.step) ∷ printed_regs x.regs ∷ rest

-- the lines before it, which do not tell of the steps to go
abbrev front_lines : Image → Lines
front_lines x = head_lines x (kernel_text x.bare x ++ map statement_text (statements_of x))

states-end : (ss : List Statement) (n : ℕ) → map statement_text (ss ++ Go n ∷ []) ≡ map statement_text ss ++ go_line n ∷ []
states-end [] n = refl
states-end (s ∷ ss) n = ap (λ (ls : Lines). statement_text s ∷ ls) (states-end ss n)

last-is : (x : Image) → canonical_lines x ≡ front_lines x ++ go_line x.go ∷ []
last-is x =
    ap (head_lines x)
    (ap (λ (ls : Lines). kernel_text x.bare x ++ ls) (states-end (statements_of x) x.go) ∙ sym (append_assoc (kernel_text x.bare x) (map statement_text (statements_of x)) (go_line x.go ∷ [])))

-- with other steps
kernel-alike : (b : Bool) (x : Image) (n : ℕ) → kernel_text b (record x { go = n }) ≡ kernel_text b x
kernel-alike true x n = refl
kernel-alike false x n = refl

last-with : (x : Image) (n : ℕ) → canonical_lines (record x { go = n }) ≡ front_lines x ++ go_line n ∷ []
last-with x n = last-is (record x { go = n }) ∙ ap (λ (ls : Lines). head_lines x (ls ++ map statement_text (statements_of x)) ++ go_line n ∷ []) (kernel-alike x.bare x n)

-- ---- plain lines

plain-front : (xs ys : Lines) → AllByRecursion IsPlain (xs ++ ys) → AllByRecursion IsPlain xs
plain-front [] ys h = tt
plain-front (x ∷ xs) ys h = (h.0, plain-front xs ys h.1)

plain-go : (n : ℕ) → n < 2 ^ 64 → IsPlain (go_line n)
plain-go n few = plain_append (codes "GO ") (decimal n) (plain_literal (codes "GO ") refl) (plain_decimal n few)

-- ---- the text

-- of a machine that has a text with some steps
pub with-steps : (x : Image) (n o : ℕ) → x.go < 2 ^ 64 → IsLawful (record x { go = o }) → with_steps n (canonical x) ≡ canonical (record x { go = n })
unfolding canonical
with-steps x n o few lawful =
    let front : Lines = front_lines x in
    let plain : AllByRecursion IsPlain (front ++ go_line o ∷ []) = subst (AllByRecursion IsPlain) (last-with x o) (plain_canonical (record x { go = o }) lawful) in
    let all : AllByRecursion IsPlain (front ++ go_line x.go ∷ []) = all-append IsPlain front (go_line x.go ∷ []) (plain-front front (go_line o ∷ []) plain) (plain-go x.go few, tt) in
    let lines : lines_of (text_of_lines (canonical_lines x)) ≡ front ++ go_line x.go ∷ [] =
    ap (λ (ls : Lines). lines_of (text_of_lines ls)) (last-is x) ∙ lines_of_text_of_lines (front ++ go_line x.go ∷ []) all
    in
    ap (λ (ls : Lines). text_of_lines (front_of ls ++ go_line n ∷ [])) lines ∙ ap (λ (ls : Lines). text_of_lines (ls ++ go_line n ∷ [])) (front-is front (go_line x.go))
    ∙ ap text_of_lines (sym (last-with x n))

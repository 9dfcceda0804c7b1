-- The lines of registers, type-ahead, console and shell, from their bytes and back.
use Rattle.std.proofs.Common.{◌≡◌, ◌∙◌, ℕ, ◌⊎◌, inl, inr, true, false, Option, Some, None, Ok, Err, List, ◌∷◌, ◌++◌, refl, sym, ap, subst}
use Rattle.std.specs.Prelude.{codes, option_and_then}
use Rattle.std.specs.Option.{option_map_or}
use Rattle.hex.specs.Hex.{encode_lower}
use Rattle.word_store.specs.declared.registers.Regs.{Regs}
use Rattle.module_text.specs.TextReader.Fields.{after_word}
use Rattle.module_text.specs.TextReader.Numbers.{number_of}
use Rattle.module_text.specs.TextReader.Refusal.{Refusal, refusal}
use Rattle.module_text.proofs.TextReader.FieldLemmas.{after_word-ok}
use Rattle.module_text.proofs.TextReader.NumberLemmas.{number_in-again, number_in-ok}
use Rattle.module_text.proofs.TextReader.StepLemmas.{guard-err, guard-ok}
use Rattle.session_text.specs.Statements.{number_field}
use Rattle.session_text.proofs.Blanks.{number_field-again, number_field-ok}
use Rattle.saved_text.specs.SavedLines.Heads.{IsConsoleLine, IsRegsLine, IsRingLine, IsShellLine, are_regs, console_of, hex_field, regs_line, regs_or_refusal, ring_of, shell_of, six_numbers}
use Rattle.saved_text.specs.SavedLines.HexText.{bytes_of}
use Rattle.saved_text.proofs.SavedLines.LineFields.{Some-same, hex_field-again, hex_field-ok}
use Rattle.session_text.proofs.StatementLines.{and_then-ok}

-- ---- registers

-- six numbers as registers
abbrev pub regs : ℕ × ℕ × ℕ × ℕ × ℕ × ℕ → Regs
regs x = record { a = x.0; b = x.1; c = x.2; p = x.3; g = x.4; pc = x.5 }

-- the registers are in their ranges
abbrev pub AreInRange : Regs → Type 0
AreInRange r = are_regs r.a r.b r.c r.p r.g r.pc ≡ true

numbers-ok : (text : List ℕ) (x : ℕ × ℕ × ℕ × ℕ × ℕ × ℕ) → six_numbers text ≡ Some x → IsRegsLine (regs x) (codes "REGS " ++ text)
numbers-ok text x e =
    let a = and_then-ok (number_field text) _ x e in
    let b = and_then-ok (number_field a.0.1) _ x a.2 in
    let c = and_then-ok (number_field b.0.1) _ x b.2 in
    let p = and_then-ok (number_field c.0.1) _ x c.2 in
    let g = and_then-ok (number_field p.0.1) _ x p.2 in
    let q = and_then-ok (number_of g.0.1) (λ pc. Some (a.0.0, b.0.0, c.0.0, p.0.0, g.0.0, pc)) x g.2 in
    let same : (a.0.0, b.0.0, c.0.0, p.0.0, g.0.0, q.0) ≡ x = Some-same _ x q.2 in
    let i = number_field-ok text a.0 a.1 in
    let j = number_field-ok a.0.1 b.0 b.1 in
    let k = number_field-ok b.0.1 c.0 c.1 in
    let l = number_field-ok c.0.1 p.0 p.1 in
    let m = number_field-ok p.0.1 g.0 g.1 in
    let n = number_in-ok 10 10 g.0.1 q.0 q.1 in
    let all : text ≡ i.0 ++ 32 ∷ (j.0 ++ 32 ∷ (k.0 ++ 32 ∷ (l.0 ++ 32 ∷ (m.0 ++ 32 ∷ g.0.1))))
    = i.2 ∙ ap (λ (t : List ℕ). i.0 ++ 32 ∷ t) (j.2 ∙ ap (λ (t : List ℕ). j.0 ++ 32 ∷ t) (k.2 ∙ ap (λ (t : List ℕ). k.0 ++ 32 ∷ t) (l.2 ∙ ap (λ (t : List ℕ). l.0 ++ 32 ∷ t) m.2))) in
    subst (λ (y : ℕ × ℕ × ℕ × ℕ × ℕ × ℕ). IsRegsLine (regs y) (codes "REGS " ++ text)) same (record {
      a = i.0;
      b = j.0;
      c = k.0;
      p = l.0;
      g = m.0;
      pc = g.0.1;
      all = ap (λ (t : List ℕ). codes "REGS " ++ t) all;
      front = (i.1, j.1, k.1);
      back = (l.1, m.1, n);
    })

numbers-again : (r : Regs) (line : List ℕ) → IsRegsLine r line → option_and_then six_numbers (after_word (codes "REGS ") line) ≡ Some (r.a, r.b, r.c, r.p, r.g, r.pc)
numbers-again r line h =
    ap (λ (l : List ℕ). option_and_then six_numbers (after_word (codes "REGS ") l)) h.all
    ∙ rw (
      number_field-again h.a (h.b ++ 32 ∷ (h.c ++ 32 ∷ (h.p ++ 32 ∷ (h.g ++ 32 ∷ h.pc)))) r.a h.front.0,
      number_field-again h.b (h.c ++ 32 ∷ (h.p ++ 32 ∷ (h.g ++ 32 ∷ h.pc))) r.b h.front.1,
      number_field-again h.c (h.p ++ 32 ∷ (h.g ++ 32 ∷ h.pc)) r.c h.front.2,
      number_field-again h.p (h.g ++ 32 ∷ h.pc) r.p h.back.0,
      number_field-again h.g h.pc r.g h.back.1,
      number_in-again 10 10 h.pc r.pc h.back.2,
    ) refl

numbers_line : (line : List ℕ) (x : ℕ × ℕ × ℕ × ℕ × ℕ × ℕ) → option_and_then six_numbers (after_word (codes "REGS ") line) ≡ Some x → IsRegsLine (regs x) line
numbers_line line x e =
    let a = and_then-ok (after_word (codes "REGS ") line) six_numbers x e in
    subst (IsRegsLine (regs x)) (sym (after_word-ok (codes "REGS ") line a.0 a.1)) (numbers-ok a.0 x a.2)

regs_by : (n : ℕ) (line : List ℕ) (r : Regs) (o : Option (ℕ × ℕ × ℕ × ℕ × ℕ × ℕ)) → option_and_then six_numbers (after_word (codes "REGS ") line) ≡ o
    → option_map_or (regs_or_refusal n) o (Err (refusal n 1)) ≡ Ok r → IsRegsLine r line × AreInRange r
regs_by n line r None e h = cc h
regs_by n line r (Some x) e h =
    let g = guard-ok (are_regs x.0 x.1 x.2 x.3 x.4 x.5) (regs x) r (refusal n 2) h in
    subst (λ (y : Regs). IsRegsLine y line × AreInRange y) g.1 (numbers_line line x e, g.0)

pub regs_line-ok : (n : ℕ) (line : List ℕ) (r : Regs) → regs_line n line ≡ Ok r → IsRegsLine r line × AreInRange r
regs_line-ok n line r e = regs_by n line r (option_and_then six_numbers (after_word (codes "REGS ") line)) refl e

pub regs_line-again : (n : ℕ) (line : List ℕ) (r : Regs) → IsRegsLine r line → AreInRange r → regs_line n line ≡ Ok r
regs_line-again n line r h t = rw (numbers-again r line h, t) refl

-- what is refused has no such numbers, or one out of its range
err_by : (n : ℕ) (line : List ℕ) (d : Refusal) (o : Option (ℕ × ℕ × ℕ × ℕ × ℕ × ℕ)) → option_and_then six_numbers (after_word (codes "REGS ") line) ≡ o
    → option_map_or (regs_or_refusal n) o (Err (refusal n 1)) ≡ Err d
    → ((refusal n 1 ≡ d) × ((r : Regs) → ¬ IsRegsLine r line)) ⊎ ((refusal n 2 ≡ d) × ((r : Regs) × IsRegsLine r line × (are_regs r.a r.b r.c r.p r.g r.pc ≡ false)))
err_by n line d None e h = inl (cc, λ r l. cc (sym e ∙ numbers-again r line l))
err_by n line d (Some x) e h =
    let g = guard-err (are_regs x.0 x.1 x.2 x.3 x.4 x.5) (regs x) (refusal n 2) d h in
    inr (g.1, (regs x, numbers_line line x e, g.0))

-- ---- type-ahead, console and shell

pub ring_of-ok : (line digits : List ℕ) → ring_of line ≡ Some digits → IsRingLine (bytes_of digits) line
ring_of-ok line digits e =
    let a = and_then-ok (after_word (codes "RING ") line) hex_field digits e in
    let h = hex_field-ok a.0 digits a.2 in
    (h.1, after_word-ok (codes "RING ") line a.0 a.1 ∙ ap (λ (t : List ℕ). codes "RING " ++ t) h.2)

pub ring_of-again : (line bytes : List ℕ) → IsRingLine bytes line → ring_of line ≡ Some (encode_lower bytes)
ring_of-again line bytes h = ap ring_of h.1 ∙ hex_field-again bytes h.0

pub console_of-ok : (line : List ℕ) (x : ℕ × List ℕ) → console_of line ≡ Some x → IsConsoleLine x.0 (bytes_of x.1) line
console_of-ok line x e =
    let a = and_then-ok (after_word (codes "CONSOLE ") line) _ x e in
    let b = and_then-ok (number_field a.0) _ x a.2 in
    let c = and_then-ok (hex_field b.0.1) (λ digits. Some (b.0.0, digits)) x b.2 in
    let same : (b.0.0, c.0) ≡ x = Some-same _ x c.2 in
    let i = number_field-ok a.0 b.0 b.1 in
    let h = hex_field-ok b.0.1 c.0 c.1 in
    let all : line ≡ codes "CONSOLE " ++ (i.0 ++ 32 ∷ (codes ":" ++ encode_lower (bytes_of c.0)))
    = after_word-ok (codes "CONSOLE ") line a.0 a.1 ∙ ap (λ (t : List ℕ). codes "CONSOLE " ++ t) (i.2 ∙ ap (λ (t : List ℕ). i.0 ++ 32 ∷ t) h.2) in
    subst (λ (y : ℕ × List ℕ). IsConsoleLine y.0 (bytes_of y.1) line) same (i.0, i.1, h.1, all)

pub console_of-again : (line : List ℕ) (d : ℕ) (bytes : List ℕ) → IsConsoleLine d bytes line → console_of line ≡ Some (d, encode_lower bytes)
console_of-again line d bytes h =
    ap console_of h.3 ∙ rw (number_field-again h.0 (codes ":" ++ encode_lower bytes) d h.1, hex_field-again bytes h.2) refl

pub shell_of-ok : (line : List ℕ) (x : ℕ × ℕ × List ℕ) → shell_of line ≡ Some x → IsShellLine x.0 x.1 (bytes_of x.2) line
shell_of-ok line x e =
    let a = and_then-ok (after_word (codes "SHELL ") line) _ x e in
    let b = and_then-ok (number_field a.0) _ x a.2 in
    let c = and_then-ok (number_field b.0.1) _ x b.2 in
    let d = and_then-ok (hex_field c.0.1) (λ digits. Some (b.0.0, c.0.0, digits)) x c.2 in
    let same : (b.0.0, c.0.0, d.0) ≡ x = Some-same _ x d.2 in
    let i = number_field-ok a.0 b.0 b.1 in
    let j = number_field-ok b.0.1 c.0 c.1 in
    let h = hex_field-ok c.0.1 d.0 d.1 in
    let all : line ≡ codes "SHELL " ++ (i.0 ++ 32 ∷ (j.0 ++ 32 ∷ (codes ":" ++ encode_lower (bytes_of d.0))))
    = after_word-ok (codes "SHELL ") line a.0 a.1
    ∙ ap (λ (t : List ℕ). codes "SHELL " ++ t) (i.2 ∙ ap (λ (t : List ℕ). i.0 ++ 32 ∷ t) (j.2 ∙ ap (λ (t : List ℕ). j.0 ++ 32 ∷ t) h.2)) in
    subst (λ (y : ℕ × ℕ × List ℕ). IsShellLine y.0 y.1 (bytes_of y.2) line) same (i.0, j.0, i.1, j.1, h.1, all)

pub shell_of-again : (line : List ℕ) (m x : ℕ) (bytes : List ℕ) → IsShellLine m x bytes line → shell_of line ≡ Some (m, x, encode_lower bytes)
shell_of-again line m x bytes h =
    ap shell_of h.5
    ∙ rw (
      number_field-again h.0 (h.1 ++ 32 ∷ (codes ":" ++ encode_lower bytes)) m h.2,
      number_field-again h.1 (codes ":" ++ encode_lower bytes) x h.3,
      hex_field-again bytes h.4,
    ) refl

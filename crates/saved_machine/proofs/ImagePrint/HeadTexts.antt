-- The first lines of a machine's text, in the pieces that they are printed in.
use Rattle.std.proofs.Common.{◌≡◌, ℕ, false, true, List, [], ◌∷◌, ◌++◌, append_assoc, append-nil}
use Rattle.std.specs.Prelude.{codes, decimal}
use Rattle.module_text.specs.TextReader.Lines.{text_of_lines}
use Rattle.word_store.specs.declared.registers.Regs.{Regs}
use Rattle.saved_text.specs.SavedLines.Canonical.{printed_regs}
use Rattle.saved_machine.specs.ImagePrint.Private.Texts.{head_lines}

-- the lines before that of the registers
abbrev pub kernel_front : ℕ → ℕ → ℕ → ℕ → List ℕ
kernel_front version words period step =
    codes "TRIPOS-IMAGE " ++ (decimal version ++ (codes "\nSTORE " ++ (decimal words ++ (codes "\nTICK " ++ (decimal period ++ (codes "\nSTEP " ++ (decimal step ++ codes "\n")))))))

abbrev pub bare_front : ℕ → ℕ → ℕ → List ℕ
bare_front version words step =
    codes "TRIPOS-IMAGE " ++ (decimal version ++ (codes "\nSTORE " ++ (decimal words ++ (codes "\nBARE" ++ (codes "\nSTEP " ++ (decimal step ++ codes "\n"))))))

pub kernel_head : (version words period step : ℕ) (r : Regs) → kernel_front version words period step ++ (printed_regs r ++ 10 ∷ []) ≡ text_of_lines (head_lines version words false period step r)
kernel_head version words period step r =
    parts (codes "TRIPOS-IMAGE ") (decimal version) (codes "STORE ") (decimal words) (codes "TICK ") (decimal period) (codes "STEP ") (decimal step) (printed_regs r)
  where
    parts : (a v b w c p d s r : List ℕ)
        → (a ++ (v ++ ((10 ∷ b) ++ (w ++ ((10 ∷ c) ++ (p ++ ((10 ∷ d) ++ (s ++ 10 ∷ [])))))))) ++ (r ++ 10 ∷ [])
        ≡ text_of_lines ((a ++ v) ∷ (b ++ w) ∷ (c ++ p) ∷ (d ++ s) ∷ r ∷ [])
    parts a v b w c p d s r = simp (append_assoc, append-nil)

pub bare_head : (version words step : ℕ) (r : Regs) → bare_front version words step ++ (printed_regs r ++ 10 ∷ []) ≡ text_of_lines (head_lines version words true 0 step r)
bare_head version words step r =
    parts (codes "TRIPOS-IMAGE ") (decimal version) (codes "STORE ") (decimal words) (codes "BARE") (codes "STEP ") (decimal step) (printed_regs r)
  where
    parts : (a v b w c d s r : List ℕ)
        → (a ++ (v ++ ((10 ∷ b) ++ (w ++ ((10 ∷ c) ++ ((10 ∷ d) ++ (s ++ 10 ∷ []))))))) ++ (r ++ 10 ∷ [])
        ≡ text_of_lines ((a ++ v) ∷ (b ++ w) ∷ c ∷ (d ++ s) ∷ r ∷ [])
    parts a v b w c d s r = simp (append_assoc, append-nil)

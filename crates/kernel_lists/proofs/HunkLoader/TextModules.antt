-- The module of a text that was checked, and how long it is.
use Rattle.std.proofs.Common.{◌≡◌, ◌∙◌, ℕ, ◌+◌, ◌≤◌, Result, Ok, Err, List, [], ◌∷◌, length, refl, sym, ap, arith, length-append}
use Rattle.module_text.specs.ModuleForm.{AreHunks, IsModule, hunk_type, item, relocation_items}
use Rattle.module_text.specs.ModuleOfText.{module_of}
use Rattle.module_text.specs.TextReader.Refusal.{Refusal}
use Rattle.module_text.specs.ReadingOn.{Reads}
use Rattle.module_text.specs.Shapes.{check, check_of, shape_of, words_in}
use Rattle.module_text.specs.declared.check.Shape.{Shape}
use Rattle.module_text.specs.declared.modules.Hunk.{Hunk}
use Rattle.module_text.specs.declared.modules.Module.{Module}
use Rattle.module_text.proofs.ReadingOn.{reads_all, reads_on}
use Rattle.module_text.proofs.Sound.{sound}
use Rattle.kernel_lists.specs.HunkLoader.ModuleRow.{last_word}
use Rattle.kernel_lists.proofs.HunkLoader.PlacedHunks.{words_in-cons}

-- the module whose shape it is
pub record ModuleFound (text : List ℕ) (shape : Shape) : Type 0 where
  pub hunks : Module
  pub is : IsModule text hunks
  pub count : shape.hunks ≡ length hunks.hunks
  pub words : 1 + shape.hunks + shape.words ≡ last_word hunks.hunks

pub module_found : (text : List ℕ) (shape : Shape) → check_of text ≡ Ok shape → ModuleFound text shape
module_found text shape e = on (module_of text) refl e
  where
    found : (m : Module) → module_of text ≡ Ok m → shape_of m.hunks ≡ shape → ModuleFound text shape
    found m is same =
        record {
          hunks = m;
          is = sound text m is;
          count = ap (λ (x : Shape). x.hunks) (sym same);
          words = ap (λ (x : Shape). 1 + x.hunks + x.words) (sym same);
        }

    on : (r : Result Module Refusal) → module_of text ≡ r → check r ≡ Ok shape → ModuleFound text shape
    on (Err d) is k = cc
    on (Ok m) is k = found m is (cc)

-- a text has a byte for each word that is read from it
pub reads_few : (text : List ℕ) (place : ℕ) (words : List ℕ) → place ≤ length text → Reads text place words → place + length words ≤ length text
reads_few text place [] inside r = omega arith
reads_few text place (w ∷ ws) inside r =
    let on = reads_on text place w ws r in
    omega (arith, on.further, reads_few text on.end ws on.inside on.rest)

-- and a module's words are fewer than those of its text
hunks_few : (hunks : List Hunk) (words : List ℕ) → AreHunks hunks words → 1 + length hunks + words_in hunks ≤ length words
hunks_few [] words h = omega (arith, ap length h)
hunks_few (h ∷ hs) words k =
    let rest = hunks_few hs k.1 k.4 in
    let front = ap length k.3.all ∙ length-append (item hunk_type h.words) (relocation_items k.3.lists) in
    omega (arith, rest, front, ap length k.2, length-append k.0 k.1, words_in-cons h hs)

pub last_word_few : (text : List ℕ) (m : Module) → IsModule text m → last_word m.hunks ≤ length text
last_word_few text m is = omega (arith, hunks_few m.hunks is.0 is.2, reads_few text 0 is.0 (omega arith) (reads_all text is.0 is.1))

-- The module of a text can be printed.
use Rattle.std.proofs.Common.{◌≡◌, ◌∙◌, ℕ, ◌+◌, ◌*◌, ◌<◌, ◌≤◌, Ok, List, [], ◌∷◌, length, sym, ap, arith, add-one, zero-add, lit≤, subst}
use Rattle.std.specs.List.{AllByRecursion}
use Rattle.module_text.specs.Canonical.{IsPrintable}
use Rattle.module_text.specs.declared.modules.Module.{Module}
use Rattle.module_text.specs.TextReader.Lines.{lines_of}
use Rattle.assembly.specs.AssemblyText.Assembly.{assembly_of, module_of}
use Rattle.assembly.specs.AssemblyText.Encoding.{Code, encode}
use Rattle.assembly.specs.AssemblyText.HunkWords.{body, hunk_words}
use Rattle.assembly.specs.AssemblyText.Labels.{Table}
use Rattle.assembly.specs.AssemblyText.Places.{hunk_size, most_words}
use Rattle.module_text.specs.TextReader.Steps.{◌>>=◌}
use Rattle.assembly.specs.AssemblyText.Survey.{Layout, no_lines, survey}
use Rattle.assembly.proofs.AssemblyText.EncodeLemmas.{encode_fits, low_end, survey_fits}
use Rattle.assembly.proofs.AssemblyText.HunkSizes.{body_size}
use Rattle.module_text.proofs.TextReader.StepLemmas.{bind-ok}

-- the whole hunk is as long as the survey says
pub code_size : (table : Table) (last : Layout) (lines : List (List ℕ)) (code : Code) → survey 1 no_lines lines ≡ Ok last → encode 1 table 4 lines ≡ Ok code
    → hunk_size (4 + length code.bytes) (length code.pairs) ≡ hunk_size last.offset last.pairs
code_size table last lines code e f =
    let fits = encode_fits 1 table no_lines last lines code e f in
    let counts : length code.pairs ≡ last.pairs = sym (zero-add (length code.pairs)) ∙ fits.counts in
    ap (λ (o : ℕ). hunk_size o (length code.pairs)) fits.ends ∙ ap (hunk_size last.offset) counts

pub length-hunk_words : (code : Code) → length (hunk_words code) ≡ hunk_size (4 + length code.bytes) (length code.pairs)
unfolding hunk_words
length-hunk_words code = sym (add-one (length (body code))) ∙ body_size code

-- the words that are relocated are among those of the hunk
inside_words : (end count : ℕ) (rs : List ℕ) → end ≤ 4 * count → AllByRecursion (λ r. 4 * r + 4 ≤ end) rs → AllByRecursion (λ r. r < count) rs
inside_words end count [] h all = tt
inside_words end count (r ∷ rs) h all = let here = all.0 in (omega arith, inside_words end count rs h all.1)

printable : (table : Table) (last : Layout) (lines : List (List ℕ)) (code : Code) → survey 1 no_lines lines ≡ Ok last → encode 1 table 4 lines ≡ Ok code → IsPrintable (module_of code)
printable table last lines code e f =
    let fits = encode_fits 1 table no_lines last lines code e f in
    let long : length (hunk_words code) ≡ hunk_size last.offset last.pairs = length-hunk_words code ∙ code_size table last lines code e f in
    let short : hunk_size last.offset last.pairs ≤ most_words = survey_fits 1 no_lines last lines (lit≤ tt) e in
    let low : last.offset ≤ 262144 = low_end last.offset last.pairs short in
    let ends = fits.ends in
    let few = fits.few in (
      record {
        words = omega arith;
        relocations = omega arith;
        inside = inside_words last.offset (length (hunk_words code)) code.relocations (omega arith) fits.inside;
      },
      tt,
    )

-- what a text was surveyed and encoded as
pub record IsEncoded (text : List ℕ) (m : Module) : Type 0 where
  pub last : Layout
  pub code : Code
  pub surveyed : survey 1 no_lines (lines_of text) ≡ Ok last
  pub encoded : encode 1 last.table 4 (lines_of text) ≡ Ok code
  pub made : module_of code ≡ m

pub assembly_ok : (text : List ℕ) (m : Module) → assembly_of text ≡ Ok m → IsEncoded text m
unfolding assembly_of
assembly_ok text m e =
    let a = bind-ok (survey 1 no_lines (lines_of text)) (λ layout. encode 1 layout.table 4 (lines_of text) >>= λ code. Ok (module_of code)) m e in
    let b = bind-ok (encode 1 a.0.table 4 (lines_of text)) (λ code. Ok (module_of code)) m a.2 in
    record { last = a.0; code = b.0; surveyed = a.1; encoded = b.1; made = let same = b.2 in cc }

pub printable_text : (text : List ℕ) (m : Module) → assembly_of text ≡ Ok m → IsPrintable m
printable_text text m e =
    let a = assembly_ok text m e in
    subst (λ (x : Module). IsPrintable x) a.made (printable a.last.table a.last (lines_of text) a.code a.surveyed a.encoded)

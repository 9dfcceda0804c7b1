-- The listing of plain code assembles to its hunk.
use Rattle.std.proofs.Common.{◌≡◌, ◌∙◌, ℕ, ◌+◌, ◌*◌, ◌^◌, ◌<◌, Bool, List, [], ◌∷◌, ◌++◌, length, Ok, refl, sym, ap, subst, arith, length-append}
use Rattle.std.specs.List.{AllByRecursion}
use Rattle.word_store.specs.Bytes.{byte_at}
use Rattle.module_text.specs.Canonical.{printed}
use Rattle.module_text.specs.declared.modules.Hunk.{Hunk}
use Rattle.module_text.specs.TextReader.Lines.{lines_of}
use Rattle.module_text.proofs.TextReader.PlainLines.{lines_of_text_of_lines}
use Rattle.assembly.specs.AssemblyText.Assembly.{assembled, module_of}
use Rattle.assembly.specs.AssemblyText.AssemblyForm.{Assembles, code_of_pieces}
use Rattle.assembly.specs.AssemblyText.Encoding.{Code}
use Rattle.assembly.specs.AssemblyText.HunkWords.{body, hunk_words, words_of}
use Rattle.assembly.specs.AssemblyText.Places.{first_offset, hunk_size}
use Rattle.assembly.specs.AssemblyText.Program.{AreRead, IsProgram, pair_count, program_size}
use Rattle.assembly.specs.declared.assembly_text.statements.Line.{Line}
use Rattle.assembly.proofs.AssemblyText.AssemblyLemmas.{complete}
use Rattle.assembly.specs.ModuleListing.Cover.{Follow, ListedLine, line_at}
use Rattle.assembly.specs.ModuleListing.Listing.{listed}
use Rattle.assembly.specs.PlainCode.{IsLabelled, IsPlainAt, IsPlainCode}
use Rattle.assembly.specs.Source.{parts_at, source}
use Rattle.assembly.proofs.CodeBytes.{are_bytes, bytes_behind, bytes_from, words_again}
use Rattle.assembly.proofs.SourceLines.{IsSaid, said_at}
use Rattle.assembly.proofs.SourcePrograms.{AreSaid, are_distinct, are_given, are_plain, are_read, bytes_of_lines, ends_at, follow_le, has_its_label, no_global_pairs, no_pairs, no_relocations, offset_before, pieces_of, program_of, table_from, texts_of}

front : (P : ℕ → Type 0) (xs ys : List ℕ) → AllByRecursion P (xs ++ ys) → AllByRecursion P xs
front P [] ys h = tt
front P (x ∷ xs) ys h = (h.0, front P xs ys h.1)

-- ---- the words

-- bytes without pairs are words and a 0
made_words : (bytes code words : List ℕ) (c : Code) → c.bytes ≡ bytes → c.pairs ≡ [] → words_of bytes ≡ code → words ≡ length words ∷ code ++ 0 ∷ [] → words ≡ hunk_words c
unfolding hunk_words
made_words bytes code words c b p w all =
    let inner : body c ≡ code ++ 0 ∷ [] = rw (b, p, w) refl in
    let size : length words ≡ length (code ++ 0 ∷ []) + 1 = ap (λ (l : List ℕ). length l) all ∙ omega arith in
    all ∙ rw (inner, size) refl

module _ (has_label : ℕ → Bool) (lines : List ListedLine) (h : Hunk) (p : IsPlainCode has_label lines h) where
  size : length h.words ≡ length p.code + 2
  size = ap (λ (l : List ℕ). length l) p.all ∙ omega (arith, length-append p.code (0 ∷ []))

  end_small : first_offset + 4 * length p.code < 2 ^ 30
  end_small = omega (arith, size, p.fits)

  near : (t : ℕ) → IsLabelled has_label lines t → t < 2 ^ 30
  near t l = omega (arith, end_small, offset_before first_offset (first_offset + 4 * length p.code) lines p.follow t l.0)

  abbrev leads : ℕ → Type 0
  leads t = IsLabelled has_label lines t

  are_said : (a : ℕ) (some : List ListedLine) → Follow a (first_offset + 4 * length p.code) some
      → AllByRecursion (λ line. line ≡ line_at (byte_at h.words) line.offset) some → AllByRecursion (λ line. IsPlainAt leads (byte_at h.words) line.offset) some
      → AreSaid has_label (byte_at h.words) leads some
  are_said a [] follow listed plain = tt
  are_said a (line ∷ more) follow listing plain =
      let le = follow_le a (first_offset + 4 * length p.code) (line ∷ more) follow in
      let small : line.offset < 2 ^ 30 = omega (arith, end_small, follow.0) in
      let same : line.length ≡ (listed (byte_at h.words) line.offset).length = ap (λ (l : ListedLine). l.length) listing.0 in (
        subst (λ (n : ℕ). IsSaid (byte_at h.words) leads line.offset n (parts_at (byte_at h.words) line.offset)) (sym same) (said_at (byte_at h.words) leads (are_bytes h.words) near line.offset small plain.0),
        are_said (a + line.length) more follow.2 listing.1 plain.1,
      )

  said : AreSaid has_label (byte_at h.words) leads lines
  said = are_said first_offset lines p.follow p.listed p.plain

  abbrev program : List Line
  program = program_of has_label (byte_at h.words) leads lines said

  is_program : IsProgram (lines_of (source has_label (byte_at h.words) lines)) program
  is_program =
      let end = first_offset + 4 * length p.code in
      let texts = texts_of has_label (byte_at h.words) leads lines in
      let ends = ends_at has_label (byte_at h.words) leads first_offset end lines said p.follow in
      let no_pair = no_pairs has_label (byte_at h.words) leads lines said in
      let words : program_size program ≡ hunk_size end 0 = ap (λ (o : ℕ). hunk_size o (pair_count program)) ends ∙ ap (hunk_size end) no_pair in
      record {
        read = subst (λ (l : List (List ℕ)). AreRead l program) (sym (lines_of_text_of_lines texts (are_plain has_label (byte_at h.words) leads first_offset end lines end_small said p.follow))) (are_read has_label (byte_at h.words) leads first_offset end lines end_small said p.follow);
        once = are_distinct has_label (byte_at h.words) leads first_offset end lines end_small said p.follow;
        fits = rw words (omega (arith, size, p.fits));
      }

  abbrev code_made : Code
  code_made = code_of_pieces (pieces_of (byte_at h.words) lines)

  words_made : h.words ≡ hunk_words code_made
  words_made =
      let bytes = bytes_from (byte_at h.words) (4 * length p.code) first_offset in
      let behind : bytes ≡ bytes_from (byte_at (p.code ++ 0 ∷ [])) (4 * length p.code) 0 = ap (λ (ws : List ℕ). bytes_from (byte_at ws) (4 * length p.code) first_offset) p.all ∙ bytes_behind (length h.words) (p.code ++ 0 ∷ []) (4 * length p.code) 0 in
      let low : AllByRecursion (λ w. w < 2 ^ 32) (length h.words ∷ p.code ++ 0 ∷ []) = subst (AllByRecursion (λ w. w < 2 ^ 32)) p.all p.are_words in
      made_words bytes p.code h.words code_made
      (bytes_of_lines (byte_at h.words) first_offset (first_offset + 4 * length p.code) (4 * length p.code) lines p.follow refl)
      (no_global_pairs (byte_at h.words) lines)
      (ap words_of behind ∙ words_again p.code (0 ∷ []) (front (λ w. w < 2 ^ 32) p.code (0 ∷ []) low.1))
      p.all

  module_made : record { hunks = h ∷ [] } ≡ module_of code_made
  module_made =
      let words = words_made in
      let relocations = p.bare ∙ sym (no_relocations (byte_at h.words) lines) in
      λ i. record { hunks = record { words = words i; relocations = relocations i } ∷ [] }

  pub again : Assembles (source has_label (byte_at h.words) lines) (record { hunks = h ∷ [] })
  again =
      let end = first_offset + 4 * length p.code in
      let table = table_from has_label (byte_at h.words) leads first_offset program in
      record {
        program = program;
        table = table;
        pieces = pieces_of (byte_at h.words) lines;
        lines = is_program;
        labels = λ name. refl;
        given = are_given has_label (byte_at h.words) leads table (λ t l. has_its_label has_label (byte_at h.words) leads first_offset end lines end_small said p.follow t (near t l) l) first_offset end lines said p.follow;
        made = module_made;
      }

pub printed_again : (has_label : ℕ → Bool) (lines : List ListedLine) (h : Hunk) → IsPlainCode has_label lines h → assembled (source has_label (byte_at h.words) lines) ≡ Ok (printed (record { hunks = h ∷ [] }))
printed_again has_label lines h p = rw (complete (source has_label (byte_at h.words) lines) (record { hunks = h ∷ [] }) (again has_label lines h p)) refl

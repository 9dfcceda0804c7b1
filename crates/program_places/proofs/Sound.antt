-- What is read is a map's text.
use Rattle.std.proofs.Common.{◌≡◌, ◌∙◌, ℕ, ◌+◌, ◌==◌, Bool, true, false, cond, Option, Some, None, Result, Ok, Err, List, [], ◌∷◌, ◌++◌, ◌&&◌, inl, inr, length, refl, sym, ap, arith, append_assoc, append-nil}
use Rattle.std.specs.Prelude.{IsTrue, codes, not, option_map}
use Rattle.std.specs.List.{AllByRecursion, flat_map}
use Rattle.std.specs.Option.{option_map_or}
use Rattle.std.specs.Str.{bytes_eq}
use Rattle.std.proofs.lemmas.Bool.{and_parts, not-true}
use Rattle.std.proofs.lemmas.Bool.Decides.{nat_tests}
use Rattle.std.proofs.lemmas.List.Concat.{flat_map-append}
use Rattle.std.proofs.lemmas.List.Splits.{length-slice_split}
use Rattle.std.proofs.lemmas.Option.{cond_some}
use Rattle.std.proofs.lemmas.Slice.Eq.{bytes_eq-Decides}
use Rattle.module_text.specs.TextReader.Fields.{after_word}
use Rattle.module_text.specs.TextReader.Lines.{lines_of}
use Rattle.module_text.specs.TextReader.Numbers.{number_of}
use Rattle.module_text.specs.TextReader.Refusal.{Refusal, refusal}
use Rattle.module_text.specs.TextReader.Steps.{◌>>=◌}
use Rattle.module_text.proofs.TextReader.StepLemmas.{Ok-same, bind-ok, cond-cases, ok_or-ok}
use Rattle.session_text.specs.Statements.{fields, split_at_blank}
use Rattle.program_places.specs.MapForm.{IsMap, hunk_statements, line_statements, of_hunk, place_of, statements_from}
use Rattle.program_places.specs.MapOfText.{after_statement, begun_hunk, draft, end_map, first_draft, has_words, map_of, read_on, step, with_last, with_line, with_words}
use Rattle.program_places.specs.Refusals.{is_cut_off}
use Rattle.program_places.specs.Statements.{at_of, hunk_of, hunk_word, line_of, mapped_line, or_bad_number, or_no_line, program_of, statement_of, word_of_byte, words_of}
use Rattle.program_places.specs.declared.drafts.Draft.{Draft}
use Rattle.program_places.specs.declared.maps.MappedHunk.{MappedHunk}
use Rattle.program_places.specs.declared.maps.MappedLine.{MappedLine}
use Rattle.program_places.specs.declared.maps.PlacedHunk.{PlacedHunk}
use Rattle.program_places.specs.declared.maps.ProgramMap.{ProgramMap}
use Rattle.program_places.specs.declared.statements.Statement.{Statement}
use Rattle.program_places.specs.declared.statements.Statement.TheVariants.{Program, Hunk, Line, At}

-- ---- what a draft has read

abbrev HaveWords : List MappedHunk → Type 0
HaveWords hunks = AllByRecursion (λ hunk. IsTrue (has_words hunk)) hunks

-- the statements of the last hunk, by whether it has its words
abbrev begun_statements : Bool → MappedHunk → List Statement
begun_statements true hunk = hunk_statements hunk
begun_statements false hunk = Program hunk.name hunk.file ∷ []

abbrev last_statements : Option MappedHunk → List Statement
last_statements None = []
last_statements (Some hunk) = begun_statements (has_words hunk) hunk

-- the statements of the hunks of a draft
abbrev drafted : Draft → List Statement
drafted d = flat_map hunk_statements d.map.hunks ++ last_statements d.last

-- a hunk has no lines before its words
abbrev IsBegun : Option MappedHunk → Type 0
IsBegun None = Unit {0}
IsBegun (Some hunk) = has_words hunk ≡ false → hunk.lines ≡ []

-- what one draft has more than another
record Adds (d next : Draft) (of_hunks : List Statement) (places : List PlacedHunk) : Type 0 where
  statements : drafted next ≡ drafted d ++ of_hunks
  placed : next.map.placed ≡ d.map.placed ++ places
  words : HaveWords next.map.hunks
  begun : IsBegun next.last

-- all have words, and one more
have_one_more : (hunks : List MappedHunk) (hunk : MappedHunk) → HaveWords hunks → has_words hunk ≡ true → HaveWords (hunks ++ hunk ∷ [])
have_one_more [] hunk all h = (h, tt)
have_one_more (other ∷ hunks) hunk all h = (all.0, have_one_more hunks hunk all.1 h)

-- ---- a whole map

-- a map with its last hunk has the statements of both
whole-statements : (m : ProgramMap) (last : Option MappedHunk) (whole : ProgramMap) → with_last m last ≡ Some whole → HaveWords m.hunks
    → (flat_map hunk_statements whole.hunks ≡ flat_map hunk_statements m.hunks ++ last_statements last) × (whole.placed ≡ m.placed) × HaveWords whole.hunks
whole-statements m None whole e all =
    let same : m ≡ whole = cc in
    rw (sym same) (sym (append-nil (flat_map hunk_statements m.hunks)), refl, all)
whole-statements m (Some hunk) whole e all =
    let p = cond_some (has_words hunk) (record { hunks = m.hunks ++ hunk ∷ []; placed = m.placed }) whole e in
    let more : flat_map hunk_statements (m.hunks ++ hunk ∷ []) ≡ flat_map hunk_statements m.hunks ++ hunk_statements hunk =
    flat_map-append hunk_statements m.hunks (hunk ∷ []) ∙ ap (λ (xs : List Statement). flat_map hunk_statements m.hunks ++ xs) (append-nil (hunk_statements hunk)) in
    let part : begun_statements (has_words hunk) hunk ≡ hunk_statements hunk = rw p.0 refl in
    rw (sym p.1) (more ∙ ap (λ (xs : List Statement). flat_map hunk_statements m.hunks ++ xs) (sym part), refl, have_one_more m.hunks hunk all p.0)

-- ---- a statement more

map-some : {A B : Type 0} (f : A → B) (o : Option A) (y : B) → option_map f o ≡ Some y → (x : A) × (o ≡ Some x) × (f x ≡ y)
map-some f None y e = cc e
map-some f (Some x) y e = (x, refl, cc)

-- a hunk statement has words
abbrev StatesWords : Statement → Type 0
StatesWords (Hunk name words) = (length words == 0) ≡ false
StatesWords statement = Unit {0}

program-adds : (m : ProgramMap) (last : Option MappedHunk) (name file : List ℕ) (next : Draft) → after_statement (draft m last) (Program name file) ≡ Some next
    → HaveWords m.hunks → Adds (draft m last) next (Program name file ∷ []) []
program-adds m last name file next e all =
    let p = map-some (λ whole. draft whole (Some (begun_hunk name file))) (with_last m last) next e in
    let w = whole-statements m last p.0 p.1 all in
    rw (sym p.2) (record {
      statements = ap (λ (xs : List Statement). xs ++ Program name file ∷ []) w.0;
      placed = w.1 ∙ sym (append-nil m.placed);
      words = w.2;
      begun = λ _. refl;
    })

-- the hunk that is last gets its words
words-given : (name : List ℕ) (words : List (Option ℕ)) (hunk : MappedHunk) (same has : Bool) → bytes_eq hunk.name name ≡ same → has_words hunk ≡ has
    → (next : MappedHunk) → cond (same && not has) (Some (record hunk { words = words })) None ≡ Some next → (length words == 0) ≡ false → hunk.lines ≡ []
    → (last_statements (Some next) ≡ last_statements (Some hunk) ++ Hunk name words ∷ []) × (has_words next ≡ true)
words-given name words hunk true false s h next e some none =
    let is : record hunk { words = words } ≡ next = cc in
    let name_is : hunk.name ≡ name = (bytes_eq-Decides hunk.name name).0 s in
    rw (sym is, some, h, none, name_is) (refl, refl)
words-given name words hunk true true s h next e some none = cc e
words-given name words hunk false has s h next e some none = cc e

hunk-adds : (m : ProgramMap) (last : Option MappedHunk) (name : List ℕ) (words : List (Option ℕ)) (next : Draft) → after_statement (draft m last) (Hunk name words) ≡ Some next
    → HaveWords m.hunks → IsBegun last → (length words == 0) ≡ false → Adds (draft m last) next (Hunk name words ∷ []) []
hunk-adds m None name words next e all begun some = cc e
hunk-adds m (Some hunk) name words next e all begun some =
    let p = map-some (λ given. draft m (Some given)) (with_words name words (Some hunk)) next e in
    let q = cond_some (bytes_eq hunk.name name && not (has_words hunk)) (record hunk { words = words }) p.0 p.1 in
    let no : has_words hunk ≡ false = not-true (has_words hunk) (and_parts (bytes_eq hunk.name name) (not (has_words hunk)) q.0).1 in
    let given = words-given name words hunk (bytes_eq hunk.name name) (has_words hunk) refl refl p.0 p.1 some (begun no) in
    rw (sym p.2) (record {
      statements = ap (λ (xs : List Statement). flat_map hunk_statements m.hunks ++ xs) given.0 ∙ sym (append_assoc (flat_map hunk_statements m.hunks) (last_statements (Some hunk)) (Hunk name words ∷ []));
      placed = sym (append-nil m.placed);
      words = all;
      begun = λ without. absurd (grind (arith, without, given.1));
    })

lines-more : (name : List ℕ) (lines : List MappedLine) (line : MappedLine) → line_statements name (lines ++ line ∷ []) ≡ line_statements name lines ++ Line name line ∷ []
lines-more name [] line = refl
lines-more name (other ∷ lines) line = ap (λ (xs : List Statement). Line name other ∷ xs) (lines-more name lines line)

-- the hunk that is last gets a line
line-given : (name : List ℕ) (line : MappedLine) (hunk : MappedHunk) (same has : Bool) → bytes_eq hunk.name name ≡ same → has_words hunk ≡ has
    → (next : MappedHunk) → cond (same && has) (Some (record hunk { lines = hunk.lines ++ line ∷ [] })) None ≡ Some next
    → (last_statements (Some next) ≡ last_statements (Some hunk) ++ Line name line ∷ []) × (has_words next ≡ true)
line-given name line hunk true true s h next e =
    let is : record hunk { lines = hunk.lines ++ line ∷ [] } ≡ next = cc in
    let name_is : hunk.name ≡ name = (bytes_eq-Decides hunk.name name).0 s in
    let more : line_statements hunk.name (hunk.lines ++ line ∷ []) ≡ line_statements hunk.name hunk.lines ++ Line name line ∷ [] =
    lines-more hunk.name hunk.lines line ∙ ap (λ (x : List ℕ). line_statements hunk.name hunk.lines ++ Line x line ∷ []) name_is in
    rw (sym is, h) (ap (λ (xs : List Statement). Program hunk.name hunk.file ∷ Hunk hunk.name hunk.words ∷ xs) more, refl)
line-given name line hunk true false s h next e = cc e
line-given name line hunk false has s h next e = cc e

line-adds : (m : ProgramMap) (last : Option MappedHunk) (name : List ℕ) (line : MappedLine) (next : Draft) → after_statement (draft m last) (Line name line) ≡ Some next
    → HaveWords m.hunks → Adds (draft m last) next (Line name line ∷ []) []
line-adds m None name line next e all = cc e
line-adds m (Some hunk) name line next e all =
    let p = map-some (λ given. draft m (Some given)) (with_line name line (Some hunk)) next e in
    let given = line-given name line hunk (bytes_eq hunk.name name) (has_words hunk) refl refl p.0 p.1 in
    rw (sym p.2) (record {
      statements = ap (λ (xs : List Statement). flat_map hunk_statements m.hunks ++ xs) given.0 ∙ sym (append_assoc (flat_map hunk_statements m.hunks) (last_statements (Some hunk)) (Line name line ∷ []));
      placed = sym (append-nil m.placed);
      words = all;
      begun = λ without. absurd (grind (arith, without, given.1));
    })

statement-adds : (m : ProgramMap) (last : Option MappedHunk) (s : Statement) (next : Draft) → after_statement (draft m last) s ≡ Some next → StatesWords s
    → HaveWords m.hunks → IsBegun last → Adds (draft m last) next (of_hunk s) (place_of s)
statement-adds m last (Program name file) next e some all begun = program-adds m last name file next e all
statement-adds m last (Hunk name words) next e some all begun = hunk-adds m last name words next e all begun some
statement-adds m last (Line name line) next e some all begun = line-adds m last name line next e all
statement-adds m last (At placed) next e some all begun =
    let is : draft (record { hunks = m.hunks; placed = m.placed ++ placed ∷ [] }) last ≡ next = cc in
    rw (sym is) (record { statements = sym (append-nil (drafted (draft m last))); placed = refl; words = all; begun = begun })

-- ---- the words of a hunk statement

some-more : (word : Option ℕ) (more : List (Option ℕ)) → (length (word ∷ more) == 0) ≡ false
some-more word more = grind (arith, nat_tests)

-- fields that are words are some, if there are some fields
words-some : (n : ℕ) (parts : List (List ℕ)) (words : List (Option ℕ)) → words_of n parts ≡ Ok words → (length parts == 0) ≡ false → (length words == 0) ≡ false
words-some n [] words e some = cc some
words-some n (part ∷ parts) words e some =
    let p = bind-ok (or_no_line n (hunk_word part)) (λ word. words_of n parts >>= (λ more. Ok (word ∷ more))) words e in
    let q = bind-ok (words_of n parts) (λ more. Ok (p.0 ∷ more)) words p.2 in
    let is : p.0 ∷ q.0 ≡ words = Ok-same {E = Refusal} (p.0 ∷ q.0) words q.2 in
    ap (λ (ws : List (Option ℕ)). length ws == 0) (sym is) ∙ some-more p.0 q.0

-- a text has one field at least
some-fields : (text : List ℕ) → (length (fields text) == 0) ≡ false
some-fields text = let count = length-slice_split (λ c. c == 32) text in grind (arith, nat_tests, count)

hunk-words : (n : ℕ) (text : List ℕ) (s : Statement) → hunk_of n text ≡ Ok s → StatesWords s
hunk-words n text s e =
    let p = bind-ok (or_no_line n (split_at_blank text)) (λ parts. words_of n (fields parts.1) >>= (λ words. Ok (Hunk parts.0 words))) s e in
    let q = bind-ok (words_of n (fields p.0.1)) (λ words. Ok (Hunk p.0.0 words)) s p.2 in
    let is : Hunk p.0.0 q.0 ≡ s = Ok-same {E = Refusal} (Hunk p.0.0 q.0) s q.2 in
    rw (sym is) (words-some n (fields p.0.1) q.0 q.1 (some-fields p.0.1))

program-words : (n : ℕ) (text : List ℕ) (s : Statement) → program_of n text ≡ Ok s → StatesWords s
program-words n text s e =
    let p = bind-ok (or_no_line n (split_at_blank text)) (λ parts. Ok (Program parts.0 parts.1)) s e in
    rw (sym (Ok-same {E = Refusal} (Program p.0.0 p.0.1) s p.2)) tt

line-words : (n : ℕ) (text : List ℕ) (s : Statement) → line_of n text ≡ Ok s → StatesWords s
line-words n text s e =
    let p = bind-ok (or_no_line n (split_at_blank text)) (λ parts. mapped_line n parts.1 >>= (λ line. Ok (Line parts.0 line))) s e in
    let q = bind-ok (mapped_line n p.0.1) (λ line. Ok (Line p.0.0 line)) s p.2 in
    rw (sym (Ok-same {E = Refusal} (Line p.0.0 q.0) s q.2)) tt

place-words : (n : ℕ) (text : List ℕ) (s : Statement) → at_of n text ≡ Ok s → StatesWords s
place-words n text s e =
    let at = λ (name : List ℕ) (word : ℕ). At (record { name = name; word = word }) in
    let p = bind-ok (or_no_line n (split_at_blank text)) (λ parts. or_no_line n (number_of parts.1) >>= (λ byte. or_bad_number n (word_of_byte byte) >>= (λ word. Ok (at parts.0 word)))) s e in
    let q = bind-ok (or_no_line n (number_of p.0.1)) (λ byte. or_bad_number n (word_of_byte byte) >>= (λ word. Ok (at p.0.0 word))) s p.2 in
    let r = bind-ok (or_bad_number n (word_of_byte q.0)) (λ word. Ok (at p.0.0 word)) s q.2 in
    rw (sym (Ok-same {E = Refusal} (at p.0.0 r.0) s r.2)) tt

-- what comes of a word that is there, and else of the others
either-words : (read : List ℕ → Result Statement Refusal) → ((text : List ℕ) (s : Statement) → read text ≡ Ok s → StatesWords s)
    → (o : Option (List ℕ)) (else : Result Statement Refusal) → ((s : Statement) → else ≡ Ok s → StatesWords s)
    → (s : Statement) → option_map_or read o else ≡ Ok s → StatesWords s
either-words read one None else others s e = others s e
either-words read one (Some text) else others s e = one text s e

statement-words : (n : ℕ) (line : List ℕ) (s : Statement) → statement_of n line ≡ Ok s → StatesWords s
unfolding statement_of
statement-words n line s e =
    either-words (program_of n) (program-words n) (after_word (codes "program ") line) _
    (either-words (hunk_of n) (hunk-words n) (after_word (codes "hunk ") line) _
    (either-words (line_of n) (line-words n) (after_word (codes "line ") line) _
    (either-words (at_of n) (place-words n) (after_word (codes "at ") line) (Err (refusal n 1)) (λ t f. cc f)))) s e

-- ---- all lines

-- what lines state, and what a draft has more after them
record Reads (m : ProgramMap) (last : Option MappedHunk) (n : ℕ) (lines : List (List ℕ)) (next : Draft) : Type 0 where
  statements : List Statement
  stated : statements_from n lines ≡ Ok statements
  adds : Adds (draft m last) next (flat_map of_hunk statements) (flat_map place_of statements)

-- what two drafts have more, one after another
adds-both : (d next last : Draft) (xs ys : List Statement) (ps qs : List PlacedHunk) → Adds d next xs ps → Adds next last ys qs → Adds d last (xs ++ ys) (ps ++ qs)
adds-both d next last xs ys ps qs a b = record {
  statements = b.statements ∙ ap (λ (zs : List Statement). zs ++ ys) a.statements ∙ append_assoc (drafted d) xs ys;
  placed = b.placed ∙ ap (λ (zs : List PlacedHunk). zs ++ qs) a.placed ∙ append_assoc d.map.placed ps qs;
  words = b.words;
  begun = b.begun;
}

stated-more : (n : ℕ) (line : List ℕ) (lines : List (List ℕ)) (s : Statement) (more : List Statement) → statement_of n line ≡ Ok s → statements_from (n + 1) lines ≡ Ok more
    → statements_from n (line ∷ lines) ≡ Ok (s ∷ more)
stated-more n line lines s more e f = rw (e, f) refl

read-lines : (lines : List (List ℕ)) (n : ℕ) (m : ProgramMap) (last : Option MappedHunk) (next : Draft) → read_on (draft m last) n lines ≡ Ok next
    → HaveWords m.hunks → IsBegun last → Reads m last n lines next
unfolding step
read-lines [] n m last next e all begun =
    let is : draft m last ≡ next = Ok-same {E = Refusal} (draft m last) next e in
    rw (sym is) (record {
      statements = [];
      stated = refl;
      adds = record { statements = sym (append-nil (drafted (draft m last))); placed = sym (append-nil m.placed); words = all; begun = begun };
    })
read-lines (line ∷ lines) n m last next e all begun =
    let p = bind-ok (step (draft m last) n line) (λ d. read_on d (n + 1) lines) next e in
    let q = bind-ok (statement_of n line) (λ s. or_no_line n (after_statement (draft m last) s)) p.0 p.1 in
    let one = statement-adds m last q.0 p.0 (ok_or-ok (after_statement (draft m last) q.0) (refusal n 1) p.0 q.2) (statement-words n line q.0 q.1) all begun in
    let more = read-lines lines (n + 1) p.0.map p.0.last next p.2 one.words one.begun in
    record {
      statements = q.0 ∷ more.statements;
      stated = stated-more n line lines q.0 more.statements q.1 more.stated;
      adds = adds-both (draft m last) p.0 next (of_hunk q.0) (flat_map of_hunk more.statements) (place_of q.0) (flat_map place_of more.statements) one more.adds;
    }

-- what is read of a text is the map whose text it is
pub is_map : (text : List ℕ) (m : ProgramMap) → map_of text ≡ Ok m → IsMap text m
is_map text m e =
    let lines = lines_of text in
    let p = bind-ok (read_on first_draft 1 lines) (λ d. end_map (length lines) (is_cut_off text) d) m e in
    let read = read-lines lines 1 first_draft.map None p.0 p.1 tt tt in
    elim (cond-cases (is_cut_off text) (Err (refusal (length lines) 3)) (or_no_line (length lines) (with_last p.0.map p.0.last)) (Ok m) p.2) [
      | inl cut ↦ absurd (cc cut.1)
      | inr ended ↦
          let whole = whole-statements p.0.map p.0.last m (ok_or-ok (with_last p.0.map p.0.last) (refusal (length lines) 1) m ended.1) read.adds.words in
          record {
            ended = ended.0;
            statements = read.statements;
            stated = read.stated;
            hunks = sym (whole.0 ∙ read.adds.statements);
            words = whole.2;
            placed = sym (whole.1 ∙ read.adds.placed);
          }
    ]

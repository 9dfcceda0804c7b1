-- The text of a saved machine is read as it.
use Rattle.std.proofs.Common.{◌≡◌, ◌∙◌, ℕ, zero, suc, ◌≤◌, ◌+◌, ◌/◌, ◌%◌, ◌==◌, Bool, true, false, cond, Option, Some, Result, Ok, Err, List, [], ◌∷◌, ◌++◌, length, length-append, map, take, drop, replicate, nat_lt, length-take-le, refl, sym, ap, subst, arith, append_assoc, append-nil}
use Rattle.std.specs.Prelude.{IsTrue, slice_set}
use Rattle.std.specs.List.{AllByRecursion, flat_map}
use Rattle.std.specs.Option.{ok_or, option_map_or}
use Rattle.std.specs.Simd.{first_chunks}
use Rattle.std.proofs.lemmas.Bool.Decides.{nat_tests}
use Rattle.std.proofs.lemmas.List.{length-drop, take-append-drop, take_all}
use Rattle.module_text.specs.TextReader.Refusal.{Refusal, refusal}
use Rattle.module_text.specs.TextReader.Steps.{◌>>=◌}
use Rattle.ram_disc.specs.Disc.{is_before}
use Rattle.ram_disc.specs.Name.{is_name}
use Rattle.session_text.specs.Ranges.{is_step}
use Rattle.saved_text.specs.SavedLines.Statements.{Statement, Bytes, Word, States}
use Rattle.saved_text.proofs.SavedLines.StatementLines.{statement_of-again}
use Rattle.saved_text.specs.Files.{is_behind, takes_bytes, with_bytes, with_more}
use Rattle.saved_text.specs.ImageForm.{AreFiles, ArePipes, AreStated, AreStreams, IsPipe, IsStream, byte_lines, file_statements, flag, key_statement, pipe_statement, stream_statement, word_statements}
use Rattle.saved_text.specs.ImageOfText.{draft, entry_step, read_on, statement_step, step}
use Rattle.saved_text.specs.Places.{has_go, has_keys, pipe_floor, stream_floor, word_floor}
use Rattle.saved_text.specs.Ranges.{pipe_of, stream_of}
use Rattle.saved_text.specs.declared.drafts.Draft.{Draft}
use Rattle.saved_text.specs.declared.drafts.Place.{Place}
use Rattle.saved_text.specs.declared.drafts.Place.TheVariants.{Version as AtVersion, Store as AtStore, Machine as AtMachine, Step as AtStep, Regs as AtRegs, Ring as AtRing, Console as AtConsole, Shell as AtShell, File as AtFile, Stream as AtStream, Pipe as AtPipe, Key as AtKey, Word as AtWord, End as AtEnd}
use Rattle.saved_text.specs.declared.images.Image.{Image}
use Rattle.saved_text.specs.declared.images.SavedFile.{SavedFile}
use Rattle.saved_text.specs.declared.images.SavedPipe.{SavedPipe}
use Rattle.saved_text.specs.declared.images.SavedStream.{SavedStream}
use Rattle.saved_text.proofs.FileLists.{last_of-push, with_bytes-push}
use Rattle.saved_text.proofs.StatementLists.{last_of-behind}

-- ---- statements, one after another

-- the statements lead from the place with the machine so far to this draft
abbrev pub Leads : Place → Image → List Statement → Draft → Type 0
Leads p x [] d = draft p x ≡ d
Leads p x (s ∷ ss) d = (has_go p ≡ true) × ((m : Draft) × ((n : ℕ) → statement_step p x n s ≡ Ok m) × Leads m.place m.image ss d)

pub leads-append : (p : Place) (x : Image) (a b : List Statement) (m d : Draft) → Leads p x a m → Leads m.place m.image b d → Leads p x (a ++ b) d
leads-append p x [] b m d h k = subst (λ (e : Draft). Leads e.place e.image b d) (sym h) k
leads-append p x (s ∷ a) b m d h k = (h.0, (h.1.0, h.1.1, leads-append h.1.0.place h.1.0.image a b m d h.1.2 k))

-- a place where the last line may be has a statement next
pub entry_at : (p : Place) (x : Image) (n : ℕ) (line : List ℕ) → has_go p ≡ true → step (draft p x) n line ≡ entry_step p x n line
unfolding step
entry_at AtVersion x n line e = cc e
entry_at AtStore x n line e = cc e
entry_at AtMachine x n line e = cc e
entry_at AtStep x n line e = cc e
entry_at AtRegs x n line e = cc e
entry_at AtRing x n line e = cc e
entry_at AtConsole x n line e = cc e
entry_at AtShell x n line e = cc e
entry_at AtFile x n line e = refl
entry_at (AtStream k) x n line e = refl
entry_at (AtPipe k) x n line e = refl
entry_at AtKey x n line e = refl
entry_at (AtWord a) x n line e = refl
entry_at AtEnd x n line e = refl

pub entry_again : (p : Place) (x : Image) (n : ℕ) (line : List ℕ) (s : Statement) → has_go p ≡ true → States s line → step (draft p x) n line ≡ statement_step p x n s
entry_again p x n line s e h = entry_at p x n line e ∙ ap (λ (o : Option Statement). ok_or o (refusal n 1) >>= statement_step p x n) (statement_of-again line s h)

-- lines that state them are read so
pub leads-read : (ss : List Statement) (lines rest : List (List ℕ)) (p : Place) (x : Image) (n : ℕ) (d : Draft) → Leads p x ss d → AreStated ss lines
    → (m : ℕ) × (read_on (draft p x) n (lines ++ rest) ≡ read_on d m rest)
leads-read [] [] rest p x n d h a = (n, ap (λ (e : Draft). read_on e n rest) h)
leads-read [] (line ∷ lines) rest p x n d h a = absurd a
leads-read (s ∷ ss) [] rest p x n d h a = absurd a
leads-read (s ∷ ss) (line ∷ lines) rest p x n d h a =
    let first : step (draft p x) n line ≡ Ok h.1.0 = entry_again p x n line s h.0 a.0 ∙ h.1.1 n in
    let more = leads-read ss lines rest h.1.0.place h.1.0.image (n + 1) d h.1.2 a.1 in
    (more.0, ap (λ (r : Result Draft Refusal). r >>= λ next. read_on next (n + 1) (lines ++ rest)) first ∙ more.1)

-- ---- files

module _ (x : Image) where
  abbrev files_of : List SavedFile → Image
  files_of files = record x { files = files }

  -- one line of bytes
  bytes_again : (front : List SavedFile) (f : SavedFile) (bytes : List ℕ) → length f.bytes % 32 ≡ 0 → (n : ℕ)
      → statement_step AtFile (files_of (front ++ f ∷ [])) n (Bytes bytes) ≡ Ok (draft AtFile (files_of (front ++ with_more f bytes ∷ [])))
  bytes_again front f bytes full n =
      let test : (length f.bytes % 32 == 0) ≡ true = grind (arith, nat_tests) in
      let takes : takes_bytes (front ++ f ∷ []) ≡ true = ap (λ (o : Option SavedFile). option_map_or (λ g. length g.bytes % 32 == 0) o false) (last_of-push front f) ∙ test in
      ap (λ (b : Bool). cond b (Ok (draft AtFile (files_of (with_bytes (front ++ f ∷ []) bytes)))) (Err (refusal n 1))) takes
      ∙ ap (λ (fs : List SavedFile). Ok (draft AtFile (files_of fs))) (with_bytes-push front f bytes)

  -- lines of bytes, from the first that is not there yet
  bytes_lead : (front : List SavedFile) (name : List ℕ) (k : ℕ) (had bytes : List ℕ) → length had % 32 ≡ 0 → (length bytes + 31) / 32 ≡ k
      → Leads AtFile (files_of (front ++ record { name = name; bytes = had } ∷ [])) (map (λ b. Bytes b) (first_chunks 32 k bytes))
      (draft AtFile (files_of (front ++ record { name = name; bytes = had ++ bytes } ∷ [])))
  bytes_lead front name zero had [] full e = ap (λ (b : List ℕ). draft AtFile (files_of (front ++ record { name = name; bytes = b } ∷ []))) (sym (append-nil had))
  bytes_lead front name zero had (b ∷ bytes) full e = absurd (omega (arith, e))
  bytes_lead front name (suc zero) had bytes full e =
      let short : length bytes ≤ 32 = omega (arith, e) in (
        refl,
        (
          draft AtFile (files_of (front ++ record { name = name; bytes = had ++ take 32 bytes } ∷ [])),
          bytes_again front (record { name = name; bytes = had }) (take 32 bytes) full,
          ap (λ (b : List ℕ). draft AtFile (files_of (front ++ record { name = name; bytes = had ++ b } ∷ []))) (take_all 32 bytes short),
        ),
      )
  bytes_lead front name (suc (suc k)) had bytes full e =
      let len = length-drop 32 bytes in
      let long : 32 ≤ length bytes = omega (arith, e) in
      let taken : length (take 32 bytes) ≡ 32 = length-take-le 32 bytes long in
      let sum = length-append had (take 32 bytes) in
      let again : (had ++ take 32 bytes) ++ drop 32 bytes ≡ had ++ bytes = append_assoc had (take 32 bytes) (drop 32 bytes) ∙ ap (λ (b : List ℕ). had ++ b) (take-append-drop 32 bytes) in (
        refl,
        (
          draft AtFile (files_of (front ++ record { name = name; bytes = had ++ take 32 bytes } ∷ [])),
          bytes_again front (record { name = name; bytes = had }) (take 32 bytes) full,
          subst (λ (b : List ℕ). Leads AtFile (files_of (front ++ record { name = name; bytes = had ++ take 32 bytes } ∷ [])) (map (λ c. Bytes c) (first_chunks 32 (suc k) (drop 32 bytes))) (draft AtFile (files_of (front ++ record { name = name; bytes = b } ∷ [])))) again
              (bytes_lead front name (suc k) (had ++ take 32 bytes) (drop 32 bytes) (omega (arith, full, sum, taken)) (omega (arith, len, e))),
        ),
      )

  -- a name that is behind the others
  behind_is : (front : List SavedFile) (f : SavedFile) (more : List SavedFile) → AreFiles (front ++ f ∷ more) → (is_behind front f.name ≡ true) × (is_name f.name ≡ true)
  behind_is [] f [] h = (refl, h)
  behind_is [] f (g ∷ more) h = (refl, h.0)
  behind_is (g ∷ []) f [] h = (h.1, h.2)
  behind_is (g ∷ []) f (k ∷ more) h = (h.1, h.2.0)
  behind_is (g ∷ k ∷ front) f more h =
      let p = behind_is (k ∷ front) f more h.2 in
      (ap (λ (o : Option SavedFile). option_map_or (λ y. is_before y.name f.name) o true) (last_of-behind g k front) ∙ p.0, p.1)

  pub files_lead : (front files : List SavedFile) → AreFiles (front ++ files) → Leads AtFile (files_of front) (flat_map file_statements files) (draft AtFile (files_of (front ++ files)))
  files_lead front [] h = ap (λ (fs : List SavedFile). draft AtFile (files_of fs)) (sym (append-nil front))
  files_lead front (f ∷ files) h =
      let is = behind_is front f files h in
      let blank : SavedFile = record { name = f.name; bytes = [] } in
      let one : front ++ f ∷ files ≡ (front ++ f ∷ []) ++ files = sym (append_assoc front (f ∷ []) files) in
      let bytes = bytes_lead front f.name ((length f.bytes + 31) / 32) [] f.bytes refl refl in
      let more = files_lead (front ++ f ∷ []) files (subst AreFiles one h) in
      let all = leads-append AtFile (files_of (front ++ blank ∷ [])) (map (λ b. Bytes b) (byte_lines f.bytes)) (flat_map file_statements files) (draft AtFile (files_of (front ++ f ∷ []))) (draft AtFile (files_of ((front ++ f ∷ []) ++ files))) bytes more in (
        refl,
        (
          draft AtFile (files_of (front ++ blank ∷ [])),
          λ n. rw (is.0, is.1) refl,
          subst (λ (fs : List SavedFile). Leads AtFile (files_of (front ++ blank ∷ [])) (map (λ b. Bytes b) (byte_lines f.bytes) ++ flat_map file_statements files) (draft AtFile (files_of fs))) (sym one) all,
        ),
      )

-- ---- streams

flag_is : (b : Bool) → (flag b == 1) ≡ b
flag_is true = refl
flag_is false = refl

-- a place where streams may come
abbrev IsAtStreams : Place → ℕ → Type 0
IsAtStreams p floor = (stream_floor p ≡ Some floor) × (pipe_floor p ≡ Some 0) × (has_keys p ≡ true) × (word_floor p ≡ Some 0) × (has_go p ≡ true)

stream_again : (s : SavedStream) → IsStream s → stream_of s.k (flag s.writes) s.position s.name ≡ Some s
stream_again s h = rw (h.0, h.1) (ap (λ (b : Bool). Some (record s { writes = b })) (flag_is s.writes))

pub streams_lead : (x : Image) (p : Place) (floor : ℕ) (front ss : List SavedStream) → IsAtStreams p floor → AreStreams floor ss
    → (q : Place) × (low : ℕ) × IsAtStreams q low × Leads p (record x { streams = front }) (map stream_statement ss) (draft q (record x { streams = front ++ ss }))
streams_lead x p floor front [] a h = (p, floor, a, ap (λ (ss : List SavedStream). draft p (record x { streams = ss })) (sym (append-nil front)))
streams_lead x p floor front (s ∷ ss) a h =
    let more = streams_lead x (AtStream (s.k + 1)) (s.k + 1) (front ++ s ∷ []) ss (refl, refl, refl, refl, refl) h.2 in
    let one : (front ++ s ∷ []) ++ ss ≡ front ++ s ∷ ss = append_assoc front (s ∷ []) ss in
    let low : nat_lt s.k floor ≡ false = let le = h.0 in grind (arith, nat_tests) in (
      more.0,
      more.1,
      more.2,
      (
        a.4,
        (
          draft (AtStream (s.k + 1)) (record x { streams = front ++ s ∷ [] }),
          λ n. rw (a.0, low, stream_again s h.1) refl,
          subst (λ (l : List SavedStream). Leads (AtStream (s.k + 1)) (record x { streams = front ++ s ∷ [] }) (map stream_statement ss) (draft more.0 (record x { streams = l }))) one more.3,
        ),
      ),
    )

-- ---- pipes

abbrev IsAtPipes : Place → ℕ → Type 0
IsAtPipes p floor = (pipe_floor p ≡ Some floor) × (has_keys p ≡ true) × (word_floor p ≡ Some 0) × (has_go p ≡ true)

pipe_again : (s : SavedPipe) → IsPipe s → pipe_of s.k (flag s.reading) (flag s.writing) (flag s.written) s.name s.held ≡ Some s
pipe_again s h = rw (h.0, h.1) (λ i. Some (record s { reading = flag_is s.reading i; writing = flag_is s.writing i; written = flag_is s.written i }))

pub pipes_lead : (x : Image) (p : Place) (floor : ℕ) (front ss : List SavedPipe) → IsAtPipes p floor → ArePipes floor ss
    → (q : Place) × (low : ℕ) × IsAtPipes q low × Leads p (record x { pipes = front }) (map pipe_statement ss) (draft q (record x { pipes = front ++ ss }))
pipes_lead x p floor front [] a h = (p, floor, a, ap (λ (ss : List SavedPipe). draft p (record x { pipes = ss })) (sym (append-nil front)))
pipes_lead x p floor front (s ∷ ss) a h =
    let more = pipes_lead x (AtPipe (s.k + 1)) (s.k + 1) (front ++ s ∷ []) ss (refl, refl, refl, refl) h.2 in
    let one : (front ++ s ∷ []) ++ ss ≡ front ++ s ∷ ss = append_assoc front (s ∷ []) ss in
    let low : nat_lt s.k floor ≡ false = let le = h.0 in grind (arith, nat_tests) in (
      more.0,
      more.1,
      more.2,
      (
        a.3,
        (
          draft (AtPipe (s.k + 1)) (record x { pipes = front ++ s ∷ [] }),
          λ n. rw (a.0, low, pipe_again s h.1) refl,
          subst (λ (l : List SavedPipe). Leads (AtPipe (s.k + 1)) (record x { pipes = front ++ s ∷ [] }) (map pipe_statement ss) (draft more.0 (record x { pipes = l }))) one more.3,
        ),
      ),
    )

-- ---- keys

abbrev IsAtKeys : Place → Type 0
IsAtKeys p = (has_keys p ≡ true) × (word_floor p ≡ Some 0) × (has_go p ≡ true)

pub keys_lead : (x : Image) (p : Place) (front ks : List (ℕ × ℕ)) → IsAtKeys p → AllByRecursion (λ key. IsTrue (is_step key.0)) ks
    → (q : Place) × IsAtKeys q × Leads p (record x { keys = front }) (map key_statement ks) (draft q (record x { keys = front ++ ks }))
keys_lead x p front [] a h = (p, a, ap (λ (ks : List (ℕ × ℕ)). draft p (record x { keys = ks })) (sym (append-nil front)))
keys_lead x p front (key ∷ ks) a h =
    let more = keys_lead x AtKey (front ++ key ∷ []) ks (refl, refl, refl) h.1 in
    let one : (front ++ key ∷ []) ++ ks ≡ front ++ key ∷ ks = append_assoc front (key ∷ []) ks in (
      more.0,
      more.1,
      (
        a.2,
        (
          draft AtKey (record x { keys = front ++ key ∷ [] }),
          λ n. rw (a.0, h.0) refl,
          subst (λ (l : List (ℕ × ℕ)). Leads AtKey (record x { keys = front ++ key ∷ [] }) (map key_statement ks) (draft more.0 (record x { keys = l }))) one more.2,
        ),
      ),
    )

-- ---- words

-- the words so far, and zeros for those that are to come
abbrev with_zeros : List ℕ → List ℕ → List ℕ
with_zeros front ws = front ++ replicate (length ws) 0

zero_next : (front ws : List ℕ) → with_zeros (front ++ 0 ∷ []) ws ≡ with_zeros front (0 ∷ ws)
zero_next front ws = append_assoc front (0 ∷ []) (replicate (length ws) 0)

set_next : (front ws : List ℕ) (w : ℕ) → slice_set (with_zeros front (w ∷ ws)) (length front) w ≡ with_zeros (front ++ w ∷ []) ws
set_next [] ws w = refl
set_next (v ∷ front) ws w = ap (λ (l : List ℕ). v ∷ l) (set_next front ws w)

pub words_lead : (x : Image) (p : Place) (floor a : ℕ) (front ws : List ℕ) → word_floor p ≡ Some floor → has_go p ≡ true → floor ≤ a → a ≡ length front
    → (q : Place) × (has_go q ≡ true) × Leads p (record x { store = with_zeros front ws }) (word_statements a ws) (draft q (record x { store = front ++ ws }))
words_lead x p floor a front [] f g le is = (p, g, refl)
words_lead x p floor a front (zero ∷ ws) f g le is =
    let len = length-append front (0 ∷ []) in
    let more = words_lead x p floor (a + 1) (front ++ 0 ∷ []) ws f g (omega arith) (omega (arith, is, len)) in
    let one : (front ++ 0 ∷ []) ++ ws ≡ front ++ 0 ∷ ws = append_assoc front (0 ∷ []) ws in (
      more.0,
      more.1,
      subst (λ (l : List ℕ). Leads p (record x { store = l }) (word_statements (a + 1) ws) (draft more.0 (record x { store = front ++ 0 ∷ ws }))) (zero_next front ws)
          (subst (λ (l : List ℕ). Leads p (record x { store = with_zeros (front ++ 0 ∷ []) ws }) (word_statements (a + 1) ws) (draft more.0 (record x { store = l }))) one more.2),
    )
words_lead x p floor a front (suc w ∷ ws) f g le is =
    let len = length-append front (suc w ∷ []) in
    let size : length (with_zeros front (suc w ∷ ws)) ≡ length front + suc (length (replicate {A = ℕ} (length ws) 0)) = length-append front (0 ∷ replicate (length ws) 0) in
    let more = words_lead x (AtWord (a + 1)) (a + 1) (a + 1) (front ++ suc w ∷ []) ws refl refl (omega arith) (omega (arith, is, len)) in
    let one : (front ++ suc w ∷ []) ++ ws ≡ front ++ suc w ∷ ws = append_assoc front (suc w ∷ []) ws in
    let low : nat_lt a floor ≡ false = grind (arith, nat_tests) in
    let inside : nat_lt a (length (with_zeros front (suc w ∷ ws))) ≡ true = grind (arith, nat_tests) in
    let some : (suc w == 0) ≡ false = grind (arith, nat_tests) in
    let line : word_statements a (suc w ∷ ws) ≡ Word a (suc w) ∷ word_statements (a + 1) ws = ap (λ (b : Bool). cond b [] (Word a (suc w) ∷ []) ++ word_statements (a + 1) ws) some in
    let set : slice_set (with_zeros front (suc w ∷ ws)) a (suc w) ≡ with_zeros (front ++ suc w ∷ []) ws = ap (λ (k : ℕ). slice_set (with_zeros front (suc w ∷ ws)) k (suc w)) is ∙ set_next front ws (suc w) in (
      more.0,
      more.1,
      subst (λ (ss : List Statement). Leads p (record x { store = with_zeros front (suc w ∷ ws) }) ss (draft more.0 (record x { store = front ++ suc w ∷ ws }))) (sym line) (
        g,
        (
          draft (AtWord (a + 1)) (record x { store = slice_set (with_zeros front (suc w ∷ ws)) a (suc w) }),
          λ n. rw (f, low, inside, some) refl,
          subst (λ (l : List ℕ). Leads (AtWord (a + 1)) (record x { store = l }) (word_statements (a + 1) ws) (draft more.0 (record x { store = front ++ suc w ∷ ws }))) (sym set)
              (subst (λ (l : List ℕ). Leads (AtWord (a + 1)) (record x { store = with_zeros (front ++ suc w ∷ []) ws }) (word_statements (a + 1) ws) (draft more.0 (record x { store = l }))) one more.2),
        ),
      ),
    )

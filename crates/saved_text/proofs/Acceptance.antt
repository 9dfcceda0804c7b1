-- A statement that is accepted behind the head is behind those that were.
use Rattle.std.proofs.Common.{◌≡◌, ◌∙◌, ℕ, ◌<◌, ◌≤◌, ◌+◌, ◌%◌, ◌==◌, ◌^◌, ◌&&◌, Bool, true, false, not, cond, Option, Some, None, Result, Ok, Err, List, [], ◌∷◌, ◌++◌, length, map, nat_lt, nat_le, refl, sym, ap, subst, arith, append_assoc}
use Rattle.std.specs.Prelude.{IsTrue, slice_set}
use Rattle.std.specs.List.{flat_map}
use Rattle.std.specs.Option.{ok_or, option_map_or}
use Rattle.std.proofs.lemmas.Bool.{and_parts, eqb-true, not-true}
use Rattle.std.proofs.lemmas.Bool.Decides.{nat_tests}
use Rattle.std.proofs.lemmas.Grind.{flat_map-append}
use Rattle.std.proofs.lemmas.List.{length-set, map-append}
use Rattle.std.proofs.lemmas.Option.{cond_some}
use Rattle.module_text.specs.TextReader.Refusal.{Refusal, refusal}
use Rattle.module_text.specs.TextReader.Steps.{◌>>=◌}
use Rattle.module_text.proofs.TextReader.StepLemmas.{Ok-same, bind-ok, guard-ok, ok_or-ok}
use Rattle.ram_disc.specs.Name.{is_name}
use Rattle.session_text.specs.Ranges.{is_step}
use Rattle.word_store.specs.declared.registers.Regs.{Regs}
use Rattle.saved_text.specs.SavedLines.Statements.{Statement, File, Bytes, Stream, Pipe, Key, Word}
use Rattle.saved_text.proofs.SavedLines.LineFields.{Some-same}
use Rattle.saved_text.specs.Files.{is_behind, last_of, takes_bytes, with_bytes, with_more}
use Rattle.saved_text.specs.ImageForm.{AreEntries, AreFiles, IsPipe, IsStream, byte_lines, file_statements, flag, key_statement, pipe_statement, statements_of, stream_statement, word_statements}
use Rattle.saved_text.specs.ImageOfText.{bytes_step, draft, file_step, key_step, pipe_step, stream_step, word_step}
use Rattle.saved_text.specs.Places.{has_files, has_keys, pipe_floor, stream_floor, word_floor}
use Rattle.saved_text.specs.Ranges.{are_pipe_numbers, are_stream_numbers, is_flag, pipe_of, stream_of}
use Rattle.saved_text.specs.declared.drafts.Draft.{Draft}
use Rattle.saved_text.specs.declared.drafts.Place.{Place}
use Rattle.saved_text.specs.declared.drafts.Place.TheVariants.{Version as AtVersion, Store as AtStore, Machine as AtMachine, Step as AtStep, Regs as AtRegs, Ring as AtRing, Console as AtConsole, Shell as AtShell, File as AtFile, Stream as AtStream, Pipe as AtPipe, Key as AtKey, Word as AtWord, End as AtEnd}
use Rattle.saved_text.specs.declared.images.Image.{Image}
use Rattle.saved_text.specs.declared.images.Mode.{Mode}
use Rattle.saved_text.specs.declared.images.SavedFile.{SavedFile}
use Rattle.saved_text.specs.declared.images.SavedPipe.{SavedPipe}
use Rattle.saved_text.specs.declared.images.SavedStream.{SavedStream}
use Rattle.saved_text.proofs.FileLists.{with_bytes-push}
use Rattle.saved_text.proofs.StatementLists.{Zeros, all-more, behind-first, behind-fourth, behind-second, behind-third, byte_lines-more, files-more, files-with_more, flag-again, last_of-split, no_words, pipe_end, pipe_end-more, pipes-more, stream_end, stream_end-more, streams-more, words-more, zeros-set}

-- ---- what is not there yet

-- what may still come at a place is not there
abbrev pub Later : Place → Image → Type 0
Later AtFile x = (x.streams ≡ []) × (x.pipes ≡ []) × (x.keys ≡ []) × Zeros 0 x.store
Later (AtStream k) x = (stream_end 0 x.streams ≡ k) × (x.pipes ≡ []) × (x.keys ≡ []) × Zeros 0 x.store
Later (AtPipe k) x = (pipe_end 0 x.pipes ≡ k) × (x.keys ≡ []) × Zeros 0 x.store
Later AtKey x = Zeros 0 x.store
Later (AtWord a) x = Zeros a x.store
Later _ x = ⊥

-- the parts of a head
pub record Head : Type 0 where
  pub version : ℕ
  pub bare : Bool
  pub size : ℕ
  pub period : ℕ
  pub step : ℕ
  pub regs : Regs
  pub ring : List ℕ
  pub finished : Bool
  pub line : List ℕ
  pub mode : Mode
  pub command : List ℕ

abbrev pub head_of : Image → Head
head_of x = record {
  version = x.version;
  bare = x.bare;
  size = length x.store;
  period = x.period;
  step = x.step;
  regs = x.regs;
  ring = x.ring;
  finished = x.finished;
  line = x.line;
  mode = x.mode;
  command = x.command;
}

-- a statement that was accepted, and what is there then
pub record IsAccepted (x : Image) (s : Statement) (d : Draft) : Type 0 where
  pub later : Later d.place d.image
  pub entries : AreEntries d.image
  pub all : statements_of d.image ≡ statements_of x ++ s ∷ []
  pub head : head_of d.image ≡ head_of x

-- a test that let something through
pub unless-ok : {A E : Type 0} (b : Bool) (e : E) (r : Result A E) (x : A) → cond (not b) (Err e) r ≡ Ok x → (b ≡ true) × (r ≡ Ok x)
unless-ok true e r x h = (refl, h)
unless-ok false e r x h = cc h

pub if_not-ok : {A E : Type 0} (b : Bool) (e : E) (r : Result A E) (x : A) → cond b (Err e) r ≡ Ok x → (b ≡ false) × (r ≡ Ok x)
if_not-ok false e r x h = (refl, h)
if_not-ok true e r x h = cc h

-- no streams, pipes, keys and words
pub none_from_streams : (x : Image) → x.streams ≡ [] → x.pipes ≡ [] → x.keys ≡ [] → Zeros 0 x.store
    → map stream_statement x.streams ++ (map pipe_statement x.pipes ++ (map key_statement x.keys ++ word_statements 0 x.store)) ≡ []
none_from_streams x s p k z =
    ap (λ (ss : List SavedStream). map stream_statement ss ++ (map pipe_statement x.pipes ++ (map key_statement x.keys ++ word_statements 0 x.store))) s
    ∙ ap (λ (ps : List SavedPipe). map pipe_statement ps ++ (map key_statement x.keys ++ word_statements 0 x.store)) p
    ∙ ap (λ (ks : List (ℕ × ℕ)). map key_statement ks ++ word_statements 0 x.store) k ∙ no_words 0 x.store z

none_from_pipes : (x : Image) → x.pipes ≡ [] → x.keys ≡ [] → Zeros 0 x.store
    → map pipe_statement x.pipes ++ (map key_statement x.keys ++ word_statements 0 x.store) ≡ []
none_from_pipes x p k z =
    ap (λ (ps : List SavedPipe). map pipe_statement ps ++ (map key_statement x.keys ++ word_statements 0 x.store)) p
    ∙ ap (λ (ks : List (ℕ × ℕ)). map key_statement ks ++ word_statements 0 x.store) k ∙ no_words 0 x.store z

none_from_keys : (x : Image) → x.keys ≡ [] → Zeros 0 x.store → map key_statement x.keys ++ word_statements 0 x.store ≡ []
none_from_keys x k z = ap (λ (ks : List (ℕ × ℕ)). map key_statement ks ++ word_statements 0 x.store) k ∙ no_words 0 x.store z

-- ---- files

file_later : (p : Place) (x : Image) → Later p x → has_files p ≡ true → (x.streams ≡ []) × (x.pipes ≡ []) × (x.keys ≡ []) × Zeros 0 x.store
file_later AtVersion x h e = cc e
file_later AtStore x h e = cc e
file_later AtMachine x h e = cc e
file_later AtStep x h e = cc e
file_later AtRegs x h e = cc e
file_later AtRing x h e = cc e
file_later AtConsole x h e = cc e
file_later AtShell x h e = cc e
file_later AtFile x h e = h
file_later (AtStream k) x h e = cc e
file_later (AtPipe k) x h e = cc e
file_later AtKey x h e = cc e
file_later (AtWord a) x h e = cc e
file_later AtEnd x h e = cc e

pub file-accepted : (p : Place) (x : Image) (n : ℕ) (name : List ℕ) (d : Draft) → Later p x → AreEntries x → file_step p x n name ≡ Ok d → IsAccepted x (File name) d
file-accepted p x n name d l h e =
    let new : Image = record x { files = x.files ++ record { name = name; bytes = [] } ∷ [] } in
    let a = unless-ok (has_files p && is_behind x.files name) (refusal n 1) (cond (is_name name) (Ok (draft AtFile new)) (Err (refusal n 2))) d e in
    let b = and_parts (has_files p) (is_behind x.files name) a.0 in
    let c = guard-ok (is_name name) (draft AtFile new) d (refusal n 2) a.1 in
    let k = file_later p x l b.0 in
    let f : SavedFile = record { name = name; bytes = [] } in
    let t = map stream_statement x.streams ++ (map pipe_statement x.pipes ++ (map key_statement x.keys ++ word_statements 0 x.store)) in
    subst (IsAccepted x (File name)) c.1 (record {
      later = k;
      entries = record { files = files-more x.files f h.files b.1 c.0; streams = h.streams; pipes = h.pipes; keys = h.keys };
      all = ap (λ (ss : List Statement). ss ++ t) (flat_map-append file_statements x.files (f ∷ []))
          ∙ behind-first (flat_map file_statements x.files) (File name ∷ []) t (none_from_streams x k.0 k.1 k.2 k.3);
      head = refl;
    })

-- ---- bytes

takes-some : (o : Option SavedFile) → option_map_or (λ f. length f.bytes % 32 == 0) o false ≡ true → (f : SavedFile) × (o ≡ Some f) × (length f.bytes % 32 ≡ 0)
takes-some None e = cc e
takes-some (Some f) e = (f, refl, eqb-true (length f.bytes % 32) 0 e)

more_lines : (f : SavedFile) (bytes : List ℕ) → length f.bytes % 32 ≡ 0 → 1 ≤ length bytes → length bytes ≤ 32 → file_statements (with_more f bytes) ≡ file_statements f ++ Bytes bytes ∷ []
more_lines f bytes e some few =
    ap (λ (ls : List (List ℕ)). File f.name ∷ map (λ b. Bytes b) ls) (byte_lines-more f.bytes bytes e some few)
    ∙ ap (λ (ss : List Statement). File f.name ∷ ss) (map-append (λ b. Bytes b) (byte_lines f.bytes) (bytes ∷ []))

more_files : (front : List SavedFile) (f : SavedFile) (bytes : List ℕ) → length f.bytes % 32 ≡ 0 → 1 ≤ length bytes → length bytes ≤ 32
    → flat_map file_statements (front ++ with_more f bytes ∷ []) ≡ flat_map file_statements (front ++ f ∷ []) ++ Bytes bytes ∷ []
more_files front f bytes e some few =
    flat_map-append file_statements front (with_more f bytes ∷ [])
    ∙ ap (λ (ss : List Statement). flat_map file_statements front ++ (ss ++ [])) (more_lines f bytes e some few)
    ∙ ap (λ (ss : List Statement). flat_map file_statements front ++ ss) (behind-first (file_statements f) (Bytes bytes ∷ []) [] refl)
    ∙ sym (append_assoc (flat_map file_statements front) (file_statements f ++ []) (Bytes bytes ∷ []))
    ∙ ap (λ (ss : List Statement). ss ++ Bytes bytes ∷ []) (sym (flat_map-append file_statements front (f ∷ [])))

pub bytes-accepted : (p : Place) (x : Image) (n : ℕ) (bytes : List ℕ) (d : Draft) → Later p x → AreEntries x → 1 ≤ length bytes → length bytes ≤ 32 → bytes_step p x n bytes ≡ Ok d → IsAccepted x (Bytes bytes) d
bytes-accepted p x n bytes d l h some few e =
    let new : Image = record x { files = with_bytes x.files bytes } in
    let a = guard-ok (has_files p && takes_bytes x.files) (draft AtFile new) d (refusal n 1) e in
    let b = and_parts (has_files p) (takes_bytes x.files) a.0 in
    let k = file_later p x l b.0 in
    let last = takes-some (last_of x.files) b.1 in
    let cut = last_of-split x.files last.0 last.1 in
    let files : with_bytes x.files bytes ≡ cut.0 ++ with_more last.0 bytes ∷ [] = ap (λ (fs : List SavedFile). with_bytes fs bytes) cut.1 ∙ with_bytes-push cut.0 last.0 bytes in
    let t = map stream_statement x.streams ++ (map pipe_statement x.pipes ++ (map key_statement x.keys ++ word_statements 0 x.store)) in
    let lines : flat_map file_statements (with_bytes x.files bytes) ≡ flat_map file_statements x.files ++ Bytes bytes ∷ []
    = ap (flat_map file_statements) files ∙ more_files cut.0 last.0 bytes last.2 some few ∙ ap (λ (fs : List SavedFile). flat_map file_statements fs ++ Bytes bytes ∷ []) (sym cut.1) in
    subst (IsAccepted x (Bytes bytes)) a.1 (record {
      later = k;
      entries = record {
        files = subst AreFiles (sym files) (files-with_more cut.0 last.0 bytes (subst AreFiles cut.1 h.files));
        streams = h.streams;
        pipes = h.pipes;
        keys = h.keys;
      };
      all = ap (λ (ss : List Statement). ss ++ t) lines ∙ behind-first (flat_map file_statements x.files) (Bytes bytes ∷ []) t (none_from_streams x k.0 k.1 k.2 k.3);
      head = refl;
    })

-- ---- streams

stream_later : (p : Place) (x : Image) (floor : ℕ) → Later p x → stream_floor p ≡ Some floor → (stream_end 0 x.streams ≡ floor) × (x.pipes ≡ []) × (x.keys ≡ []) × Zeros 0 x.store
stream_later AtVersion x floor h e = cc e
stream_later AtStore x floor h e = cc e
stream_later AtMachine x floor h e = cc e
stream_later AtStep x floor h e = cc e
stream_later AtRegs x floor h e = cc e
stream_later AtRing x floor h e = cc e
stream_later AtConsole x floor h e = cc e
stream_later AtShell x floor h e = cc e
stream_later AtFile x floor h e = (ap (stream_end 0) h.0 ∙ Some-same 0 floor e, h.1, h.2, h.3)
stream_later (AtStream k) x floor h e = (h.0 ∙ Some-same k floor e, h.1, h.2, h.3)
stream_later (AtPipe k) x floor h e = cc e
stream_later AtKey x floor h e = cc e
stream_later (AtWord a) x floor h e = cc e
stream_later AtEnd x floor h e = cc e

-- a stream in its range
stream_is : (k m position : ℕ) (name : List ℕ) (s : SavedStream) → stream_of k m position name ≡ Some s → IsStream s × (s.k ≡ k) × (stream_statement s ≡ Stream k m position name)
stream_is k m position name s e =
    let t : SavedStream = record { k = k; writes = m == 1; position = position; name = name } in
    let p = cond_some (are_stream_numbers k m position && is_name name) t s e in
    let a = and_parts (are_stream_numbers k m position) (is_name name) p.0 in
    let b = and_parts (nat_le 1 k && nat_le k 17 && is_flag m) (nat_lt position (2 ^ 32)) a.0 in
    let c = and_parts (nat_le 1 k && nat_le k 17) (is_flag m) b.0 in
    let m_is : flag (m == 1) ≡ m = flag-again m c.1 in
    subst (λ (u : SavedStream). IsStream u × (u.k ≡ k) × (stream_statement u ≡ Stream k m position name)) p.1
    ((ap (λ (f : ℕ). are_stream_numbers k f position) m_is ∙ a.0, a.1), refl, ap (λ (f : ℕ). Stream k f position name) m_is)

pub stream-accepted : (p : Place) (x : Image) (n k m position : ℕ) (name : List ℕ) (d : Draft) → Later p x → AreEntries x → stream_step p x n k m position name ≡ Ok d → IsAccepted x (Stream k m position name) d
stream-accepted p x n k m position name d l h e =
    let step : SavedStream → Result Draft Refusal = λ s. Ok (draft (AtStream (k + 1)) (record x { streams = x.streams ++ s ∷ [] })) in
    let a = bind-ok (ok_or (stream_floor p) (refusal n 1)) (λ floor. cond (nat_lt k floor) (Err (refusal n 1)) (ok_or (stream_of k m position name) (refusal n 2) >>= step)) d e in
    let floor = ok_or-ok (stream_floor p) (refusal n 1) a.0 a.1 in
    let b = if_not-ok (nat_lt k a.0) (refusal n 1) (ok_or (stream_of k m position name) (refusal n 2) >>= step) d a.2 in
    let c = bind-ok (ok_or (stream_of k m position name) (refusal n 2)) step d b.1 in
    let s = stream_is k m position name c.0 (ok_or-ok (stream_of k m position name) (refusal n 2) c.0 c.1) in
    let g = stream_later p x a.0 l floor in
    let rises : stream_end 0 x.streams ≤ c.0.k = let lt = b.0 in let q = g.0 in let r = s.1 in grind (arith, nat_tests) in
    let u = map pipe_statement x.pipes ++ (map key_statement x.keys ++ word_statements 0 x.store) in
    let fs = flat_map file_statements x.files in
    subst (IsAccepted x (Stream k m position name)) (Ok-same {E = Refusal} _ d c.2) (record {
      later = (stream_end-more 0 x.streams c.0 ∙ ap (λ (j : ℕ). j + 1) s.1, g.1, g.2, g.3);
      entries = record { files = h.files; streams = streams-more 0 x.streams c.0 h.streams rises s.0; pipes = h.pipes; keys = h.keys };
      all = ap (λ (ss : List Statement). fs ++ (ss ++ u)) (map-append stream_statement x.streams (c.0 ∷ []))
          ∙ behind-second fs (map stream_statement x.streams) (stream_statement c.0 ∷ []) u (none_from_pipes x g.1 g.2 g.3)
          ∙ ap (λ (t : Statement). statements_of x ++ t ∷ []) s.2;
      head = refl;
    })

-- ---- pipes

pipe_later : (p : Place) (x : Image) (floor : ℕ) → Later p x → pipe_floor p ≡ Some floor → (pipe_end 0 x.pipes ≡ floor) × (x.keys ≡ []) × Zeros 0 x.store
pipe_later AtVersion x floor h e = cc e
pipe_later AtStore x floor h e = cc e
pipe_later AtMachine x floor h e = cc e
pipe_later AtStep x floor h e = cc e
pipe_later AtRegs x floor h e = cc e
pipe_later AtRing x floor h e = cc e
pipe_later AtConsole x floor h e = cc e
pipe_later AtShell x floor h e = cc e
pipe_later AtFile x floor h e = (ap (pipe_end 0) h.1 ∙ Some-same 0 floor e, h.2, h.3)
pipe_later (AtStream k) x floor h e = (ap (pipe_end 0) h.1 ∙ Some-same 0 floor e, h.2, h.3)
pipe_later (AtPipe k) x floor h e = (h.0 ∙ Some-same k floor e, h.1, h.2)
pipe_later AtKey x floor h e = cc e
pipe_later (AtWord a) x floor h e = cc e
pipe_later AtEnd x floor h e = cc e

pipe_is : (k r w e : ℕ) (name held : List ℕ) (s : SavedPipe) → pipe_of k r w e name held ≡ Some s → IsPipe s × (s.k ≡ k) × (pipe_statement s ≡ Pipe k r w e name held)
pipe_is k r w e name held s h =
    let t : SavedPipe = record { k = k; reading = r == 1; writing = w == 1; written = e == 1; name = name; held = held } in
    let p = cond_some (are_pipe_numbers k r w e && is_name name) t s h in
    let a = and_parts (are_pipe_numbers k r w e) (is_name name) p.0 in
    let b = and_parts (nat_le 1 k && nat_le k 8 && is_flag r && is_flag w) (is_flag e) a.0 in
    let c = and_parts (nat_le 1 k && nat_le k 8 && is_flag r) (is_flag w) b.0 in
    let f = and_parts (nat_le 1 k && nat_le k 8) (is_flag r) c.0 in
    let r_is : flag (r == 1) ≡ r = flag-again r f.1 in
    let w_is : flag (w == 1) ≡ w = flag-again w c.1 in
    let e_is : flag (e == 1) ≡ e = flag-again e b.1 in
    subst (λ (u : SavedPipe). IsPipe u × (u.k ≡ k) × (pipe_statement u ≡ Pipe k r w e name held)) p.1
    ((rw (r_is, w_is, e_is) a.0, a.1), refl, λ i. Pipe k (r_is i) (w_is i) (e_is i) name held)

pub pipe-accepted : (p : Place) (x : Image) (n k r w e : ℕ) (name held : List ℕ) (d : Draft) → Later p x → AreEntries x → pipe_step p x n k r w e name held ≡ Ok d → IsAccepted x (Pipe k r w e name held) d
pipe-accepted p x n k r w e name held d l h q =
    let step : SavedPipe → Result Draft Refusal = λ s. Ok (draft (AtPipe (k + 1)) (record x { pipes = x.pipes ++ s ∷ [] })) in
    let a = bind-ok (ok_or (pipe_floor p) (refusal n 1)) (λ floor. cond (nat_lt k floor) (Err (refusal n 1)) (ok_or (pipe_of k r w e name held) (refusal n 2) >>= step)) d q in
    let floor = ok_or-ok (pipe_floor p) (refusal n 1) a.0 a.1 in
    let b = if_not-ok (nat_lt k a.0) (refusal n 1) (ok_or (pipe_of k r w e name held) (refusal n 2) >>= step) d a.2 in
    let c = bind-ok (ok_or (pipe_of k r w e name held) (refusal n 2)) step d b.1 in
    let s = pipe_is k r w e name held c.0 (ok_or-ok (pipe_of k r w e name held) (refusal n 2) c.0 c.1) in
    let g = pipe_later p x a.0 l floor in
    let rises : pipe_end 0 x.pipes ≤ c.0.k = let lt = b.0 in let j = g.0 in let i = s.1 in grind (arith, nat_tests) in
    let u = map key_statement x.keys ++ word_statements 0 x.store in
    let fs = flat_map file_statements x.files in
    let ts = map stream_statement x.streams in
    subst (IsAccepted x (Pipe k r w e name held)) (Ok-same {E = Refusal} _ d c.2) (record {
      later = (pipe_end-more 0 x.pipes c.0 ∙ ap (λ (j : ℕ). j + 1) s.1, g.1, g.2);
      entries = record { files = h.files; streams = h.streams; pipes = pipes-more 0 x.pipes c.0 h.pipes rises s.0; keys = h.keys };
      all = ap (λ (ss : List Statement). fs ++ (ts ++ (ss ++ u))) (map-append pipe_statement x.pipes (c.0 ∷ []))
          ∙ behind-third fs ts (map pipe_statement x.pipes) (pipe_statement c.0 ∷ []) u (none_from_keys x g.1 g.2)
          ∙ ap (λ (t : Statement). statements_of x ++ t ∷ []) s.2;
      head = refl;
    })

-- ---- keys and words

key_later : (p : Place) (x : Image) → Later p x → has_keys p ≡ true → Zeros 0 x.store
key_later AtVersion x h e = cc e
key_later AtStore x h e = cc e
key_later AtMachine x h e = cc e
key_later AtStep x h e = cc e
key_later AtRegs x h e = cc e
key_later AtRing x h e = cc e
key_later AtConsole x h e = cc e
key_later AtShell x h e = cc e
key_later AtFile x h e = h.3
key_later (AtStream k) x h e = h.3
key_later (AtPipe k) x h e = h.2
key_later AtKey x h e = h
key_later (AtWord a) x h e = cc e
key_later AtEnd x h e = cc e

pub key-accepted : (p : Place) (x : Image) (n step byte : ℕ) (d : Draft) → Later p x → AreEntries x → key_step p x n step byte ≡ Ok d → IsAccepted x (Key step byte) d
key-accepted p x n step byte d l h e =
    let new : Image = record x { keys = x.keys ++ (step, byte) ∷ [] } in
    let a = unless-ok (has_keys p) (refusal n 1) (cond (is_step step) (Ok (draft AtKey new)) (Err (refusal n 2))) d e in
    let b = guard-ok (is_step step) (draft AtKey new) d (refusal n 2) a.1 in
    let z = key_later p x l a.0 in
    let ws = word_statements 0 x.store in
    let fs = flat_map file_statements x.files in
    let ts = map stream_statement x.streams in
    let ps = map pipe_statement x.pipes in
    subst (IsAccepted x (Key step byte)) b.1 (record {
      later = z;
      entries = record { files = h.files; streams = h.streams; pipes = h.pipes; keys = all-more (λ key. IsTrue (is_step key.0)) x.keys (step, byte) h.keys b.0 };
      all = ap (λ (ss : List Statement). fs ++ (ts ++ (ps ++ (ss ++ ws)))) (map-append key_statement x.keys ((step, byte) ∷ []))
          ∙ behind-fourth fs ts ps (map key_statement x.keys) (Key step byte ∷ []) ws (no_words 0 x.store z);
      head = refl;
    })

word_later : (p : Place) (x : Image) (floor : ℕ) → Later p x → word_floor p ≡ Some floor → Zeros floor x.store
word_later AtVersion x floor h e = cc e
word_later AtStore x floor h e = cc e
word_later AtMachine x floor h e = cc e
word_later AtStep x floor h e = cc e
word_later AtRegs x floor h e = cc e
word_later AtRing x floor h e = cc e
word_later AtConsole x floor h e = cc e
word_later AtShell x floor h e = cc e
word_later AtFile x floor h e = subst (λ (a : ℕ). Zeros a x.store) (Some-same 0 floor e) h.3
word_later (AtStream k) x floor h e = subst (λ (a : ℕ). Zeros a x.store) (Some-same 0 floor e) h.3
word_later (AtPipe k) x floor h e = subst (λ (a : ℕ). Zeros a x.store) (Some-same 0 floor e) h.2
word_later AtKey x floor h e = subst (λ (a : ℕ). Zeros a x.store) (Some-same 0 floor e) h
word_later (AtWord a) x floor h e = subst (λ (b : ℕ). Zeros b x.store) (Some-same a floor e) h
word_later AtEnd x floor h e = cc e

pub word-accepted : (p : Place) (x : Image) (n a w : ℕ) (d : Draft) → Later p x → AreEntries x → word_step p x n a w ≡ Ok d → IsAccepted x (Word a w) d
word-accepted p x n a w d l h e =
    let new : Draft = draft (AtWord (a + 1)) (record x { store = slice_set x.store a w }) in
    let test = nat_lt a (length x.store) && not (w == 0) in
    let b = bind-ok (ok_or (word_floor p) (refusal n 1)) (λ floor. cond (nat_lt a floor) (Err (refusal n 1)) (cond test (Ok new) (Err (refusal n 2)))) d e in
    let floor = ok_or-ok (word_floor p) (refusal n 1) b.0 b.1 in
    let c = if_not-ok (nat_lt a b.0) (refusal n 1) (cond test (Ok new) (Err (refusal n 2))) d b.2 in
    let g = guard-ok test new d (refusal n 2) c.1 in
    let t = and_parts (nat_lt a (length x.store)) (not (w == 0)) g.0 in
    let z = word_later p x b.0 l floor in
    let low : b.0 ≤ a = let lt = c.0 in grind (arith, nat_tests) in
    let inside : a < length x.store = let lt = t.0 in grind (arith, nat_tests) in
    let fs = flat_map file_statements x.files in
    let ts = map stream_statement x.streams in
    let ps = map pipe_statement x.pipes in
    let ks = map key_statement x.keys in
    let ws = word_statements 0 x.store in
    let zero_a : 0 + a ≡ a = omega arith in
    let more = words-more 0 a x.store w inside (not-true (w == 0) t.1) (λ i le. z i (omega (arith, low, le))) ∙ ap (λ (k : ℕ). ws ++ Word k w ∷ []) zero_a in
    subst (IsAccepted x (Word a w)) g.1 (record {
      later = zeros-set b.0 a x.store w z low;
      entries = record { files = h.files; streams = h.streams; pipes = h.pipes; keys = h.keys };
      all = ap (λ (ss : List Statement). fs ++ (ts ++ (ps ++ (ks ++ ss)))) more ∙ regroup fs ts ps ks ws (Word a w ∷ []);
      head = λ i. record (head_of x) { size = length-set x.store a w i };
    })
  where
    regroup : (fs ts ps ks ws more : List Statement) → fs ++ (ts ++ (ps ++ (ks ++ (ws ++ more)))) ≡ (fs ++ (ts ++ (ps ++ (ks ++ ws)))) ++ more
    regroup fs ts ps ks ws more = simp append_assoc

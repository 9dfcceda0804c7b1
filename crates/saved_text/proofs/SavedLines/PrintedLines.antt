-- Lines that are printed state what they were printed for, and no line has a LF or a CR.
use Rattle.std.proofs.Common.{ℕ, ◌<◌, ◌^◌, List, [], ◌∷◌, ◌++◌, refl, sym, subst, arith}
use Rattle.std.specs.Prelude.{codes, decimal}
use Rattle.std.specs.Int.{w32, to_be_bytes}
use Rattle.hex.specs.Hex.{IsBytes, encode_lower}
use Rattle.hex.proofs.HexLemmas.{decode_of-encode_lower}
use Rattle.byte_streams.specs.Pieces.{hex_digits_of}
use Rattle.word_store.specs.declared.registers.Regs.{Regs}
use Rattle.module_text.specs.TextReader.Fields.{IsNumberLine}
use Rattle.module_text.specs.TextReader.Numbers.{IsNumber}
use Rattle.module_text.proofs.TextReader.NumberLemmas.{decimal_number}
use Rattle.module_text.proofs.TextReader.PlainLines.{IsPlain, plain_append, plain_digits, plain_literal}
use Rattle.session_text.proofs.SessionTexts.{plain_bytes, plain_field, plain_number}
use Rattle.saved_text.specs.SavedLines.Canonical.{IsPrintable, printed_console, printed_regs, printed_ring, printed_shell, statement_text}
use Rattle.saved_text.specs.SavedLines.Heads.{IsConsoleLine, IsRegsLine, IsRingLine, IsShellLine}
use Rattle.saved_text.specs.SavedLines.Statements.{Statement, File, Bytes, Stream, Pipe, Key, Word, Go, States}
use Rattle.saved_text.proofs.SavedLines.StatementLines.{word_bytes}
use Rattle.session_text.proofs.StatementTexts.{IsBytes-one}

-- ---- what is printed

pub states_text : (s : Statement) → IsPrintable s → States s (statement_text s)
states_text (File name) h = (h, refl)
states_text (Bytes bytes) h = (h.0, h.1, h.2, refl)
states_text (Stream k m position name) h =
    (decimal k, decimal m, decimal position, decimal_number k h.0, decimal_number m h.1, decimal_number position h.2, h.3, refl)
states_text (Pipe k r w e name bytes) h =
    (decimal k, decimal r, decimal w, decimal e, decimal_number k h.0, decimal_number r h.1, decimal_number w h.2, decimal_number e h.3, h.4, h.5, refl)
states_text (Key step byte) h = (decimal step, decimal_number step h.0, h.1, refl)
states_text (Word address word) h = (decimal address, decimal_number address h.0, h.1, refl)
states_text (Go steps) h = (decimal steps, refl, decimal_number steps h)

pub regs_printed : (r : Regs) → (r.a < 2 ^ 32) × (r.b < 2 ^ 32) × (r.c < 256) → (r.p < 2 ^ 32) × (r.g < 2 ^ 32) × (r.pc < 2 ^ 32) → IsRegsLine r (printed_regs r)
regs_printed r h k = record {
  a = decimal r.a;
  b = decimal r.b;
  c = decimal r.c;
  p = decimal r.p;
  g = decimal r.g;
  pc = decimal r.pc;
  all = refl;
  front = (decimal_number r.a (omega (arith, h.0)), decimal_number r.b (omega (arith, h.1)), decimal_number r.c (omega (arith, h.2)));
  back = (decimal_number r.p (omega (arith, k.0)), decimal_number r.g (omega (arith, k.1)), decimal_number r.pc (omega (arith, k.2)));
}

pub ring_printed : (bytes : List ℕ) → IsBytes bytes → IsRingLine bytes (printed_ring bytes)
ring_printed bytes h = (h, refl)

pub console_printed : (d : ℕ) (bytes : List ℕ) → d < 10 ^ 10 → IsBytes bytes → IsConsoleLine d bytes (printed_console d bytes)
console_printed d bytes lt h = (decimal d, decimal_number d lt, h, refl)

pub shell_printed : (m x : ℕ) (bytes : List ℕ) → m < 10 ^ 10 → x < 10 ^ 10 → IsBytes bytes → IsShellLine m x bytes (printed_shell m x bytes)
shell_printed m x bytes l k h = (decimal m, decimal x, decimal_number m l, decimal_number x k, h, refl)

-- ---- no LF and no CR

plain_hex : (bytes : List ℕ) → IsBytes bytes → IsPlain (encode_lower bytes)
plain_hex bytes h = plain_bytes (encode_lower bytes) bytes (decode_of-encode_lower bytes h)

-- digits, a blank and what follows
plain_field_before : (digits text : List ℕ) (n : ℕ) → IsNumber digits n → IsPlain text → IsPlain (digits ++ 32 ∷ text)
plain_field_before digits text n h k = plain_append digits (32 ∷ text) (plain_digits digits h.numeral.1) ((plain_literal (codes " ") refl).0, k)

plain_colon : (bytes : List ℕ) → IsBytes bytes → IsPlain (codes ":" ++ encode_lower bytes)
plain_colon bytes h = ((plain_literal (codes ":") refl).0, plain_hex bytes h)

pub plain_states : (s : Statement) (line : List ℕ) → States s line → IsPlain line
plain_states (File name) line h = subst IsPlain (sym h.1) (plain_append (codes "FILE ") name (plain_literal (codes "FILE ") refl) (plain_field name h.0))
plain_states (Bytes bytes) line h = subst IsPlain (sym h.3) (plain_colon bytes h.2)
plain_states (Stream k m position name) line h =
    subst IsPlain (sym h.7) (plain_append (codes "STREAM ") (h.0 ++ 32 ∷ (h.1 ++ 32 ∷ (h.2 ++ 32 ∷ name))) (plain_literal (codes "STREAM ") refl)
    (plain_field_before h.0 (h.1 ++ 32 ∷ (h.2 ++ 32 ∷ name)) k h.3 (plain_field_before h.1 (h.2 ++ 32 ∷ name) m h.4 (plain_field_before h.2 name position h.5 (plain_field name h.6)))))
plain_states (Pipe k r w e name bytes) line h =
    let hex = codes ":" ++ encode_lower bytes in
    let named = plain_append name (32 ∷ hex) (plain_field name h.8) ((plain_literal (codes " ") refl).0, plain_colon bytes h.9) in
    let t3 = name ++ 32 ∷ hex in
    let t2 = h.3 ++ 32 ∷ t3 in
    let t1 = h.2 ++ 32 ∷ t2 in
    let t0 = h.1 ++ 32 ∷ t1 in
    subst IsPlain (sym h.10) (plain_append (codes "PIPE ") (h.0 ++ 32 ∷ t0) (plain_literal (codes "PIPE ") refl)
    (plain_field_before h.0 t0 k h.4 (plain_field_before h.1 t1 r h.5 (plain_field_before h.2 t2 w h.6 (plain_field_before h.3 t3 e h.7 named)))))
plain_states (Key step byte) line h =
    subst IsPlain (sym h.3) (plain_append (codes "KEY ") (h.0 ++ 32 ∷ encode_lower (byte ∷ [])) (plain_literal (codes "KEY ") refl)
    (plain_field_before h.0 (encode_lower (byte ∷ [])) step h.1 (plain_hex (byte ∷ []) (IsBytes-one byte h.2))))
plain_states (Word address word) line h =
    subst IsPlain (sym h.3) (plain_append (codes "W ") (h.0 ++ 32 ∷ hex_digits_of word) (plain_literal (codes "W ") refl)
    (plain_field_before h.0 (hex_digits_of word) address h.1 (plain_hex (to_be_bytes w32 word) (word_bytes word))))
plain_states (Go steps) line h = plain_number (codes "GO ") line steps (plain_literal (codes "GO ") refl) h

pub plain_regs : (r : Regs) (line : List ℕ) → IsRegsLine r line → IsPlain line
plain_regs r line h =
    let t3 = h.g ++ 32 ∷ h.pc in
    let t2 = h.p ++ 32 ∷ t3 in
    let t1 = h.c ++ 32 ∷ t2 in
    let t0 = h.b ++ 32 ∷ t1 in
    let last = plain_digits h.pc h.back.2.numeral.1 in
    subst IsPlain (sym h.all) (plain_append (codes "REGS ") (h.a ++ 32 ∷ t0) (plain_literal (codes "REGS ") refl)
    (plain_field_before h.a t0 r.a h.front.0 (plain_field_before h.b t1 r.b h.front.1 (plain_field_before h.c t2 r.c h.front.2
    (plain_field_before h.p t3 r.p h.back.0 (plain_field_before h.g h.pc r.g h.back.1 last))))))

pub plain_ring : (bytes line : List ℕ) → IsRingLine bytes line → IsPlain line
plain_ring bytes line h = subst IsPlain (sym h.1) (plain_append (codes "RING :") (encode_lower bytes) (plain_literal (codes "RING :") refl) (plain_hex bytes h.0))

pub plain_console : (d : ℕ) (bytes line : List ℕ) → IsConsoleLine d bytes line → IsPlain line
plain_console d bytes line h =
    let hex = codes ":" ++ encode_lower bytes in
    subst IsPlain (sym h.3) (plain_append (codes "CONSOLE ") (h.0 ++ 32 ∷ hex) (plain_literal (codes "CONSOLE ") refl) (plain_field_before h.0 hex d h.1 (plain_colon bytes h.2)))

pub plain_shell : (m x : ℕ) (bytes line : List ℕ) → IsShellLine m x bytes line → IsPlain line
plain_shell m x bytes line h =
    let hex = codes ":" ++ encode_lower bytes in
    subst IsPlain (sym h.5) (plain_append (codes "SHELL ") (h.0 ++ 32 ∷ (h.1 ++ 32 ∷ hex)) (plain_literal (codes "SHELL ") refl)
    (plain_field_before h.0 (h.1 ++ 32 ∷ hex) m h.2 (plain_field_before h.1 hex x h.3 (plain_colon bytes h.4))))

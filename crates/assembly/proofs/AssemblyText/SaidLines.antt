-- What a line says follows the rules, and the rules lead to it alone.
use Rattle.std.proofs.Common.{◌≡◌, ◌∙◌, ℕ, ◌-◌, eqb, cond, not, Bool, true, false, Option, Some, None, Result, Ok, Err, List, [], ◌∷◌, ◌++◌, length, take, drop, refl, sym, ap, subst, arith, length-append}
use Rattle.std.specs.Prelude.{ℤ, pos, negsuc, codes, nat_eq, nat_le, ◌&&◌}
use Rattle.std.specs.List.{ends_with, list_all}
use Rattle.std.specs.Option.{ok_or, option_map, option_map_or}
use Rattle.std.specs.Char.{is_ascii_alphabetic, is_ascii_alphanumeric, is_digit}
use Rattle.std.proofs.lemmas.Bool.{and_parts}
use Rattle.std.proofs.lemmas.Bool.Decides.{nat_tests}
use Rattle.std.proofs.lemmas.List.{drop_at, take-append-drop, take_at}
use Rattle.std.proofs.lemmas.Slice.Eq.{bytes_eq-Decides}
use Rattle.std.specs.Str.{bytes_eq}
use Rattle.module_text.specs.TextReader.Steps.{◌>>=◌}
use Rattle.instruction_set.specs.InstructionTable.Names.{byte_named, name_at}
use Rattle.instruction_set.specs.InstructionTable.Operand.{low_bytes}
use Rattle.instruction_set.specs.InstructionTable.Table.{Entry, entry}
use Rattle.instruction_set.specs.declared.instruction_table.forms.Form.{Form}
use Rattle.instruction_set.specs.declared.instruction_table.forms.Form.TheVariants.{Plain, Byte, BytePlus, Half, Word, Relative, Indirect, Switch}
use Rattle.instruction_set.proofs.InstructionTable.NameLemmas.{byte_named_has}
use Rattle.assembly.specs.AssemblyText.Directives.{directive_named}
use Rattle.assembly.specs.AssemblyText.LineForm.{AreParts, BeginsPlain, IsCommented, IsLine, IsNumber, Range, Says, data_range, directive_name, has_name_alone, range_of}
use Rattle.assembly.specs.AssemblyText.LineForm.IsLine.{labelled as with_label, plain}
use Rattle.assembly.specs.AssemblyText.LineForm.Says.{nothing, alone, number, relative, indirect, bytes, reserve, address, align_half, align_word, global as global_pair}
use Rattle.assembly.specs.AssemblyText.LineText.{align, before_colon, directed, instruction, instruction_named, labelled, line_of, line_of_parts, statement_named, statement_of, unlabelled, with_number}
use Rattle.assembly.specs.AssemblyText.Names.{is_label, has_name_form, label_of}
use Rattle.assembly.specs.AssemblyText.Numbers.{is_from_to, number_of, word_of}
use Rattle.assembly.specs.AssemblyText.Operands.{label_operand, no_operand, number_operand, numbered_label, operands_of, unknown_name}
use Rattle.assembly.specs.AssemblyText.Parts.{parts_of, without_comment}
use Rattle.assembly.specs.declared.assembly_text.directives.Directive.{Directive}
use Rattle.assembly.specs.declared.assembly_text.directives.Directive.TheVariants as directive
use Rattle.assembly.specs.declared.assembly_text.errors.LineError.{LineError}
use Rattle.assembly.specs.declared.assembly_text.errors.LineError.TheVariants.{NoForm, OutOfRange}
use Rattle.assembly.specs.declared.assembly_text.operands.Operands.{Operands}
use Rattle.assembly.specs.declared.assembly_text.operands.Operands.TheVariants.{Nothing, Number, Label, NumberAndLabel, Other}
use Rattle.assembly.specs.declared.assembly_text.statements.Boundary.TheVariants as boundary
use Rattle.assembly.specs.declared.assembly_text.statements.Line.{Line}
use Rattle.assembly.specs.declared.assembly_text.statements.Statement.{Statement}
use Rattle.assembly.specs.declared.assembly_text.statements.Statement.TheVariants as says
use Rattle.assembly.proofs.AssemblyText.InstructionLemmas.{statement_of_row}
use Rattle.assembly.proofs.AssemblyText.SplitTexts.{are-parts, commented, commented-is, parts-are}

-- ---- what a step gives, if it gives anything, is of this kind

record OkIs {A : Type 0} (P : A → Type 0) (r : Result A LineError) : Type 0 where
  each : (x : A) → r ≡ Ok x → P x

no_ok : {A : Type 0} {P : A → Type 0} {e : LineError} → OkIs P (Err e)
no_ok = record { each = λ x h. cc h }

this_ok : {A : Type 0} {P : A → Type 0} {y : A} → P y → OkIs P (Ok y)
this_ok {A} {P} {y} h = record { each = λ x same. let is : y ≡ x = cc same in subst P is h }

bind_ok : {A B : Type 0} {Q : A → Type 0} {P : B → Type 0} {r : Result A LineError} {f : A → Result B LineError} → OkIs Q r → ((x : A) → Q x → OkIs P (f x)) → OkIs P (r >>= f)
bind_ok {r = Ok x} h k = k x (h.each x refl)
bind_ok {r = Err d} h k = no_ok

-- where a test holds
if_ok : {A : Type 0} {P : A → Type 0} (e : LineError) (b : Bool) {r : Result A LineError} → (b ≡ true → OkIs P r) → OkIs P (cond b r (Err e))
if_ok e true h = h refl
if_ok e false h = no_ok

-- ---- operands

record IsOne (parts : List (List ℕ)) (n : ℤ) : Type 0 where
  part : List ℕ
  all : parts ≡ part ∷ []
  number : number_of part ≡ Some n

record IsBoth (parts : List (List ℕ)) (n : ℤ) (label : List ℕ) : Type 0 where
  part : List ℕ
  all : parts ≡ part ∷ label ∷ []
  number : number_of part ≡ Some n
  lawful : is_label label ≡ true

abbrev IsLabelled : List (List ℕ) → List ℕ → Type 0
IsLabelled parts label = (parts ≡ label ∷ []) × (is_label label ≡ true)

-- the shapes that operands have
data Shape (parts : List (List ℕ)) : Operands → Type 0 where
  none : parts ≡ [] → Shape parts Nothing
  one : {n : ℤ} → IsOne parts n → Shape parts (Number n)
  a_label : {label : List ℕ} → IsLabelled parts label → Shape parts (Label label)
  both : {n : ℤ} {label : List ℕ} → IsBoth parts n label → Shape parts (NumberAndLabel n label)
  other : Shape parts Other

label-is : (part label : List ℕ) (b : Bool) → is_label part ≡ b → cond b (Some part) None ≡ Some label → (part ≡ label) × (is_label label ≡ true)
label-is part label true lawful e = let is : part ≡ label = cc in (is, subst (λ z. is_label z ≡ true) is lawful)
label-is part label false lawful e = cc

shape-one : (p : List ℕ) (n : Option ℤ) (l : Option (List ℕ)) → number_of p ≡ n → label_of p ≡ l → Shape (p ∷ []) (option_map_or Number n (option_map_or Label l Other))
shape-one p (Some n) l e f = one (record { part = p; all = refl; number = e })
shape-one p None (Some label) e f = let x = label-is p label (is_label p) refl f in a_label (ap (λ z. z ∷ []) x.0, x.1)
shape-one p None None e f = other

shape-both : (p q : List ℕ) (n : Option ℤ) (l : Option (List ℕ)) → number_of p ≡ n → label_of q ≡ l
    → Shape (p ∷ q ∷ []) (option_map_or (λ m. option_map_or (NumberAndLabel m) l Other) n Other)
shape-both p q (Some n) (Some label) e f = let x = label-is q label (is_label q) refl f in both (record { part = p; all = ap (λ z. p ∷ z ∷ []) x.0; number = e; lawful = x.1 })
shape-both p q (Some n) None e f = other
shape-both p q None l e f = other

shape-of : (parts : List (List ℕ)) → Shape parts (operands_of parts)
shape-of [] = none refl
shape-of (p ∷ []) = shape-one p (number_of p) (label_of p) refl refl
shape-of (p ∷ q ∷ []) = shape-both p q (number_of p) (label_of q) refl refl
shape-of (p ∷ q ∷ r ∷ more) = other

module _ (parts : List (List ℕ)) where
  nothing-ok : {o : Operands} → Shape parts o → OkIs (λ u. parts ≡ []) (no_operand o)
  nothing-ok (none is) = this_ok is
  nothing-ok (one is) = no_ok
  nothing-ok (a_label is) = no_ok
  nothing-ok (both is) = no_ok
  nothing-ok other = no_ok

  number-ok : {o : Operands} → Shape parts o → OkIs (IsOne parts) (number_operand o)
  number-ok (none is) = no_ok
  number-ok (one is) = this_ok is
  number-ok (a_label is) = no_ok
  number-ok (both is) = no_ok
  number-ok other = no_ok

  label-ok : {o : Operands} → Shape parts o → OkIs (IsLabelled parts) (label_operand o)
  label-ok (none is) = no_ok
  label-ok (one is) = no_ok
  label-ok (a_label is) = this_ok is
  label-ok (both is) = no_ok
  label-ok other = no_ok

  both-ok : {o : Operands} → Shape parts o → OkIs (λ (b : ℤ × List ℕ). IsBoth parts b.0 b.1) (numbered_label o)
  both-ok (none is) = no_ok
  both-ok (one is) = no_ok
  both-ok (a_label is) = no_ok
  both-ok (both is) = this_ok is
  both-ok other = no_ok

-- ---- what is read follows the rules

module _ (name : List ℕ) (parts : List (List ℕ)) where
  -- these bytes and those of a number
  bytes-ok : (front : List ℕ) (count : ℕ) (low high : ℤ)
      → ((part : List ℕ) (n : ℤ) → IsNumber part (record { low = low; high = high; size = count }) n → Says (name ∷ part ∷ []) (says.Fixed (front ++ low_bytes count (word_of n))))
      → OkIs (Says (name ∷ parts)) (with_number front count low high (operands_of parts))
  bytes-ok front count low high rule =
      bind_ok {Q = λ n. IsOne parts n × (is_from_to low high n ≡ true)}
      (bind_ok (number-ok parts (shape-of parts)) (λ n is. if_ok OutOfRange (is_from_to low high n) (λ inside. this_ok (is, inside))))
      (λ n is. this_ok (subst (λ z. Says (name ∷ z) (says.Fixed (front ++ low_bytes count (word_of n)))) (sym is.0.all) (rule is.0.part n (record { number = is.0.number; inside = is.1 }))))

  alone-ok : (s : Statement) → Says (name ∷ []) s → OkIs (Says (name ∷ parts)) (no_operand (operands_of parts) >>= (λ u. Ok s))
  alone-ok s rule = bind_ok (nothing-ok parts (shape-of parts)) (λ u is. this_ok (subst (λ z. Says (name ∷ z) s) (sym is) rule))

  labelled-ok : (f : List ℕ → Statement) → ((label : List ℕ) → is_label label ≡ true → Says (name ∷ label ∷ []) (f label)) → OkIs (Says (name ∷ parts)) (label_operand (operands_of parts) >>= (λ l. Ok (f l)))
  labelled-ok f rule = bind_ok (label-ok parts (shape-of parts)) (λ l is. this_ok (subst (λ z. Says (name ∷ z) (f l)) (sym is.0) (rule l is.1)))

instruction-ok : (byte : ℕ) (row : Entry) (parts : List (List ℕ)) → entry byte ≡ Some row → (form : Form) → row.form ≡ form → OkIs (Says (row.name ∷ parts)) (instruction byte form (operands_of parts))
instruction-ok byte row parts e (Plain k) is = alone-ok row.name parts (says.Fixed (byte ∷ [])) (alone e (ap has_name_alone is))
instruction-ok byte row parts e Switch is = alone-ok row.name parts (says.Fixed (byte ∷ [])) (alone e (ap has_name_alone is))
instruction-ok byte row parts e Byte is = bytes-ok row.name parts (byte ∷ []) 1 (pos 0) (pos 255) (λ part n x. number e (ap range_of is) x)
instruction-ok byte row parts e BytePlus is = bytes-ok row.name parts (byte ∷ []) 1 (pos 256) (pos 511) (λ part n x. number e (ap range_of is) x)
instruction-ok byte row parts e Half is = bytes-ok row.name parts (byte ∷ []) 2 (pos 0) (pos 65535) (λ part n x. number e (ap range_of is) x)
instruction-ok byte row parts e Word is = bytes-ok row.name parts (byte ∷ []) 4 (negsuc 2147483647) (pos 4294967295) (λ part n x. number e (ap range_of is) x)
instruction-ok byte row parts e Relative is = labelled-ok row.name parts (says.Relative byte) (λ label lawful. relative e is lawful)
instruction-ok byte row parts e Indirect is = labelled-ok row.name parts (says.Indirect byte) (λ label lawful. indirect e is lawful)

-- one number alone is from itself to itself
only-two : (n : ℤ) → is_from_to (pos 2) (pos 2) n ≡ true → n ≡ pos 2
only-two (pos m) e = let is : m ≡ 2 = grind (arith, nat_tests) in ap pos is
only-two (negsuc m) e = cc

only-four : (n : ℤ) → is_from_to (pos 4) (pos 4) n ≡ true → n ≡ pos 4
only-four (pos m) e = let is : m ≡ 4 = grind (arith, nat_tests) in ap pos is
only-four (negsuc m) e = cc

module _ (parts : List (List ℕ)) where
  aligned : (part : List ℕ) (n : ℤ) → parts ≡ part ∷ [] → number_of part ≡ Some n → OkIs (Says (codes "ALIGN" ∷ parts)) (align n)
  aligned part n all e = on (is_from_to (pos 2) (pos 2) n) (is_from_to (pos 4) (pos 4) n) refl refl
    where
      on : (b d : Bool) → is_from_to (pos 2) (pos 2) n ≡ b → is_from_to (pos 4) (pos 4) n ≡ d
          → OkIs (Says (codes "ALIGN" ∷ parts)) (cond b (Ok (says.Align boundary.Half)) (cond d (Ok (says.Align boundary.Word)) (Err OutOfRange)))
      on true d f h = this_ok (subst (λ z. Says (codes "ALIGN" ∷ z) (says.Align boundary.Half)) (sym all) (align_half (e ∙ ap (λ m. Some m) (only-two n f))))
      on false true f h = this_ok (subst (λ z. Says (codes "ALIGN" ∷ z) (says.Align boundary.Word)) (sym all) (align_word (e ∙ ap (λ m. Some m) (only-four n h))))
      on false false f h = no_ok

  directed-ok : (d : Directive) → OkIs (Says (directive_name d ∷ parts)) (directed d (operands_of parts))
  directed-ok directive.Byte = bytes-ok (codes "DB") parts [] 1 (negsuc 127) (pos 255) (λ part n x. bytes directive.Byte refl x)
  directed-ok directive.Half = bytes-ok (codes "DH") parts [] 2 (negsuc 32767) (pos 65535) (λ part n x. bytes directive.Half refl x)
  directed-ok directive.Word = bytes-ok (codes "DW") parts [] 4 (negsuc 2147483647) (pos 4294967295) (λ part n x. bytes directive.Word refl x)
  directed-ok directive.Reserve = labelled-ok (codes "RES") parts (λ l. says.Reserve l) (λ label lawful. reserve lawful)
  directed-ok directive.Address = labelled-ok (codes "DA") parts (λ l. says.Address l) (λ label lawful. address lawful)
  directed-ok directive.Align = bind_ok (number-ok parts (shape-of parts)) (λ n is. aligned is.part n is.all is.number)
  directed-ok directive.Global =
      bind_ok (both-ok parts (shape-of parts))
      (λ b is.
      if_ok OutOfRange (is_from_to (pos 1) (pos 1000) b.0)
      (λ inside.
      this_ok
      (subst (λ z. Says (codes "GLOBAL" ∷ z) (says.Global (word_of b.0) b.1)) (sym is.all) (global_pair (record { number = is.number; inside = inside }) is.lawful))))

-- a directive is found by its name
found-directive : (name : List ℕ) (d : Directive) → directive_named name ≡ Some d → name ≡ directive_name d
found-directive name d e =
    on (bytes_eq name (codes "DB")) (bytes_eq name (codes "DH")) (bytes_eq name (codes "DW")) (bytes_eq name (codes "RES")) (bytes_eq name (codes "DA")) (bytes_eq name (codes "ALIGN"))
    (bytes_eq name (codes "GLOBAL")) refl refl refl refl refl refl refl e
  where
    same : (text : List ℕ) → bytes_eq name text ≡ true → name ≡ text
    same text t = (bytes_eq-Decides name text).0 t

    this : (x : Directive) → name ≡ directive_name x → ◌≡◌ {A = Option Directive} (Some x) (Some d) → name ≡ directive_name d
    this x is f = let same_one : x ≡ d = cc in is ∙ ap directive_name same_one

    on : (a b c e f g h : Bool) → bytes_eq name (codes "DB") ≡ a → bytes_eq name (codes "DH") ≡ b → bytes_eq name (codes "DW") ≡ c → bytes_eq name (codes "RES") ≡ e
        → bytes_eq name (codes "DA") ≡ f → bytes_eq name (codes "ALIGN") ≡ g → bytes_eq name (codes "GLOBAL") ≡ h
        → cond a (Some directive.Byte) (cond b (Some directive.Half) (cond c (Some directive.Word) (cond e (Some directive.Reserve) (cond f (Some directive.Address)
        (cond g (Some directive.Align) (cond h (Some directive.Global) None)))))) ≡ Some d → name ≡ directive_name d
    on true b c e f g h p q r s t u v is = this directive.Byte (same (codes "DB") p) is
    on false true c e f g h p q r s t u v is = this directive.Half (same (codes "DH") q) is
    on false false true e f g h p q r s t u v is = this directive.Word (same (codes "DW") r) is
    on false false false true f g h p q r s t u v is = this directive.Reserve (same (codes "RES") s) is
    on false false false false true g h p q r s t u v is = this directive.Address (same (codes "DA") t) is
    on false false false false false true h p q r s t u v is = this directive.Align (same (codes "ALIGN") u) is
    on false false false false false false true p q r s t u v is = this directive.Global (same (codes "GLOBAL") v) is
    on false false false false false false false p q r s t u v is = cc

module _ (name : List ℕ) (parts : List (List ℕ)) where
  -- an instruction is found by the name of its row
  row-ok : (byte : ℕ) (row : Option Entry) → byte_named name ≡ Some byte → entry byte ≡ row → (rest : LineError)
      → OkIs (Says (name ∷ parts)) (option_map_or (λ (i : ℕ × Form). instruction i.0 i.1 (operands_of parts)) (option_map (λ e. (byte, e.form)) row) (Err rest))
  row-ok byte (Some row) named e rest =
      let at : name_at byte ≡ Some name = byte_named_has name byte named in
      let told : Some row.name ≡ Some name = sym (ap (option_map (λ (r : Entry). r.name)) e) ∙ at in
      let is : row.name ≡ name = cc in
      subst (λ z. OkIs (Says (z ∷ parts)) (instruction byte row.form (operands_of parts))) is (instruction-ok byte row parts e row.form refl)
  row-ok byte None named e rest = no_ok

  named-ok : (byte : Option ℕ) → byte_named name ≡ byte → (rest : LineError)
      → OkIs (Says (name ∷ parts)) (option_map_or (λ (i : ℕ × Form). instruction i.0 i.1 (operands_of parts)) (instruction_named name) (Err rest))
  named-ok (Some byte) named rest = rw named (row-ok byte (entry byte) named refl rest)
  named-ok None named rest = rw named no_ok

  name-ok : (d : Option Directive) → directive_named name ≡ d → (by_row : Result Statement LineError) → OkIs (Says (name ∷ parts)) by_row
      → OkIs (Says (name ∷ parts)) (option_map_or (λ x. directed x (operands_of parts)) d by_row)
  name-ok (Some d) e by_row h = subst (λ z. OkIs (Says (z ∷ parts)) (directed d (operands_of parts))) (sym (found-directive name d e)) (directed-ok parts d)
  name-ok None e by_row h = h

statement-ok : (parts : List (List ℕ)) → OkIs (Says parts) (statement_of parts)
statement-ok [] = this_ok nothing
statement-ok (name ∷ parts) = on (has_name_form name)
  where
    on : (b : Bool) → OkIs (Says (name ∷ parts)) (cond (not b) (Err NoForm) (option_map_or (λ d. directed d (operands_of parts)) (directive_named name)
        (option_map_or (λ (i : ℕ × Form). instruction i.0 i.1 (operands_of parts)) (instruction_named name) (Err (unknown_name (operands_of parts))))))
    on true =
        name-ok name parts (directive_named name) refl
        (option_map_or (λ (i : ℕ × Form). instruction i.0 i.1 (operands_of parts)) (instruction_named name) (Err (unknown_name (operands_of parts))))
        (named-ok name parts (byte_named name) refl (unknown_name (operands_of parts)))
    on false = no_ok

-- ---- the label, which a colon follows

colon-only : (ys : List ℕ) → bytes_eq (codes ":") ys ≡ true → ys ≡ codes ":"
colon-only ys e = sym ((bytes_eq-Decides (codes ":") ys).0 e)

colon-behind : (part : List ℕ) → ends_with nat_eq part (codes ":") ≡ true → take (length part - 1) part ++ codes ":" ≡ part
colon-behind part e = ap (λ z. take (length part - 1) part ++ z) (sym (colon-only (drop (length part - 1) part) e)) ∙ take-append-drop (length part - 1) part

pub colon-read : (name : List ℕ) → before_colon (name ++ codes ":") ≡ Some name
colon-read name =
    let size : length (name ++ codes ":") - 1 ≡ length name = omega (arith, length-append name (codes ":")) in
    rw (size, drop_at name (codes ":") (length name) refl, take_at name (codes ":") (length name) refl) refl

name-label : (name : List ℕ) (b : Bool) → is_label name ≡ b → OkIs (λ l. (name ≡ l) × (is_label l ≡ true)) (ok_or (cond b (Some name) None) NoForm)
name-label name true e = this_ok (refl, e)
name-label name false e = no_ok

-- ---- the line that is read follows the rules

module _ (text code : List ℕ) (comment : IsCommented text code) where
  label-line : (p : List ℕ) (ps : List (List ℕ)) → AreParts code (p ∷ ps) → ends_with nat_eq p (codes ":") ≡ true → OkIs (IsLine text) (labelled (take (length p - 1) p) ps)
  label-line p ps parts e =
      bind_ok (name-label (take (length p - 1) p) (is_label (take (length p - 1) p)) refl)
      (λ label is.
      bind_ok (statement-ok ps)
      (λ s said. this_ok (with_label comment (subst (λ z. AreParts code (z ∷ ps)) (sym (colon-behind p e) ∙ ap (λ z. z ++ codes ":") is.0) parts) is.1 said)))

  line-ok : (ps : List (List ℕ)) → AreParts code ps → OkIs (IsLine text) (line_of_parts ps)
  line-ok [] parts = bind_ok (statement-ok []) (λ s said. this_ok (plain comment parts tt said))
  line-ok (p ∷ ps) parts = on (ends_with nat_eq p (codes ":")) refl
    where
      on : (b : Bool) → ends_with nat_eq p (codes ":") ≡ b → OkIs (IsLine text) (option_map_or (λ name. labelled name ps) (cond b (Some (take (length p - 1) p)) None) (unlabelled (p ∷ ps)))
      on true e = label-line p ps parts e
      on false e = bind_ok (statement-ok (p ∷ ps)) (λ s said. this_ok (plain comment parts e said))

pub line-said : (text : List ℕ) (line : Line) → line_of text ≡ Ok line → IsLine text line
unfolding line_of
line-said text line e = (line-ok text (without_comment text) (commented text) (parts_of (without_comment text)) (are-parts (without_comment text))).each line e

-- ---- what follows the rules is read

with-number-is : (front : List ℕ) (count : ℕ) (low high n : ℤ) → is_from_to low high n ≡ true → with_number front count low high (Number n) ≡ Ok (says.Fixed (front ++ low_bytes count (word_of n)))
with-number-is front count low high n inside = ap (λ b. cond b (Ok n) (Err OutOfRange) >>= (λ m. Ok (says.Fixed (front ++ low_bytes count (word_of m))))) inside

ranged : (front : List ℕ) (r range : Range) (n : ℤ) → ◌≡◌ {A = Option Range} (Some r) (Some range) → is_from_to range.low range.high n ≡ true
    → with_number front r.size r.low r.high (Number n) ≡ Ok (says.Fixed (front ++ low_bytes range.size (word_of n)))
ranged front r range n e inside =
    let is : r ≡ range = cc in
    subst (λ z. with_number front r.size r.low r.high (Number n) ≡ Ok (says.Fixed (front ++ low_bytes z.size (word_of n)))) is
    (with-number-is front r.size r.low r.high n (subst (λ z. is_from_to z.low z.high n ≡ true) (sym is) inside))

module _ (byte : ℕ) where
  alone-is : (form : Form) → has_name_alone form ≡ true → instruction byte form Nothing ≡ Ok (says.Fixed (byte ∷ []))
  alone-is (Plain k) e = refl
  alone-is Switch e = refl
  alone-is Byte e = cc
  alone-is BytePlus e = cc
  alone-is Half e = cc
  alone-is Word e = cc
  alone-is Relative e = cc
  alone-is Indirect e = cc

  number-is : (form : Form) (range : Range) (n : ℤ) → range_of form ≡ Some range → is_from_to range.low range.high n ≡ true
      → instruction byte form (Number n) ≡ Ok (says.Fixed (byte ∷ low_bytes range.size (word_of n)))
  number-is (Plain k) range n e inside = cc
  number-is Switch range n e inside = cc
  number-is Byte range n e inside = ranged (byte ∷ []) (record { low = pos 0; high = pos 255; size = 1 }) range n e inside
  number-is BytePlus range n e inside = ranged (byte ∷ []) (record { low = pos 256; high = pos 511; size = 1 }) range n e inside
  number-is Half range n e inside = ranged (byte ∷ []) (record { low = pos 0; high = pos 65535; size = 2 }) range n e inside
  number-is Word range n e inside = ranged (byte ∷ []) (record { low = negsuc 2147483647; high = pos 4294967295; size = 4 }) range n e inside
  number-is Relative range n e inside = cc
  number-is Indirect range n e inside = cc

data-is : (d : Directive) (range : Range) (n : ℤ) → data_range d ≡ Some range → is_from_to range.low range.high n ≡ true
    → statement_named (directive_name d) (Number n) ≡ Ok (says.Fixed (low_bytes range.size (word_of n)))
data-is directive.Byte range n e inside = ranged [] (record { low = negsuc 127; high = pos 255; size = 1 }) range n e inside
data-is directive.Half range n e inside = ranged [] (record { low = negsuc 32767; high = pos 65535; size = 2 }) range n e inside
data-is directive.Word range n e inside = ranged [] (record { low = negsuc 2147483647; high = pos 4294967295; size = 4 }) range n e inside
data-is directive.Reserve range n e inside = cc
data-is directive.Address range n e inside = cc
data-is directive.Align range n e inside = cc
data-is directive.Global range n e inside = cc

-- a part that is a number, and one that is a label, and so no number
number-part : (part : List ℕ) (n : ℤ) → number_of part ≡ Some n → operands_of (part ∷ []) ≡ Number n
number-part part n e = ap (λ o. option_map_or Number o (option_map_or Label (label_of part) Other)) e

label-no_number : (label : List ℕ) → is_label label ≡ true → number_of label ≡ None
label-no_number [] e = cc
label-no_number (c ∷ cs) e =
    let letter = (and_parts (is_ascii_alphabetic c) (nat_le (length cs) 15) (and_parts (is_ascii_alphabetic c && nat_le (length cs) 15) (list_all is_ascii_alphanumeric cs) e).0).0 in
    let no_minus : eqb 45 c ≡ false = grind (arith, nat_tests) in
    let no_digit : is_digit c 10 ≡ false = grind (arith, nat_tests) in
    rw (no_minus, no_digit) refl

label-read : (label : List ℕ) → is_label label ≡ true → label_of label ≡ Some label
label-read label e = ap (λ b. cond b (Some label) None) e

label-part : (label : List ℕ) → is_label label ≡ true → operands_of (label ∷ []) ≡ Label label
label-part label e =
    ap (λ o. option_map_or Number o (option_map_or Label (label_of label) Other)) (label-no_number label e) ∙ ap (λ o. option_map_or Label o Other) (label-read label e)

both-parts : (part label : List ℕ) (n : ℤ) → number_of part ≡ Some n → is_label label ≡ true → operands_of (part ∷ label ∷ []) ≡ NumberAndLabel n label
both-parts part label n e lawful =
    ap (λ o. option_map_or (λ m. option_map_or (NumberAndLabel m) (label_of label) Other) o Other) e ∙ ap (λ o. option_map_or (NumberAndLabel n) o Other) (label-read label lawful)

said-read : {parts : List (List ℕ)} {s : Statement} → Says parts s → statement_of parts ≡ Ok s
said-read nothing = refl
said-read (alone {byte} {row} e is) = statement_of_row byte row Nothing e ∙ alone-is byte row.form is
said-read (number {byte} {row} {range} {operand} {n} e range_is x) =
    ap (statement_named row.name) (number-part operand n x.number) ∙ (statement_of_row byte row (Number n) e ∙ number-is byte row.form range n range_is x.inside)
said-read (relative {byte} {row} {label} e is lawful) =
    ap (statement_named row.name) (label-part label lawful) ∙ (statement_of_row byte row (Label label) e ∙ ap (λ f. instruction byte f (Label label)) is)
said-read (indirect {byte} {row} {label} e is lawful) =
    ap (statement_named row.name) (label-part label lawful) ∙ (statement_of_row byte row (Label label) e ∙ ap (λ f. instruction byte f (Label label)) is)
said-read (bytes d {range} {operand} {n} range_is x) = ap (statement_named (directive_name d)) (number-part operand n x.number) ∙ data-is d range n range_is x.inside
said-read (reserve {label} lawful) = ap (statement_named (codes "RES")) (label-part label lawful)
said-read (address {label} lawful) = ap (statement_named (codes "DA")) (label-part label lawful)
said-read (align_half {operand} e) = ap (statement_named (codes "ALIGN")) (number-part operand (pos 2) e)
said-read (align_word {operand} e) = ap (statement_named (codes "ALIGN")) (number-part operand (pos 4) e)
said-read (global_pair {operand} {label} {n} x lawful) =
    ap (statement_named (codes "GLOBAL")) (both-parts operand label n x.number lawful) ∙ ap (λ b. cond b (Ok (says.Global (word_of n) label)) (Err OutOfRange)) x.inside

plain-parts : (parts : List (List ℕ)) → BeginsPlain parts → line_of_parts parts ≡ unlabelled parts
plain-parts [] begins = refl
plain-parts (p ∷ ps) begins = ap (λ b. option_map_or (λ name. labelled name ps) (cond b (Some (take (length p - 1) p)) None) (unlabelled (p ∷ ps))) begins

parts-read : (text code : List ℕ) (parts : List (List ℕ)) → IsCommented text code → AreParts code parts → line_of text ≡ line_of_parts parts
unfolding line_of
parts-read text code parts comment are = ap line_of_parts (ap parts_of (commented-is text code comment) ∙ parts-are are)

abbrev line_with : Option (List ℕ) → Statement → Line
line_with label s = record { label = label; statement = s }

abbrev with_statement : Option (List ℕ) → Result Statement LineError → Result Line LineError
with_statement label r = r >>= (λ s. Ok (line_with label s))

abbrev with_name : List (List ℕ) → Option (List ℕ) → Result Line LineError
with_name parts name = ok_or name NoForm >>= (λ label. with_statement (Some label) (statement_of parts))

pub said-line : (text : List ℕ) (line : Line) → IsLine text line → line_of text ≡ Ok line
said-line text line is = on is
  where
    on : {l : Line} → IsLine text l → line_of text ≡ Ok l
    on (with_label {code} {name} {parts} {statement} comment are lawful said) =
        parts-read text code ((name ++ codes ":") ∷ parts) comment are
        ∙ (ap (λ o. option_map_or (λ label. labelled label parts) o (unlabelled ((name ++ codes ":") ∷ parts))) (colon-read name)
        ∙ (ap (with_name parts) (label-read name lawful)
        ∙ ap (with_statement (Some name)) (said-read said)))
    on (plain {code} {parts} {statement} comment are begins said) =
        parts-read text code parts comment are
        ∙ (plain-parts parts begins ∙ ap (with_statement None) (said-read said))

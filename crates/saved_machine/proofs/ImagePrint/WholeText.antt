-- The text of a machine, in the parts that it is printed in.
use Rattle.std.proofs.Common.{◌≡◌, ◌∙◌, ℕ, true, false, List, [], ◌∷◌, ◌++◌, length, map, get_or, sym, ap, append_assoc}
use Rattle.std.specs.List.{flat_map}
use Rattle.module_text.specs.TextReader.Lines.{text_of_lines}
use Rattle.session_text.proofs.PrintedTexts.{text_of_lines-append}
use Rattle.kernel_model.specs.KernelRecord.Image.{image}
use Rattle.kernel_model.specs.KernelRecord.Kernel.{Kernel}
use Rattle.kernel_model.specs.KernelRecord.Lists.{Lists}
use Rattle.kernel_model.specs.KernelRecord.Recovered.{lists_in}
use Rattle.kernel_model.specs.KernelRecord.ValidKernel.{IsValid}
use Rattle.kernel_machine.specs.RunningMachine.Script.{still_to_come}
use Rattle.kernel_machine.specs.RunningMachine.RepresentedKernels.{RepresentsKernel}
use Rattle.kernel_machine.specs.declared.running_machine.parts.Parts.{Parts as KernelParts}
use Rattle.tripos_machine.specs.State.{IsBare, State, regs_of, steps_of, words_of}
use Rattle.tripos_machine.specs.State.State.{Bare, Full}
use Rattle.kernel_model.proofs.KernelRecord.ImageWords.{image-list, valid-image}
use Rattle.kernel_model.proofs.KernelRecord.RecoveredLists.{lists-back}
use Rattle.saved_text.specs.SavedLines.Canonical.{statement_text}
use Rattle.saved_text.specs.SavedLines.Statements.{Go}
use Rattle.saved_text.specs.Canonical.{canonical, kernel_text}
use Rattle.saved_text.specs.ImageForm.{file_statements, key_statement, pipe_statement, statements_of, stream_statement, word_statements}
use Rattle.saved_text.specs.declared.images.Image.{Image}
use Rattle.saved_machine.specs.ImagePrint.SavedImage.{numbered_pipes, numbered_streams, saved_file, saved_image, saved_kernel}
use Rattle.saved_machine.specs.ImagePrint.Private.Texts.{disc_text, end_text, entries_text, front_text, head_lines, resident_lines, statements_text}
use Rattle.saved_machine.proofs.ImagePrint.StatementTexts.{statements_text-append}

-- the head, and what follows it
canonical-parts : (x : Image) → canonical x
    ≡ text_of_lines (head_lines x.version (length x.store) x.bare x.period x.step x.regs)
    ++ (text_of_lines (kernel_text x.bare x) ++ statements_text (statements_of x ++ Go x.go ∷ []))
unfolding canonical
canonical-parts x =
    let head = head_lines x.version (length x.store) x.bare x.period x.step x.regs in
    let kernel = kernel_text x.bare x in
    let others = map statement_text (statements_of x ++ Go x.go ∷ []) in
    text_of_lines-append head (kernel ++ others) ∙ ap (λ t. text_of_lines head ++ t) (text_of_lines-append kernel others)

-- a machine without a kernel
pub bare-text : (version : ℕ) (s : State) (go : ℕ) → IsBare s
    → text_of_lines (head_lines version (length (words_of s)) true 0 (steps_of s) (regs_of s)) ++ end_text go (words_of s) ≡ canonical (saved_image version s go)
bare-text version (Full k) go bare = absurd bare
bare-text version (Bare m) go bare =
    sym (canonical-parts (saved_image version (Bare m) go) ∙ ap (λ t. text_of_lines (head_lines version (length m.words) true 0 m.steps m.regs) ++ t) (statements_text-append (word_statements 0 m.words) (Go go ∷ [])))

-- files, streams, pipes and keys, and what follows them
entry-parts : (k : Kernel) (go : ℕ) → statements_text (statements_of (saved_kernel k go) ++ Go go ∷ []) ≡ entries_text k ++ end_text go (image k)
entry-parts k go =
    let fs = flat_map file_statements (map saved_file k.disc.files) in
    let ss = map stream_statement (numbered_streams k.disc.streams) in
    let ps = map pipe_statement (numbered_pipes k.pipes) in
    let ks = map key_statement k.keys in
    let ws = word_statements 0 (image k) in
    let last = Go go ∷ [] in
    let T = statements_text in
    statements_text-append (fs ++ (ss ++ (ps ++ (ks ++ ws)))) last
    ∙ ap (λ t. t ++ T last)
    (statements_text-append fs (ss ++ (ps ++ (ks ++ ws)))
    ∙ ap (λ t. T fs ++ t) (statements_text-append ss (ps ++ (ks ++ ws))
    ∙ ap (λ t. T ss ++ t) (statements_text-append ps (ks ++ ws)
    ∙ ap (λ t. T ps ++ t) (statements_text-append ks ws))))
    ∙ regrouped (T fs) (T ss) (T ps) (T ks) (T ws) (T last)
  where
    regrouped : (f s p k w g : List ℕ) → (f ++ (s ++ (p ++ (k ++ w)))) ++ g ≡ ((f ++ s) ++ (p ++ k)) ++ (w ++ g)
    regrouped f s p k w g = simp append_assoc

-- a machine with a kernel
pub kernel-text : (k : Kernel) (go : ℕ) → IsValid k → front_text k ++ (entries_text k ++ end_text go (image k)) ≡ canonical (saved_kernel k go)
kernel-text k go valid =
    let size : length (image k) ≡ k.lists.size = (valid-image k valid).size in
    let head = λ (n : ℕ). text_of_lines (head_lines k.lists.version n false k.lists.period k.steps k.regs) in
    let residents = text_of_lines (resident_lines k.type_ahead k.console k.shell) in
    sym (canonical-parts (saved_kernel k go) ∙ ap (λ n. head n ++ (residents ++ statements_text (statements_of (saved_kernel k go) ++ Go go ∷ []))) size
    ∙ ap (λ t. head k.lists.size ++ (residents ++ t)) (entry-parts k go) ∙ sym (append_assoc (head k.lists.size) residents (entries_text k ++ end_text go (image k))))

-- ---- the parts of a machine

-- the word of the version
pub version-read : (p : KernelParts) (k : Kernel) → RepresentsKernel p k → get_or p.store 111 0 ≡ k.lists.version
unfolding lists_in
version-read p k represents =
    let h = represents.keeper.lists in
    ap (λ (l : Lists). l.version) (lists-back p.store k.lists h.valid h.size h.holds)

module _ (p : KernelParts) (k : Kernel) (represents : RepresentsKernel p k) where
  -- the text of the parts is that of the kernel: up to the files,
  pub front-same : text_of_lines (head_lines (get_or p.store 111 0) (length p.store) false p.period p.step p.regs) ++ text_of_lines (resident_lines p.tty p.console p.shell) ≡ front_text k
  front-same =
      ap (λ (n : ℕ). text_of_lines (head_lines n (length p.store) false p.period p.step p.regs) ++ text_of_lines (resident_lines p.tty p.console p.shell)) (version-read p k represents)
      ∙ ap (λ (n : ℕ). text_of_lines (head_lines k.lists.version n false p.period p.step p.regs) ++ text_of_lines (resident_lines p.tty p.console p.shell)) represents.image.size
      ∙ (λ i. text_of_lines (head_lines k.lists.version k.lists.size false (represents.period i) (represents.steps i) (represents.regs i)) ++ text_of_lines (resident_lines (represents.type_ahead i) (represents.console i) (represents.shell i)))

  -- from the files to the keys,
  pub entries-same : disc_text p.disc ++ (statements_text (map pipe_statement (numbered_pipes p.pipes)) ++ statements_text (map key_statement (still_to_come p.keys))) ≡ entries_text k
  entries-same = λ i. disc_text (represents.disc i) ++ (statements_text (map pipe_statement (numbered_pipes (represents.pipes i))) ++ statements_text (map key_statement (represents.keys i)))

  -- and the whole
  pub whole-same : (go : ℕ) → IsValid k → front_text k ++ (entries_text k ++ end_text go p.store) ≡ canonical (saved_kernel k go)
  whole-same go valid = ap (λ (words : List ℕ). front_text k ++ (entries_text k ++ end_text go words)) (image-list p.store k represents.image) ∙ kernel-text k go valid

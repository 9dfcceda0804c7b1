use Rattle.std.proofs.Common.{◌≡◌, ◌∙◌, List, [], ◌∷◌, ◌++◌, Ok, ap, sym}
use Rattle.module_text.specs.TextReader.Refusal.{Refusal}
use Rattle.module_text.proofs.TextReader.StepLemmas.{Ok-same}
use Rattle.saved_text.specs.SavedLines.HexText.{bytes_of}
use Rattle.saved_text.specs.Files.{with_bytes, with_more}
use Rattle.saved_text.specs.declared.images.SavedFile.{SavedFile}
use Rattle.saved_text.proofs.FileLists.{with_bytes-push}
use Rattle.saved_text.proofs.lists.Files.add_bytes.Goals as goal

pub returns-in_ok-push : goal.returns-in_ok-push
returns-in_ok-push c =
    let bytes = bytes_of c.args.digits.now in
    let whole : c.args.self.now ≡ c.pop.new.self.items ++ c.in-Some.last ∷ [] = sym c.self.view_is ∙ c.in-Some.ensures.items in
    let made : with_more c.in-Some.last bytes ≡ c.in_ok-with_more.field-0 = Ok-same {E = Refusal} _ _ c.in_ok-with_more.ensures in
    let same : with_bytes c.args.self.now bytes ≡ c.push.new.self.items
    = ap (λ (ls : List SavedFile). with_bytes ls bytes) whole ∙ with_bytes-push c.pop.new.self.items c.in-Some.last bytes ∙ ap (λ (l : SavedFile). c.pop.new.self.items ++ l ∷ []) made ∙ sym {A = List SavedFile} c.in_ok-push.ensures.items in
    ap (λ (ls : List SavedFile). Ok ls) same

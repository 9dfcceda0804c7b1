use Rattle.std.proofs.Common.{◌≡◌, ◌∙◌, List, [], ◌∷◌, ◌++◌, Ok, ap, sym}
use Rattle.module_text.specs.TextReader.Refusal.{Refusal}
use Rattle.module_text.proofs.TextReader.StepLemmas.{Ok-same}
use Rattle.session_text.specs.FileText.{line_with_text, with_text}
use Rattle.session_text.specs.declared.sessions.SessionLine.{SessionLine}
use Rattle.session_text.proofs.FileTexts.{with_text-push}
use Rattle.session_text.proofs.lists.Lines.add_text.Goals as goal

pub returns-in_ok-push : goal.returns-in_ok-push
returns-in_ok-push c =
    let text = c.args.text.now in
    let whole : c.args.self.now ≡ c.pop.new.self.items ++ c.in-Some.last ∷ [] = sym c.self.view_is ∙ c.in-Some.ensures.items in
    let made : line_with_text c.in-Some.last text ≡ c.in_ok-line_with_text.field-0 = Ok-same {E = Refusal} _ _ c.in_ok-line_with_text.ensures in
    let same : with_text c.args.self.now text ≡ c.push.new.self.items
    = ap (λ (ls : List SessionLine). with_text ls text) whole ∙ with_text-push c.pop.new.self.items c.in-Some.last text ∙ ap (λ (l : SessionLine). c.pop.new.self.items ++ l ∷ []) made ∙ sym {A = List SessionLine} c.in_ok-push.ensures.items in
    ap (λ (ls : List SessionLine). Ok ls) same

-- Why a bundle has no answer.
use Rattle.std.proofs.Common.{◌≡◌, ◌∙◌, ℕ, List, Some, Result, Ok, Err, IfOk, true, false, sym}
use Rattle.std.proofs.lemmas.Bool.{false≢true}
use Rattle.tool_texts.specs.Told.{Told, told_of}
use Rattle.tool_texts.specs.declared.results.ToolText.{ToolText}
use Rattle.module_code.specs.ReadBack.{HasCause, IsUnread, IsWrong, ReadsBack, asked_in}
use Rattle.module_code.specs.declared.requests.NoAnswer.{NoAnswer}
use Rattle.module_code.specs.declared.requests.NoAnswer.TheVariants.{NoRequest, NoModule, WantMemory}

-- the text of its module is not read
pub has_cause : (bundle text : List ℕ) (end : NoAnswer) → asked_in bundle ≡ Some text → IsUnread text end → HasCause bundle end
has_cause bundle text NoRequest is unread = absurd unread
has_cause bundle text (NoModule i line code) is unread = (text, is, unread)
has_cause bundle text WantMemory is unread = unread

-- what is told then
reads_wrong : (bundle : List ℕ) (t : Told) → t.is_wrong ≡ true → IsWrong bundle → ReadsBack bundle t
reads_wrong bundle t wrong cause = record {
  assembly = λ right. absurd (false≢true (sym right ∙ wrong));
  cause = λ _. cause;
}

-- the same of a call
pub reads_wrong_all : {E : Type 0} (bundle : List ℕ) (r : Result ToolText E) → IfOk r (λ t. t.is_wrong ≡ true) → IfOk r (λ _. IsWrong bundle)
    → IfOk r (λ t. ReadsBack bundle (told_of t))
reads_wrong_all bundle (Ok t) wrong cause = reads_wrong bundle (told_of t) wrong cause
reads_wrong_all bundle (Err e) wrong cause = cause

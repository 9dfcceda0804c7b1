-- Which line of a text is the first in error, and why.
use Rattle.std.specs.Prelude.{ℕ, ◌≡◌, ◌+◌, List, [], ◌∷◌, ◌++◌, length}
use Rattle.module_text.specs.TextReader.Lines.{lines_of}
use Rattle.session_text.specs.Forms.{Form, HasForm}
use Rattle.session_text.specs.SessionForm.{IsSession}
use Rattle.session_text.specs.declared.sessions.Session.{Session}

-- some session has a text that begins with these lines
abbrev pub BeginSession : List (List ℕ) → Type 0
BeginSession front = (text : List ℕ) × (s : Session) × (rest : List (List ℕ)) × IsSession text s × (lines_of text ≡ front ++ rest)

-- the form may come after these lines: with some line of it they begin a session's text
abbrev pub MayFollow : List (List ℕ) → Form → Type 0
MayFollow front form = (line : List ℕ) × HasForm form line × BeginSession (front ++ line ∷ [])

-- no form that may be there has these bytes
abbrev pub HasNoForm : List (List ℕ) → List ℕ → Type 0
HasNoForm front line = (form : Form) → MayFollow front form → ¬ HasForm form line

-- a form that may be there has these bytes, so all that is wrong is a number or a name
abbrev pub IsOutOfRange : List (List ℕ) → List ℕ → Type 0
IsOutOfRange front line = (form : Form) × MayFollow front form × HasForm form line

-- the lines before line n begin a session's text, with line n they do not, and Why holds of them and it
pub record IsFirstError (text : List ℕ) (n : ℕ) (Why : List (List ℕ) → List ℕ → Type 0) : Type 0 where
  -- the lines before it
  pub front : List (List ℕ)
  -- the line
  pub line : List ℕ
  -- the lines after it
  pub rest : List (List ℕ)
  -- these are all lines
  pub all : lines_of text ≡ front ++ line ∷ rest
  -- its number, from 1
  pub number : n ≡ length front + 1
  -- some session begins with the lines before it
  pub before : BeginSession front
  -- none begins with these and it
  pub up_to : ¬ BeginSession (front ++ line ∷ [])
  -- why it is refused
  pub why : Why front line

-- all lines begin a session's text, and are none; line n would be the next
pub record EndsEarly (text : List ℕ) (n : ℕ) : Type 0 where
  -- the number of the line that would follow
  pub next : n ≡ length (lines_of text) + 1
  -- some session begins with all lines
  pub before : BeginSession (lines_of text)
  -- they are no session
  pub short : (s : Session) → ¬ IsSession text s

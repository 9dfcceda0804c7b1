-- Which line of a text is the first in error.
use Rattle.std.specs.Prelude.{ℕ, ◌≡◌, ◌+◌, List, [], ◌∷◌, ◌++◌, length}
use Rattle.module_text.specs.TextReader.Lines.{lines_of}
use Rattle.saved_text.specs.ImageForm.{IsImage}
use Rattle.saved_text.specs.declared.images.Image.{Image}

-- some saved machine has a text that begins with these lines
abbrev pub BeginImage : List (List ℕ) → Type 0
BeginImage front = (text : List ℕ) × (x : Image) × (rest : List (List ℕ)) × IsImage text x × (lines_of text ≡ front ++ rest)

-- the lines before line n begin a saved machine's text, and with line n they do not
pub record IsFirstError (text : List ℕ) (n : ℕ) : Type 0 where
  -- the lines before it
  pub front : List (List ℕ)
  -- the line
  pub line : List ℕ
  -- the lines after it
  pub rest : List (List ℕ)
  -- these are all lines
  pub all : lines_of text ≡ front ++ line ∷ rest
  -- its number, from 1
  pub number : n ≡ length front + 1
  -- some saved machine begins with the lines before it
  pub before : BeginImage front
  -- none begins with these and it
  pub up_to : ¬ BeginImage (front ++ line ∷ [])

-- all lines begin a saved machine's text, and are none; line n would be the next
pub record EndsEarly (text : List ℕ) (n : ℕ) : Type 0 where
  -- the number of the line that would follow
  pub next : n ≡ length (lines_of text) + 1
  -- some saved machine begins with all lines
  pub before : BeginImage (lines_of text)
  -- they are none
  pub short : (x : Image) → ¬ IsImage text x

-- What is given where nothing is wrong.
use Rattle.std.specs.Prelude.{ℕ, ◌≡◌, List, ◌++◌, Ok}
use Rattle.session_text.specs.SessionOfText.{session_of}
use Rattle.session_text.specs.declared.sessions.Session.{Session}
use Rattle.session_making.specs.Sessions.{session_text}
use Rattle.session_making.specs.declared.makings.Typed.{Typed}

-- these bytes are notes, and after them the text of a record with what is typed, which is read as a session
pub record Writes (bytes : List ℕ) : Type 0 where
  -- the notes
  pub notes : List ℕ
  -- the record
  pub session : Session
  -- what is typed
  pub typed : List Typed
  -- the bytes are these
  pub all : bytes ≡ notes ++ session_text session typed
  -- what is read of the text
  pub read : Session
  -- the text is read
  pub is_read : session_of (session_text session typed) ≡ Ok read

-- The session that a number makes.
use Rattle.std.specs.Prelude.{ℕ, zero, suc, ◌+◌, ◌*◌, List, [], ◌∷◌, ◌++◌, codes, decimal, length}
use Rattle.tripos_run.specs.SessionGenerator.Draws.{Drawing, and_then, choosing, draw, in_turn, plain}

-- a character that is drawn: its code is 33 or more, and below 123
unfoldable pub character : Drawing (List ℕ)
character = choosing (draw 90) (λ r. plain ((33 + r) ∷ []))

-- a line of a file: a colon and 60 characters
unfoldable pub line : Drawing (List ℕ)
line = and_then (plain (codes ":")) (and_then (in_turn 60 (λ _. character)) (plain (codes "\n")))

-- the file of the number j: its name, and from 1 to 50 lines
unfoldable pub file : ℕ → Drawing (List ℕ)
file j =
    and_then (plain (codes "FILE F" ++ decimal j ++ codes "\n"))
    (choosing (draw 50) (λ r. in_turn (1 + r) (λ _. line)))

-- a command on one of the 40 files
unfoldable pub on_a_file : List ℕ → Drawing (List ℕ)
on_a_file verb = choosing (draw 40) (λ j. plain (verb ++ decimal j))

-- the command of a choice; a file is drawn only where the command names one
abbrev pub command_of : ℕ → Drawing (List ℕ)
command_of zero = on_a_file (codes "TYPE F")
command_of (suc zero) = plain (codes "EX")
command_of (suc (suc zero)) = on_a_file (codes "DELETE F")
command_of (suc (suc (suc _))) = plain (codes "STATUS")

-- the line that types a command at the step 1000 k
unfoldable pub typing : ℕ → Drawing (List ℕ)
typing k =
    and_then (plain (codes "AT " ++ decimal (1000 * k) ++ codes " :"))
    (and_then (choosing (draw 4) command_of) (plain (codes "\n")))

-- the lines before the files
abbrev pub front : List ℕ
front = codes "TRIPOS 1\nSTORE 65536\nTICK 100\nRESIDENT\n"

-- a session: 40 files, and 500 commands that are typed
unfoldable pub session : Drawing (List ℕ)
session =
    and_then (plain front)
    (and_then (in_turn 40 file)
    (and_then (in_turn 500 (λ i. typing (i + 1))) (plain (codes "GO 600000\n"))))

-- the text of the session that the number n makes
unfoldable pub generated : ℕ → List ℕ
generated n = (session n).value

-- the most bytes of a session, each of its parts as long as it can be: the lines before the files; 40 files, each with the line of its name
-- and 50 lines of a colon, 60 characters and a line feed; 500 lines that type a command; and the last line
abbrev pub longest : ℕ
longest =
    length front + 40 * (length (codes "FILE F39\n") + 50 * (1 + 60 + 1)) + 500 * length (codes "AT 500000 :DELETE F39\n")
    + length (codes "GO 600000\n")

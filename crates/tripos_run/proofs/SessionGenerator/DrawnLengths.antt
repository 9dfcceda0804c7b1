-- How long the texts are that are drawn.
use Rattle.std.proofs.Common.{ℕ, zero, suc, ◌+◌, ◌*◌, ◌/◌, ◌%◌, ◌^◌, ◌<◌, ◌≤◌, List, length, codes, decimal, length-append, arith}
use Rattle.std.proofs.lemmas.Fmt.{length-decimal-le}
use Rattle.tripos_run.specs.SessionGenerator.Draws.{Drawing, and_then, choosing, draw, in_turn, next, plain}
use Rattle.tripos_run.specs.SessionGenerator.Generated.{character, command_of, file, front, generated, line, longest, on_a_file, session, typing}

-- no text that is drawn is longer than m
record IsShort (m : ℕ) (text : Drawing (List ℕ)) : Type 0 where
  most : (x : ℕ) → length (text x).value ≤ m

shorter : (m n : ℕ) (text : Drawing (List ℕ)) → m ≤ n → IsShort m text → IsShort n text
shorter m n text le short = record { most = λ x. omega (arith, short.most x) }

plain-short : (text : List ℕ) → IsShort (length text) (plain text)
plain-short text = record { most = λ x. omega arith }

decimal-short : (k n : ℕ) → 0 < k → n < 10 ^ k → n < 2 ^ 64 → IsShort k (plain (decimal n))
decimal-short k n some low fits = record { most = λ x. length-decimal-le k n some low fits }

-- two texts, one after the other
both-short : (m n : ℕ) (first last : Drawing (List ℕ)) → IsShort m first → IsShort n last → IsShort (m + n) (and_then first last)
both-short m n first last f l = record { most = λ x. rw length-append (omega (arith, f.most x, l.most (first x).state)) }

-- texts in turn
in_turn-short : (m : ℕ) (text : ℕ → Drawing (List ℕ)) (n : ℕ) → ((i : ℕ) → i < n → IsShort m (text i)) → IsShort (n * m) (in_turn n text)
unfolding in_turn
in_turn-short m text zero short = record { most = λ x. omega arith }
in_turn-short m text (suc n) short =
    let before = in_turn-short m text n (λ i low. short i (omega (arith, low))) in
    let last = short n (omega arith) in
    record { most = λ x. rw length-append (omega (arith, before.most x, last.most (in_turn n text x).state)) }

-- a text that a number chooses
chosen-short : (m bound : ℕ) (choice : ℕ → Drawing (List ℕ)) → 0 < bound → ((r : ℕ) → r < bound → IsShort m (choice r)) → IsShort m (choosing (draw bound) choice)
chosen-short m bound choice some short = record { most = λ x. (short (next x / 65536 % bound) (omega arith)).most (next x) }

character-short : IsShort 1 character
unfolding character
character-short = record { most = λ x. omega arith }

line-short : IsShort 62 line
unfolding line
line-short =
    let end = plain (codes "\n") in
    let characters = in_turn 60 (λ _. character) in
    both-short 1 61 (plain (codes ":")) (and_then characters end) (plain-short (codes ":"))
    (both-short 60 1 characters end (in_turn-short 1 (λ _. character) 60 (λ i low. character-short)) (plain-short (codes "\n")))

lines-short : (r : ℕ) → r < 50 → IsShort 3100 (in_turn (1 + r) (λ _. line))
lines-short r low = shorter ((1 + r) * 62) 3100 (in_turn (1 + r) (λ _. line)) (omega (arith, low)) (in_turn-short 62 (λ _. line) (1 + r) (λ i below. line-short))

file-short : (j : ℕ) → j < 40 → IsShort 3109 (file j)
unfolding file
file-short j low =
    let front = plain (codes "FILE F") in
    let name = plain (decimal j) in
    let end = plain (codes "\n") in
    let lines = λ (r : ℕ). in_turn (1 + r) (λ _. line) in
    let few = decimal-short 2 j (omega arith) (omega (arith, low)) (omega (arith, low)) in
    both-short 9 3100 (and_then (and_then front name) end) (choosing (draw 50) lines)
    (both-short 8 1 (and_then front name) end (both-short 6 2 front name (plain-short (codes "FILE F")) few) (plain-short (codes "\n")))
    (chosen-short 3100 50 lines (omega arith) lines-short)

on_a_file-short : (verb : List ℕ) → IsShort (length verb + 2) (on_a_file verb)
unfolding on_a_file
on_a_file-short verb =
    chosen-short (length verb + 2) 40 (λ (j : ℕ). and_then (plain verb) (plain (decimal j))) (omega arith)
    (λ j low. both-short (length verb) 2 (plain verb) (plain (decimal j)) (plain-short verb) (decimal-short 2 j (omega arith) (omega (arith, low)) (omega (arith, low))))

command_of-short : (r : ℕ) → IsShort 10 (command_of r)
command_of-short zero = shorter 8 10 (on_a_file (codes "TYPE F")) (omega arith) (on_a_file-short (codes "TYPE F"))
command_of-short (suc zero) = shorter 2 10 (plain (codes "EX")) (omega arith) (plain-short (codes "EX"))
command_of-short (suc (suc zero)) = on_a_file-short (codes "DELETE F")
command_of-short (suc (suc (suc _))) = shorter 6 10 (plain (codes "STATUS")) (omega arith) (plain-short (codes "STATUS"))

typing-short : (k : ℕ) → k ≤ 500 → IsShort 22 (typing k)
unfolding typing
typing-short k low =
    let at = plain (codes "AT ") in
    let step = plain (decimal (1000 * k)) in
    let colon = plain (codes " :") in
    let command = choosing (draw 4) command_of in
    let end = plain (codes "\n") in
    let few = decimal-short 6 (1000 * k) (omega arith) (omega (arith, low)) (omega (arith, low)) in
    both-short 11 11 (and_then (and_then at step) colon) (and_then command end)
    (both-short 9 2 (and_then at step) colon (both-short 3 6 at step (plain-short (codes "AT ")) few) (plain-short (codes " :")))
    (both-short 10 1 command end (chosen-short 10 4 command_of (omega arith) (λ r below. command_of-short r)) (plain-short (codes "\n")))

session-short : IsShort 135409 session
unfolding session
session-short =
    let files = in_turn 40 file in
    let commands = in_turn 500 (λ i. typing (i + 1)) in
    let end = plain (codes "GO 600000\n") in
    both-short 39 135370 (plain front) (and_then files (and_then commands end)) (plain-short front)
    (both-short 124360 11010 files (and_then commands end) (in_turn-short 3109 file 40 file-short)
    (both-short 11000 10 commands end (in_turn-short 22 (λ i. typing (i + 1)) 500 (λ i low. typing-short (i + 1) (omega (arith, low)))) (plain-short (codes "GO 600000\n"))))

pub length-generated : (n : ℕ) → length (generated n) ≤ longest
unfolding generated
length-generated n = session-short.most n

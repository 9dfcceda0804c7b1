-- What residents keep, as a saved machine has it.
use Rattle.std.proofs.Common.{◌≡◌, ℕ, ◌-◌, ◌<◌, List, [], ◌∷◌, length, get_or, replicate, cond, eqb, not, ◌||◌, inl, inr, Bool, true, false, Option, Some, None, refl, sym, ap, ◌∙◌, subst, arith, suc, zero}
use Rattle.std.specs.Bool.{beq}
use Rattle.std.specs.List.{find, list_any}
use Rattle.std.specs.Option.{is_none, is_some, option_map}
use Rattle.std.proofs.lemmas.Bool.{cases_lt, eqb-false, eqb-true, false≢true}
use Rattle.std.proofs.lemmas.List.{get_or-replicate, nil_from_length}
use Rattle.std.proofs.lemmas.Option.{none-some}
use Rattle.ram_disc.specs.Disc.{Stream, most_streams, shell_stream, stream_at}
use Rattle.kernel_model.specs.KernelRecord.Between.{AreShut, IsValidShell, is_typing}
use Rattle.kernel_model.specs.KernelRecord.Lists.{Lists}
use Rattle.kernel_model.specs.KernelRecord.Pipes.{most_pipes, no_pipes}
use Rattle.saved_text.specs.ImageForm.{ArePipes as AreSavedPipes, AreStreams}
use Rattle.saved_text.specs.declared.images.Image.{Image}
use Rattle.saved_text.specs.declared.images.SavedFile.{SavedFile}
use Rattle.saved_text.specs.declared.images.SavedPipe.{SavedPipe}
use Rattle.saved_text.specs.declared.images.SavedStream.{SavedStream}
use Rattle.saved_machine.specs.MachineImage.Parts.{disc_with, mode_of, pipe_of, placed_pipes, placed_streams, shell_of, stream_of}
use Rattle.saved_machine.proofs.MachineImage.PlacedPipes.{number as pipe_number}
use Rattle.saved_machine.proofs.MachineImage.PlacedThings.{placed-at, placed-none, placed-there}
use Rattle.saved_machine.proofs.MachineImage.RestoredPipes.{pipes-rise}
use Rattle.saved_machine.proofs.MachineImage.SetStreams.{number, streams-rise}
use Rattle.kernel_machine.proofs.MachineBoot.LoadedDiscs.{none-shut as shut-none}

-- ---- the shell's stream

any-found : (f : SavedStream → Bool) (ss : List SavedStream) → list_any f ss ≡ is_some (option_map stream_of (find f ss))
any-found f [] = refl
any-found f (s ∷ ss) = on (f s) (any-found f ss)
  where
    on : (b : Bool) → list_any f ss ≡ is_some (option_map stream_of (find f ss)) → (b || list_any f ss) ≡ is_some (option_map stream_of (cond b (Some s) (find f ss)))
    on true more = refl
    on false more = more

-- the shell's stream is open where a stream has its number
pub shell-open : (files : List SavedFile) (ss : List SavedStream) → list_any (λ (s : SavedStream). eqb s.k 17) ss ≡ is_some (stream_at (disc_with files ss) shell_stream)
shell-open files ss = any-found (λ (s : SavedStream). eqb s.k 17) ss ∙ ap is_some (sym (placed-at number stream_of most_streams ss 16 (omega arith)))

bools-same : (t u : Bool) → not (beq t u) ≡ false → t ≡ u
bools-same true true e = refl
bools-same true false e = absurd (false≢true (sym e))
bools-same false true e = absurd (false≢true (sym e))
bools-same false false e = refl

bools-differ : (t u : Bool) → not (beq t u) ≡ true → t ≡ u → ⊥
bools-differ true true e same = false≢true e
bools-differ true false e same = false≢true (sym same)
bools-differ false true e same = false≢true same
bools-differ false false e same = false≢true e

module _ (x : Image) (lent : List SavedStream) (is : lent ≡ x.streams) (t u : Bool) (types : t ≡ list_any (λ (s : SavedStream). eqb s.k 17) lent) (typing : u ≡ is_typing (mode_of x.mode)) where
  open-is : is_some (stream_at (disc_with x.files x.streams) shell_stream) ≡ t
  open-is = sym (shell-open x.files x.streams) ∙ ap (list_any (λ (s : SavedStream). eqb s.k 17)) (sym is) ∙ sym types

  -- the shell's stream is open exactly while it types
  pub shell-types : not (beq t u) ≡ false → is_some (stream_at (disc_with x.files x.streams) shell_stream) ≡ is_typing (mode_of x.mode)
  shell-types same = open-is ∙ bools-same t u same ∙ typing

  pub shell-mistaken : (l : Lists) → not (beq t u) ≡ true → IsValidShell l (shell_of x) (disc_with x.files x.streams) → ⊥
  shell-mistaken l other valid-shell = bools-differ t u other (sym open-is ∙ valid-shell.typing ∙ sym typing)

-- ---- no stream, and no pipe

-- a list is empty where its length is told to be 0
pub is-empty : {X : Type 0} (lent xs : List X) (b : Bool) → b ≡ eqb (length lent) 0 → lent ≡ xs → b ≡ true → xs ≡ []
is-empty lent xs b told is t = nil_from_length xs (sym (ap length is) ∙ eqb-true (length lent) 0 (sym told ∙ t))

pub is-some : {X : Type 0} (lent xs : List X) (b : Bool) → b ≡ eqb (length lent) 0 → lent ≡ xs → b ≡ false → 0 < length xs
is-some lent xs b told is f =
    elim (cases_lt 0 (length xs)) [
      | inl some ↦ some
      | inr none ↦ absurd (eqb-false (length lent) 0 (sym told ∙ f) (omega (arith, none, ap length is)))
    ]

-- what is shut has no open stream
shut-open : (ss : List (Option Stream)) (i : ℕ) (s : Stream) → AreShut ss → get_or ss i None ≡ Some s → ⊥
shut-open [] i s shut e = absurd (none-some s e)
shut-open (o ∷ os) zero s shut e = (let open_one : is_none o ≡ false = ap is_none e in absurd (false≢true (sym open_one ∙ shut.0)))
shut-open (o ∷ os) (suc i) s shut e = shut-open os i s shut.1 e

-- no stream is open exactly where none is named
pub none-shut : AreShut (placed_streams [])
none-shut = subst AreShut (sym (placed-none number stream_of most_streams)) (shut-none most_streams)

pub some-open : (ss : List SavedStream) → 0 < length ss → AreStreams 0 ss → AreShut (placed_streams ss) → ⊥
some-open [] some are shut = absurd (omega (arith, some))
some-open (s ∷ ss) some are shut =
    let rise = streams-rise 0 (s ∷ ss) are in
    shut-open (placed_streams (s ∷ ss)) (s.k - 1) (stream_of s) shut (placed-there number stream_of most_streams [] ss s tt rise.1 rise.2)

-- there is no pipe exactly where none is named
pub none-piped : placed_pipes [] ≡ no_pipes
none-piped = placed-none pipe_number pipe_of most_pipes

pub some-piped : (ps : List SavedPipe) → 0 < length ps → AreSavedPipes 0 ps → placed_pipes ps ≡ no_pipes → ⊥
some-piped [] some are none = absurd (omega (arith, some))
some-piped (p ∷ ps) some are none =
    let rise = pipes-rise 0 (p ∷ ps) are in
    let there : get_or (placed_pipes (p ∷ ps)) (p.k - 1) None ≡ Some (pipe_of p) = placed-there pipe_number pipe_of most_pipes [] ps p tt rise.1 rise.2 in
    let free : get_or (placed_pipes (p ∷ ps)) (p.k - 1) None ≡ None = ap (λ qs. get_or qs (p.k - 1) None) none ∙ get_or-replicate most_pipes (p.k - 1) None None (omega (arith, rise.1, rise.2)) in
    none-some (pipe_of p) (sym free ∙ there)

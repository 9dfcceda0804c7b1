-- A file is typed: what follows a piece.
use Rattle.std.proofs.Common.{◌≡◌, ℕ, Bool, true, false, Result, Ok, Err, List, ◌++◌, cond, sym, ap, ◌∙◌}
use Rattle.ram_disc.specs.Disc.{Disc}
use Rattle.kernel_calls.specs.CallAnswers.Outside.{Outside, outside}
use Rattle.kernel_model.specs.KernelRecord.Kernel.{Shell}
use Rattle.shell.specs.DoneParts.{IsReady, ShellStart}
use Rattle.shell.specs.Prompts.{prompted, refused}
use Rattle.shell.specs.TurnParts.{ShellTurn, with_disc}
use Rattle.shell.specs.TypedFiles.{after_piece, after_typing, goes_on, is_typed, next_piece, typed, typed_if, with_piece, with_stream_closed}
use Rattle.shell.proofs.DoneParts.{ready-disc, ready-shown}

-- a piece was written
pub ready-piece : {b : ShellStart} {t : List ℕ} {tells : List ℕ → Type 0} {room : ℕ} {now : Outside} {sh : Shell} {d : Disc} {x : ShellTurn}
    → IsReady b t tells room now sh d x → (after : Disc) (seen : List ℕ) → after ≡ after_piece d → seen ≡ now.shown ++ next_piece d → IsReady b t tells room (outside seen now.noted now.failed) sh after (with_piece x)
ready-piece {now = now} {x = x} r after seen is shows =
    ready-disc (ready-shown r (next_piece x.disc) seen (shows ∙ ap (λ d. now.shown ++ next_piece d) r.done.disc)) after (after_piece x.disc) (is ∙ ap after_piece r.done.disc)

-- the stream was closed
pub ready-closed : {b : ShellStart} {t : List ℕ} {tells : List ℕ → Type 0} {room : ℕ} {now : Outside} {sh : Shell} {d : Disc} {x : ShellTurn}
    → IsReady b t tells room now sh d x → (after : Disc) → after ≡ with_stream_closed d → IsReady b t tells room now sh after (with_disc (with_stream_closed x.disc) x)
ready-closed {x = x} r after is = ready-disc r after (with_stream_closed x.disc) (is ∙ ap with_stream_closed r.done.disc)

pub typing-ends : (x : ShellTurn) (b : Bool) → b ≡ is_typed x.disc → b ≡ true → prompted (with_disc (with_stream_closed x.disc) x) ≡ after_typing x
typing-ends x b is e = ap (λ f. cond f (prompted (with_disc (with_stream_closed x.disc) x)) (goes_on x)) (sym (sym is ∙ e))

pub typing-goes : (x : ShellTurn) (b : Bool) → b ≡ is_typed x.disc → b ≡ false → goes_on x ≡ after_typing x
typing-goes x b is e = ap (λ f. cond f (prompted (with_disc (with_stream_closed x.disc) x)) (goes_on x)) (sym (sym is ∙ e))

-- the file was opened, or not
pub opened-typed : (o : Result ℕ ℕ) (stream : ℕ) (x : ShellTurn) → Ok stream ≡ o → typed x ≡ typed_if o x
opened-typed o stream x e = ap (λ r. typed_if r x) e

pub opened-refused : (o : Result ℕ ℕ) (code : ℕ) (x : ShellTurn) → Err code ≡ o → refused code x ≡ typed_if o x
opened-refused o code x e = ap (λ r. typed_if r x) e

-- What was written to a pipe is what was read from it, and then what it holds.
use Rattle.std.proofs.Common.{◌≡◌, ◌≢◌, ℕ, ◌-◌, ◌<◌, ◌≤◌, Bool, true, false, cond, not, eqb, leb, ltb, ◌⊎◌, Option, Some, None, List, [], ◌∷◌, ◌++◌, length, set, take, drop, refl, sym, ap, ◌∙◌, arith, inl, inr, append-nil, append_assoc}
use Rattle.std.specs.Option.{is_some, unwrap_or}
use Rattle.std.proofs.lemmas.Bool.{cases_eq, eq-eqb, ne_eqb}
use Rattle.std.proofs.lemmas.List.{get_or-set_other, get_or-set_same, length-take, take-append-drop, take_min}
use Rattle.kernel_model.specs.KernelRecord.Kernel.{Pipe}
use Rattle.kernel_model.specs.KernelRecord.Pipes.{ArePipes, most_held, pipe_at}
use Rattle.resident_tasks.specs.PipeHandler.Ends.{is_end, is_open, names_writer, opened, pipe_of, place_for, place_of, without_end}
use Rattle.resident_tasks.specs.PipeHandler.Histories.{History, IsHistoryOf, PipeRequest, after, history_after, history_of, pipes_after, read_from, with_more, written_to}
use Rattle.resident_tasks.specs.PipeHandler.Histories.PipeRequest.{Close, Open, Read, Write}
use Rattle.resident_tasks.specs.PipeHandler.PipeCalls.{Outcome, accepted, fitting, has_more, held_by, holding, pipe_in_place, with_end}
use Rattle.resident_tasks.proofs.PipeHandler.AfterRequests.{HasRoom, by-tests, closed-held, end-place, opened-held, room-after, some-is}
use Rattle.resident_tasks.proofs.PipeHandler.KeptPipes.{place-for, there-inside}

-- ---- one request

-- the bytes that a pipe held and those that came are those that went and those that it holds
abbrev pub Flows : List (Option Pipe) → ℕ → PipeRequest → Outcome → Type 0
Flows ps i r o = (q : Pipe) → pipe_at o.pipes i ≡ Some q → held_by (pipe_at ps i) ++ written_to i r o ≡ read_from i r o ++ q.held

-- a pipe after one place was set
set-cases : (ps : List (Option Pipe)) (j : ℕ) (o : Option Pipe) (i : ℕ) (q : Pipe) → j < length ps → pipe_at (set ps j o) i ≡ Some q → ((i ≡ j) × (o ≡ Some q)) ⊎ ((i ≢ j) × (pipe_at ps i ≡ Some q))
set-cases ps j o i q inside e =
    elim (cases_eq i j) [
      | inl is ↦ inl (is, sym (get_or-set_same ps j o None inside) ∙ (ap (pipe_at (set ps j o)) (sym is) ∙ e))
      | inr ne ↦ inr (ne, sym (get_or-set_other ps j i o None ne) ∙ e)
    ]

-- where nothing comes and nothing goes, the same is held
stays : (held now : List ℕ) → now ≡ held → held ++ [] ≡ now
stays held now e = append-nil held ∙ sym e

abbrev no-bytes : List ℕ
no-bytes = []

none-either : (b : Bool) → cond b no-bytes no-bytes ≡ no-bytes
none-either true = refl
none-either false = refl

holding-is : (bytes : List ℕ) (p q : Pipe) (o : Option Pipe) → o ≡ Some p → holding bytes o ≡ Some q → q.held ≡ bytes
holding-is bytes p q o e f = (let is : record p { held = bytes } ≡ q = cc (sym (ap (holding bytes) e) ∙ f) in sym (ap (λ (z : Pipe). z.held) is))

left-held : (w : Bool) (p q : Pipe) (o : Option Pipe) → o ≡ Some p → without_end w o ≡ Some q → q.held ≡ held_by o
left-held w p q o e f = closed-held w p q (sym (ap (without_end w) e) ∙ f) ∙ sym (ap held_by e)

taken-again : (n : ℕ) (bytes : List ℕ) → take (length (take n bytes)) bytes ≡ take n bytes
taken-again n bytes = ap (λ m. take m bytes) (length-take n bytes) ∙ take_min n bytes

module _ (ps : List (Option Pipe)) (i : ℕ) where
  pub flow : (r : PipeRequest) → Flows ps i r (after ps r)
  flow (Open name end) =
      by-tests (Flows ps i (Open name end)) ps
      ((leb end 1, 71) ∷ (not (is_open (eqb end 1) (pipe_in_place ps (place_for ps name))), 47) ∷ (is_some (place_for ps name), 72) ∷ [])
      (with_end ps name (eqb end 1) (unwrap_or (place_for ps name) 0))
      (λ all q e.
      let j = unwrap_or (place_for ps name) 0 in
      let at = place-for ps name j (some-is (place_for ps name) all.1.1.0) in
      let new = opened name (eqb end 1) (pipe_at ps j) in
      elim (set-cases ps j (Some new) i q at.0 e) [
        | inl here ↦
            let is : new ≡ q = cc here.1 in
            stays (held_by (pipe_at ps i)) q.held (sym (ap (λ (z : Pipe). z.held) is) ∙ (opened-held name (eqb end 1) (pipe_at ps j) ∙ ap (λ k. held_by (pipe_at ps k)) (sym here.0)))
        | inr there ↦ stays (held_by (pipe_at ps i)) q.held (sym (ap held_by there.1))
      ])
      (λ code q e. stays (held_by (pipe_at ps i)) q.held (sym (ap held_by e)))
  flow (Close h) =
      by-tests (Flows ps i (Close h)) ps ((is_end ps h (names_writer h), 46) ∷ []) (accepted 0 [] (set ps (place_of h) (without_end (names_writer h) (pipe_of ps h))))
      (λ all q e.
      let at = end-place ps h (names_writer h) all.0 in
      elim (set-cases ps (place_of h) (without_end (names_writer h) (pipe_of ps h)) i q (there-inside ps (place_of h) at.pipe at.there) e) [
        | inl here ↦
            stays (held_by (pipe_at ps i)) q.held
            (left-held (names_writer h) at.pipe q (pipe_of ps h) (at.is ∙ at.there) here.1 ∙ (ap held_by at.is ∙ ap (λ k. held_by (pipe_at ps k)) (sym here.0)))
        | inr there ↦ stays (held_by (pipe_at ps i)) q.held (sym (ap held_by there.1))
      ])
      (λ code q e. stays (held_by (pipe_at ps i)) q.held (sym (ap held_by e)))
  flow (Read h buffer n) =
      let held = held_by (pipe_of ps h) in
      by-tests (Flows ps i (Read h buffer n)) ps ((is_end ps h false, 46) ∷ (buffer, 48) ∷ (has_more (pipe_of ps h), 70) ∷ [])
      (accepted (length (take n held)) (take n held) (set ps (place_of h) (holding (drop n held) (pipe_of ps h))))
      (λ all q e.
      let at = end-place ps h false all.0 in
      elim (set-cases ps (place_of h) (holding (drop n held) (pipe_of ps h)) i q (there-inside ps (place_of h) at.pipe at.there) e) [
        | inl here ↦
            append-nil (held_by (pipe_at ps i))
            ∙ (ap (λ k. held_by (pipe_at ps k)) here.0
            ∙ (sym (ap held_by at.is)
            ∙ (sym (take-append-drop n held)
            ∙ (ap (λ t. take n held ++ t) (sym (holding-is (drop n held) at.pipe q (pipe_of ps h) (at.is ∙ at.there) here.1))
            ∙ ap (λ b. cond b (take n held) [] ++ q.held) (sym (eq-eqb (place_of h) i (sym here.0)))))))
        | inr there ↦
            stays (held_by (pipe_at ps i)) q.held (sym (ap held_by there.1)) ∙ ap (λ b. cond b (take n held) [] ++ q.held) (sym (ne_eqb (place_of h) i (λ f. there.0 (sym f))))
      ])
      (λ code q e. stays (held_by (pipe_at ps i)) q.held (sym (ap held_by e)) ∙ ap (λ t. t ++ q.held) (sym (none-either (eqb (place_of h) i))))
  flow (Write h buffer bytes) =
      let held = held_by (pipe_of ps h) in
      let new = fitting (pipe_of ps h) bytes in
      by-tests (Flows ps i (Write h buffer bytes)) ps ((is_end ps h true, 46) ∷ (buffer, 48) ∷ (ltb (length held) most_held, 73) ∷ [])
      (accepted (length new) [] (set ps (place_of h) (holding (held ++ new) (pipe_of ps h))))
      (λ all q e.
      let at = end-place ps h true all.0 in
      elim (set-cases ps (place_of h) (holding (held ++ new) (pipe_of ps h)) i q (there-inside ps (place_of h) at.pipe at.there) e) [
        | inl here ↦
            ap (λ b. held_by (pipe_at ps i) ++ cond b (take (length new) bytes) []) (eq-eqb (place_of h) i (sym here.0))
            ∙ (ap (λ t. held_by (pipe_at ps i) ++ t) (taken-again (most_held - length held) bytes)
            ∙ (ap (λ t. t ++ new) (ap (λ k. held_by (pipe_at ps k)) here.0 ∙ sym (ap held_by at.is))
            ∙ sym (holding-is (held ++ new) at.pipe q (pipe_of ps h) (at.is ∙ at.there) here.1)))
        | inr there ↦
            ap (λ b. held_by (pipe_at ps i) ++ cond b (take (length new) bytes) []) (ne_eqb (place_of h) i (λ f. there.0 (sym f)))
            ∙ stays (held_by (pipe_at ps i)) q.held (sym (ap held_by there.1))
      ])
      (λ code q e. ap (λ t. held_by (pipe_at ps i) ++ t) (none-either (eqb (place_of h) i)) ∙ stays (held_by (pipe_at ps i)) q.held (sym (ap held_by e)))

-- ---- all requests

-- the history of a pipe that is there accounts for what it holds
abbrev Accounts : Option Pipe → History → Type 0
Accounts o h = (history_of o h).written ≡ (history_of o h).read ++ held_by o

-- and does once a request was made
account-after : (ps : List (Option Pipe)) (i : ℕ) (r : PipeRequest) (h : History) → Accounts (pipe_at ps i) h
    → Accounts (pipe_at (after ps r).pipes i) (with_more (history_of (pipe_at ps i) h) (written_to i r (after ps r)) (read_from i r (after ps r)))
account-after ps i r h account = on (pipe_at (after ps r).pipes i) refl
  where
    on : (o : Option Pipe) → pipe_at (after ps r).pipes i ≡ o → Accounts o (with_more (history_of (pipe_at ps i) h) (written_to i r (after ps r)) (read_from i r (after ps r)))
    on None e = refl
    on (Some q) e =
        let before = history_of (pipe_at ps i) h in
        let came = written_to i r (after ps r) in
        let went = read_from i r (after ps r) in
        ap (λ t. t ++ came) account
        ∙ (append_assoc before.read (held_by (pipe_at ps i)) came
        ∙ (ap (λ t. before.read ++ t) (flow ps i r q e)
        ∙ sym (append_assoc before.read went q.held)))

accounts : (rs : List PipeRequest) (ps : List (Option Pipe)) (i : ℕ) (h : History) → Accounts (pipe_at ps i) h
    → (history_after i ps h rs).written ≡ (history_after i ps h rs).read ++ held_by (pipe_at (pipes_after ps rs) i)
accounts [] ps i h account = account
accounts (r ∷ rs) ps i h account =
    accounts rs (after ps r).pipes i (with_more (history_of (pipe_at ps i) h) (written_to i r (after ps r)) (read_from i r (after ps r))) (account-after ps i r h account)

rooms : (rs : List PipeRequest) (ps : List (Option Pipe)) → HasRoom ps → HasRoom (pipes_after ps rs)
rooms [] ps room = room
rooms (r ∷ rs) ps room = rooms rs (after ps r).pipes (room-after ps r room)

account-of : (o : Option Pipe) (h : History) → IsHistoryOf h o → Accounts o h
account-of None h is-history = refl
account-of (Some p) h is-history = is-history

history-of : (o : Option Pipe) (h : History) → h.written ≡ h.read ++ held_by o → IsHistoryOf h o
history-of None h account = tt
history-of (Some p) h account = account

pub pipe-bytes : (ps : List (Option Pipe)) (i : ℕ) (h : History) (rs : List PipeRequest) → IsHistoryOf h (pipe_at ps i)
    → IsHistoryOf (history_after i ps h rs) (pipe_at (pipes_after ps rs) i)
pipe-bytes ps i h rs is-history = history-of (pipe_at (pipes_after ps rs) i) (history_after i ps h rs) (accounts rs ps i h (account-of (pipe_at ps i) h is-history))

lawful-room : (ps : List (Option Pipe)) → ArePipes ps → HasRoom ps
lawful-room ps a i = on (pipe_at ps i) refl
  where
    on : (o : Option Pipe) → pipe_at ps i ≡ o → length (held_by o) ≤ most_held
    on None e = omega arith
    on (Some p) e = (a.each i p e).room

pub pipe-room : (ps : List (Option Pipe)) (i : ℕ) (rs : List PipeRequest) (p : Pipe) → ArePipes ps → pipe_at (pipes_after ps rs) i ≡ Some p → length p.held ≤ most_held
pipe-room ps i rs p a e = omega (arith, rooms rs ps (lawful-room ps a) i, ap (λ o. length (held_by o)) e)

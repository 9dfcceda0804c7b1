-- What holds of pipes holds after every request.
use Rattle.std.proofs.Common.{◌≡◌, ℕ, ◌-◌, ◌<◌, ◌≤◌, Bool, true, false, cond, not, eqb, leb, ltb, ◌||◌, Option, Some, None, List, [], ◌∷◌, ◌++◌, length, set, take, drop, refl, sym, ap, subst, ◌∙◌, arith, inl, inr, length-append}
use Rattle.std.specs.Option.{is_some, unwrap_or}
use Rattle.std.proofs.lemmas.Bool.{and_parts, cases_eq, true≢false}
use Rattle.std.proofs.lemmas.List.{get_or-set_other, get_or-set_same, length-drop, length-take}
use Rattle.kernel_model.specs.KernelRecord.Kernel.{Pipe}
use Rattle.kernel_model.specs.KernelRecord.Pipes.{ArePipes, most_held, pipe_at}
use Rattle.resident_tasks.specs.PipeHandler.Ends.{closed, is_end, is_open, kept, names_end, names_writer, opened, pipe_of, place_for, place_of, without_end}
use Rattle.resident_tasks.specs.PipeHandler.Histories.{IsLawful, PipeRequest, after}
use Rattle.resident_tasks.specs.PipeHandler.Histories.PipeRequest.{Close, Open, Read, Write}
use Rattle.resident_tasks.specs.PipeHandler.PipeCalls.{Outcome, accepted, fitting, has_more, held_by, holding, pipe_in_place, refused, unless_refused, with_end}
use Rattle.resident_tasks.proofs.PipeHandler.KeptPipes.{close-kept, hold-kept, open-kept, place-for, there-inside}

-- ---- tests

abbrev pub AllHold : List (Bool × ℕ) → Type 0
AllHold [] = Unit {0}
AllHold (test ∷ tests) = (test.0 ≡ true) × AllHold tests

-- what holds of the outcome where all tests hold, and of every refusal, holds of the request
pub by-tests : (P : Outcome → Type 0) (ps : List (Option Pipe)) (tests : List (Bool × ℕ)) (o : Outcome) → (AllHold tests → P o) → ((code : ℕ) → P (refused code ps)) → P (unless_refused ps tests o)
by-tests P ps [] o good bad = good tt
by-tests P ps (test ∷ tests) o good bad = on test.0 (λ e. by-tests P ps tests o (λ h. good (e, h)) bad)
  where
    on : (b : Bool) → (b ≡ true → P (unless_refused ps tests o)) → P (cond b (unless_refused ps tests o) (refused test.1 ps))
    on true rest = rest refl
    on false rest = bad test.1

-- an open end is that of a pipe that is there
pub record IsAtPlace (ps : List (Option Pipe)) (h : ℕ) : Type 0 where
  pub pipe : Pipe
  pub is : pipe_of ps h ≡ pipe_at ps (place_of h)
  pub there : pipe_at ps (place_of h) ≡ Some pipe

pub end-place : (ps : List (Option Pipe)) (h : ℕ) (w : Bool) → is_end ps h w ≡ true → IsAtPlace ps h
end-place ps h w e = on (eqb h 0) refl (and_parts (names_end h w) (is_open w (pipe_of ps h)) e).1
  where
    pipe-there : (o : Option Pipe) → pipe_at ps (place_of h) ≡ o → is_open w o ≡ true → pipe_of ps h ≡ pipe_at ps (place_of h) → IsAtPlace ps h
    pipe-there None f t is = absurd (true≢false (sym t))
    pipe-there (Some p) f t is = record { pipe = p; is = is; there = f }

    on : (b : Bool) → eqb h 0 ≡ b → is_open w (cond b None (pipe_at ps (place_of h))) ≡ true → IsAtPlace ps h
    on true f t = absurd (true≢false (sym t))
    on false f t = pipe-there (pipe_at ps (place_of h)) refl t (ap (λ b. cond b None (pipe_at ps (place_of h))) f)

pub some-is : (o : Option ℕ) → is_some o ≡ true → o ≡ Some (unwrap_or o 0)
some-is None e = absurd (true≢false (sym e))
some-is (Some i) e = refl

-- ---- room

abbrev pub HasRoom : List (Option Pipe) → Type 0
HasRoom ps = (i : ℕ) → length (held_by (pipe_at ps i)) ≤ most_held

room-set : (ps : List (Option Pipe)) (j : ℕ) (o : Option Pipe) → j < length ps → HasRoom ps → length (held_by o) ≤ most_held → HasRoom (set ps j o)
room-set ps j o inside room few = λ i.
    elim (cases_eq i j) [
      | inl is ↦ omega (arith, few, ap (λ z. length (held_by z)) (ap (pipe_at (set ps j o)) is ∙ get_or-set_same ps j o None inside))
      | inr ne ↦ omega (arith, room i, ap (λ z. length (held_by z)) (get_or-set_other ps j i o None ne))
    ]

-- what the pipe of an end that is opened holds
pub opened-held : (name : List ℕ) (w : Bool) (o : Option Pipe) → (opened name w o).held ≡ held_by o
opened-held name true None = refl
opened-held name false None = refl
opened-held name true (Some p) = refl
opened-held name false (Some p) = refl

-- what is held once an end is closed, where the pipe is there
pub closed-held : (w : Bool) (p q : Pipe) → kept (closed w p) ≡ Some q → q.held ≡ p.held
closed-held w p q e = on ((closed w p).reading || (closed w p).writing) e
  where
    same : (v : Bool) → (closed v p).held ≡ p.held
    same true = refl
    same false = refl

    on : (b : Bool) → cond b (Some (closed w p)) None ≡ Some q → q.held ≡ p.held
    on true f = (let is : closed w p ≡ q = cc in sym (ap (λ (z : Pipe). z.held) is) ∙ same w)
    on false f = cc

closed-few : (w : Bool) (o : Option Pipe) → length (held_by o) ≤ most_held → length (held_by (without_end w o)) ≤ most_held
closed-few w None few = few
closed-few w (Some p) few = on ((closed w p).reading || (closed w p).writing)
  where
    same : (v : Bool) → (closed v p).held ≡ p.held
    same true = refl
    same false = refl

    on : (b : Bool) → length (held_by (cond b (Some (closed w p)) None)) ≤ most_held
    on true = omega (arith, few, ap length (same w))
    on false = omega arith

holding-few : (o : Option Pipe) (bytes : List ℕ) → length bytes ≤ most_held → length (held_by (holding bytes o)) ≤ most_held
holding-few None bytes few = omega arith
holding-few (Some p) bytes few = few

-- how much is held where bytes come to those that are there
fits : (o : Option Pipe) (bytes : List ℕ) → length (held_by o) ≤ most_held → length (held_by o ++ fitting o bytes) ≤ most_held
fits o bytes few = omega (arith, length-append (held_by o) (fitting o bytes), length-take (most_held - length (held_by o)) bytes, few)

module _ (ps : List (Option Pipe)) where
  pub room-after : (r : PipeRequest) → HasRoom ps → HasRoom (after ps r).pipes
  room-after (Open name end) room =
      by-tests (λ o. HasRoom o.pipes) ps
      ((leb end 1, 71) ∷ (not (is_open (eqb end 1) (pipe_in_place ps (place_for ps name))), 47) ∷ (is_some (place_for ps name), 72) ∷ [])
      (with_end ps name (eqb end 1) (unwrap_or (place_for ps name) 0))
      (λ all.
      let i = unwrap_or (place_for ps name) 0 in
      let at = place-for ps name i (some-is (place_for ps name) all.1.1.0) in
      room-set ps i (Some (opened name (eqb end 1) (pipe_at ps i))) at.0 room (omega (arith, room i, ap length (opened-held name (eqb end 1) (pipe_at ps i)))))
      (λ code. room)
  room-after (Read h buffer n) room =
      let pipe = pipe_of ps h in
      by-tests (λ o. HasRoom o.pipes) ps ((is_end ps h false, 46) ∷ (buffer, 48) ∷ (has_more pipe, 70) ∷ [])
      (accepted (length (take n (held_by pipe))) (take n (held_by pipe)) (set ps (place_of h) (holding (drop n (held_by pipe)) pipe)))
      (λ all.
      let at = end-place ps h false all.0 in
      room-set ps (place_of h) (holding (drop n (held_by pipe)) pipe) (there-inside ps (place_of h) at.pipe at.there) room
      (holding-few pipe (drop n (held_by pipe)) (omega (arith, length-drop n (held_by pipe), room (place_of h), ap (λ o. length (held_by o)) at.is))))
      (λ code. room)
  room-after (Write h buffer bytes) room =
      let pipe = pipe_of ps h in
      by-tests (λ o. HasRoom o.pipes) ps ((is_end ps h true, 46) ∷ (buffer, 48) ∷ (ltb (length (held_by pipe)) most_held, 73) ∷ [])
      (accepted (length (fitting pipe bytes)) [] (set ps (place_of h) (holding (held_by pipe ++ fitting pipe bytes) pipe)))
      (λ all.
      let at = end-place ps h true all.0 in
      room-set ps (place_of h) (holding (held_by pipe ++ fitting pipe bytes) pipe) (there-inside ps (place_of h) at.pipe at.there) room
      (holding-few pipe (held_by pipe ++ fitting pipe bytes) (fits pipe bytes (omega (arith, room (place_of h), ap (λ o. length (held_by o)) at.is)))))
      (λ code. room)
  room-after (Close h) room =
      by-tests (λ o. HasRoom o.pipes) ps ((is_end ps h (names_writer h), 46) ∷ []) (accepted 0 [] (set ps (place_of h) (without_end (names_writer h) (pipe_of ps h))))
      (λ all.
      let at = end-place ps h (names_writer h) all.0 in
      room-set ps (place_of h) (without_end (names_writer h) (pipe_of ps h)) (there-inside ps (place_of h) at.pipe at.there) room
      (closed-few (names_writer h) (pipe_of ps h) (omega (arith, room (place_of h), ap (λ o. length (held_by o)) at.is))))
      (λ code. room)

-- ---- lawful pipes

lawful-room : (ps : List (Option Pipe)) → ArePipes ps → HasRoom ps
lawful-room ps a = λ i. on i (pipe_at ps i) refl
  where
    on : (i : ℕ) (o : Option Pipe) → pipe_at ps i ≡ o → length (held_by o) ≤ most_held
    on i None e = omega arith
    on i (Some p) e = (a.each i p e).room

module _ (ps : List (Option Pipe)) (a : ArePipes ps) where
  pub kept-after : (r : PipeRequest) → IsLawful r → ArePipes (after ps r).pipes
  kept-after (Open name end) lawful =
      by-tests (λ o. ArePipes o.pipes) ps
      ((leb end 1, 71) ∷ (not (is_open (eqb end 1) (pipe_in_place ps (place_for ps name))), 47) ∷ (is_some (place_for ps name), 72) ∷ [])
      (with_end ps name (eqb end 1) (unwrap_or (place_for ps name) 0))
      (λ all. open-kept ps (unwrap_or (place_for ps name) 0) name (eqb end 1) a lawful (some-is (place_for ps name) all.1.1.0))
      (λ code. a)
  kept-after (Read h buffer n) lawful =
      let pipe = pipe_of ps h in
      by-tests (λ o. ArePipes o.pipes) ps ((is_end ps h false, 46) ∷ (buffer, 48) ∷ (has_more pipe, 70) ∷ [])
      (accepted (length (take n (held_by pipe))) (take n (held_by pipe)) (set ps (place_of h) (holding (drop n (held_by pipe)) pipe)))
      (λ all.
      let at = end-place ps h false all.0 in
      subst (λ o. ArePipes (set ps (place_of h) (holding (drop n (held_by o)) o))) (sym at.is)
      (hold-kept ps (place_of h) (drop n (held_by (pipe_at ps (place_of h)))) a (there-inside ps (place_of h) at.pipe at.there)
      (omega (arith, length-drop n (held_by (pipe_at ps (place_of h))), lawful-room ps a (place_of h)))))
      (λ code. a)
  kept-after (Write h buffer bytes) lawful =
      let pipe = pipe_of ps h in
      by-tests (λ o. ArePipes o.pipes) ps ((is_end ps h true, 46) ∷ (buffer, 48) ∷ (ltb (length (held_by pipe)) most_held, 73) ∷ [])
      (accepted (length (fitting pipe bytes)) [] (set ps (place_of h) (holding (held_by pipe ++ fitting pipe bytes) pipe)))
      (λ all.
      let at = end-place ps h true all.0 in
      subst (λ o. ArePipes (set ps (place_of h) (holding (held_by o ++ fitting o bytes) o))) (sym at.is)
      (hold-kept ps (place_of h) (held_by (pipe_at ps (place_of h)) ++ fitting (pipe_at ps (place_of h)) bytes) a (there-inside ps (place_of h) at.pipe at.there)
      (fits (pipe_at ps (place_of h)) bytes (lawful-room ps a (place_of h)))))
      (λ code. a)
  kept-after (Close h) lawful =
      by-tests (λ o. ArePipes o.pipes) ps ((is_end ps h (names_writer h), 46) ∷ []) (accepted 0 [] (set ps (place_of h) (without_end (names_writer h) (pipe_of ps h))))
      (λ all.
      let at = end-place ps h (names_writer h) all.0 in
      subst (λ o. ArePipes (set ps (place_of h) (without_end (names_writer h) o))) (sym at.is)
      (close-kept ps (place_of h) (names_writer h) a (there-inside ps (place_of h) at.pipe at.there)))
      (λ code. a)

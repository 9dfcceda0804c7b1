-- A file more on a disc on which no stream is open.
use Rattle.std.proofs.Common.{◌≡◌, ℕ, List, [], ◌∷◌, length, cond, ltb, not, ◌||◌, Bool, true, false, Option, Some, None, Result, Ok, Err, replicate, refl, sym, ap, ◌∙◌, subst}
use Rattle.std.specs.List.{find, list_any}
use Rattle.std.specs.Option.{is_some, option_map}
use Rattle.ram_disc.specs.Disc.{Disc, File, has_file, has_name, most_files}
use Rattle.ram_disc.specs.DiscCalls.{Outcome, after_close, after_open_write, has_room, size_of, unless_refused, with_bytes}
use Rattle.kernel_calls.specs.CallAnswers.Refusals.{first_refusal}
use Rattle.kernel_boot.specs.BootFiles.{HasNoStreams, IsNewDisc, disc_or_code, with_new_file, writing}

-- a file that is looked up is there, or not
any-found : (name : List ℕ) (fs : List File) → is_some (option_map (λ (f : File). length f.bytes) (find (has_name name) fs)) ≡ list_any (has_name name) fs
any-found name [] = refl
any-found name (f ∷ fs) = on (has_name name f) (any-found name fs)
  where
    on : (b : Bool) → is_some (option_map (λ (f : File). length f.bytes) (find (has_name name) fs)) ≡ list_any (has_name name) fs
        → is_some (option_map (λ (f : File). length f.bytes) (cond b (Some f) (find (has_name name) fs))) ≡ (b || list_any (has_name name) fs)
    on true e = refl
    on false e = e

pub has_file-size : (d : Disc) (name : List ℕ) (r : Option ℕ) (b : Bool) → r ≡ size_of d name → is_some r ≡ b → has_file d name ≡ b
has_file-size d name r b is some = sym (any-found name d.files) ∙ ap is_some (sym is) ∙ some

module _ (d : Disc) (name : List ℕ) (none : HasNoStreams d) where
  abbrev E : Disc
  E = record { files = d.files; streams = replicate 17 None }

  same : d ≡ E
  same = λ i. record { files = d.files; streams = none i }

  -- an opening to write, where no file has the name
  abbrev Open : Disc → Bool → Outcome ℕ
  Open e t = unless_refused e ((t, 44) ∷ []) 1 (writing d.files name [])

  open-is : has_file d name ≡ false → after_open_write d name ≡ Open E (ltb (length d.files) most_files)
  open-is away =
      ap (λ e. after_open_write e name) same
      ∙ ap (λ t. Open E (t || ltb (length d.files) most_files)) away

  pub opened : (e : Disc) (r : Result ℕ ℕ) (k : ℕ) → has_file d name ≡ false → r ≡ (after_open_write d name).answer → e ≡ (after_open_write d name).disc → r ≡ Ok k
      → (k ≡ 1) × (e ≡ writing d.files name []) × (ltb (length d.files) most_files ≡ true)
  opened e r k away answer disc ok = on (ltb (length d.files) most_files) refl
    where
      on : (t : Bool) → ltb (length d.files) most_files ≡ t → (k ≡ 1) × (e ≡ writing d.files name []) × (ltb (length d.files) most_files ≡ true)
      on true t =
          let is : ◌≡◌ {A = Result ℕ ℕ} (Ok k) (Ok 1) = sym ok ∙ answer ∙ ap (λ (o : Outcome ℕ). o.answer) (open-is away ∙ ap (Open E) t) in
          let one : k ≡ 1 = cc in
          (one, disc ∙ ap (λ (o : Outcome ℕ). o.disc) (open-is away ∙ ap (Open E) t), t)
      on false t =
          let is : ◌≡◌ {A = Result ℕ ℕ} (Ok k) (Err 44) = sym ok ∙ answer ∙ ap (λ (o : Outcome ℕ). o.answer) (open-is away ∙ ap (Open E) t) in
          cc

  module _ (bytes : List ℕ) where
    abbrev New : Bool → Bool → Bool → Result Disc ℕ
    New t u v = disc_or_code (first_refusal ((not t, 42) ∷ (u, 44) ∷ (v, 43) ∷ [])) (with_bytes d name bytes)

    pub new-there : has_file d name ≡ true → with_new_file d name bytes ≡ Err 42
    new-there e = ap (λ t. New t (ltb (length d.files) most_files) (has_room (with_bytes d name bytes))) e

    pub new-full : has_file d name ≡ false → ltb (length d.files) most_files ≡ true → has_room (writing d.files name bytes) ≡ false → with_new_file d name bytes ≡ Err 43
    new-full e f g =
        ap (λ t. New t (ltb (length d.files) most_files) (has_room (with_bytes d name bytes))) e
        ∙ ap (λ t. New false t (has_room (with_bytes d name bytes))) f
        ∙ ap (New false true) g

    pub new-closed : (e f : Disc) (r : Result (Unit {0}) ℕ) → has_file d name ≡ false → ltb (length d.files) most_files ≡ true → has_room (writing d.files name bytes) ≡ true
        → e ≡ writing d.files name bytes → r ≡ (after_close e 1).answer → f ≡ (after_close e 1).disc → IsNewDisc f r (with_new_file d name bytes)
    new-closed e f r away few room is answer disc =
        let made : with_new_file d name bytes ≡ Ok (with_bytes d name bytes) =
        ap (λ t. New t (ltb (length d.files) most_files) (has_room (with_bytes d name bytes))) away
        ∙ ap (λ t. New false t (has_room (with_bytes d name bytes))) few
        ∙ ap (New false true) room in
        let ok : r ≡ Ok tt = answer ∙ ap (λ x. (after_close x 1).answer) is in
        let left : f ≡ with_bytes d name bytes = disc ∙ ap (λ x. (after_close x 1).disc) is ∙ ap (λ x. with_bytes x name bytes) (sym same) in
        subst (λ (x : Result (Unit {0}) ℕ). IsNewDisc f x (with_new_file d name bytes)) (sym ok) (made ∙ ap Ok (sym left))

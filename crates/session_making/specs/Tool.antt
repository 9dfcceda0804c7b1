-- What the tool gives of a bundle.
use Rattle.std.specs.Prelude.{ℕ, ◌+◌, ◌-◌, nat_lt, if◌then◌else◌, Bool, true, false, List, [], ◌∷◌, ◌++◌, length, Result, Ok, Err}
use Rattle.std.specs.Option.{ok_or}
use Rattle.module_text.specs.TextReader.Steps.{◌>>=◌}
use Rattle.tool_texts.specs.Told.{Told}
use Rattle.session_making.specs.Bare.{add_programs, no_code}
use Rattle.tool_bundles.specs.Bundles.{bundle_of}
use Rattle.session_making.specs.Items.{item_of}
use Rattle.session_making.specs.Makings.{add_item, new_making}
use Rattle.session_making.specs.Notes.{idle_note}
use Rattle.session_making.specs.Refusals.{refused_text}
use Rattle.session_making.specs.Requests.{request_of}
use Rattle.session_making.specs.Sessions.{bare_session, kernel_session, session_text}
use Rattle.session_making.specs.Stops.{at_place, refusal}
use Rattle.session_making.specs.declared.bare.BareCode.{BareCode}
use Rattle.tool_bundles.specs.declared.bundles.Entry.{Entry}
use Rattle.session_making.specs.declared.makings.Frame.{Frame}
use Rattle.session_making.specs.declared.makings.Making.{Making}
use Rattle.session_making.specs.declared.requests.Kind.{Kind}
use Rattle.session_making.specs.declared.requests.Kind.TheVariants.{Bare, Guests, Shell}
use Rattle.session_making.specs.declared.requests.Request.{Request}
use Rattle.session_making.specs.declared.stops.Place.{Place}
use Rattle.session_making.specs.declared.stops.Place.TheVariants.{Request as InRequest, Item}
use Rattle.session_making.specs.declared.stops.Refusal.{Refusal}
use Rattle.session_making.specs.declared.makings.Typed.{Typed}
use Rattle.session_making.specs.declared.tool.At.{At}
use Rattle.session_making.specs.declared.wrongs.Wrong.{Wrong}
use Rattle.session_making.specs.declared.wrongs.Wrong.TheVariants.{NoBundle, NotRead}
use Rattle.session_text.specs.SessionOfText.{session_of}
use Rattle.session_text.specs.declared.sessions.Session.{Session}
use Rattle.module_text.specs.TextReader.Refusal.{Refusal as TextRefusal}

-- ---- the items

-- the second word of an item, if there is one
abbrev pub second_word : List Entry → List ℕ
second_word [] = []
second_word (entry ∷ entries) = entry.word

-- the place of an item
abbrev pub item_place : ℕ → List ℕ → List Entry → Place
item_place number word entries = Item number word (second_word entries)

-- the item that begins with a word is made: so many of the words after it are the item's
abbrev pub one_item : Frame → Making → ℕ → List ℕ → List Entry → Result (Making × ℕ) Wrong
one_item frame making number word entries = do
  item ← item_of frame.kind frame.version word entries
  more ← add_item frame making number item.0
  Ok (more, length entries - length item.1)

-- the same, with the place of what is wrong
abbrev pub next_item : Frame → Making → ℕ → List ℕ → List Entry → Result (Making × ℕ) Refusal
next_item frame making number word entries =
    at_place (item_place number word entries) (one_item frame making number word entries)

-- how far the words are read, at an item of this number, after so many words of the item before
abbrev pub at_item : ℕ → ℕ → At
at_item number others = record { number = number; others = others }

-- a word that begins an item: how many words of the item come next, and the number of the item after it
abbrev pub begin_item : Frame → Making → ℕ → List ℕ → List Entry → Result (Making × At) Refusal
begin_item frame making number word entries = do
  more ← next_item frame making number word entries
  Ok (more.0, at_item (number + 1) more.1)

-- a word comes next, which begins an item unless it is one of the item before
abbrev pub next_word : Frame → Making → At → List ℕ → List Entry → Result (Making × At) Refusal
next_word frame making at word entries =
    if nat_lt 0 at.others then Ok (making, at_item at.number (at.others - 1)) else begin_item frame making at.number word entries

-- words come next, one after another
abbrev pub words_after : Frame → Making → At → List Entry → Result Making Refusal
words_after frame making at [] = Ok making
words_after frame making at (entry ∷ entries) = do
  more ← next_word frame making at entry.word entries
  words_after frame more.0 more.1 entries

-- what is made of the items that words are
abbrev pub make_items : Frame → List Entry → Result Making Refusal
make_items frame entries = words_after frame new_making (at_item 1 0) entries

-- ---- the text

-- all notes: one more where no task is in the session of guests
abbrev pub last_notes : Kind → Bool → List ℕ → List ℕ
last_notes Guests is_idle notes = if is_idle then notes ++ idle_note else notes
last_notes Bare is_idle notes = notes
last_notes Shell is_idle notes = notes

-- there are none
abbrev pub are_none : {X : Type 0} → List X → Bool
are_none [] = true
are_none (x ∷ xs) = false

-- a text that was read as that of a session
abbrev pub read_or : Result Session TextRefusal → Result (Unit {0}) Refusal
read_or (Ok session) = Ok tt
read_or (Err r) = Err (refusal InRequest (NotRead r.line r.code))

-- the text is that of a session
abbrev pub check_read : List ℕ → Result (Unit {0}) Refusal
check_read text = read_or (session_of text)

-- the text of a session, which has to be read, after the notes
abbrev pub noted_text : List ℕ → Session → List Typed → Result (List ℕ) Refusal
noted_text notes session typed = do
  read ← check_read (session_text session typed)
  Ok (notes ++ session_text session typed)

-- the text of what is made of all items, after the notes
abbrev pub made_text : Request → Making → Result (List ℕ) Refusal
made_text request making =
    noted_text (last_notes request.kind (are_none making.tasks) making.notes)
    (kernel_session request making.files making.tasks) making.typed

-- what all items are made for
abbrev pub frame_of : Request → Frame
frame_of request = record { kind = request.kind; version = request.version; reporter = request.reporter }

-- the text that is asked for of a machine with a kernel, after the notes
abbrev pub kernel_text : Request → Result (List ℕ) Refusal
kernel_text request = do
  making ← make_items (frame_of request) request.items
  made_text request making

-- the code of a bare machine
abbrev pub bare_made : Request → Result BareCode Refusal
bare_made request = at_place InRequest (add_programs request.store no_code request.items)

-- the text that is asked for of a bare machine, after the notes
abbrev pub bare_text : Request → Result (List ℕ) Refusal
bare_text request = do
  bare ← bare_made request
  noted_text bare.notes (bare_session request bare.code) []

-- the same, by the kind of the machine
abbrev pub text_by : Kind → Request → Result (List ℕ) Refusal
text_by Bare request = bare_text request
text_by Guests request = kernel_text request
text_by Shell request = kernel_text request

-- the text that is asked for, after the notes
abbrev pub request_text : Request → Result (List ℕ) Refusal
request_text request = text_by request.kind request

-- the text that words ask for
abbrev pub entries_text : List Entry → Result (List ℕ) Refusal
entries_text entries = do
  request ← at_place InRequest (request_of entries)
  request_text request

-- the text that a bundle asks for
abbrev pub bundle_text : List ℕ → Result (List ℕ) Refusal
bundle_text bundle = do
  entries ← at_place InRequest (ok_or (bundle_of bundle) NoBundle)
  entries_text entries

-- what is wrong at a place
abbrev pub refused : Place → Wrong → Told
refused place wrong = record { is_wrong = true; bytes = refused_text place wrong }

-- the text that was made, or what is wrong
abbrev pub told_by : Result (List ℕ) Refusal → Told
told_by (Ok text) = record { is_wrong = false; bytes = text }
told_by (Err r) = refused r.place r.wrong

-- what the tool gives of a bundle
unfoldable pub session_told : List ℕ → Told
session_told bundle = told_by (bundle_text bundle)

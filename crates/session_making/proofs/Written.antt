-- What is given where nothing is wrong.
use Rattle.std.proofs.Common.{◌≡◌, ℕ, false, List, [], Result, Ok, Err, refl, sym}
use Rattle.std.specs.Option.{ok_or}
use Rattle.module_text.specs.TextReader.Refusal.{Refusal as TextRefusal}
use Rattle.session_text.specs.Canonical.{canonical}
use Rattle.session_text.specs.SessionOfText.{session_of}
use Rattle.session_text.specs.declared.sessions.Session.{Session}
use Rattle.tool_bundles.specs.Bundles.{bundle_of}
use Rattle.session_making.specs.Laws.{Writes}
use Rattle.session_making.specs.Requests.{request_of}
use Rattle.session_making.specs.Sessions.{session_text}
use Rattle.session_making.specs.Stops.{at_place}
use Rattle.session_making.specs.Tool.{bare_made, bare_text, bundle_text, entries_text, frame_of, kernel_text, make_items, noted_text, session_told, text_by, told_by}
use Rattle.session_making.specs.declared.bare.BareCode.{BareCode}
use Rattle.tool_bundles.specs.declared.bundles.Entry.{Entry}
use Rattle.session_making.specs.declared.makings.Making.{Making}
use Rattle.session_making.specs.declared.makings.Typed.{Typed}
use Rattle.session_making.specs.declared.requests.Kind.{Kind}
use Rattle.session_making.specs.declared.requests.Kind.TheVariants.{Bare, Guests, Shell}
use Rattle.session_making.specs.declared.requests.Request.{Request}
use Rattle.session_making.specs.declared.stops.Place.TheVariants.{Request as InRequest}
use Rattle.session_making.specs.declared.stops.Refusal.{Refusal}
use Rattle.session_making.specs.declared.wrongs.Wrong.TheVariants.{NoBundle}
use Rattle.session_making.proofs.SessionFronts.{printed_front}

-- what is made is written, if it is made
abbrev IfMade : Result (List ℕ) Refusal → Type 0
IfMade (Ok bytes) = Writes bytes
IfMade (Err r) = Unit {0}

noted : (notes : List ℕ) (s : Session) (typed : List Typed) (read : Result Session TextRefusal) → session_of (session_text s typed) ≡ read → IfMade (noted_text notes s typed)
noted notes s typed (Ok r) h = rw h (record { notes = notes; session = s; typed = typed; all = refl; read = r; is_read = h })
noted notes s typed (Err r) h = rw h tt

noted_is : (notes : List ℕ) (s : Session) (typed : List Typed) → IfMade (noted_text notes s typed)
noted_is notes s typed = noted notes s typed (session_of (session_text s typed)) refl

bare_is : (request : Request) (made : Result BareCode Refusal) → bare_made request ≡ made → IfMade (bare_text request)
bare_is request (Ok bare) h = rw h (noted_is _ _ _)
bare_is request (Err r) h = rw h tt

kernel_is : (request : Request) (made : Result Making Refusal) → make_items (frame_of request) request.items ≡ made → IfMade (kernel_text request)
kernel_is request (Ok making) h = rw h (noted_is _ _ _)
kernel_is request (Err r) h = rw h tt

kind_is : (kind : Kind) (request : Request) → IfMade (text_by kind request)
kind_is Bare request = bare_is request (bare_made request) refl
kind_is Guests request = kernel_is request (make_items (frame_of request) request.items) refl
kind_is Shell request = kernel_is request (make_items (frame_of request) request.items) refl

entries_is : (entries : List Entry) (read : Result Request Refusal) → at_place InRequest (request_of entries) ≡ read → IfMade (entries_text entries)
entries_is entries (Ok request) h = rw h (kind_is request.kind request)
entries_is entries (Err r) h = rw h tt

bundle_is : (bundle : List ℕ) (read : Result (List Entry) Refusal) → at_place InRequest (ok_or (bundle_of bundle) NoBundle) ≡ read → IfMade (bundle_text bundle)
bundle_is bundle (Ok entries) h = rw h (entries_is entries (at_place InRequest (request_of entries)) refl)
bundle_is bundle (Err r) h = rw h tt

told_is : (made : Result (List ℕ) Refusal) → IfMade made → (told_by made).is_wrong ≡ false → Writes (told_by made).bytes
told_is (Ok bytes) w right = w
told_is (Err r) w right = cc

-- where nothing is wrong, a text is written that is read
pub written : (bundle : List ℕ) → (session_told bundle).is_wrong ≡ false → Writes (session_told bundle).bytes
unfolding session_told
written bundle right = told_is (bundle_text bundle) (bundle_is bundle (at_place InRequest (ok_or (bundle_of bundle) NoBundle)) refl) right

-- the text of a record without typed things is its printed text
pub printed : (s : Session) → s.keys ≡ [] → session_text s [] ≡ canonical s
unfolding session_text
printed s none = sym (printed_front s none)

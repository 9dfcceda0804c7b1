-- What is asked of a session as a whole: which machine, its version, store, clock and residents, and how many steps it runs.
use Rattle.std.specs.Prelude.{ℕ, if◌then◌else◌, List, [], ◌∷◌, codes, Result, Ok, Err}
use Rattle.std.specs.Option.{ok_or}
use Rattle.std.specs.Str.{bytes_eq}
use Rattle.module_text.specs.TextReader.Steps.{◌>>=◌}
use Rattle.kernel_model.specs.KernelRecord.Ranges.{most_words}
use Rattle.session_making.specs.Numbers.{period_in, steps_in, store_in, version_in}
use Rattle.tool_bundles.specs.declared.bundles.Entry.{Entry}
use Rattle.session_making.specs.declared.requests.Kind.{Kind}
use Rattle.session_making.specs.declared.requests.Kind.TheVariants.{Bare, Guests, Shell}
use Rattle.session_making.specs.declared.requests.Request.{Request}
use Rattle.session_making.specs.declared.wrongs.Wrong.{Wrong}
use Rattle.session_making.specs.declared.wrongs.Wrong.TheVariants.{NoBareSteps, NoPrograms, NoRequest, NoSteps, NoVersion, Period, Steps, StoreSize}

-- the first word of a request, and those after it
abbrev pub split_word : List Entry → Result (List ℕ × List Entry) Wrong
split_word [] = Err NoRequest
split_word (entry ∷ entries) = Ok (entry.word, entries)

-- the machine with this name
abbrev pub kind_of : List ℕ → Result Kind Wrong
kind_of name =
    if bytes_eq name (codes "bare") then Ok Bare else
    if bytes_eq name (codes "guests") then Ok Guests else
    if bytes_eq name (codes "shell") then Ok Shell else
    Err NoRequest

-- the steps are missing
abbrev pub no_steps : Kind → List ℕ → Wrong
no_steps Bare name = NoBareSteps
no_steps Guests name = NoSteps name
no_steps Shell name = NoSteps name

-- the word of the steps, and the words after it, of which a bare machine has one at least
abbrev pub steps_word : Kind → List ℕ → List Entry → Result (List ℕ × List Entry) Wrong
steps_word kind name [] = Err (no_steps kind name)
steps_word Bare name (steps ∷ []) = Err (NoPrograms steps.word)
steps_word Bare name (steps ∷ item ∷ items) = Ok (steps.word, item ∷ items)
steps_word Guests name (steps ∷ items) = Ok (steps.word, items)
steps_word Shell name (steps ∷ items) = Ok (steps.word, items)

-- the version
abbrev pub version_of : List ℕ → Result ℕ Wrong
version_of word = ok_or (version_in word) (NoVersion word)

-- the size of the store
abbrev pub store_of : ℕ → List ℕ → Result ℕ Wrong
store_of version word = ok_or (store_in version word) (StoreSize (most_words version) word)

-- the most steps
abbrev pub steps_of : List ℕ → Result ℕ Wrong
steps_of word = ok_or (steps_in word) (Steps word)

-- the period of the clock, which a bare machine has not
abbrev pub period_of : Kind → List ℕ → Result ℕ Wrong
period_of Bare word = Ok 0
period_of Guests word = ok_or (period_in word) (Period word)
period_of Shell word = ok_or (period_in word) (Period word)

-- The request of words: a kind, a version, a store, a period and `-d` or `-`, then the steps, and then programs or items.
abbrev pub request_of : List Entry → Result Request Wrong
request_of entries = do
  name ← split_word entries
  kind ← kind_of name.0
  version ← split_word name.1
  store ← split_word version.1
  period ← split_word store.1
  reporter ← split_word period.1
  steps ← steps_word kind name.0 reporter.1
  version_is ← version_of version.0
  store_is ← store_of version_is store.0
  steps_are ← steps_of steps.0
  period_is ← period_of kind period.0
  Ok (record {
    kind = kind;
    version = version_is;
    store = store_is;
    period = period_is;
    reporter = bytes_eq reporter.0 (codes "-d");
    steps = steps_are;
    items = steps.1;
  })

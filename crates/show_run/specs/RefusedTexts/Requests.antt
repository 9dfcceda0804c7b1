-- What a bundle asks for whose text is refused.
use Rattle.std.specs.Prelude.{ℕ, List, [], ◌∷◌, Option, Some, None, option_and_then, option_map}
use Rattle.tool_bundles.specs.Bundles.{bundle_of}
use Rattle.tool_bundles.specs.Entries.{file_of}
use Rattle.tool_bundles.specs.declared.bundles.Entry.{Entry}
use Rattle.text_errors.specs.Kinds.{kind_named}
use Rattle.text_errors.specs.declared.kinds.TextKind.{TextKind}
use Rattle.show_run.specs.declared.refused_texts.requests.Request.{Request}

-- the text of this kind that a word names
abbrev pub with_kind : TextKind → Entry → Option Request
with_kind kind file = option_map (λ text. record { kind = kind; name = file.word; text = text }) (file_of file)

-- a kind, and a file with its bytes
abbrev pub request_of : List Entry → Option Request
request_of (kind ∷ file ∷ []) = option_and_then (λ k. with_kind k file) (kind_named kind.word)
request_of _ = None

-- what a bundle asks for
abbrev pub request_in : List ℕ → Option Request
request_in bundle = option_and_then request_of (bundle_of bundle)

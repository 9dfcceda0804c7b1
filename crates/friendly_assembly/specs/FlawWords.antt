-- What is wrong, in words.
use Rattle.std.specs.Prelude.{ℕ, ◌==◌, if◌then◌else◌, List, [], ◌∷◌, codes, decimal}
use Rattle.byte_streams.specs.Pieces.{joined}
use Rattle.friendly_assembly.specs.declared.flaws.Wrong.{Wrong}
use Rattle.friendly_assembly.specs.declared.flaws.Wrong.TheVariants.{Backslash, CharacterCount, ConstantName, DefinedAgain, GoesOn, LabelIsConstant, LabelledSetting, LongHex, LongString, NoBreakSpace, NoCharacter, NoHex, NotClosed, NoValue, SetAgain, SettingForm, StringElsewhere, StringForm, TypographicQuote, UnknownStar, UnlabelledString}

-- how many characters are between two quotes that have one
abbrev pub count_words : ℕ → List ℕ
count_words n =
    if n == 0 then joined (codes "one character goes between these quotes, but found none" ∷ []) else
    joined (codes "one character goes between these quotes, but found " ∷ decimal n ∷ [])

-- what is wrong, in words
abbrev pub words_of : Wrong → List ℕ
words_of NotClosed = joined (codes "the quote that begins here is not closed" ∷ [])
words_of GoesOn = joined (codes "the quote ends here, and after it comes more" ∷ [])
words_of NoCharacter = joined (codes "a quoted character is one from the blank to ~" ∷ [])
words_of UnknownStar =
    joined (codes "after a * comes n, t, s, \", ' or *: a line end, a tab, a blank, a quote or the * itself" ∷ [])
words_of Backslash = joined (codes "a line end is *n and a tab *t, with a star in place of the backslash" ∷ [])
words_of (CharacterCount n) = count_words n
words_of StringElsewhere = joined (codes "a text in such quotes is after DS alone" ∷ [])
words_of (NoHex digits) = joined (codes "after 0x come hex digits, and not \"" ∷ digits ∷ codes "\"" ∷ [])
words_of (LongHex n) = joined (codes "a hex number has at most 8 digits, and this one has " ∷ decimal n ∷ [])
words_of SettingForm = joined (codes "the line is SET name value, with nothing after" ∷ [])
words_of LabelledSetting = joined (codes "a line SET has no label: it gives no bytes" ∷ [])
words_of ConstantName = joined (codes "the name of a constant is a letter, and up to 15 letters and digits" ∷ [])
words_of (SetAgain name line) = joined (codes "the constant " ∷ name ∷ codes " is set on line " ∷ decimal line ∷ codes " already" ∷ [])
words_of (NoValue part) =
    joined (codes "the value is a number, a character, or a constant that is set before, and not " ∷ part ∷ [])
words_of (LabelIsConstant name line) = joined (name ∷ codes " is a constant, set on line " ∷ decimal line ∷ codes ", and no label too" ∷ [])
words_of (DefinedAgain name line) = joined (codes "the label " ∷ name ∷ codes " is defined on line " ∷ decimal line ∷ codes " already" ∷ [])
words_of UnlabelledString = joined (codes "a string has a label before it, by which it is found" ∷ [])
words_of StringForm = joined (codes "the line is DS and a text in double quotes, with nothing after" ∷ [])
words_of (LongString n) = joined (codes "a string has at most 255 characters, and this one has " ∷ decimal n ∷ [])
words_of NoBreakSpace = joined (codes "a no-break space is here, and no blank: the space bar alone makes a blank" ∷ [])
words_of TypographicQuote = joined (codes "a typographic quote is here: the quotes of the keyboard are ' and \"" ∷ [])

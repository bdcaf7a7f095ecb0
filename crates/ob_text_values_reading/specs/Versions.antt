-- The versions of records.
use Rattle.std.specs.Prelude.{codes}
use Rattle.ob_text_words.specs.Words.{Word}
use Rattle.ob_text_values_reading.specs.declared.title.Version.{Version}
use Rattle.ob_text_values_reading.specs.declared.title.Version.TheVariants.{First, Second, Third}

-- the word of a version in the title
abbrev pub version_word : Version → Word
version_word First = codes "1"
version_word Second = codes "2"
version_word Third = codes "3"

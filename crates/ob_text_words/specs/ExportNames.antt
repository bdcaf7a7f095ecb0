-- Exports by their names.
use Rattle.std.specs.Prelude.{ℕ, bytes_eq, List, Option}
use Rattle.std.specs.List.{find, enumerate_from}
use Rattle.ob_interface.specs.Export.{Signature}
use Rattle.ob_text_words.specs.Words.{Word}

-- the export of a name, with its number, from 0
abbrev pub export_named : List Signature → Word → Option (ℕ × Signature)
export_named signatures name = find (λ e. bytes_eq e.1.name name) (enumerate_from 0 signatures)

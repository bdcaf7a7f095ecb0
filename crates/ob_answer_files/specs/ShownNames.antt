-- How names of files are shown.
use Rattle.std.specs.Prelude.{ℕ, ◌/◌, ◌%◌, ◌==◌, ◌||◌, Bool, [], ◌∷◌, ◌++◌, codes, if◌then◌else◌}
use Rattle.std.specs.Char.{digit_char, encode_utf8, is_control}
use Rattle.std.specs.List.{flat_map}
use Rattle.std.specs.Str.{chars}
use Rattle.ob_command.specs.CommandLine.{Text}

-- a control character, or a backslash
abbrev pub is_written_out : ℕ → Bool
is_written_out c = is_control c || (c == 92)

-- `\x` and two hexadecimal digits
abbrev pub written_out : ℕ → Text
written_out c = codes "\\x" ++ digit_char (c / 16) ∷ digit_char (c % 16) ∷ []

abbrev pub shown_character : ℕ → Text
shown_character c = if is_written_out c then written_out c else encode_utf8 c

abbrev pub shown : Text → Text
shown name = flat_map shown_character (chars name)

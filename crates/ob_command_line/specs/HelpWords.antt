-- Words that ask for help or for the version, and what `clap` reads of them.
use Rattle.std.specs.Prelude.{ℕ, ◌++◌, ◌&&◌, ◌||◌, Bool, false, List, [], ◌∷◌, Option, Some, None, codes, unwrap_or, if◌then◌else◌}
use Rattle.std.specs.List.{list_any}
use Rattle.std.specs.Str.{bytes_eq}

-- the names of the commands
abbrev pub command_names : List (List ℕ)
command_names =
    codes "check" ∷ codes "list" ∷ codes "seq" ∷ codes "live" ∷ codes "run" ∷ codes "serve" ∷ codes "draw"
    ∷ codes "outcomes" ∷ codes "state" ∷ codes "verify" ∷ codes "order" ∷ codes "explain" ∷ codes "bound" ∷ []

abbrev pub is_command : List ℕ → Bool
is_command name = list_any (bytes_eq name) command_names

abbrev pub is_version_option : List ℕ → Bool
is_version_option word = bytes_eq word (codes "--version") || bytes_eq word (codes "-V")

-- `version`, `--version` and `-V` ask for the version where they stand alone, and the last two behind the name of a command too
abbrev pub asks_version : List (List ℕ) → Bool
asks_version (word ∷ []) = bytes_eq word (codes "version") || is_version_option word
asks_version (name ∷ word ∷ []) = is_version_option word && is_command name
asks_version _ = false

-- the words that ask for the help of a command
abbrev pub help_of_command : List ℕ → Option (List (List ℕ))
help_of_command name = if is_command name then Some (name ∷ codes "--help" ∷ []) else None

-- the words that ask for what `help` says before a word: of `help` and of `version` the help of all tells
abbrev pub help_words : List ℕ → Option (List (List ℕ))
help_words name = if bytes_eq name (codes "help") || bytes_eq name (codes "version") then Some (codes "--help" ∷ []) else help_of_command name

abbrev pub is_help_option : List ℕ → Bool
is_help_option word = bytes_eq word (codes "--help") || bytes_eq word (codes "-h")

-- what is too much of the words behind `help` and a name: the first one, but not where it asks for help itself and stands alone
abbrev pub too_much : List (List ℕ) → Option (List ℕ)
too_much [] = None
too_much (word ∷ []) = if is_help_option word then None else Some word
too_much (word ∷ rest) = Some word

-- the same of all words
abbrev pub extra_of_help : List (List ℕ) → Option (List ℕ)
extra_of_help (word ∷ name ∷ rest) = if bytes_eq word (codes "help") then too_much rest else None
extra_of_help _ = None

-- what is said of it
abbrev pub help_mistake : List ℕ → List ℕ
help_mistake word =
    codes "error: unexpected argument '" ++ word
    ++ codes "' found: behind help stands the name of one command\n\nUsage: obl0 help COMMAND\n\nFor more information, try '--help'.\n"

-- What clap reads: `help` alone is its option, and before the name of a command it is that option behind the name. Before another word
-- it is passed over: that word is no command.
abbrev pub clap_words : List (List ℕ) → List (List ℕ)
clap_words (word ∷ []) = if bytes_eq word (codes "help") then codes "--help" ∷ [] else word ∷ []
clap_words (word ∷ name ∷ rest) = if bytes_eq word (codes "help") then unwrap_or (help_words name) (name ∷ []) else word ∷ name ∷ rest
clap_words words = words

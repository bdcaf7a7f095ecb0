-- Words of types and of variables, where they are more than there may be.
use Rattle.std.specs.Prelude.{ℕ, ◌&&◌, ◌||◌, nat_lt, not, Bool, true, false, Option, Some, None, if◌then◌else◌}
use Rattle.std.specs.List.{list_any}
use Rattle.ob_scan.specs.declared.token.Kind.{Kind}
use Rattle.ob_scan.specs.declared.token.Kind.TheVariants as Kinds
use Rattle.ob_scan.specs.declared.token.Token.{Token}
use Rattle.ob_explain_tokens.specs.Parens.{is_in_parens}
use Rattle.ob_explain_words.specs.Words.{words_of_type, words_with}
use Rattle.ob_evidence.specs.Sites.{Scene, here, is_kind, last}

abbrev pub is_procedure_kind : Kind → Bool
is_procedure_kind Kinds.Procedure = true
is_procedure_kind _ = false

abbrev pub is_procedure : Token → Bool
is_procedure t = is_procedure_kind t.kind

-- a variable behind a PROCEDURE is one of a procedure, since those of the module stand before all procedures
abbrev pub is_in_procedure : Scene → Bool
is_in_procedure s = list_any is_procedure s.before

-- the most words that the variables of a procedure or of the module have
abbrev pub most_words : (in_procedure : Bool) → ℕ
most_words in_procedure = if in_procedure then 1024 else 4096

-- a count that is told: one that is more than there may be
abbrev pub beyond : (most : ℕ) → Option ℕ → Option ℕ
beyond most None = None
beyond most (Some words) = if nat_lt most words then Some words else None

abbrev pub is_type_there : Scene → Bool
is_type_there s = is_kind (here s) Kinds.Array || is_kind (here s) Kinds.Record

-- words of variables are counted: no type stands there, no name of a procedure, and no parameter
abbrev pub is_counted : Scene → Bool
is_counted s = not (is_type_there s) && (not (is_kind (last s) Kinds.Procedure) && not (is_in_parens s.before))

-- those of the type at the place, or of the variables of its scope up to the one at the place
abbrev pub words_there : Scene → Option ℕ
words_there s =
    if is_type_there s then beyond 4096 (words_of_type s.text s.tokens s.known s.place)
    else if is_counted s then beyond (most_words (is_in_procedure s)) (words_with s.text s.tokens s.known s.place)
    else None

abbrev pub are_told : Option ℕ → Bool
are_told None = false
are_told (Some words) = true

abbrev pub told_words : Option ℕ → ℕ
told_words None = 0
told_words (Some words) = words

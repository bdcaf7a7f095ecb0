-- The names of the fields of a record, of the tokens that list them.
use Rattle.std.specs.Prelude.{ℕ, ◌+◌, ◌-◌, ◌==◌, ◌&&◌, Bool, false, List, [], ◌∷◌, ◌++◌, if◌then◌else◌}
use Rattle.ob_scan.specs.declared.token.Kind.{Kind}
use Rattle.ob_scan.specs.declared.token.Token.{Token}
use Rattle.ob_explain_tokens.specs.Kinds.{is_colon, is_end, is_name, is_record, is_semicolon}
use Rattle.ob_explain_parts.specs.declared.fields.Listing.{Listing}
use Rattle.ob_explain_parts.specs.declared.fields.Listing.TheVariants.{Names, Within}

-- the records that are open in the type of a list of names
abbrev pub open_records : Listing → ℕ
open_records Names = 0
open_records (Within records) = records

-- the END of the record itself
abbrev pub ends_fields : Listing → Kind → Bool
ends_fields listing kind = is_end kind && (open_records listing == 0)

abbrev pub is_field : Listing → Kind → Bool
is_field Names kind = is_name kind
is_field (Within records) kind = false

abbrev pub within_behind : (records : ℕ) → Kind → Listing
within_behind records kind =
    if is_semicolon kind && (records == 0) then Names
    else if is_record kind then Within (records + 1)
    else if is_end kind then Within (records - 1)
    else Within records

-- behind a token
abbrev pub listing_behind : Listing → Kind → Listing
listing_behind Names kind = if is_colon kind then Within 0 else Names
listing_behind (Within records) kind = within_behind records kind

abbrev pub with_field : (found : List Token) → Listing → Token → List Token
with_field found listing t = if is_field listing t.kind then found ++ t ∷ [] else found

-- The fields of a record up to its END, behind those that were found before: the names of its lists, and none of those that stand in
-- their types.
unfoldable pub fields_behind : (found : List Token) → Listing → List Token → List Token
fields_behind found listing [] = found
fields_behind found listing (t ∷ rest) =
    if ends_fields listing t.kind then found
    else fields_behind (with_field found listing t) (listing_behind listing t.kind) rest

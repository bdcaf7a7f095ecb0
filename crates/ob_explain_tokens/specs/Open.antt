-- The construct that is open at a place, and the ELSE IF in it: by the tokens before the place, which go back from there.
use Rattle.std.specs.Prelude.{◌≡◌, ℕ, ◌&&◌, nat_lt, Bool, true, false, List, [], ◌∷◌, ◌++◌, take, Option, Some, None, if◌then◌else◌}
use Rattle.std.specs.List.{slice_get}
use Rattle.ob_scan.specs.declared.token.Kind.{Kind}
use Rattle.ob_scan.specs.declared.token.Kind.TheVariants.{Module, Procedure, Record, If, While, Repeat, End, Until, Else}
use Rattle.ob_scan.specs.declared.token.Token.{Token}
use Rattle.ob_explain_tokens.specs.Kinds.{is_record}

-- a token that opens a construct
abbrev pub begins_construct : Kind → Bool
begins_construct Module = true
begins_construct Procedure = true
begins_construct Record = true
begins_construct If = true
begins_construct While = true
begins_construct Repeat = true
begins_construct _ = false

-- END closes each of these, but UNTIL a REPEAT
abbrev pub ends_construct : Kind → Bool
ends_construct End = true
ends_construct Until = true
ends_construct _ = false

-- a module or a procedure, which has a name
abbrev pub is_unit : Kind → Bool
is_unit Module = true
is_unit Procedure = true
is_unit _ = false

-- Whole constructs and other tokens, by tokens that go back: each construct that begins among them ends among them, and no other one ends.
pub data AreWhole : List Token → Type 0 where
  none : AreWhole []
  other : (t : Token) {before : List Token} →
      begins_construct t.kind ≡ false → ends_construct t.kind ≡ false → AreWhole before → AreWhole (t ∷ before)
  construct : (end opening : Token) {inside before : List Token} →
      ends_construct end.kind ≡ true → AreWhole inside → begins_construct opening.kind ≡ true → AreWhole before →
      AreWhole (end ∷ inside ++ opening ∷ before)

-- The token at a position, counted back from the place, opens the construct that is open there: a construct begins with it, and up to the
-- place only whole ones stand behind it.
pub record IsOpenedAt (tokens : List Token) (position : ℕ) (opening : Token) : Type 0 where
  pub stands : slice_get tokens position ≡ Some opening
  pub begins : begins_construct opening.kind ≡ true
  pub whole : AreWhole (take position tokens)

-- the token that opens the construct that is open at the place; none where there is no such token
abbrev pub IsOpenConstruct : (before : List Token) → Option Token → Type 0
IsOpenConstruct before None = (position : ℕ) (t : Token) → IsOpenedAt before position t → ⊥
IsOpenConstruct before (Some t) = (position : ℕ) × IsOpenedAt before position t

abbrev pub is_record_there : Option Token → Bool
is_record_there None = false
is_record_there (Some t) = is_record t.kind

-- whether a place stands in a record: the construct that is open there is one
abbrev pub IsInRecord : (before : List Token) → Bool → Type 0
IsInRecord before is = (opening : Option Token) × IsOpenConstruct before opening × (is ≡ is_record_there opening)

abbrev pub is_else : Kind → Bool
is_else Else = true
is_else _ = false

abbrev pub is_if : Kind → Bool
is_if If = true
is_if _ = false

abbrev pub is_if_there : Option Token → Bool
is_if_there None = false
is_if_there (Some t) = is_if t.kind

-- an ELSE before an IF
abbrev pub is_else_if : Kind → (behind : Option Token) → Bool
is_else_if kind behind = is_else kind && is_if_there behind

abbrev pub is_before : Token → (place : ℕ) → Bool
is_before t place = nat_lt t.start place

-- The last IF right behind an ELSE that stands before the place, and not before this one. Behind the tokens stands that one.
unfoldable pub else_if : (from : ℕ) → (behind : Option Token) → List Token → Option Token
else_if from behind [] = None
else_if from behind (t ∷ rest) =
    if is_else_if t.kind behind then behind
    else if is_before t from then None
    else else_if from (Some t) rest

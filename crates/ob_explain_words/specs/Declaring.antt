-- Which names a text declares, whether it is a module or not: by its tokens alone.
use Rattle.std.specs.Prelude.{◌≡◌, ◌↔◌, ℕ, IsTrue, Bool, true, false, List, [], ◌∷◌, ◌++◌, Option, None, Some, find, reverse}
use Rattle.ob_scan.specs.declared.token.Kind.{Kind}
use Rattle.ob_scan.specs.declared.token.Kind.TheVariants as Kinds
use Rattle.ob_scan.specs.declared.token.Token.{Token}
use Rattle.ob_explain_names.specs.Declarations.{token_bytes}
use Rattle.ob_explain_tokens.specs.Kinds.{is_colon, is_comma, is_name}

-- ---- what stands before a name

-- CONST and TYPE lead declarations of constants and types; VAR, PROCEDURE and BEGIN lead something else
abbrev pub leads : Kind → Bool
leads Kinds.Const = true
leads Kinds.«Type» = true
leads Kinds.Var = true
leads Kinds.Procedure = true
leads Kinds.Begin = true
leads _ = false

abbrev pub leads_there : Token → Bool
leads_there t = leads t.kind

abbrev pub leads_equations : Kind → Bool
leads_equations Kinds.Const = true
leads_equations Kinds.«Type» = true
leads_equations _ = false

abbrev pub are_equations : (leader : Option Token) → Bool
are_equations None = false
are_equations (Some t) = leads_equations t.kind

-- constants and types are declared behind tokens that go back, where CONST or TYPE is the last one that leads something
abbrev pub is_in_equations : (before : List Token) → Bool
is_in_equations before = are_equations (find leads_there before)

-- the kind of the last of them
abbrev pub last_kind : (before : List Token) → Option Kind
last_kind [] = None
last_kind (t ∷ rest) = Some t.kind

-- one of these declarations begins behind CONST, TYPE and `;`
pub data LeadsOne : Option Kind → Type 0 where
  const : LeadsOne (Some Kinds.Const)
  type : LeadsOne (Some Kinds.«Type»)
  semicolon : LeadsOne (Some Kinds.Semicolon)

-- ---- lists of names

-- name {"," name} ":"
pub data IsListed : List Token → Type 0 where
  ends : (name colon : Token) {rest : List Token} → is_name name.kind ≡ true → is_colon colon.kind ≡ true → IsListed (name ∷ colon ∷ rest)
  goes_on : (name comma : Token) {rest : List Token} →
      is_name name.kind ≡ true → is_comma comma.kind ≡ true → IsListed rest → IsListed (name ∷ comma ∷ rest)

-- ---- names that are declared

-- a token is the word, as a name
pub record IsWord (text word : List ℕ) (t : Token) : Type 0 where
  pub name : is_name t.kind ≡ true
  pub bytes : token_bytes text t ≡ word

-- a `=` stands behind the first of tokens
abbrev pub IsBeforeEqual : List Token → Type 0
IsBeforeEqual tokens = (t : Token) × (u : Token) × (rest : List Token) × (tokens ≡ t ∷ u ∷ rest) × (u.kind ≡ Kinds.Equal)

-- the declaration of a constant or of a type begins with tokens, behind a token of this kind where they are declared, or not
pub record BeginsEquation (last : Option Kind) (equations : Bool) (tokens : List Token) : Type 0 where
  pub in_them : equations ≡ true
  pub led : LeadsOne last
  pub equal : IsBeforeEqual tokens

-- The name with which tokens begin is declared there, behind others that go back: as that of a procedure behind PROCEDURE, as that of a
-- constant or of a type before a `=` where such a declaration begins, and as that of a variable, of a parameter or of a field in a list
-- before a `:`.
pub data IsDeclaredAt (before tokens : List Token) : Type 0 where
  procedure : last_kind before ≡ Some Kinds.Procedure → IsDeclaredAt before tokens
  equation : BeginsEquation (last_kind before) (is_in_equations before) tokens → IsDeclaredAt before tokens
  listed : IsListed tokens → IsDeclaredAt before tokens

-- it is declared behind any tokens of which the last is of this kind, and behind which constants and types are declared or not
abbrev pub TellsDeclared : (last : Option Kind) → (equations : Bool) → (tokens : List Token) → Bool → Type 0
TellsDeclared last equations tokens is =
    (before : List Token) → last ≡ last_kind before → equations ≡ is_in_equations before → IsTrue is ↔ IsDeclaredAt before tokens

-- constants and types are declared behind a token of this kind, where they are before it or not
abbrev pub TellsEquations : (equations : Bool) → Kind → Bool → Type 0
TellsEquations equations kind are =
    (before : List Token) → (token : Token) → equations ≡ is_in_equations before → kind ≡ token.kind → are ≡ is_in_equations (token ∷ before)

-- A word is a name that the text with these tokens declares: one of them is the word, and is declared where it stands.
pub record Declares (text : List ℕ) (tokens : List Token) (word : List ℕ) : Type 0 where
  pub before : List Token
  pub name : Token
  pub behind : List Token
  pub parted : tokens ≡ before ++ name ∷ behind
  pub is_word : IsWord text word name
  pub declared : IsDeclaredAt (reverse before) (name ∷ behind)

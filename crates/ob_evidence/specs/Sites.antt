-- A place of a text, and what stands around it.
use Rattle.std.specs.Prelude.{◌≡◌, ◌==◌, ℕ, Bool, true, false, List, [], ◌∷◌, find, option_map, Option, Some, None}
use denote.Enum.Bare.{sameb}
use Rattle.ob_scan.specs.contracts.token.Kind as scanned
use Rattle.ob_scan.specs.declared.token.Kind.{Kind}
use Rattle.ob_scan.specs.declared.token.Kind.TheVariants as Kinds
use Rattle.ob_scan.specs.declared.token.Token.{Token}
use Rattle.ob_explain_names.specs.Lookup.{name_at}
use Rattle.ob_explain_names.specs.Visible.{AreVisible}
use Rattle.ob_explain_names.specs.declared.known.Known.{Known}
use Rattle.ob_explain_names.specs.Declarations.{first_of}
use Rattle.ob_explain_tokens.specs.Around.{AreTokens}
use Rattle.ob_explain_tokens.specs.Around as Tokens
use Rattle.ob_explain_sentences.specs.Places.{place_in}
use Rattle.ob_evidence.specs.declared.text_site.Site as Rust
use Rattle.ob_evidence.specs.declared.text_site.Around.{Around}

-- a place of a text, with the text's tokens, those before the place (the last one first) and those behind it, and the names that are
-- visible there
pub record Scene : Type 0 where
  pub text : List ℕ
  pub place : ℕ
  pub tokens : List Token
  pub before : List Token
  pub behind : List Token
  pub known : List Known

-- they are those of this text at this place
pub record IsScene (text : List ℕ) (place : ℕ) (s : Scene) : Type 0 where
  pub of_text : s.text ≡ text
  pub at_place : s.place ≡ place
  pub are_tokens : AreTokens text s.tokens
  pub are_before : s.before ≡ Tokens.before place s.tokens
  pub are_behind : s.behind ≡ Tokens.behind place s.tokens
  pub are_visible : AreVisible text place s.known

-- that of the code, without where it lies in memory
abbrev pub scene_of : Rust.Site → Scene
scene_of s = record {
  text = s.text.now;
  place = s.place;
  tokens = s.tokens.now;
  before = s.before.now;
  behind = s.behind.now;
  known = s.known.now;
}

-- that of a text, a place, and what was found of them
abbrev pub scene_in : (text : List ℕ) → (place : ℕ) → Around → Scene
scene_in text place found = record {
  text = text;
  place = place;
  tokens = found.tokens.items;
  before = found.before.items;
  behind = found.behind.items;
  known = found.known.items;
}

-- ---- tokens

abbrev pub second_of : List Token → Option Token
second_of (t ∷ u ∷ rest) = Some u
second_of _ = None

-- all but the first one
abbrev pub rest_of : List Token → List Token
rest_of [] = []
rest_of (t ∷ rest) = rest

-- the token that begins at the place, the last two before it, and the next one behind it
abbrev pub here : Scene → Option Token
here s = find (λ t. t.start == s.place) s.tokens

abbrev pub last : Scene → Option Token
last s = first_of s.before

abbrev pub second : Scene → Option Token
second s = second_of s.before

abbrev pub next : Scene → Option Token
next s = first_of s.behind

-- ---- what tokens are

abbrev pub kind_of : Option Token → Option Kind
kind_of token = option_map (λ t. t.kind) token

abbrev pub is_kind : Option Token → Kind → Bool
is_kind None kind = false
is_kind (Some t) kind = sameb scanned.the_type t.kind kind

abbrev pub is_token : Option Token → Bool
is_token None = false
is_token (Some t) = true

-- that of a name where there is no token
abbrev pub kind_or_name : Option Token → Kind
kind_or_name None = Kinds.Ident
kind_or_name (Some t) = t.kind

-- the word that a token is; none of a number or a symbol
abbrev pub word_of : (text : List ℕ) → Option Token → List ℕ
word_of text None = []
word_of text (Some t) = name_at text t.start

-- the word at the place
abbrev pub word : Scene → List ℕ
word s = name_at s.text s.place

-- the line in which a token stands; 0 where there is none
abbrev pub line_of : (text : List ℕ) → Option Token → ℕ
line_of text None = 0
line_of text (Some t) = (place_in text t.start).line

-- What reading a phrase from a place in the tokens means: the tree and the place behind it, or the place of the token that refuses it.
use Rattle.std.specs.Prelude.{◌≡◌, ℕ, suc, ◌<◌, ◌≤◌, Bool, false, List, [], ◌∷◌, ◌++◌, drop, take, length, slice_get, Option, option_map, Contains}
use Rattle.std.specs.Option.{option_map_or}
use Rattle.ob_scan.specs.declared.token.Kind.{Kind}
use Rattle.ob_scan.specs.Lexemes.{Lexeme, lexeme, place_of}
use Rattle.ob_grammar.specs.Grammar.{Lexemes, Phrase}
use Rattle.ob_grammar.specs.EndNamesAndNesting.{Breach}

-- A phrase with what its contract speaks of: the kinds of token that continue the phrase where it could also end,
-- and what breaks a condition in it.
pub record Form (A : Type 0) : Type 1 where
  pub relation : Phrase A
  pub continues : Kind → Bool
  pub breaches : A → List Breach

-- A phrase that stands behind a part of the tree. The part says what breaks a condition, and nothing else.
pub record Sequel (A B : Type 0) : Type 1 where
  pub relation : Phrase B
  pub continues : Kind → Bool
  pub breaches : A → B → List Breach

-- the phrase behind this part
abbrev pub behind_part : {A B : Type 0} → Sequel A B → A → Form B
behind_part S x = record { relation = S.relation; continues = S.continues; breaches = S.breaches x }

-- the first n tokens are the same, and so is the end, where it is among them
pub record Same (n : ℕ) (tokens other : Lexemes) : Type 0 where
  pub at : (i : ℕ) → i < n → slice_get other i ≡ slice_get tokens i

abbrev pub kind_of : Lexeme → Kind
kind_of (lexeme kind place bytes) = kind

-- the kind of the token at i, and its place
abbrev pub kind_at : Lexemes → ℕ → Option Kind
kind_at tokens i = option_map kind_of (slice_get tokens i)

-- the place of the token at i, or the end where there is none
abbrev pub place_at : ℕ → Lexemes → ℕ → ℕ
place_at end tokens i = option_map_or place_of (slice_get tokens i) end

-- what stands behind a phrase does not continue it
abbrev pub StopsBy : (Kind → Bool) → Lexemes → Type 0
StopsBy continues [] = Unit {0}
StopsBy continues (t ∷ rest) = continues (kind_of t) ≡ false

pub record Stops (continues : Kind → Bool) (rest : Lexemes) : Type 0 where
  pub by : StopsBy continues rest

-- From p to q the tokens spell x, and in any tokens that are the same up to the one at q, itself included, nothing else can stand there.
pub record Reads {A : Type 0} (F : Form A) (tokens : Lexemes) (p : ℕ) (x : A) (q : ℕ) : Type 0 where
  pub order : p ≤ q
  pub within : p ≤ length tokens → q ≤ length tokens
  pub sound : (other : Lexemes) → Same q tokens other → F.relation (drop p other) x (drop q other)
  pub only : (other : Lexemes) → Same (suc q) tokens other →
      (y : A) (rest : Lexemes) → F.relation (drop p other) y rest → Stops F.continues rest →
      (y ≡ x) × (rest ≡ drop q other)
  pub kept : F.breaches x ≡ []

-- why a token refuses a phrase: no phrase goes on with it, or each that does breaks a condition there
pub data Reason : Type 0 where
  unexpected : Reason
  breaks : (breach : Breach) → Reason

abbrev pub Explains : Reason → List Breach → Type 0
Explains unexpected breaches = ⊥
Explains (breaks breach) breaches = Contains breaches breach

-- some phrase goes on from p with these tokens, whatever stands behind it
pub record GoesOn {A : Type 0} (F : Form A) (begun : Lexemes) (p : ℕ) : Type 0 where
  pub more : Lexemes
  pub tree : A
  pub derives : (rest : Lexemes) → F.relation (drop p (begun ++ (more ++ rest))) tree rest

-- one that keeps the conditions
pub record GoesOnWell {A : Type 0} (F : Form A) (begun : Lexemes) (p : ℕ) : Type 0 where
  pub goes_on : GoesOn F begun p
  pub kept : F.breaches goes_on.tree ≡ []

abbrev pub IsBreach : Reason → Type 0
IsBreach unexpected = ⊥
IsBreach (breaks breach) = Unit {0}

-- In any tokens that are the same up to the one at q, itself included, the reason holds of each phrase that stands at p.
pub record Refuses {A : Type 0} (F : Form A) (tokens : Lexemes) (p : ℕ) (reason : Reason) (q : ℕ) : Type 0 where
  pub order : p ≤ q
  pub never : (other : Lexemes) → Same (suc q) tokens other →
      (y : A) (rest : Lexemes) → F.relation (drop p other) y rest → Stops F.continues rest →
      Explains reason (F.breaches y)
  pub within : p ≤ length tokens → q ≤ length tokens
  -- with the tokens before q some phrase goes on that keeps the conditions
  pub alive : p ≤ length tokens → GoesOnWell F (take q tokens) p
  -- where a condition is broken, some phrase goes on with the tokens up to the one that breaks it, itself included
  pub there : IsBreach reason → q < length tokens
  pub reached : IsBreach reason → p ≤ length tokens → GoesOn F (take (suc q) tokens) p

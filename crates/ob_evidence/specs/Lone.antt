-- Names that may be meant to be END.
use Rattle.std.specs.Prelude.{ℕ, nat_lt, IsTrue, Option, Some, None}
use Rattle.ob_scan.specs.declared.token.Token.{Token}
use Rattle.ob_evidence.specs.Keywords.{IsNew}
use Rattle.ob_evidence.specs.Sites.{Scene}

-- A name stands before the place, and the text does not declare it. That it stands alone, and is meant to be END, is what a hint asks.
pub record IsLone (s : Scene) (name : Token) : Type 0 where
  pub is_before : IsTrue (nat_lt name.start s.place)
  pub is_new : IsNew s name

-- none is told, or such a one
abbrev pub AreLone : Scene → Option Token → Type 0
AreLone s None = Unit {0}
AreLone s (Some name) = IsLone s name

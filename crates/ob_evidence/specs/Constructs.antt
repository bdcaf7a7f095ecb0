-- Constructs that are shown beside a place.
use Rattle.std.specs.Prelude.{◌≡◌, ◌⊎◌, List, Option, Some, None}
use Rattle.ob_scan.specs.declared.token.Token.{Token}
use Rattle.ob_explain_tokens.specs.Open.{IsOpenConstruct, else_if}
use Rattle.ob_evidence.specs.Sites.{Scene, rest_of}
use Rattle.ob_evidence.specs.declared.constructs.Shown.{Shown}

-- an IF right behind an ELSE stands in the construct that a token opens, of tokens that go back from where it is open
abbrev pub IsInner : (before : List Token) → (opening : Token) → Option Token → Type 0
IsInner before opening None = Unit {0}
IsInner before opening (Some inner) = else_if opening.start None before ≡ Some inner

-- The construct that is open behind tokens that go back, by the token that opens it, and an IF in it; where none is told, nothing is said.
abbrev pub IsOpen : (before : List Token) → (opening inner : Option Token) → Type 0
IsOpen before None None = Unit {0}
IsOpen before None (Some inner) = ⊥
IsOpen before (Some opening) inner = IsOpenConstruct before (Some opening) × IsInner before opening inner

-- the construct that is open at the place, or the one that the END before the place closes
abbrev pub IsShown : Scene → (opening inner : Option Token) → Type 0
IsShown s opening inner = IsOpen s.before opening inner ⊎ IsOpen (rest_of s.before) opening inner

abbrev pub AreOpen : (before : List Token) → Option Shown → Type 0
AreOpen before None = Unit {0}
AreOpen before (Some shown) = IsOpen before shown.opening shown.inner

abbrev pub AreShown : Scene → Option Shown → Type 0
AreShown s None = Unit {0}
AreShown s (Some shown) = IsShown s shown.opening shown.inner

-- the token that opens the construct that is shown, and the IF in it
abbrev pub opening_of : Option Shown → Option Token
opening_of None = None
opening_of (Some shown) = shown.opening

abbrev pub inner_of : Option Shown → Option Token
inner_of None = None
inner_of (Some shown) = shown.inner

-- Constructs that are shown, from what tells them.
use Rattle.std.proofs.Common.{◌≡◌, List, Option, Some, None, sym, inl}
use Rattle.ob_scan.specs.declared.token.Token.{Token}
use Rattle.ob_explain_tokens.specs.Open.{IsOpenConstruct, else_if}
use Rattle.ob_evidence.specs.Constructs.{AreOpen, AreShown, IsInner, IsOpen}
use Rattle.ob_evidence.specs.Sites.{Scene}
use Rattle.ob_evidence.specs.declared.constructs.Shown.{Shown}

-- the construct that is open, or none, without an IF in it
pub open_alone : (before : List Token) (opening : Option Token) → IsOpenConstruct before opening → IsOpen before opening None
open_alone before None is = tt
open_alone before (Some t) is = (is, tt)

-- an IF in it, or none
pub is_inner : (before : List Token) (opening : Token) (inner : Option Token) → inner ≡ else_if opening.start None before → IsInner before opening inner
is_inner before opening None is = tt
is_inner before opening (Some t) is = sym is

pub shown_open : (s : Scene) (o : Option Shown) → AreOpen s.before o → AreShown s o
shown_open s None h = tt
shown_open s (Some shown) h = inl h

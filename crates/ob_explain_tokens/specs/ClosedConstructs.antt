-- The name of what an END closes.
use Rattle.std.specs.Prelude.{ℕ, suc, ◌-◌, nat_le, Bool, true, false, List, [], ◌∷◌, Option, Some, None, if◌then◌else◌}
use Rattle.ob_scan.specs.declared.token.Kind.{Kind}
use Rattle.ob_scan.specs.declared.token.Kind.TheVariants.{Module, Procedure, Record, If, While}
use Rattle.ob_scan.specs.declared.token.Token.{Token}
use Rattle.ob_explain_tokens.specs.Kinds.{is_end}

-- a token that opens what an END closes
abbrev pub opens : Kind → Bool
opens Module = true
opens Procedure = true
opens Record = true
opens If = true
opens While = true
opens _ = false

-- How many constructs that are closed begin before a token, where so many begin before the one behind it; none is told of the token that
-- opens the last of them.
abbrev pub closed_before : Kind → ℕ → Option ℕ
closed_before kind closed =
    if is_end kind then Some (suc closed)
    else if opens kind then (if nat_le closed 1 then None else Some (closed - 1))
    else Some closed

abbrev pub or_here : Option Token → (ℕ → Option Token) → Option ℕ → Option Token
or_here behind further None = behind
or_here behind further (Some closed) = further closed

-- The token behind the one that opens what the first END of these tokens closes: the name, where that is a module or a procedure. The
-- tokens go back from the END on, or from behind it.
unfoldable pub name_of_end : (closed : ℕ) → (behind : Option Token) → List Token → Option Token
name_of_end closed behind [] = None
name_of_end closed behind (t ∷ rest) = or_here behind (λ fewer. name_of_end fewer (Some t) rest) (closed_before t.kind closed)

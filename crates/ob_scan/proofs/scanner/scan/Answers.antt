use Rattle.std.proofs.Common.{List, ℕ, sym, ◌∙◌, subst, Option, Ok}
use Rattle.ob_scan.specs.declared.token.Lent.{Lent}
use Rattle.ob_scan.specs.Tokens.{HasTokens}
use Rattle.ob_scan.specs.Scanners.{Gives}
use Rattle.ob_scan.proofs.Reached.{no_others}
use Rattle.ob_scan.proofs.scanner.scan.Goals as goal

pub returns-clause-alone : goal.returns-clause-alone
returns-clause-alone c =
    let s = c.loop-items.scanner in
    let P : Option Lent → Type 0 = λ o. Gives s (Ok o) c.next.new.self in
    let ended = subst P c.in_default.is c.in_ok-lent.ensures.gives in
    let Q : List ℕ → Type 0 = λ text. HasTokens text c.loop-items.items.items in
    let all = subst Q c.loop-items.invariant.same_text (ended.all c.loop-items.items.items c.loop-items.invariant.given) in
    λ others h. no_others all others h ∙ sym c.new-2.ensures.tokens

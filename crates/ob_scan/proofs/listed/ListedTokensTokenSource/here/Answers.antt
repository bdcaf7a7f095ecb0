use Rattle.std.proofs.Common.{◌≤◌, length, Some, sym, ◌∙◌, ap, subst}
use Rattle.ob_scan.specs.Tokens.{spelling}
use Rattle.ob_scan.specs.Lexemes.{lexeme, IsSpelled, lexemes}
use Rattle.ob_scan.proofs.TokenFacts.{token_within, lexemes_spelled}
use Rattle.ob_scan.specs.Listed.{Listing}
use Rattle.ob_scan.proofs.Listings.{all_there, lexeme_there}
use Rattle.ob_scan.proofs.listed.ListedTokensTokenSource.here.Goals as goal

pub lent-requires-clause-ordered : goal.lent-requires-clause-ordered
lent-requires-clause-ordered c =
    let text = c.args.self.now.source.text in
    (all_there (λ t. (t.start ≤ t.end) × (t.end ≤ length text)) c.args.self.now.source.tokens c.args.self.now.position _ (sym c.in-Some.ensures.token) (token_within c.in-Some.ensures.scanned)).0

pub lent-requires-clause-within : goal.lent-requires-clause-within
lent-requires-clause-within c =
    let end = c.in-Some.token.end in
    let text = c.args.self.now.source.text in
    let P : Listing → Type 0 = λ l. end ≤ length l.source.text in
    subst P (sym c.self.view_is)
    (all_there (λ t. (t.start ≤ t.end) × (t.end ≤ length text)) c.args.self.now.source.tokens c.args.self.now.position _ (sym c.in-Some.ensures.token) (token_within c.in-Some.ensures.scanned)).1

pub returns-in-Some-clause-token : goal.returns-in-Some-clause-token
returns-in-Some-clause-token c =
    let t = c.in-Some.token in
    ap Some (c.lent.ensures ∙ ap (λ (l : Listing). lexeme t.kind t.start (spelling l.source.text t)) c.self.view_is)
    ∙ lexeme_there c.args.self.now.source.text c.args.self.now.source.tokens c.args.self.now.position _ c.in-Some.ensures.token

pub returns-in-Some-clause-spelled : goal.returns-in-Some-clause-spelled
returns-in-Some-clause-spelled c =
    let t = c.in-Some.token in
    subst IsSpelled (sym (c.lent.ensures ∙ ap (λ (l : Listing). lexeme t.kind t.start (spelling l.source.text t)) c.self.view_is))
    (all_there IsSpelled (lexemes c.args.self.now.source.text c.args.self.now.source.tokens) c.args.self.now.position _ (sym (lexeme_there c.args.self.now.source.text c.args.self.now.source.tokens c.args.self.now.position _ c.in-Some.ensures.token)) (lexemes_spelled c.in-Some.ensures.scanned))

pub returns-in-None-clause-token : goal.returns-in-None-clause-token
returns-in-None-clause-token c = lexeme_there c.args.self.now.source.text c.args.self.now.source.tokens c.args.self.now.position _ c.in-None.ensures.token

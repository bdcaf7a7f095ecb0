use Rattle.std.proofs.Common.{◌≡◌, sym, subst}
use Rattle.ob_code_scheme.specs.Types.{word_in, space_at}
use Rattle.ob_checked.specs.View.{owner_of}
use Rattle.ob_code.specs.Scoped.{scope_in, space_in}
use Rattle.ob_code.proofs.scopes.Scopes.variable.Goals as goal

pub returns-in-Module-clause-word : goal.returns-in-Module-clause-word
returns-in-Module-clause-word c =
    let s = c.args.self.now in
    subst (λ o. c.variable.result.word ≡ word_in (scope_in s (owner_of o)) c.args.position) (sym c.in-Module.is) c.variable.ensures.word

pub returns-in-Module-clause-space : goal.returns-in-Module-clause-space
returns-in-Module-clause-space c =
    let s = c.args.self.now in
    subst (λ o. space_in s c.variable.result ≡ space_at (scope_in s (owner_of o)) c.args.position) (sym c.in-Module.is) c.variable.ensures.space

pub returns-in-Own-clause-word : goal.returns-in-Own-clause-word
returns-in-Own-clause-word c =
    let s = c.args.self.now in
    subst (λ o. c.own.result.word ≡ word_in (scope_in s (owner_of o)) c.args.position) (sym c.in-Own.is) c.own.ensures.word

pub returns-in-Own-clause-space : goal.returns-in-Own-clause-space
returns-in-Own-clause-space c =
    let s = c.args.self.now in
    subst (λ o. space_in s c.own.result ≡ space_at (scope_in s (owner_of o)) c.args.position) (sym c.in-Own.is) c.own.ensures.space

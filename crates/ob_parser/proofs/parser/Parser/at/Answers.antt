use Rattle.std.proofs.Common.{◌≡◌, Some, None, sym, ◌∙◌, ap, rules, option_map, is_some}
use Rattle.std.proofs.lemmas.Option.{same_Some}
use denote.Enum.Bare.{same_true, true_same}
use Rattle.ob_scan.specs.contracts.token.Kind.{the_type}
use Rattle.ob_parser.specs.Reading.{kind_of}
use Rattle.ob_parser.proofs.parser.Parser.at.Goals as goal

pub returns-in-Some-clause-kind : goal.returns-in-Some-clause-kind
returns-in-Some-clause-kind g c =
    let e = ap (option_map kind_of) c.in-Some.ensures.token in (
      λ h. sym e ∙ ap Some (same_true the_type (search rules) _ _ (sym c.eq.ensures ∙ h)),
      λ h. c.eq.ensures ∙ true_same the_type _ _ (same_Some _ _ (e ∙ h)),
    )

pub returns-in-Some-clause-within : goal.returns-in-Some-clause-within
returns-in-Some-clause-within g c = λ h. ap is_some (sym c.in-Some.ensures.token)

pub returns-in-None-clause-kind : goal.returns-in-None-clause-kind
returns-in-None-clause-kind g c =
    let none : None ≡ option_map kind_of (g.S.TokenSource.state c.args.self.now.source).here = ap (option_map kind_of) c.in-None.ensures.token in
    (λ k. cc, λ k. cc)

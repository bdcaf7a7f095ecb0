use Rattle.std.proofs.Common.{◌≡◌, ◌∙◌, Bool, not, ◌&&◌, ap, rules, sym, tests}
use Rattle.std.specs.List.{list_all, list_any}
use Rattle.std.proofs.lemmas.Iterator.{YieldsList-from_slice}
use Rattle.std.proofs.lemmas.Iterator.Search.{all_from_yields_List, any_from_yields_List}
use Rattle.ob_command.specs.CommandLine.{has}
use Rattle.ob_command.specs.Commands.{given_by}
use Rattle.ob_command.proofs.given.fits.Goals as goal

pub returns-then-all : goal.returns-then-all
returns-then-all c =
    let given = given_by c.args.given.now in
    let all : c.all.result ≡ list_all (has given) c.args.wants.now =
    all_from_yields_List (has given) _ _ c.all.result c.all.ensures.ran (YieldsList-from_slice c.args.wants.now cc) (λ x b q k. search (rules, tests)) in
    let any : c.any.result ≡ list_any (has given) c.args.lacks.now =
    any_from_yields_List _ _ _ _ c.any.ensures.ran (YieldsList-from_slice c.args.lacks.now cc) (λ x b q k. search (rules, tests)) in
    ap not any ∙ ap (λ (t : Bool). t && not (list_any (has given) c.args.lacks.now)) (sym c.if-all.true ∙ all)

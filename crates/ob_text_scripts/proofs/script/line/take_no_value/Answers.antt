use Rattle.std.proofs.Common.{◌≡◌, rules, tests, sym, ◌∙◌}
use Rattle.std.specs.List.{list_all}
use Rattle.std.proofs.lemmas.Iterator.{YieldsList-from_slice}
use Rattle.std.proofs.lemmas.Iterator.Search.{all_from_yields_List}
use Rattle.ob_interface.specs.declared.export.Formal.{Formal}
use Rattle.ob_text_scripts.proofs.NothingSaid.{no_values}
use Rattle.ob_text_scripts.proofs.script.line.take_no_value.Goals as goal

pub returns : goal.returns
returns c h =
    let formals = c.args.formals.now in
    let all : c.all.result ≡ list_all (λ (f : Formal). f.is_var) formals =
    all_from_yields_List (λ (f : Formal). f.is_var) _ _ c.all.result c.all.ensures.ran (YieldsList-from_slice formals cc) (λ x b q k. search (rules, tests)) in
    no_values formals (sym all ∙ h)

use Rattle.std.proofs.Common.{◌≡◌, string_bytes, subst, sym, arith}
use Rattle.std.proofs.lemmas.Grind.{common_steps}
use Rattle.ob_grammar.specs.View.{module_of}
use Rattle.ob_syntax.specs.Printing.{printed}
use Rattle.ob_syntax.specs.PrintedAgain.{LeadsTo}
use Rattle.ob_syntax.proofs.Again.{printed_leads}
use Rattle.ob_syntax.proofs.printer.print.Goals as goal

pub returns-clause-again : goal.returns-clause-again
returns-clause-again c =
    let m = module_of c.args.module.now in
    let e : string_bytes c.push.new.self ≡ printed m = grind (arith, common_steps) in
    subst (λ text. LeadsTo text m) (sym e) (printed_leads m c.tree-tree.ensures.has_text c.tree-tree.ensures.keeps)

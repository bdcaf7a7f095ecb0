use Rattle.std.proofs.Common.{◌≡◌, sym, ◌∙◌, ap}
use Rattle.ob_syntax.specs.declared.tree_reader.ReadFault.TheVariants.{Scan, Parse}
use Rattle.ob_syntax.specs.Places.{bare}
use Rattle.ob_syntax.specs.ReadFaults.{IsReadFault, in_scan, in_parse, IsWant}
use Rattle.ob_grammar.specs.View.{module_of}
use Rattle.ob_grammar.proofs.Exits.{passed_on}
use Rattle.ob_syntax.proofs.ReadTexts.{raised_both, scan_wants, parse_wants, leads_by, of_text}
use Rattle.ob_syntax.proofs.tree_reader.read.Goals as goal

pub returns-in_err-tokens-clause-fault : goal.returns-in_err-tokens-clause-fault
returns-in_err-tokens-clause-fault c =
    passed_on (IsReadFault c.args.text.now) c.from_residual.result (Scan c.in_err-tokens.field-0.0) c.from_residual.ensures.1
    (in_scan c.in_err-tokens.ensures.fault)

pub returns-in_err-tokens-clause-again : goal.returns-in_err-tokens-clause-again
returns-in_err-tokens-clause-again c =
    λ m leads short.
    raised_both (λ x. bare (module_of x) ≡ bare m) IsWant c.from_residual.result (Scan c.in_err-tokens.field-0.0) c.from_residual.ensures.1
    (scan_wants c.in_err-tokens.field-0.0 c.in_err-tokens.ensures.fault leads.read.scanned short)

pub returns-in_err-module-clause-fault : goal.returns-in_err-module-clause-fault
returns-in_err-module-clause-fault c =
    let source = c.in_ok-tokens.tokens in
    let fault = c.in_err-module.field-0.0 in
    passed_on (IsReadFault c.args.text.now) c.from_residual-in_err-module.result (Parse fault) c.from_residual-in_err-module.ensures.1
    (in_parse (record { tokens = source.tokens; scanned = c.in_ok-tokens.ensures.tokens; fails = of_text source fault c.in_ok-tokens.ensures.text c.in_err-module.ensures.fault }))

pub returns-in_err-module-clause-again : goal.returns-in_err-module-clause-again
returns-in_err-module-clause-again c =
    let source = c.in_ok-tokens.tokens in
    let fault = c.in_err-module.field-0.0 in
    λ m leads short.
    raised_both (λ x. bare (module_of x) ≡ bare m) IsWant c.from_residual-in_err-module.result (Parse fault) c.from_residual-in_err-module.ensures.1
    (parse_wants source leads.tree fault c.in_err-module.ensures.fault
    (leads_by source c.in_ok-tokens.ensures.text c.in_ok-tokens.ensures.alone leads) leads.read.keeps)

pub returns-clause-again : goal.returns-clause-again
returns-clause-again c =
    let source = c.in_ok-tokens.tokens in
    λ m leads short.
    let same = c.in_ok-module.ensures.alone leads.tree (leads_by source c.in_ok-tokens.ensures.text c.in_ok-tokens.ensures.alone leads) in
    (sym (ap bare same) ∙ leads.same, tt)

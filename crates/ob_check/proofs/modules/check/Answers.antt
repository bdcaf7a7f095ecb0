use Rattle.std.proofs.Common.{sym, ap, subst, ◌∙◌}
use Rattle.ob_grammar.proofs.Exits.{passed_on}
use Rattle.ob_grammar.specs.View.{module_of}
use Rattle.ob_typing.specs.Declarations.{WellTyped}
use Rattle.ob_typing.specs.ModuleVerdicts.{checked}
use Rattle.ob_rules.proofs.Steps.{fails_as}
use Rattle.ob_check.proofs.Refused.{well_typed, only_program, refused}
use Rattle.ob_check.proofs.modules.check.Goals as goal

pub returns-in_err-program-clause-fault : goal.returns-in_err-program-clause-fault
returns-in_err-program-clause-fault c =
    passed_on _ _ _ c.from_residual.ensures.1
    (refused (module_of c.args.module) c.tree.ensures.has_text _
    (fails_as _ _ _ (ap (λ m. checked (module_of m)) (sym c.tree.ensures.tree)) c.in_err-program.ensures.fault))

pub new-requires-clause-typed : goal.new-requires-clause-typed
new-requires-clause-typed c = well_typed (module_of c.args.module) _ (ap (λ m. checked (module_of m)) (sym c.tree.ensures.tree) ∙ c.in_ok-program.ensures.typed)

pub returns-clause-typed : goal.returns-clause-typed
returns-clause-typed c =
    let verdict = ap (λ m. checked (module_of m)) (sym c.tree.ensures.tree) ∙ c.in_ok-program.ensures.typed in
    subst (λ p. WellTyped (module_of c.args.module) p) (sym c.new.ensures.program) (well_typed (module_of c.args.module) _ verdict)

pub returns-clause-alone : goal.returns-clause-alone
returns-clause-alone c other typed =
    let verdict = ap (λ m. checked (module_of m)) (sym c.tree.ensures.tree) ∙ c.in_ok-program.ensures.typed in
    only_program (module_of c.args.module) _ other verdict typed ∙ sym c.new.ensures.program

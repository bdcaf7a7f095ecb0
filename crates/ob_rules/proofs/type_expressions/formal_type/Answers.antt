use Rattle.std.proofs.Common.{refl}
use Rattle.ob_grammar.proofs.Exits.{passed_on}
use Rattle.ob_scopes.specs.Names.{env_of}
use Rattle.ob_rules.proofs.Steps.{fails_as, fails_on, fails_past, fails_when}
use Rattle.ob_rules.proofs.TypeSteps.{formal_record}
use Rattle.ob_rules.proofs.type_expressions.formal_type.Goals as goal

pub returns-in_err-record_fields-in-Record-clause-fault : goal.returns-in_err-record_fields-in-Record-clause-fault
returns-in_err-record_fields-in-Record-clause-fault c =
    passed_on _ _ _ c.from_residual-in_err-record_fields-in-Record.ensures.1
    (fails_as _ _ _ (formal_record (env_of c.args.scopes.now) c.args.expr.now _ _ c.in-Record.is _ c.deref-in-Record.ensures.value)
    (fails_on _ _ _ c.in_err-record_fields-in-Record.ensures.fault))

pub returns-in_ok-record_fields-in-Record-clause-fault : goal.returns-in_ok-record_fields-in-Record-clause-fault
returns-in_ok-record_fields-in-Record-clause-fault c =
    fails_as _ _ _ (formal_record (env_of c.args.scopes.now) c.args.expr.now _ _ c.in-Record.is _ c.deref-in-Record.ensures.value)
    (fails_past _ _ _ _ c.in_ok-record_fields-in-Record.ensures.typed (fails_when c.broken-in-Record.result _ c.broken-in-Record.ensures _ refl))

use Rattle.std.proofs.lemmas.Result.{on_ok_weaker}
use Rattle.ob_code.specs.Scoped.{globals_in, own_in}
use Rattle.ob_code.proofs.Constructs.{assignment_put}
use Rattle.ob_code.proofs.ConstructsWithin.{assignment_target, assignment_value, assignment_last}
use Rattle.ob_code.proofs.statements.put_assignment.Goals as goal

pub returns : goal.returns
returns c =
    on_ok_weaker c.push.result
    (λ last. assignment_put (globals_in c.args.scopes.now) (own_in c.args.scopes.now) c.args.code.now c.put_designator.new.code c.put_expression.new.code c.push.new.code c.args.target.now c.args.value.now
    c.in_ok-put_designator.ensures c.in_ok-put_expression.ensures last)
    c.push.ensures

pub put_designator-requires : goal.put_designator-requires
put_designator-requires c = assignment_target (globals_in c.args.scopes.now) (own_in c.args.scopes.now) c.args.code.now c.args.target.now c.args.value.now c.requires

pub put_expression-requires : goal.put_expression-requires
put_expression-requires c =
    assignment_value (globals_in c.args.scopes.now) (own_in c.args.scopes.now) c.args.code.now c.args.target.now c.args.value.now c.requires c.put_designator.new.code c.in_ok-put_designator.ensures

pub push-requires : goal.push-requires
push-requires c =
    assignment_last (globals_in c.args.scopes.now) (own_in c.args.scopes.now) c.args.code.now c.args.target.now c.args.value.now c.requires
    c.put_designator.new.code c.put_expression.new.code c.in_ok-put_designator.ensures c.in_ok-put_expression.ensures

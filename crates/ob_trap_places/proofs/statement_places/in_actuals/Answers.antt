use Rattle.std.proofs.Common.{map, option_map, ap, sym, ◌∙◌}
use Rattle.ob_grammar.specs.View.{expr_of}
use Rattle.ob_typing.specs.Statements.{listed}
use Rattle.ob_trap_places.specs.Places as Places
use Rattle.ob_trap_places.proofs.Found.{actual_here, no_actual_here}
use Rattle.ob_trap_places.proofs.statement_places.in_actuals.Goals as goal

pub returns-in-Some-get : goal.returns-in-Some-get
returns-in-Some-get c =
    c.in_expression.ensures
    ∙ sym (ap (λ a. Places.parts_of_actuals (listed (option_map (λ es. map expr_of es.items) a)) c.args.number c.args.path.now) c.in-Some.is
    ∙ ap (λ es. Places.parts_of_actuals (map expr_of es) c.args.number c.args.path.now) (sym c.deref.ensures.value)
    ∙ actual_here c.deref.result.now c.args.number c.in-Some-get.actual.now c.args.path.now c.in-Some-get.ensures.lookup.3.0 c.in-Some-get.ensures.lookup.1)

pub returns-in-None : goal.returns-in-None
returns-in-None c =
    sym (ap (λ a. Places.parts_of_actuals (listed (option_map (λ es. map expr_of es.items) a)) c.args.number c.args.path.now) c.in-Some.is
    ∙ ap (λ es. Places.parts_of_actuals (map expr_of es) c.args.number c.args.path.now) (sym c.deref.ensures.value)
    ∙ no_actual_here c.deref.result.now c.args.number c.args.path.now c.in-None.ensures.lookup.3)

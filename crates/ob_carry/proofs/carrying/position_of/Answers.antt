use Rattle.std.proofs.Common.{◌∙◌, ap, sym}
use Rattle.std.specs.Prelude.{bytes_eq}
use Rattle.ob_checked.specs.View.{table_of}
use Rattle.ob_carry.proofs.Variables.{found_here, found_later, found_nowhere}
use Rattle.ob_carry.proofs.carrying.position_of.Goals as goal

pub returns-then-eq : goal.returns-then-eq
returns-then-eq c =
    found_here (table_of c.args.types.now) c.args.name.now c.args.variables.now c.loop-position.position c.index-variables-position.result
    c.loop-position-test.true c.index-variables-position.is (ap (λ n. bytes_eq n c.args.name.now) (sym c.as_str.ensures.value) ∙ sym c.if-eq.ensures)
    ∙ c.loop-position.invariant

pub loop-position-preserved : goal.loop-position-preserved
loop-position-preserved c =
    found_later (table_of c.args.types.now) c.args.name.now c.args.variables.now c.loop-position.position c.index-variables-position.result
    c.loop-position-test.true c.index-variables-position.is (ap (λ n. bytes_eq n c.args.name.now) (sym c.as_str.ensures.value) ∙ sym c.if-eq.ensures)
    ∙ c.loop-position.invariant

pub returns : goal.returns
returns c = found_nowhere (table_of c.args.types.now) c.args.name.now c.args.variables.now c.loop-position.position c.loop-position-test.false ∙ c.loop-position.invariant

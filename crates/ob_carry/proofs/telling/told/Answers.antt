use Rattle.std.proofs.Common.{◌≡◌, ◌∙◌, arith, string_bytes}
use Rattle.ob_checked.specs.View.{table_of}
use Rattle.ob_carry.specs.View.{entries_of}
use Rattle.ob_carry.proofs.Told.{no_state, told_end, told_step}
use Rattle.ob_carry.proofs.telling.told.Goals as goal

pub returns-then-values-variables : goal.returns-then-values-variables
returns-then-values-variables c =
    no_state (table_of c.args.types.now) c.args.variables.now (entries_of c.new.result.items) c.args.values.now c.if-values-variables.true

pub loop-position-preserved : goal.loop-position-preserved
loop-position-preserved c =
    let v = c.index-variables-position.result in
    let name : string_bytes c.in_ok-name.name ≡ string_bytes v.name = c.in_ok-name.ensures.ok ∙ c.deref.ensures in
    told_step (table_of c.args.types.now) c.args.variables.now c.loop-position.entries.items _ c.args.values.now c.loop-position.position v
    (record { name = c.in_ok-name.name; value = c.in_ok-value.value }) c.index-values-position.result
    (omega (arith, c.if-values-variables.false, c.loop-position-test.true)) c.index-variables-position.is c.loop-position-test.true c.index-values-position.is
    c.in_ok-push.ensures.items c.loop-position.invariant name c.in_ok-value.ensures

pub returns : goal.returns
returns c =
    told_end (table_of c.args.types.now) c.args.variables.now c.loop-position.entries.items c.args.values.now c.loop-position.position
    c.loop-position-test.false c.if-values-variables.false c.loop-position.invariant

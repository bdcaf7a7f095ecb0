use Rattle.std.proofs.Common.{◌∙◌, sym}
use Rattle.ob_carry.proofs.Fitted.{names_same}
use Rattle.ob_carry.specs.View.{entry_of}
use Rattle.ob_checked.specs.View.{table_of, variable_of}
use Rattle.ob_text_reading.proofs.Opened.{fitted_opening}
use Rattle.ob_text_reading.proofs.opening_values.read_opening.Goals as goal

pub returns-in_default : goal.returns-in_default
returns-in_default c = λ w h. (rw c.in_default.is at c.in_ok-field.ensures) h.entry h.says

pub returns : goal.returns
returns c =
    fitted_opening (variable_of (table_of c.args.types.now) c.args.variable.now) _ (entry_of c.in-Some.field) (rw c.in-Some.is at c.in_ok-field.ensures)
    (sym c.as_str.ensures.value ∙ sym (names_same c.as_str.result.now c.as_str-2.result.now c.if-ne.ensures) ∙ c.as_str-2.ensures.value) _ c.fitted.ensures

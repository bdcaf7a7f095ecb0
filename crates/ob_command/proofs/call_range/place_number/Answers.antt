use Rattle.std.proofs.Common.{◌∙◌, ap, sym}
use Rattle.ob_command.proofs.Numbers.{place_read, place_value}
use Rattle.ob_command.proofs.call_range.place_number.Goals as goal

pub returns-in-Ok : goal.returns-in-Ok
returns-in-Ok c = sym (place_read c.args.text.now c.parse.result c.parse.ensures.value.0 ∙ ap (λ r. place_value r) c.in-Ok.is)

pub returns-in-Err : goal.returns-in-Err
returns-in-Err c = sym (place_read c.args.text.now c.parse.result c.parse.ensures.value.0 ∙ ap (λ r. place_value r) c.in-Err.is)

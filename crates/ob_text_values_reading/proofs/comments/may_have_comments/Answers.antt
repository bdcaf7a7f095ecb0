use Rattle.std.proofs.Common.{◌∙◌, sym}
use Rattle.ob_text_values_reading.proofs.SaidLines.{no_sign_found}
use Rattle.ob_text_values_reading.proofs.comments.may_have_comments.Goals as goal

pub returns : goal.returns
returns c = λ none. no_sign_found c.args.text.now c.memchr.result c.memchr.ensures (sym c.is_some.ensures ∙ none)

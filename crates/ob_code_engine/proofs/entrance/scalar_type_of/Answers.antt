use Rattle.std.proofs.Common.{sym, ap, ◌∙◌}
use Rattle.ob_checked.specs.Types.{type_in}
use Rattle.ob_code_scheme.specs.Correct.{scalar_type_of}
use Rattle.ob_code_engine.proofs.Found.{structured_are}
use Rattle.ob_code_engine.proofs.entrance.scalar_type_of.Goals as goal

pub returns-in-Structured : goal.returns-in-Structured
returns-in-Structured c types =
    sym (ap (λ t. scalar_type_of (type_in types t)) c.in-Structured.is ∙ structured_are types c.in-Structured.field-0)

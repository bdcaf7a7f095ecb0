use Rattle.std.proofs.Common.{ap, option_map, ◌∙◌}
use Rattle.ob_checked.specs.Types.{fields_in}
use Rattle.ob_scopes.proofs.Fields.{typed, field_from-found}
use Rattle.ob_scopes.proofs.type_parts.field_named.Goals as goal

pub returns : goal.returns
returns c = λ types.
    ap (option_map (typed types c.args.name.now)) c.find.ensures ∙ field_from-found types c.args.name.now 0 (fields_in c.args.fields.now)

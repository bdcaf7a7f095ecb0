-- Variables and their parts.
use Rattle.std.specs.Prelude.{List}
use Rattle.ob_typing.specs.Program.{Name}
use Rattle.ob_typing.specs.Scopes as Declared
use Rattle.ob_typing.specs.StatementVerdicts as Verdicts
use Rattle.ob_checked.specs.Types.{Entry, type_in}
use Rattle.ob_checked.specs.View.{owner_of, designator_of}
use Rattle.ob_rules.specs.declared.targets.KnownVariable.{KnownVariable}
use Rattle.ob_rules.specs.declared.targets.Designation.{Designation}

abbrev pub variable_of : List Entry → Name → KnownVariable → Declared.Meant
variable_of types name v = Declared.AVariable (record { owner = owner_of v.owner; position = v.position; name = name }) (type_in types v.data_type)

abbrev pub designation_of : List Entry → Designation → Verdicts.Designation
designation_of types x = record { type = type_in types x.data_type; variable = designator_of x.variable }

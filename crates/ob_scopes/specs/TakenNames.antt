-- The names that a scope or a record of the program takes.
use Rattle.std.specs.Prelude.{is_some, String}
use Rattle.std.specs.BTreeMap.{BTreeMap, get_by_text}
use Rattle.std.specs.declared.alloc.Global.{Global}
use Rattle.ob_typing.specs.Types.{Taken}
use Rattle.ob_checked.specs.declared.fields.Fields.{Fields}
use Rattle.ob_checked.specs.Fields.{found_from}
use Rattle.ob_checked.specs.Types.{fields_in}

abbrev pub taken_in : {X : Type 0} → BTreeMap (String Global) X → Taken
taken_in names name = is_some (get_by_text names name)

abbrev pub taken_by : Fields → Taken
taken_by fields name = is_some (found_from 0 (fields_in fields) name)

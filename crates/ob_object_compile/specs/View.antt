-- What an object stands for: no pointers, and vectors as lists. An object over the tree stands for one with the engine over the code of
-- the scheme, of whatever length: it answers the same.
use Rattle.std.specs.Prelude.{map}
use Rattle.ob_carry.specs.View.{entries_of}
use Rattle.ob_checked.specs.CheckedModule.{program_in, tree_in}
use Rattle.ob_code_correct.specs.Compiled as Compiled
use Rattle.ob_layout.specs.Layout.{parts_of}
use Rattle.ob_object_compile.specs.Asked as Asking
use Rattle.ob_object_compile.specs.Compilation.{ObjectParts}
use Rattle.ob_object_compile.specs.declared.asked_object.Asked.{Asked}
use Rattle.ob_object_compile.specs.declared.asked_object.Beginning.{Beginning}
use Rattle.ob_object_compile.specs.declared.asked_object.Beginning.TheVariants.{Body, Carried}
use Rattle.ob_object_compile.specs.declared.object.Object.{Object}
use Rattle.ob_object_compile.specs.declared.tree_object.TreeObject.{TreeObject}
use Rattle.ob_store.specs.View.{state_of}

abbrev pub beginning_of : Beginning → Asking.Beginning
beginning_of Body = Asking.ByBody
beginning_of (Carried values) = Asking.ByValues (entries_of values.now)

abbrev pub asked_of : Asked → Asking.Asked
asked_of a = record { text = a.text.now; processes = a.processes; budget = a.budget; beginning = beginning_of a.beginning }

abbrev pub object_in : Object → ObjectParts
object_in o = record {
  processes = o.processes;
  tree = tree_in o.checked;
  program = program_in o.checked;
  layout = parts_of o.layout;
  engine = o.engine.parts;
  opening = state_of o.opening;
  carried = o.carried;
}

abbrev pub tree_object_in : TreeObject → ObjectParts
tree_object_in o = record {
  processes = o.processes;
  tree = tree_in o.checked;
  program = program_in o.checked;
  layout = parts_of o.layout;
  engine = Compiled.parts_of (program_in o.checked) o.budget;
  opening = state_of o.opening;
  carried = o.carried;
}

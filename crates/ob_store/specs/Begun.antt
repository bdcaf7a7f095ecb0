-- How the module's activation was when a call began, from the writes since then.
use Rattle.std.specs.Prelude.{ℕ, List, [], ◌∷◌, Option, Some, None}
use Rattle.ob_meaning.specs.ByPositionValue as Values
use Rattle.ob_meaning.specs.ByPositionStore as Stores
use Rattle.ob_store.specs.declared.value.Value.{Value}
use Rattle.ob_store.specs.declared.before.Written.{Written}
use Rattle.ob_store.specs.declared.before.Listed.{Listed}
use Rattle.ob_store.specs.declared.before.Listed.TheVariants.{Variable, Part}
use Rattle.ob_store.specs.declared.before.Before.{Before}
use Rattle.ob_store.specs.declared.before.Before.TheVariants.{Writes, Whole}
use Rattle.ob_store.specs.declared.store.Store.{Store}
use Rattle.ob_store.specs.View.{value_in, variables_in}

-- an activation with what was behind positions of a variable put back there, if there was something
abbrev pub put_back_at : Stores.Activation → ℕ → List ℕ → Option Value → Stores.Activation
put_back_at a position path None = a
put_back_at a position path (Some was) = Stores.with_held a position path (value_in was)

-- an activation without a write: what was there before is put back
abbrev pub without : Written → Stores.Activation → Stores.Activation
without w a = Stores.with_held a w.position w.path.items (value_in w.was)

-- the same of a write as it is listed
abbrev pub without_listed : Listed → Stores.Activation → Stores.Activation
without_listed (Variable position was) a = Stores.with_held a position [] (Values.Single was)
without_listed (Part w) a = without w.value a

-- an activation without these writes, which are listed from the first to the last: the last one is taken back first
abbrev pub taken_back : List Listed → Stores.Activation → Stores.Activation
taken_back [] a = a
taken_back (w ∷ writes) a = without_listed w (taken_back writes a)

-- the activation as it was, from what it is
abbrev pub begun_by : Before → Stores.Activation → Stores.Activation
begun_by (Writes writes) a = taken_back writes.items a
begun_by (Whole begun) a = variables_in begun.items

-- the module's activation as it was when the call began
abbrev pub begun_in : Store → Stores.Activation
begun_in s = begun_by s.before (variables_in s.variables.items)

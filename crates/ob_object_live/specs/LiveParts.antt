-- An object before any call.
use Rattle.std.specs.Prelude.{◌≡◌, []}
use Rattle.ob_object_live.specs.Living.{Ground, IsAt, ground_of}
use Rattle.ob_object_live.specs.declared.live_parts.Live.{Live}
use Rattle.ob_object_compile.specs.Asked.{Asked}
use Rattle.ob_object_compile.specs.Compilation.{IsCompilation, ObjectParts}

-- what calls on an object are made on
abbrev pub ground_at : ObjectParts → Ground
ground_at o = record { program = o.program; processes = o.processes; budget = o.engine.budget; opening = o.opening; carried = o.carried }

-- nothing was called yet of the object that is asked for
pub record BeginsAt (a : Asked) (l : Live) : Type 0 where
  pub object : ObjectParts
  pub compiled : IsCompilation a object
  pub ground : ground_of l.ground ≡ ground_at object
  pub at : IsAt (ground_of l.ground) [] l

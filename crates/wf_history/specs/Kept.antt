-- What a contract sees of scalars and events that are kept.
use Rattle.std.specs.Prelude.{List}
use Rattle.ob_interface.specs.Call.{ObjectCall, Reply}
use Rattle.ob_interface.specs.declared.scalar.Scalar.{Scalar}
use Rattle.wf_history.specs.History.{Event}

-- the scalars, in order
pub record Scalars : Type 0 where
  pub items : List Scalar

-- the event
pub record KeptEvent : Type 0 where
  pub event : Event ObjectCall Reply

-- Where scalars to be looked at lie. No public clause cites this module.
use Rattle.std.specs.Prelude.{List}
use Rattle.ob_interface.specs.declared.scalar.Scalar.{Scalar}
use Rattle.wf_history.specs.declared.lent.LentPlace.{LentPlace}
use Rattle.wf_history.specs.declared.lent.LentPlace.TheVariants.{There, Two, Three}
use Rattle.wf_history.specs.Kept.{Scalars}

abbrev pub lent_items : LentPlace → List Scalar
lent_items (There items) = items.now
lent_items (Two items) = items
lent_items (Three items) = items

abbrev pub lent_from : LentPlace → Scalars
lent_from place = record { items = lent_items place }

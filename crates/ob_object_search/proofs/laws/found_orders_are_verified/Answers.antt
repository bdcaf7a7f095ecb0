use Rattle.ob_object_search.proofs.Agreed.{verified}
use Rattle.ob_object_search.proofs.laws.found_orders_are_verified.Goals as goal

pub returns : goal.returns
returns c = verified

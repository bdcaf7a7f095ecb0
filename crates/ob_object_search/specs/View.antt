-- What the program's orders of parts stand for.
use Rattle.std.specs.Prelude.{List, map}
use Rattle.ob_object_search.specs.Parted.{PartOrder}
use Rattle.ob_object_search.specs.declared.searching_parts.Part.{Part}

abbrev pub order_in : Part → PartOrder
order_in p = record { value = p.value; order = p.order.items }

abbrev pub orders_in : List Part → List PartOrder
orders_in = map order_in

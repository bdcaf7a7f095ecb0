-- The lines of parts, by the orders that they stand for.
use Rattle.std.proofs.Common.{◌≡◌, ◌++◌, List, [], ◌∷◌, ap, refl}
use Rattle.std.specs.List.{flat_map}
use Rattle.ob_answer_searches.specs.Orders.{parts_text}
use Rattle.ob_object_search.specs.View.{orders_in}
use Rattle.ob_object_search.specs.declared.searching_parts.Part.{Part}
use Rattle.ob_text_record.specs.RecordText.{order_text}

pub lines_of : (parts : List Part) → flat_map (λ part. order_text part.order.items) parts ≡ parts_text (orders_in parts)
lines_of [] = refl
lines_of (part ∷ parts) = ap (λ lines. order_text part.order.items ++ lines) (lines_of parts)

-- The parts so far.
use Rattle.std.proofs.Common.{◌≡◌, take, string_bytes}
use Rattle.std.specs.List.{flat_map}
use Rattle.ob_text_record.specs.RecordText.{order_text}
use Rattle.ob_answer_searches.proofs.orders.part_lines.Given as goal

abbrev pub invariant-loop-part : goal.invariant-loop-part
invariant-loop-part l = string_bytes l.lines ≡ flat_map (λ part. order_text part.order.items) (take l.part-index l.parts)

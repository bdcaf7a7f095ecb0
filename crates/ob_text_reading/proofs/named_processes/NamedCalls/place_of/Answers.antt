use Rattle.std.proofs.Common.{◌∙◌, sym, arith}
use Rattle.ob_text_reading.specs.Names.{known, new}
use Rattle.ob_text_reading.proofs.HistoryPlaces.{known_place, unknown_place}
use Rattle.ob_text_reading.proofs.named_processes.NamedCalls.place_of.Goals as goal

pub returns-in-Some : goal.returns-in-Some
returns-in-Some c = known (known_place _ _ _ (sym c.place_known.ensures ∙ c.in-Some.is))

pub returns-then-place-ge-MOST_DIFFERENT : goal.returns-then-place-ge-MOST_DIFFERENT
returns-then-place-ge-MOST_DIFFERENT c =
    let count = c.count-place.ensures in
    let many = c.if-place-ge-MOST_DIFFERENT.true in
    record { full = omega (arith, count, many); new = unknown_place _ _ (sym c.place_known.ensures ∙ c.in_default.is) }

pub returns : goal.returns
returns c = new c.count-place.ensures c.if-place-ge-MOST_DIFFERENT.false (unknown_place _ _ (sym c.place_known.ensures ∙ c.in_default.is))

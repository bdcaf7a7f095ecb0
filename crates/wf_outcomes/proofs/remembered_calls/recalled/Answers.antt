-- What stands at the place.
use Rattle.std.proofs.Common.{List, ap, sym, ◌∙◌}
use Rattle.std.specs.List.{slice_get}
use Rattle.wf_outcomes.specs.declared.remembered_calls.Made.{Made}
use Rattle.wf_outcomes.proofs.Making.{item_at}
use Rattle.wf_outcomes.proofs.remembered_calls.recalled.Goals as goal

pub returns : goal.returns
returns g c =
    let same = c.is_made_so.ensures c.if-not-is_made_so.false in
    let place = c.place_at-place.result in
    record {
      place = place;
      there = ap (λ (l : List (Made g.row.S.Denot)). slice_get l place) (sym c.as_slice.ensures.value)
          ∙ item_at c.as_slice.result.now place c.in-Some.made.now c.in-Some.ensures.lookup.0 c.in-Some.ensures.lookup.1;
      words = same.0;
      call_same = same.1;
    }

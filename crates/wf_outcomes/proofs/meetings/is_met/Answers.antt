-- By the configuration at the place that is marked.
use Rattle.std.proofs.Common.{ap, sym, ◌∙◌, Some, List, ℕ}
use Rattle.std.proofs.lemmas.Bool.{ltb-true}
use Rattle.std.proofs.lemmas.Option.{slice_get-get_or}
use Rattle.std.specs.List.{slice_get}
use Rattle.std.specs.Option.{option_copied}
use Rattle.wf_history.proofs.Positions.{place_of}
use Rattle.wf_outcomes.proofs.meetings.is_met.Goals as goal

pub returns : goal.returns
returns g c = λ t.
    let place = c.in-Some.place.now in
    let marks = c.as_slice.result.now in
    let lookup = c.in-Some.ensures.lookup in
    let marked = slice_get-get_or marks c.args.row place (ltb-true c.args.row _ (sym lookup.0)) ∙ ap Some (sym lookup.1) in
    let p = place_of c.args.meetings.now.places.items place (c.requires c.args.row place (ap (λ (l : List ℕ). slice_get l c.args.row) (sym c.as_slice.ensures.value) ∙ marked)) in
    record {
      row = p.0;
      place = place;
      listed = p.1;
      one = c.in-Some-get_index.one.now;
      there = sym c.get_index.ensures.key ∙ ap option_copied c.in-Some-get_index.is;
      alike = c.meets_alike.ensures t;
    }

-- What is kept at the place.
use Rattle.std.proofs.Common.{ap, sym, Some, ◌∙◌, option_map, arith}
use Rattle.std.proofs.lemmas.List.{length-map}
use Rattle.std.proofs.lemmas.Option.{slice_get-map}
use Rattle.wf_outcomes.specs.Explored.{Kept, kept_in}
use Rattle.wf_outcomes.proofs.explored.Explored.state.Goals as goal

pub index-requires : goal.index-requires
index-requires g c =
    let size = length-map c.args.self.now.seen.keys (kept_in g.O.Object.meaning) in
    let r = c.requires in
    omega (arith, size, r)

pub returns : goal.returns
returns g c =
    let view = kept_in g.O.Object.meaning in
    ap (option_map (λ (e : Kept g.O.Object.Meaning). e.here.state)) (slice_get-map view c.args.self.now.seen.keys c.args.place ∙ ap (option_map view) c.index.ensures)
    ∙ ap (λ (s : g.row.O-State.Denot). Some (g.O.Object.meaning s)) (sym c.state.ensures)

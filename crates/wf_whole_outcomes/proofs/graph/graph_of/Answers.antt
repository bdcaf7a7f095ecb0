-- One row more.
use Rattle.std.proofs.Common.{◌∙◌, ◌∷◌, [], ap, length, map, subst, sym, ℕ, Global, Option, Vec}
use Rattle.std.proofs.Math.Logic.{∥∥₁_elim, ∥∥₁_map, ∥∥₁_prop}
use Rattle.std.proofs.lemmas.List.{length-map, map-append}
use Rattle.wf_history.specs.View.{kept_call, kept_reply}
use Rattle.wf_whole_outcomes.specs.Graph.{rows_in}
use Rattle.wf_whole_outcomes.specs.declared.edges.Edge.{Edge}
use Rattle.wf_outcomes.specs.Explored.{all_kept, calls_in}
use Rattle.wf_whole_outcomes.proofs.Graphing.{narrow_push, rows_push}
use Rattle.wf_whole_outcomes.specs.OutcomeGraph.{IsRow}
use Rattle.wf_whole_outcomes.proofs.graph.graph_of.Goals as goal

pub loop-place-preserved : goal.loop-place-preserved
loop-place-preserved g c =
    let explored = c.args.explored.now in
    let effect = g.O.Object.effect explored.object.now in
    let scripts = calls_in explored.scripts.now in
    let found = all_kept g.O.Object.meaning explored.seen in
    let now = c.loop-place in
    let row = c.in_ok-row_of.field-0 in
    let said = c.in_ok-row_of.ensures in
    let after = map kept_reply c.row_of.new.replies.items in
    let size = length-map explored.scripts.now (λ s. map kept_call s.items) in
    let pushed = ap rows_in c.in_ok-push.ensures.items ∙ map-append (λ (r : Vec (Option Edge) Global). r.items) now.rows.items (row ∷ []) in
    record {
      rows = ∥∥₁_elim now.invariant.rows ∥∥₁_prop (λ h. ∥∥₁_map said.row (λ r.
          rows_push effect scripts found (map kept_reply now.replies.items) after said.more now.place (rows_in now.rows.items) h row.items
          (subst (λ (n : ℕ). IsRow effect scripts found after now.place n row.items) (sym size) r) (rows_in c.push.new.self.items) pushed));
      narrow = narrow_push (rows_in now.rows.items) (length explored.scripts.now) now.invariant.narrow row.items said.size (rows_in c.push.new.self.items) pushed;
      apart = said.apart;
    }

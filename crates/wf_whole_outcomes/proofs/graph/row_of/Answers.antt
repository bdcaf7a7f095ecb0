-- One edge more.
use Rattle.std.proofs.Common.{◌∙◌, ◌∷◌, [], ap, arith, length, map}
use Rattle.std.proofs.Math.Logic.{∥∥₁_elim, ∥∥₁_map, ∥∥₁_prop}
use Rattle.std.proofs.lemmas.List.{length-append}
use Rattle.wf_history.specs.View.{kept_reply}
use Rattle.wf_whole_outcomes.proofs.Advancing.{goes_both}
use Rattle.wf_outcomes.specs.Explored.{all_kept, calls_in}
use Rattle.wf_whole_outcomes.proofs.Graphing.{row_push}
use Rattle.wf_whole_outcomes.proofs.graph.row_of.Goals as goal

pub loop-process-preserved : goal.loop-process-preserved
loop-process-preserved g c =
    let explored = c.args.explored.now in
    let now = c.loop-process in
    let edge = c.in_ok-edge_of.field-0 in
    let said = c.in_ok-edge_of.ensures in
    let pushed = c.in_ok-push.ensures.items in
    let size = now.invariant.size in
    let longer = ap length pushed ∙ length-append now.row.items (edge ∷ []) in
    record {
      row = ∥∥₁_elim now.invariant.row ∥∥₁_prop (λ h. ∥∥₁_map said.edge (λ says.
          row_push (g.O.Object.effect explored.object.now) (calls_in explored.scripts.now) (all_kept g.O.Object.meaning explored.seen) (map kept_reply now.replies.items) (map kept_reply c.edge_of.new.replies.items) said.more
          c.args.place now.process now.row.items h edge says c.push.new.self.items pushed));
      size = omega (arith, size, longer);
      apart = said.apart;
      more = goes_both (map kept_reply c.args.replies.now.items) (map kept_reply now.replies.items) (map kept_reply c.edge_of.new.replies.items) now.invariant.more said.more;
    }

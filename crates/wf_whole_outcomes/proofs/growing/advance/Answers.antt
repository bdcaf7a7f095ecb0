-- One step, by the edge that there is.
use Rattle.std.proofs.Common.{◌≡◌, ◌∙◌, refl, sym, ap, subst, ℕ, List, Some, arith}
use Rattle.std.specs.List.{slice_get}
use Rattle.std.proofs.lemmas.List.Elements.{All-contains}
use Rattle.wf_history.proofs.Positions.{contains_at}
use Rattle.wf_whole_outcomes.specs.Graph.{GoesOn, rows_in}
use Rattle.wf_whole_outcomes.specs.Nodes.{AreLists, AreNodes, IsNode, lists_in}
use Rattle.wf_whole_outcomes.specs.declared.nodes.Lists.{Lists}
use Rattle.wf_whole_outcomes.specs.declared.nodes.Node.{Node}
use Rattle.wf_whole_outcomes.proofs.Advancing.{goes_nowhere, none_tried, one_tried}
use Rattle.wf_whole_outcomes.proofs.Noding.{nodes_kept}
use Rattle.wf_whole_outcomes.proofs.growing.advance.Goals as goal

-- what a layer says of one of its nodes
one_of : (lists : List (List ℕ)) (processes : ℕ) (nodes : List Node) (k : ℕ) (node : Node) → slice_get nodes k ≡ Some node → AreNodes lists processes nodes → IsNode lists processes node
one_of lists processes nodes k node at h = All-contains (IsNode lists processes) nodes node h (contains_at nodes k node at)

pub node_on-requires-clause-process : goal.node_on-requires-clause-process
node_on-requires-clause-process c =
    let is = one_of (lists_in c.args.growing.now.lists) c.args.ground.now.processes c.args.layer.now.keys c.args.came.from c.index-node.result.now c.index-node.ensures c.requires.grown.before in
    let size = is.size in
    let by = c.requires.by in
    omega (arith, size, by)

pub node_on-requires-clause-node : goal.node_on-requires-clause-node
node_on-requires-clause-node c =
    let is = one_of (lists_in c.args.growing.now.lists) c.args.ground.now.processes c.args.layer.now.keys c.args.came.from c.index-node.result.now c.index-node.ensures c.requires.grown.before in
    record { size = refl; within = is.within }

pub arrive-requires-clause-apart : goal.arrive-requires-clause-apart
arrive-requires-clause-apart c = c.in_ok-there.ensures.lists.apart

pub arrive-requires-clause-nodes : goal.arrive-requires-clause-nodes
arrive-requires-clause-nodes c =
    let g = c.args.growing.now in
    let processes = c.args.ground.now.processes in
    let is = one_of (lists_in g.lists) processes c.args.layer.now.keys c.args.came.from c.index-node.result.now c.index-node.ensures c.requires.grown.before in
    let more = lists_in c.node_on.new.lists in
    subst (λ (n : ℕ). AreNodes more n g.layer.keys) (sym (c.in_ok-there.ensures.node.size ∙ is.size))
    (nodes_kept (lists_in g.lists) more c.in_ok-there.ensures.more processes g.layer.keys c.requires.grown.nodes)

pub arrive-requires-clause-node : goal.arrive-requires-clause-node
arrive-requires-clause-node c = record { size = refl; within = c.in_ok-there.ensures.node.within }

pub returns-in_default-clause-grown : goal.returns-in_default-clause-grown
returns-in_default-clause-grown c =
    none_tried (rows_in c.args.ground.now.rows.now) c.args.ground.now.processes c.args.layer.now.keys c.args.came.from c.args.came.by c.args.growing.now c.requires.grown c.index-node.result.now c.index-node.ensures
    (sym c.known_edge.ensures ∙ c.in_default.is)

pub returns-in_default-clause-more : goal.returns-in_default-clause-more
returns-in_default-clause-more c = goes_nowhere (lists_in c.args.growing.now.lists)

pub returns-clause-grown : goal.returns-clause-grown
returns-clause-grown c =
    let g = c.args.growing.now in
    let processes = c.args.ground.now.processes in
    let node = c.index-node.result.now in
    let is = one_of (lists_in g.lists) processes c.args.layer.now.keys c.args.came.from node c.index-node.ensures c.requires.grown.before in
    let more = lists_in c.node_on.new.lists in
    let there = c.in_ok-there.there in
    one_tried (rows_in c.args.ground.now.rows.now) processes c.args.layer.now.keys c.args.came.from c.args.came.by g c.requires.grown node c.index-node.ensures c.in-Some.edge (sym c.known_edge.ensures ∙ c.in-Some.is) is more
    c.in_ok-there.ensures.more there c.in_ok-there.ensures.spot c.arrive.new.growing
    (subst (λ (l : Lists). AreLists l) (sym c.in_ok-arrive.ensures.lists) c.in_ok-there.ensures.lists) (ap lists_in c.in_ok-arrive.ensures.lists)
    (subst (λ (n : ℕ). AreNodes more n c.arrive.new.growing.layer.keys) (c.in_ok-there.ensures.node.size ∙ is.size) c.in_ok-arrive.ensures.nodes) c.in_ok-arrive.ensures.arrived

pub returns-clause-more : goal.returns-clause-more
returns-clause-more c = subst (λ l. GoesOn (lists_in c.args.growing.now.lists) (lists_in l)) (sym c.in_ok-arrive.ensures.lists) c.in_ok-there.ensures.more

-- It is there already, or it is one more.
use Rattle.std.proofs.Common.{refl, inl, inr, length}
use Rattle.std.specs.List.{list_any}
use Rattle.wf_whole_outcomes.specs.Nodes.{lists_in}
use Rattle.wf_whole_outcomes.proofs.Noding.{new_node, node_eq, nodes_after, old_node, when_not, when_so}
use Rattle.wf_whole_outcomes.proofs.growing.arrive.Goals as goal

pub returns-then-not-branch-clause-nodes : goal.returns-then-not-branch-clause-nodes
returns-then-not-branch-clause-nodes c =
    nodes_after (lists_in c.args.growing.now.lists) c.requires.apart (length c.args.node.told.items) c.args.growing.now.layer.keys c.args.node c.requires.nodes c.requires.node c.insert.new.self.keys c.in_ok-insert.ensures.keys

pub returns-then-not-branch-clause-arrived : goal.returns-then-not-branch-clause-arrived
returns-then-not-branch-clause-arrived c =
    let keys = c.args.growing.now.layer.keys in
    let there = when_not c.in_ok-insert.field-0 (list_any (node_eq c.args.node) keys) c.in_ok-insert.ensures.added c.if-not-branch.true in
    let r = old_node (lists_in c.args.growing.now.lists) c.requires.apart (length c.args.node.told.items) keys c.args.node c.requires.nodes c.requires.node c.insert.new.self.keys c.in_ok-insert.ensures.keys there in
    inl (r.0, r.1, refl)

pub returns-clause-nodes : goal.returns-clause-nodes
returns-clause-nodes c =
    nodes_after (lists_in c.args.growing.now.lists) c.requires.apart (length c.args.node.told.items) c.args.growing.now.layer.keys c.args.node c.requires.nodes c.requires.node c.insert.new.self.keys c.in_ok-insert.ensures.keys

pub returns-clause-arrived : goal.returns-clause-arrived
returns-clause-arrived c =
    let keys = c.args.growing.now.layer.keys in
    let fresh = when_so c.in_ok-insert.field-0 (list_any (node_eq c.args.node) keys) c.in_ok-insert.ensures.added c.if-not-branch.false in
    let r = new_node (lists_in c.args.growing.now.lists) c.requires.apart (length c.args.node.told.items) keys c.args.node c.requires.nodes c.requires.node c.insert.new.self.keys c.in_ok-insert.ensures.keys fresh in
    inr (r.0, r.1, c.in_ok-push.ensures.items)

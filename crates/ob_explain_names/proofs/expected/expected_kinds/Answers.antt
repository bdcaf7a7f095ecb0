use Rattle.std.proofs.Common.{List, [], subst, sym, ap, ◌∙◌, Vec, Global}
use Rattle.std.proofs.lemmas.Bool.{false≢true}
use Rattle.ob_scan.specs.declared.token.Kind.{Kind}
use Rattle.ob_explain_names.specs.Expected.{Expected, none}
use Rattle.ob_explain_names.proofs.Tried.{one_tried, none_tried}
use Rattle.ob_explain_names.proofs.expected.expected_kinds.Goals as goal
use Rattle.ob_explain_names.proofs.expected.expected_kinds.Goals.{then-branch+in_ok-push, else-branch}

pub loop-kind-init : goal.loop-kind-init
loop-kind-init c = subst (λ (e : List Kind). Expected c.args.text.now c.args.at [] e) (sym c.new-expected.ensures.items) none

pub loop-kind-preserved : goal.loop-kind-preserved
loop-kind-preserved c =
    elim c.if-branch.branch [
      | then-branch+in_ok-push w ↦
          one_tried _ c.loop-kind.kind-index _ c.loop-kind.expected.items c.if-branch.expected.items c.loop-kind-test.true c.loop-kind.invariant
          (c.in_ok-is_expected.ensures.0 w.if-branch.true) (ap (λ (v : Vec Kind Global). v.items) w.expected-is ∙ w.in_ok-push.ensures.items)
      | else-branch w ↦
          none_tried _ c.loop-kind.kind-index _ c.loop-kind.expected.items c.if-branch.expected.items c.loop-kind-test.true c.loop-kind.invariant
          (λ is. false≢true (sym w.if-branch.false ∙ c.in_ok-is_expected.ensures.1 is)) (ap (λ (v : Vec Kind Global). v.items) w.expected-is)
    ]

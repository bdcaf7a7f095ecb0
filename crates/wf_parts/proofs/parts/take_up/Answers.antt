use Rattle.std.proofs.Common.{◌++◌, ◌∷◌, [], ◌∙◌, sym, subst}
use Rattle.ob_interface.specs.Call.{ObjectCall, Reply}
use Rattle.wf_history.specs.History.{Event}
use Rattle.wf_parts.proofs.Splitting.{split_stays}
use Rattle.wf_parts.specs.Split.{AreSplit, IsNext}
use Rattle.wf_parts.specs.SplitView.{split_in}
use Rattle.wf_parts.proofs.parts.take_up.Goals as goal

pub returns-in_ok-begin-in-Begin-clause-split : goal.returns-in_ok-begin-in-Begin-clause-split
returns-in_ok-begin-in-Begin-clause-split c = λ all front s n.
    subst (λ (e : Event ObjectCall Reply). AreSplit all c.args.by (front ++ e ∷ []) (split_in c.begin.new.self)) c.in-Begin.ensures
    (c.in_ok-begin-in-Begin.ensures all front c.args.by s (subst (λ (e : Event ObjectCall Reply). IsNext all front e) (sym c.in-Begin.ensures) n) (sym c.argument_at.ensures ∙ c.in-Some.is))

pub returns-in-Applied-clause-split : goal.returns-in-Applied-clause-split
returns-in-Applied-clause-split c = λ all front s n.
    subst (λ (e : Event ObjectCall Reply). AreSplit all c.args.by (front ++ e ∷ []) (split_in c.args.split.now)) c.in-Applied.ensures
    (split_stays all c.args.by front c.in-Applied.field-0.now (split_in c.args.split.now) s (subst (λ (e : Event ObjectCall Reply). IsNext all front e) (sym c.in-Applied.ensures) n))

pub returns-in_ok-end-in-End-clause-split : goal.returns-in_ok-end-in-End-clause-split
returns-in_ok-end-in-End-clause-split c = λ all front s n.
    subst (λ (e : Event ObjectCall Reply). AreSplit all c.args.by (front ++ e ∷ []) (split_in c.end.new.self)) c.in-End.ensures
    (c.in_ok-end-in-End.ensures all front c.args.by s (subst (λ (e : Event ObjectCall Reply). IsNext all front e) (sym c.in-End.ensures) n))

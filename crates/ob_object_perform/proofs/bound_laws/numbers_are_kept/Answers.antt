use Rattle.ob_object_perform.proofs.bound_laws.numbers_are_kept.Goals as goal

pub returns : goal.returns
returns c = λ o block scripts items r h first rest split p q at. record {
  outside = (c.runs_keep_bound.ensures.moments o.engine o.processes block scripts items r h first rest split p q at).promised;
  total = (c.runs_keep_total.ensures o.engine o.processes block scripts items r h first rest split p q at).total;
}

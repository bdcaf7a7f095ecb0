use Rattle.wf_play.proofs.Items.{one_run}
use Rattle.wf_play.proofs.laws.items_stand_for_one_run.Goals as goal

pub returns-clause-items : goal.returns-clause-items
returns-clause-items g c e z limit items s after another steps others h h' = one_run (g.E.Engine.meaning e) z limit items s after another steps others h h'

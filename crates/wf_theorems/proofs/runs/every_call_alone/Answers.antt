use Rattle.wf_history.specs.Legal.{HasBegun}
use Rattle.wf_table.proofs.Alone.{one_end, end_is_effect, made_alone}
use Rattle.wf_theorems.proofs.runs.every_call_alone.Goals as goal

pub returns-clause-one_end : goal.returns-clause-one_end
returns-clause-one_end g c = λ e call before after other words others ends again. one_end (g.E.Engine.meaning e) call before after other words others ends again

pub returns-clause-effect : goal.returns-clause-effect
returns-clause-effect g c = λ e call before after words lawful fits ends.
    let i = g.E.Engine in end_is_effect (i.meaning e) (i.lawful e) (i.fits e) (i.ready e) (i.effect e) (g.met.E.Engine.law e) call before after words lawful fits ends

pub returns-clause-effects : goal.returns-clause-effects
returns-clause-effects g c = λ e history before after ids answers fit lawful made.
    let i = g.E.Engine in
    made_alone (i.meaning e) (i.lawful e) (i.fits e) (i.ready e) (i.effect e) (g.met.E.Engine.law e) (HasBegun history) fit before after ids answers lawful made

-- The call is put there.
use Rattle.std.proofs.Common.{Some, None, arith}
use Rattle.std.proofs.lemmas.List.{get_or-set_same}
use Rattle.wf_order.specs.declared.made_calls.MadeCall.{MadeCall}
use Rattle.wf_order.proofs.made_calls.make_at.Goals as goal

pub returns-clause-there : goal.returns-clause-there
returns-clause-there g c =
    let row = c.args.row in
    let made : MadeCall g.row.O-State.Denot = record { words = c.in_ok-words.words; call = c.args.call; state = c.in_ok-state.state; reply = c.in_ok-state.reply } in
    let within = c.requires.within in
    let whole = c.requires.made.whole in
    record { made = made; at = get_or-set_same c.args.calls.now.rows.items row (Some made) None (omega (arith, within, whole)); effect = c.in_ok-state.ensures }

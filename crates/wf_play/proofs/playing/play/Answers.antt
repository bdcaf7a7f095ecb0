use Rattle.std.proofs.Common.{inl, inr}
use Rattle.std.proofs.lemmas.Result.{err_from_is_err_and}
use Rattle.ob_text_words.specs.ScriptCalls.{script_call_of}
use Rattle.wf_play.specs.ItemSteps.{HasPlayed}
use Rattle.wf_play.specs.Played.{IsItemFault, most_steps, scripts_of}
use Rattle.wf_play.proofs.Plays.{at_least_one, at_most, is_fault, is_played, of_started}
use Rattle.std.specs.Prelude.{map}
use Rattle.wf_play.proofs.playing.play.Goals as goal

pub returns-in_err-play_items-clause-fault : goal.returns-in_err-play_items-clause-fault
returns-in_err-play_items-clause-fault g c =
    let e = g.E.Engine in
    let engine = c.args.engine in
    let n = c.args.n in
    let start = c.in_ok-machine.machine in
    let before = c.submit_all.new.machine in
    let scripts = scripts_of (map script_call_of c.args.calls.items) in
    let fault = c.in_err-play_items.field-0.0 in
    let p = err_from_is_err_and c.from_residual-in_err-play_items.result c.from_residual-in_err-play_items.ensures.1 in
    rw (p.1, p.2)
    (is_fault (e.meaning engine) (e.lawful engine) (e.fits engine) (e.ready engine) n c.args.opening.now scripts c.args.items.now start.state fault c.in_ok-machine.ensures.state
    (of_started e.meaning (λ x z s. IsItemFault (e.meaning x) z most_steps c.args.items.now s fault) engine n scripts start before c.in_ok-machine.ensures.engine c.in_ok-machine.ensures.sizes c.in_ok-submit_all.ensures.object c.in_ok-submit_all.ensures.state c.in_err-play_items.ensures.fault))

pub returns-clause-played : goal.returns-clause-played
returns-clause-played g c =
    let e = g.E.Engine in
    let engine = c.args.engine in
    let n = c.args.n in
    let start = c.in_ok-machine.machine in
    let before = c.submit_all.new.machine in
    let after = c.play_items.new.machine in
    let scripts = scripts_of (map script_call_of c.args.calls.items) in
    let h = c.in_ok-machine.ensures.processes in
    is_played (e.meaning engine) (e.lawful engine) (e.fits engine) (e.ready engine) n c.args.opening.now c.args.calls.items c.args.items.now start.state after.state (at_least_one n (λ none. let both = h.1 (inl none) in absurd (cc))) (at_most n 16 (λ many. let both = h.1 (inr many) in absurd (cc))) c.requires.opening c.requires.fits c.in_ok-machine.ensures.state
    (of_started e.meaning (λ x z s. HasPlayed (e.meaning x) z most_steps c.args.items.now s after.state) engine n scripts start before c.in_ok-machine.ensures.engine c.in_ok-machine.ensures.sizes c.in_ok-submit_all.ensures.object c.in_ok-submit_all.ensures.state c.in_ok-play_items.ensures.played)

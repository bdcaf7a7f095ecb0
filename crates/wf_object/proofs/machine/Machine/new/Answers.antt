use Rattle.std.proofs.Common.{rules, ◌≡◌, ◌<◌, ◌≤◌, replicate, arith}
use Rattle.wf_table.specs.declared.process.Sizes.{Sizes}
use Rattle.wf_table.proofs.StartSound.{few_words}
use Rattle.wf_table.specs.Spent.{unspent}
use Rattle.wf_object.proofs.Keeps.{start_kept}
use Rattle.wf_object.proofs.machine.Machine.new.Goals as goal

pub idle-requires : goal.idle-requires
idle-requires g c =
    let e = g.E.Engine in
    record { sized = few_words (e.meaning c.args.engine) (e.lawful c.args.engine) (e.fits c.args.engine) (e.ready c.args.engine) (e.effect c.args.engine) (g.met.E.Engine.law c.args.engine) (record { processes = c.args.n; variables = c.variable_words.result; replies = c.reply_words.result; arguments = c.announce_words.result }) (omega arith) (omega arith) c.variable_words.ensures c.reply_words.ensures c.announce_words.ensures }

pub invariant_of-result : goal.invariant_of-result
invariant_of-result g c =
    let e = g.E.Engine in
    let law = g.met.E.Engine.law c.args.engine in
    let z : Sizes = record { processes = c.args.n; variables = c.variable_words.result; replies = c.reply_words.result; arguments = c.announce_words.result } in
    let some : 0 < c.args.n = omega arith in
    let few : c.args.n ≤ 16 = omega arith in
    let sized = few_words (e.meaning c.args.engine) (e.lawful c.args.engine) (e.fits c.args.engine) (e.ready c.args.engine) (e.effect c.args.engine) law z few some c.variable_words.ensures c.reply_words.ensures c.announce_words.ensures in
    let opening : c.in_ok-opening.opening.items ≡ c.args.block.now = search rules in
    let spent : c.in_ok-spent.spent.items ≡ replicate c.args.n unspent = search rules in
    rw (spent, opening, c.in_ok-shared.ensures.cell, c.in-Ok-Ok.ensures')
    (start_kept (e.meaning c.args.engine) (e.lawful c.args.engine) (e.fits c.args.engine) (e.ready c.args.engine) (e.effect c.args.engine) law z c.args.block.now c.in-Ok-Ok.processes.items c.in_ok-shared.shared.form c.in_ok-shared.ensures.form c.requires sized c.variable_words.ensures c.reply_words.ensures c.announce_words.ensures c.in-Ok-Ok.ensures.count c.in-Ok-Ok.ensures.idle)

pub returns-clause-state : goal.returns-clause-state
returns-clause-state g c =
    rw (← c.variable_words.ensures, ← c.reply_words.ensures, ← c.announce_words.ensures)
    (record { cell = c.in_ok-shared.ensures.cell; count = c.in-Ok-Ok.ensures.count; idle = c.in-Ok-Ok.ensures.idle; records = c.in-Ok-Ok.ensures' })

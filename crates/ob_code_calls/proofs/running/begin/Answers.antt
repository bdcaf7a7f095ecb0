use Rattle.std.proofs.Common.{◌∙◌, ℕ, List, ap, arith, length}
use Rattle.ob_code_calls.specs.Calls.{asked, meaning_of}
use Rattle.ob_code_calls.proofs.Arguments.{has_room_for, is_within}
use Rattle.ob_code_calls.proofs.running.begin.Goals as goal
use Rattle.ob_code_correct.specs.CodeMeaning.{Entrance, laid}

pub lay-requires-clause-number : goal.lay-requires-clause-number
lay-requires-clause-number c =
    let within = is_within c.args.engine.now.parts (asked c.args.proc c.args.arguments.now) c.requires.fits in
    let same = ap (λ (es : List Entrance). length es) c.exports-exports.ensures in
    omega (arith, within, same)

pub lay-requires-clause-room : goal.lay-requires-clause-room
lay-requires-clause-room c =
    let room = has_room_for c.args.engine.now.parts (asked c.args.proc c.args.arguments.now) c.requires.fits in
    omega (arith, room, c.requires.room)

pub returns-clause-begun : goal.returns-clause-begun
returns-clause-begun c =
    let call = asked c.args.proc c.args.arguments.now in
    c.start.ensures ∙ ap (meaning_of c.args.engine.now.parts).start (c.lay.ensures ∙ ap (λ (n : ℕ). laid n call) c.requires.room)

-- As it is remembered, or as it is made now.
use Rattle.std.proofs.Math.Logic.{∥∥₁_map}
use Rattle.ob_interface.specs.View.{reply_of}
use Rattle.wf_outcomes.proofs.Making.{recalled_reply}
use Rattle.wf_outcomes.proofs.remembered_calls.reply_to.Goals as goal

pub returns-in-Some : goal.returns-in-Some
returns-in-Some g c =
    ∥∥₁_map c.requires.memory (λ are. recalled_reply g.O.Object.meaning g.O.Object.words_of (g.O.Object.effect c.args.task.now.object.now) (λ a b. g.met.O.Object.told_apart a b) c.args.memory.now.made.items are c.args.before.now c.requires.before c.args.call.now
    c.in-Some.made.now c.in-Some.ensures (reply_of c.in_ok-known.known) c.in_ok-known.ensures)

pub returns : goal.returns
returns g c = ∣ (g.O.Object.meaning c.in_ok-reply.field-0-0, c.in_ok-reply.ensures) ∣₁

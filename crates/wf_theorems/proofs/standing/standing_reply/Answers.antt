use Rattle.std.proofs.Common.{◌<◌, sym, subst}
use Rattle.wf_table.specs.declared.process.Label.{Label}
use Rattle.wf_table.specs.HelpAndOrder.{announced_call}
use Rattle.wf_table.proofs.HelpAndOrderRuns.{founded}
use Rattle.wf_table.specs.Stands.{words_taken}
use Rattle.wf_table.proofs.Since.{from_order}
use Rattle.wf_table.proofs.Keeps.{told}
use Rattle.wf_table.proofs.StandingLaws.{standing_reply}
use Rattle.wf_table.proofs.Answered.{call_words}
use Rattle.wf_theorems.proofs.standing.standing_reply.Goals as goal

pub returns-clause-stands : goal.returns-clause-stands
returns-clause-stands g c = λ e n opening acts more s k b i leads fit lt inside place applied same stands.
    let j = g.E.Engine in standing_reply (j.meaning e) (j.lawful e) (j.fits e) (j.ready e) (j.effect e) (g.met.E.Engine.law e) n opening acts more s k b i leads fit lt inside place applied same stands

pub returns-clause-announced : goal.returns-clause-announced
returns-clause-announced g c = λ e z opening s k sound committed lt applied.
    let j = g.E.Engine in
    told z s.cell s.processes s.records (founded (j.meaning e) (j.lawful e) (j.fits e) (j.ready e) z opening s sound) committed.helpful committed.ordered k lt (from_order z s.cell.root s.records sound.marks (announced_call s.processes k) applied)

pub returns-clause-given : goal.returns-clause-given
returns-clause-given g c = λ z s p x q h at is lt. (h.carried p q at).taken x (subst (λ (l : Label). x < words_taken z l q.registers.i) (sym is) lt)

pub returns-clause-of_call : goal.returns-clause-of_call
returns-clause-of_call g c = λ e z opening s k i x holds committed lt few here.
    let j = g.E.Engine in call_words (j.meaning e) (j.lawful e) z opening s.cell s.processes s.records holds k i x committed.helpful committed.ordered lt few here

use Rattle.wf_table.proofs.HelpLaws.{serves_open, makes_another}
use Rattle.wf_theorems.proofs.help.help.Goals as goal

pub returns-clause-whole : goal.returns-clause-whole
returns-clause-whole g c = λ e z opening s p q sound committed helped at is linked.
    let i = g.E.Engine in serves_open (i.meaning e) (i.lawful e) (i.fits e) z opening s helped p q at (i.ready e) (i.effect e) (g.met.E.Engine.law e) sound committed is linked

pub returns-clause-another : goal.returns-clause-another
returns-clause-another g c = λ e z opening s p q helped at is.
    let i = g.E.Engine in makes_another (i.meaning e) (i.lawful e) (i.fits e) z opening s helped p q at is

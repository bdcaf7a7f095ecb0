use Rattle.wf_table.proofs.HelpedCalls.{served_whole, served_open, served_new, served_wanted}
use Rattle.wf_theorems.proofs.exchanges.served_call.Goals as goal

pub returns-clause-whole : goal.returns-clause-whole
returns-clause-whole g c = λ e z opening s p q o sound committed serves.
    let i = g.E.Engine in
    served_whole (i.meaning e) (i.lawful e) (i.fits e) (i.ready e) (i.effect e) (g.met.E.Engine.law e) z opening s p q o sound committed serves

pub returns-clause-is_open : goal.returns-clause-is_open
returns-clause-is_open g c = λ e z opening s p q o sound committed serves.
    let i = g.E.Engine in
    served_open (i.meaning e) (i.lawful e) (i.fits e) (i.ready e) (i.effect e) (g.met.E.Engine.law e) z opening s p q o sound committed serves

pub returns-clause-is_new : goal.returns-clause-is_new
returns-clause-is_new g c = λ e z opening s p q o sound committed serves.
    let i = g.E.Engine in
    served_new (i.meaning e) (i.lawful e) (i.fits e) (i.ready e) (i.effect e) (g.met.E.Engine.law e) z opening s p q o sound committed serves

pub returns-clause-wanted : goal.returns-clause-wanted
returns-clause-wanted g c = λ e z opening s p q o sound committed serves.
    let i = g.E.Engine in
    served_wanted (i.meaning e) (i.lawful e) (i.fits e) (i.ready e) (i.effect e) (g.met.E.Engine.law e) z opening s p q o sound committed serves

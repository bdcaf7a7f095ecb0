use Rattle.wf_table.proofs.Copied.{copied}
use Rattle.wf_theorems.proofs.runs.every_copy.Goals as goal

pub returns : goal.returns
returns g c = λ e z opening s p sound is leads.
    let i = g.E.Engine in copied (i.meaning e) (i.lawful e) (i.fits e) (i.ready e) z opening s p sound is leads

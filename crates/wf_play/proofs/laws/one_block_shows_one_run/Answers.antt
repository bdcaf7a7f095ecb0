use Rattle.wf_play.proofs.Starts.{one_cell, one_record}
use Rattle.wf_play.proofs.laws.one_block_shows_one_run.Goals as goal

pub returns-clause-cell : goal.returns-clause-cell
returns-clause-cell g c e n opening scripts items s other h h' =
    let x = g.E.Engine in
    one_cell (x.meaning e) (x.ready e) n opening scripts (x.lawful e) (x.fits e) items s other h h'

pub returns-clause-records : goal.returns-clause-records
returns-clause-records g c e n opening scripts items s other h h' =
    let x = g.E.Engine in
    one_record (x.meaning e) (x.ready e) n opening scripts (x.lawful e) (x.fits e) items s other h h'

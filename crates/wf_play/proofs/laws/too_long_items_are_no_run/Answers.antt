use Rattle.wf_play.proofs.Starts.{too_long_no_run}
use Rattle.wf_play.proofs.laws.too_long_items_are_no_run.Goals as goal

pub returns : goal.returns
returns g c e n number opening scripts items s long played =
    let x = g.E.Engine in
    too_long_no_run (x.meaning e) (x.ready e) n opening scripts (x.lawful e) (x.fits e) items number s long played

use Rattle.std.proofs.Common.{All, Global, Vec, subst, sym}
use Rattle.std.specs.Prelude.{slice_index_or}
use Rattle.ob_desk_floor.specs.declared.submission.Submission.{Submission}
use Rattle.ob_interface.specs.View.{call_of}
use Rattle.ob_desk_floor.proofs.desk.Desk.open.Goals as goal

pub sharing-requires-clause-opening : goal.sharing-requires-clause-opening
sharing-requires-clause-opening g c =
    let same = g.met.E.CodedEngine.same c.args.engine c.in_ok-own.own (sym c.in_ok-own.ensures) in
    same.lawful_too c.args.opening.words.items c.requires.opening

pub sharing-requires-clause-fits : goal.sharing-requires-clause-fits
sharing-requires-clause-fits g c =
    let same = g.met.E.CodedEngine.same c.args.engine c.in_ok-own.own (sym c.in_ok-own.ensures) in
    subst (λ (v : Vec Submission Global). All (λ (x : Submission). g.E.Engine.fits c.in_ok-own.own (call_of x.call)) v.items) (sym c.in_ok-scripts.ensures.ok)
    (λ k d lt. same.fits_too (call_of (slice_index_or c.args.scripts.items k d).call) (c.requires.fits k d lt))

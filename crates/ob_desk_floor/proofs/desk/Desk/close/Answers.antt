use Rattle.std.proofs.Common.{subst}
use Rattle.std.proofs.lemmas.Result.{IfErr-weaker}
use Rattle.ob_desk_floor.specs.Close.{IsCloseFault}
use Rattle.ob_desk_floor.specs.Desk.{Terms, desk_in}
use Rattle.ob_desk_floor.proofs.desk.Desk.close.Goals as goal

pub returns-clause-fault : goal.returns-clause-fault
returns-clause-fault g c =
    let code = g.E.CodedEngine.code in
    let f = c.into_inner-floor.result in
    IfErr-weaker c.settle.result _ _
    (λ e tells. record {
      floor = f;
      is_floor = c.machine.ensures.floor;
      tells = subst (λ (t : Terms _). IsCloseFault code (desk_in code t) f c.args.seats.now e) c.self.view_is tells;
    })
    c.settle.ensures.fault

use Rattle.std.proofs.Common.{ℕ, ◌<◌, All, refl, subst, sym}
use Rattle.wf_object.specs.View.{Object}
use Rattle.ob_desk_floor.specs.Close.{AgreeAt, AreSeats, IsClosed}
use Rattle.ob_desk_floor.specs.Desk.{desk_in}
use Rattle.ob_desk_floor.specs.Agreeing.{Agrees}
use Rattle.ob_desk_floor.proofs.Closes.{all_agree, closed}
use Rattle.ob_desk_floor.proofs.closing.settle.Goals as goal

pub returns-clause-machine : goal.returns-clause-machine
returns-clause-machine g c =
    let i = g.E.Engine in
    let code = g.E.CodedEngine.code in
    let d = desk_in code c.args.terms.now in
    let f = c.args.floor in
    subst (IsClosed code i.meaning i.lawful i.fits i.ready d) (sym c.into_machine.ensures.machine)
    (closed code i.meaning i.lawful i.fits i.ready d f c.into_machine.ensures.floor (c.if-not-is_of.ensures.yes refl))

pub returns-clause-agree : goal.returns-clause-agree
returns-clause-agree g c =
    let i = g.E.Engine in
    let code = g.E.CodedEngine.code in
    let d = desk_in code c.args.terms.now in
    let f = c.args.floor in
    let seats = c.args.seats.now in
    let are : AreSeats d seats = record { own = c.in_default.ensures.none; each = c.in_default-first_uneven.ensures.none } in
    let each : (p : ℕ) → p < f.machine.sizes.processes → AgreeAt f seats p = c.in_default-first_apart.ensures.none in
    subst (λ (m : Object _ _). All (Agrees m.state.records.history m.state.records.schedule) seats) (sym c.into_machine.ensures.machine)
    (all_agree code i.meaning i.lawful i.fits i.ready d f c.into_machine.ensures.floor (c.if-not-is_of.ensures.yes refl) seats are each)

pub returns-clause-seats : goal.returns-clause-seats
returns-clause-seats g c = record { own = c.in_default.ensures.none; each = c.in_default-first_uneven.ensures.none }

pub returns-in-Some-first_apart-clause-fault : goal.returns-in-Some-first_apart-clause-fault
returns-in-Some-first_apart-clause-fault g c = (
  record { own = c.in_default.ensures.none; each = c.in_default-first_uneven.ensures.none },
  c.if-not-is_of.ensures.yes refl,
  c.in-Some-first_apart.ensures.some,
)

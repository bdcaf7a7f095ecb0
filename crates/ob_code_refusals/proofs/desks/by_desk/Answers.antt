-- The machine of a desk is one of the object.
use Rattle.std.proofs.Common.{◌<◌, ℕ, ap, subst, sym}
use Rattle.ob_code_correct.specs.CodeMeaning.{EngineParts}
use Rattle.ob_desk_floor.specs.Desk.{Desk}
use Rattle.ob_desk_serve.proofs.Closed.{IsClosed}
use Rattle.wf_table.specs.declared.process.Sizes.{Sizes}
use Rattle.ob_code_refusals.proofs.desks.by_desk.Goals as goal

pub add_record-requires-clause-code : goal.add_record-requires-clause-code
add_record-requires-clause-code g c = (subst (λ (d : Desk EngineParts). IsClosed d c.in_ok-machine.machine) c.in_ok-desk.ensures.desk c.in_ok-machine.ensures.machine).code_is

pub add_record-requires-clause-opening : goal.add_record-requires-clause-opening
add_record-requires-clause-opening g c = (subst (λ (d : Desk EngineParts). IsClosed d c.in_ok-machine.machine) c.in_ok-desk.ensures.desk c.in_ok-machine.ensures.machine).opening

pub add_record-requires-clause-some : goal.add_record-requires-clause-some
add_record-requires-clause-some g c =
    let closed = subst (λ (d : Desk EngineParts). IsClosed d c.in_ok-machine.machine) c.in_ok-desk.ensures.desk c.in_ok-machine.ensures.machine in
    subst (λ (k : ℕ). 0 < k) (sym (ap (λ (s : Sizes). s.processes) closed.sizes)) c.requires.some

use Rattle.std.proofs.Common.{subst, sym}
use Rattle.std.proofs.lemmas.Result.{err_from_is_err_and}
use Rattle.ob_carry.specs.View.{entries_of}
use Rattle.ob_carry.specs.NamedValues.{CarryBack}
use Rattle.ob_checked.specs.CheckedModule.{program_in}
use Rattle.ob_text_record.specs.Record.{record_of}
use Rattle.ob_object_twice.proofs.GoingOn.{goes_on, meant_in_turn, second_refused}
use Rattle.ob_object_twice.specs.Twice.{turn_of}
use Rattle.ob_store.specs.View.{state_of}
use Rattle.ob_object_twice.proofs.twice.perform_twice.Goals as goal

pub returns-in_err-next-clause-refused : goal.returns-in_err-next-clause-refused
returns-in_err-next-clause-refused c =
    let program = program_in c.in_ok-checked.checked in
    let left = c.in_ok-checked.left in
    let back = subst (λ vs. CarryBack program (entries_of vs) (state_of left.state)) (sym c.deref.ensures.value) c.in_ok-values.ensures in
    let p = err_from_is_err_and c.from_residual-in_err-next.result c.from_residual-in_err-next.ensures.1 in
    rw (p.1, p.2)
    (second_refused c.args.text.now c.args.budget (turn_of c.args.first) (turn_of c.args.second) program c.in_ok-checked.ensures.alone (record_of left)
    (entries_of c.deref.result.now) back c.in_ok-checked.ensures.performance c.in_err-next.field-0.0 c.in_err-next.ensures.refused)

pub returns-clause-goes_on : goal.returns-clause-goes_on
returns-clause-goes_on c =
    let program = program_in c.in_ok-checked.checked in
    let left = c.in_ok-checked.left in
    let back = subst (λ vs. CarryBack program (entries_of vs) (state_of left.state)) (sym c.deref.ensures.value) c.in_ok-values.ensures in
    goes_on c.args.text.now c.args.budget (turn_of c.args.first) (turn_of c.args.second) program c.in_ok-checked.ensures.alone (record_of left)
    (entries_of c.deref.result.now) back c.in_ok-checked.ensures.performance (record_of c.in_ok-next.next) c.in_ok-next.ensures.performance

pub returns-clause-meant : goal.returns-clause-meant
returns-clause-meant c =
    let program = program_in c.in_ok-checked.checked in
    let left = c.in_ok-checked.left in
    let back = subst (λ vs. CarryBack program (entries_of vs) (state_of left.state)) (sym c.deref.ensures.value) c.in_ok-values.ensures in
    meant_in_turn c.args.text.now c.args.budget (turn_of c.args.first) (turn_of c.args.second) program c.in_ok-checked.ensures.alone (record_of left)
    (entries_of c.deref.result.now) back (record_of c.in_ok-next.next) c.in_ok-next.ensures.performance

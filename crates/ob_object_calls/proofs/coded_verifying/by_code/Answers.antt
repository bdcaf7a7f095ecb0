use Rattle.std.proofs.Common.{ℕ, subst}
use Rattle.ob_checked.specs.CheckedModule.{program_in}
use Rattle.ob_code_calls.specs.Parts.{parts_in}
use Rattle.ob_code_calls.specs.Standing.{StandsAt}
use Rattle.ob_object_calls.proofs.VerifyByCode.{compiled_to, its_budget, opens_lawfully}
use Rattle.ob_object_calls.proofs.coded_verifying.by_code.Goals as goal
use Rattle.ob_store.specs.View.{state_of}

pub begin-requires : goal.begin-requires
begin-requires c =
    opens_lawfully (program_in c.args.checked.now) c.requires.well c.args.budget (parts_in c.in_ok-calls.calls) c.in_ok-calls.ensures (state_of c.args.opening.now) c.requires.typed

pub returns : goal.returns
returns c =
    let program = program_in c.args.checked.now in
    let parts = parts_in c.in_ok-calls.calls in
    subst (λ (b : ℕ). StandsAt program b (state_of c.args.opening.now) c.in_ok-coded.coded) (its_budget program c.requires.well c.args.budget parts c.in_ok-calls.ensures)
    (c.in_ok-coded.ensures program (compiled_to program c.requires.well c.args.budget parts c.in_ok-calls.ensures) c.requires.typed)

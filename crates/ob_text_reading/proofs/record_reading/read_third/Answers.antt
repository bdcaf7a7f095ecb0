use Rattle.std.proofs.Common.{◌≡◌, ◌+◌, ◌∙◌, ap, sym, map, arith}
use Rattle.std.proofs.lemmas.List.{length-map}
use Rattle.ob_checked.specs.CheckedModule.{program_in}
use Rattle.ob_checked.specs.View.{table_of, variable_of}
use Rattle.ob_typing.specs.Program.{Program}
use Rattle.ob_text_reading.proofs.RecordHeads.{third_fails, third_room, third_stops, third_told, third_without}
use Rattle.ob_text_reading.proofs.record_reading.read_third.Goals as goal

pub returns-in_default-clause-fault : goal.returns-in_default-clause-fault
returns-in_default-clause-fault c = λ title second t n. third_without _ title second _ _ t n (rw c.in_default.is at c.in_ok-budget.ensures)

pub read_behind-requires : goal.read_behind-requires
read_behind-requires c =
    let room = third_room _ _ _ _ _ _ (rw c.in-Some.is at c.in_ok-budget.ensures) c.in-Ok.ensures.openings in
    let as_many = length-map c.as_slice-variables.result.now (variable_of (table_of c.program-program.result.now.types)) in
    omega (arith, room, as_many, c.requires)

pub returns-in-Ok-clause-record : goal.returns-in-Ok-clause-record
returns-in-Ok-clause-record c =
    let own : map (variable_of (table_of c.program-program.result.now.types)) c.as_slice-variables.result.now ≡ (program_in c.args.checked.now).variables =
    ap (map (variable_of (table_of c.program-program.result.now.types))) c.as_slice-variables.ensures.value ∙ ap (λ (p : Program). p.variables) c.program-program.ensures.program in
    λ title second t n.
    third_told _ title second _ _ _ _ _ _ _ own (rw c.in-Some.is at c.in_ok-budget.ensures) c.in-Ok.ensures.openings t n _ (rw c.new.ensures at c.read_behind.ensures.told)
    (rw c.exports.ensures at c.read_behind.ensures.record)

pub returns-in-Ok-clause-fault : goal.returns-in-Ok-clause-fault
returns-in-Ok-clause-fault c =
    let own : map (variable_of (table_of c.program-program.result.now.types)) c.as_slice-variables.result.now ≡ (program_in c.args.checked.now).variables =
    ap (map (variable_of (table_of c.program-program.result.now.types))) c.as_slice-variables.ensures.value ∙ ap (λ (p : Program). p.variables) c.program-program.ensures.program in
    λ title second t n.
    third_fails _ title second _ _ _ _ _ _ _ own (rw c.in-Some.is at c.in_ok-budget.ensures) c.in-Ok.ensures.openings t n _ _
    (ap (λ m. 3 + m) (sym (length-map c.as_slice-variables.result.now (variable_of (table_of c.program-program.result.now.types)))))
    (rw c.exports.ensures at c.read_behind.ensures.fault)

pub returns-in-Err-clause-fault : goal.returns-in-Err-clause-fault
returns-in-Err-clause-fault c =
    let own : map (variable_of (table_of c.program-program.result.now.types)) c.as_slice-variables.result.now ≡ (program_in c.args.checked.now).variables =
    ap (map (variable_of (table_of c.program-program.result.now.types))) c.as_slice-variables.ensures.value ∙ ap (λ (p : Program). p.variables) c.program-program.ensures.program in
    λ title second t n. third_stops _ title second _ _ _ _ _ c.in-Err.fault own (rw c.in-Some.is at c.in_ok-budget.ensures) c.in-Err.ensures.fault t n

use Rattle.std.proofs.Common.{◌≡◌, ◌∷◌, [], rules, refl, sym, ◌∙◌}
use Rattle.std.proofs.lemmas.Bool.{false≢true}
use Rattle.std.proofs.lemmas.List.{nil_from_length}
use Rattle.ob_text_scripts.specs.Script.{no_process, no_second, no_name, past, unknown, differ, makes}
use Rattle.ob_text_scripts.proofs.script.line.read_call.Goals as goal

pub returns-in_default-clause-fault : goal.returns-in_default-clause-fault
returns-in_default-clause-fault c = (refl, no_process c.in_default.ensures)

pub returns-in_default-split_first-clause-fault : goal.returns-in_default-split_first-clause-fault
returns-in_default-split_first-clause-fault c =
    let none : c.args.behind.now ≡ [] = nil_from_length _ c.in_default-split_first.ensures.cases in
    rw none (refl, no_second)

pub returns-then-not-is_name-clause-fault : goal.returns-then-not-is_name-clause-fault
returns-then-not-is_name-clause-fault c =
    let parts : c.args.behind.now ≡ c.in-Some-split_first.name.now ∷ c.in-Some-split_first.rest.now = search rules in
    rw parts (refl, no_name (λ n. false≢true (sym c.if-not-is_name.true ∙ c.is_name.ensures.1 n)))

pub returns-then-process-processes-clause-fault : goal.returns-then-process-processes-clause-fault
returns-then-process-processes-clause-fault c =
    let parts : c.args.behind.now ≡ c.in-Some-split_first.name.now ∷ c.in-Some-split_first.rest.now = search rules in
    rw parts (refl, past c.in-Some.ensures (c.is_name.ensures.0 c.if-not-is_name.false) c.if-process-processes.true)

pub returns-in_default-export_named-clause-fault : goal.returns-in_default-export_named-clause-fault
returns-in_default-export_named-clause-fault c =
    let parts : c.args.behind.now ≡ c.in-Some-split_first.name.now ∷ c.in-Some-split_first.rest.now = search rules in
    rw parts (refl, unknown c.in-Some.ensures c.if-process-processes.false (c.is_name.ensures.0 c.if-not-is_name.false) (sym c.in_default-export_named.ensures))

pub returns-in_default-2-clause-fault : goal.returns-in_default-2-clause-fault
returns-in_default-2-clause-fault c =
    let parts : c.args.behind.now ≡ c.in-Some-split_first.name.now ∷ c.in-Some-split_first.rest.now = search rules in
    rw parts (refl, differ c.in-Some.ensures c.if-process-processes.false (c.is_name.ensures.0 c.if-not-is_name.false) (sym c.in-Some-export_named.ensures) (rw (c.in_default-2.is, c.deref.ensures.value) at c.in_ok-args.ensures))

pub returns-clause-call : goal.returns-clause-call
returns-clause-call c =
    let parts : c.args.behind.now ≡ c.in-Some-split_first.name.now ∷ c.in-Some-split_first.rest.now = search rules in
    rw parts (makes c.in-Some.ensures c.if-process-processes.false (c.is_name.ensures.0 c.if-not-is_name.false) (sym c.in-Some-export_named.ensures) (rw (c.in-Some-2.is, c.deref.ensures.value) at c.in_ok-args.ensures))

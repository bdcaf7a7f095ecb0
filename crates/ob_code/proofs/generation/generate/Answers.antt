use Rattle.std.proofs.Common.{◌≤◌, length, refl, ap, subst}
use Rattle.std.proofs.Props.{props}
use Rattle.std.proofs.Math.Logic.{∥∥₁_elim}
use Rattle.ob_code_scheme.specs.Scheme.{code_of}
use Rattle.ob_checked.specs.CheckedModule.{program_in}
use Rattle.ob_checked.specs.View.{program_of}
use Rattle.ob_layout.specs.Layout.{LayoutParts, parts_of, block_in}
use Rattle.ob_code.specs.Entering.{entry_in, code_by}
use Rattle.ob_code.proofs.Procedures.{code_made}
use Rattle.ob_code.proofs.Small.{code_within}
use Rattle.ob_code.proofs.Within.{within}
use Rattle.ob_code.proofs.generation.generate.Goals as goal

pub put_procedures-requires-clause-limits : goal.put_procedures-requires-clause-limits
put_procedures-requires-clause-limits c =
    let program = program_of c.program-program.result.now in
    let checked = program_in c.args.checked.now in
    let entries = c.in_ok-entries.entries in
    let layout = parts_of c.args.layout.now in
    let variables = ap (λ (l : LayoutParts). l.variables) c.requires in
    let made = code_made (code_by (block_in c.args.layout.now) (entry_in entries) program.procedures) entries program checked layout.variables
    refl refl c.in_ok-entries.ensures.places c.in_ok-entries.ensures.end variables c.program-program.ensures.program in
    let short = subst (λ p. length (code_of p).instructions ≤ 65535) c.program-program.ensures.program (c.is_too_long.ensures.no c.if-is_too_long.false) in
    ∥∥₁_elim c.checked_is_well_formed.ensures (hlevel props) (λ fine. within _ (code_of checked) made (code_within checked fine short))

pub returns-clause-code : goal.returns-clause-code
returns-clause-code c =
    let variables = ap (λ (l : LayoutParts). l.variables) c.requires in
    code_made c.in_ok-put_procedures.field-0 c.in_ok-entries.entries (program_of c.program-program.result.now) (program_in c.args.checked.now) (parts_of c.args.layout.now).variables
    c.in_ok-put_procedures.ensures.instructions c.in_ok-put_procedures.ensures.entries c.in_ok-entries.ensures.places c.in_ok-entries.ensures.end variables c.program-program.ensures.program

pub returns-clause-fits : goal.returns-clause-fits
returns-clause-fits c =
    subst (λ p. length (code_of p).instructions ≤ 65535) c.program-program.ensures.program (c.is_too_long.ensures.no c.if-is_too_long.false)

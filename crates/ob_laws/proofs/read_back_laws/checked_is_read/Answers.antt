use Rattle.std.proofs.Common.{subst}
use Rattle.std.proofs.Math.Logic.{∥∥₁_map}
use Rattle.ob_checked.specs.CheckedModule.{program_in}
use Rattle.ob_grammar.specs.Texts.{HasText}
use Rattle.ob_text_record.specs.Record.{record_of}
use Rattle.ob_laws.proofs.read_back_laws.checked_is_read.Goals as goal

pub returns : goal.returns
returns c =
    let text = subst HasText c.module.ensures c.tree-tree.ensures.has_text in
    ∥∥₁_map c.program-typed.ensures.typed (λ typed. c.well_typed_is_read.ensures _ (program_in c.args.checked.now) (record_of c.args.«record».now) text typed c.requires)

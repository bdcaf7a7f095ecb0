use Rattle.std.proofs.Common.{ap, sym, ◌∙◌, arith}
use Rattle.ob_store.specs.View.{value_in}
use Rattle.ob_store.proofs.Parts.{part_at-read, part_at-beyond}
use Rattle.ob_store.proofs.value.part_at.Goals as goal

pub returns-then-position-parts : goal.returns-then-position-parts
returns-then-position-parts c =
    ap value_in c.index-parts-position.is
    ∙ part_at-read c.args.parts.now c.args.position c.index-parts-position.result (omega arith)

pub returns-else-position-parts : goal.returns-else-position-parts
returns-else-position-parts c = sym (part_at-beyond c.args.parts.now c.args.position (omega arith))

use Rattle.std.proofs.Common.{◌≡◌, replicate, pos, ap₂, ◌∙◌, rules}
use Rattle.ll_cell.specs.Rows.{rows_kept}
use Rattle.ll_cell.proofs.Kept.{zero_rows}
use Rattle.ll_cell.proofs.table.Table.new.Goals as goal

pub returns-clause-rows : goal.returns-clause-rows
returns-clause-rows c =
    let words : c.in_ok-words.words.items ≡ replicate c.in-Some-checked_mul.count (pos 0) = search rules in
    let bits : c.in_ok-bits.bits.items ≡ replicate c.args.rows 0 = search rules in
    ap₂ (λ ws bs. rows_kept c.args.form ws bs) words bits ∙ zero_rows c.args.form c.in-Some-checked_mul.count c.args.rows

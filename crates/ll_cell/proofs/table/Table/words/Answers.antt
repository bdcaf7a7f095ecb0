use Rattle.std.proofs.Common.{◌*◌, sym, ap, ◌∙◌}
use Rattle.ll_cell.specs.Form.{kept_words}
use Rattle.ll_cell.proofs.Kept.{rows_length}
use Rattle.ll_cell.proofs.table.Table.words.Goals as goal

pub returns : goal.returns
returns c =
    let t = c.self.inside in
    rw (← c.self.view_is) (c.len.ensures ∙ t.words.ok.0 ∙ c.self.invariant.filled ∙ ap (λ n. kept_words t.form * n) (sym (rows_length t.form t.words.items t.bits.items)))

use Rattle.std.proofs.Common.{sym, subst}
use Rattle.ll_cell.specs.Form.{IsPlace}
use Rattle.ll_cell.proofs.Places.{is_place}
use Rattle.ll_cell.proofs.InRange.{word_in}
use Rattle.ll_cell.proofs.table.Table.word.Goals as goal

pub kept-requires-clause-place : goal.kept-requires-clause-place
kept-requires-clause-place c =
    let t = c.self.inside in
    let h = c.self.invariant in
    let row = rw (← c.self.view_is) at c.requires.row in
    let word = rw (← c.self.view_is) at c.requires.word in
    rw (← c.self.view_is) (subst (IsPlace t.form) (sym c.place.ensures) (is_place t.form h.part c.args.i (word_in t.form t.stride t.words.items t.bits.items h c.args.row row c.args.i word)))

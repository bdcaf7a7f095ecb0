use Rattle.std.proofs.Common.{◌≡◌, ◌+◌, ◌*◌, sym, subst, ◌∙◌, arith, w64, to_z, of_z, to_z-of_z}
use Rattle.ll_cell.specs.Form.{IsPlace}
use Rattle.ll_cell.proofs.Places.{is_place, part_below, part_fits}
use Rattle.ll_cell.proofs.InRange.{word_in, block_in}
use Rattle.ll_cell.proofs.table.Table.part_word.Goals as goal

pub place_in-requires-clause-fits : goal.place_in-requires-clause-fits
place_in-requires-clause-fits c =
    let t = c.self.inside in
    let h = c.self.invariant in
    let row = rw (← c.self.view_is) at c.requires.row in
    let part = rw (← c.self.view_is) at c.requires.part in
    let word = rw (← c.self.view_is) at c.requires.word in
    let n = t.form.head + c.args.q * t.form.part + c.args.i in
    let q = part_below t.form c.args.q c.args.i (word_in t.form t.stride t.words.items t.bits.items h c.args.row row n word) in
    omega (arith, t.words.ok.0, t.words.ok.1, t.words.small, block_in t.form t.stride t.words.items t.bits.items h c.args.row row, part_fits t.form c.args.q c.args.i part q)

pub kept-requires-clause-place : goal.kept-requires-clause-place
kept-requires-clause-place c =
    let t = c.self.inside in
    let h = c.self.invariant in
    let row = rw (← c.self.view_is) at c.requires.row in
    let word = rw (← c.self.view_is) at c.requires.word in
    let n = t.form.head + c.args.q * t.form.part + c.args.i in
    rw (← c.self.view_is) (subst (IsPlace t.form) (sym c.place_in.ensures) (is_place t.form h.part n (word_in t.form t.stride t.words.items t.bits.items h c.args.row row n word)))

pub returns : goal.returns
returns c =
    let s = c.args.self.now in
    let same : to_z w64 (of_z w64 c.kept.result) ≡ c.kept.result = search (arith, to_z-of_z) in
    same ∙ c.kept.ensures (s.form.head + c.args.q * s.form.part + c.args.i) c.requires.word (rw (← c.self.view_is) (sym c.place_in.ensures))

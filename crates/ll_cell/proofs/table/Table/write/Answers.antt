use Rattle.std.proofs.Common.{◌≡◌, sym, subst, w64, to_z, of_z, arith, to_z-of_z}
use Rattle.ll_cell.specs.Form.{IsPlace, MayStandAt}
use Rattle.ll_cell.proofs.Places.{is_place, may_stand_at}
use Rattle.ll_cell.proofs.InRange.{word_in}
use Rattle.ll_cell.proofs.table.Table.write.Goals as goal

pub keep-requires-clause-place : goal.keep-requires-clause-place
keep-requires-clause-place c =
    let t = c.self.inside in
    let h = c.self.invariant in
    let row = rw (← c.self.view_is) at c.requires.row in
    let word = rw (← c.self.view_is) at c.requires.word in
    rw (← c.self.view_is) (subst (IsPlace t.form) (sym c.place-place.ensures) (is_place t.form h.part c.args.i (word_in t.form t.stride t.words.items t.bits.items h c.args.row row c.args.i word)))

pub keep-requires-clause-bit : goal.keep-requires-clause-bit
keep-requires-clause-bit c =
    let t = c.self.inside in
    let h = c.self.invariant in
    let row = rw (← c.self.view_is) at c.requires.row in
    let word = rw (← c.self.view_is) at c.requires.word in
    let bit = rw (← c.self.view_is) at c.requires.bit in
    let same : to_z w64 (of_z w64 c.args.w) ≡ c.args.w = search (arith, to_z-of_z) in
    rw same (subst (λ p. MayStandAt p c.args.w) (sym c.place-place.ensures) (may_stand_at t.form h.part c.args.w c.args.i (word_in t.form t.stride t.words.items t.bits.items h c.args.row row c.args.i word) bit))

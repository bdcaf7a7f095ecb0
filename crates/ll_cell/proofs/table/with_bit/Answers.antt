use Rattle.std.proofs.Common.{◌≡◌, ℤ, pos, ap, sym, ◌∙◌, inl, inr, arith, to_z, of_z, w64, to_z-of_z}
use Rattle.std.specs.Int.{w16}
use Rattle.std.proofs.lemmas.Nat.Bits.{bit_at_set_same, bit_at_set_other, bit_at_clear_same, bit_at_clear_other}
use Rattle.ll_cell.specs.Form.{IsBit}
use Rattle.ll_cell.proofs.table.with_bit.Goals as goal

one : (w : ℤ) → IsBit w → (of_z w64 w ≡ 0 → ⊥) → w ≡ pos 1
one w (inl zero) some = absurd (some (ap (of_z w64) zero))
one w (inr is) some = is

pub returns-then-w-eq0-clause-set : goal.returns-then-w-eq0-clause-set
returns-then-w-eq0-clause-set c =
    let same : to_z w64 (of_z w64 c.args.w) ≡ c.args.w = search (arith, to_z-of_z) in
    ap pos (bit_at_clear_same w16 c.args.bits c.args.q c.requires.place) ∙ sym (ap (to_z w64) c.if-w-eq0.true) ∙ same

pub returns-then-w-eq0-clause-others : goal.returns-then-w-eq0-clause-others
returns-then-w-eq0-clause-others c = λ j lt other. bit_at_clear_other w16 c.args.bits c.args.q c.requires.place j lt other

pub returns-else-w-eq0-clause-set : goal.returns-else-w-eq0-clause-set
returns-else-w-eq0-clause-set c = ap pos (bit_at_set_same w16 c.args.bits c.args.q c.requires.place) ∙ sym (one c.args.w c.requires.bit c.if-w-eq0.false)

pub returns-else-w-eq0-clause-others : goal.returns-else-w-eq0-clause-others
returns-else-w-eq0-clause-others c = λ j lt other. bit_at_set_other w16 c.args.bits c.args.q c.requires.place j other

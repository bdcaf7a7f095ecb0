use Rattle.std.proofs.Common.{refl, ◌≡◌, arith, length, Some, is_ok, ap, ◌∙◌}
use Rattle.ob_checked.specs.Types.{types_of, structure_by}
use Rattle.ob_checked.specs.View.{table_of}
use Rattle.ob_checked.proofs.Numbers.{small_within, new_entry, table_if, number_given, extends}
use Rattle.ob_checked.proofs.types.Types.add.Goals as goal

pub invariant_of-self : goal.invariant_of-self
invariant_of-self c =
    let es = table_of c.args.self.now in
    let new = new_entry es c.args.place c.args.structure c.args.words c.args.depth c.requires.within c.requires.words c.requires.depth c.if-words-gt-MOST_WORDS.false c.if-depth-ge-DEEPEST.false in
    record { table = table_if es _ c.args.self.now.table new (is_ok c.push.result) _ c.push.ensures.items }

pub returns-clause-given : goal.returns-clause-given
returns-clause-given c =
    let es = table_of c.args.self.now in
    let t = structure_by (types_of es) c.args.place c.args.structure in
    let small = small_within t c.args.words c.args.depth c.requires.words c.requires.depth c.if-words-gt-MOST_WORDS.false c.if-depth-ge-DEEPEST.false in
    let new = new_entry es c.args.place c.args.structure c.args.words c.args.depth c.requires.within c.requires.words c.requires.depth c.if-words-gt-MOST_WORDS.false c.if-depth-ge-DEEPEST.false in
    let at : c.len-number.result ≡ length es = omega (arith, c.len-number.ensures) in
    ap Some (number_given es _ c.args.self.now.table new _ c.in_ok-push.ensures.items _ at) ∙ rw small refl

pub returns-clause-extends : goal.returns-clause-extends
returns-clause-extends c =
    let es = table_of c.args.self.now in
    let new = new_entry es c.args.place c.args.structure c.args.words c.args.depth c.requires.within c.requires.words c.requires.depth c.if-words-gt-MOST_WORDS.false c.if-depth-ge-DEEPEST.false in
    extends es _ c.args.self.now.table new _ c.in_ok-push.ensures.items

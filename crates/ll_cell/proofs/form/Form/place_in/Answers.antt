use Rattle.std.proofs.Common.{sym}
use Rattle.ll_cell.proofs.Places.{last_place, part_place}
use Rattle.ll_cell.proofs.form.Form.place_in.Goals as goal

pub returns-then-i-self : goal.returns-then-i-self
returns-then-i-self c = sym (last_place c.args.self c.args.q c.args.i c.requires.word c.if-i-self.true)

pub returns-else-i-self : goal.returns-else-i-self
returns-else-i-self c = sym (part_place c.args.self c.args.q c.args.i c.requires.word c.if-i-self.false)

use Rattle.ob_text_reading.proofs.Whole.{line_goes_on}
use Rattle.ob_text_reading.proofs.line_reader.Reader.take_written.Goals as goal

pub returns : goal.returns
returns c =
    let may = c.may_go_on.ensures.0 c.if-not-may_go_on.false in
    line_goes_on _ _ _ _ _ may.0 may.1 (rw (c.exports.ensures, c.in-Some.is) at c.in_ok-rest.ensures)

use Rattle.std.proofs.Common.{◌∙◌, sym}
use Rattle.ob_text_reading.proofs.Counting.{export_as, export_none}
use Rattle.ob_text_reading.proofs.named_processes.NamedCalls.export_to_end.Goals as goal

pub returns-in_default : goal.returns-in_default
returns-in_default c =
    let at = rw (← c.self.view_is) at (sym c.place_known.ensures ∙ c.in_default.is) in
    rw (← c.self.view_is) (export_none _ c.self.invariant.0 c.args.id at)

pub returns : goal.returns
returns c =
    let at = rw (← c.self.view_is) at (sym c.place_known.ensures ∙ c.in-Some.is) in
    rw (← c.self.view_is) (export_as _ c.self.invariant.0 c.args.id _ _ at c.export_to_end.ensures)

use Rattle.std.proofs.Common.{ℕ, Option, None, Some, subst}
use Rattle.std.proofs.lemmas.Result.{IfOk-weaker}
use Rattle.ob_explained_lines.specs.Lines.{IsLine}
use Rattle.ob_explained_lines.specs.declared.record_line.Wanted.TheVariants as Wants
use Rattle.ob_explained_records.proofs.order_remark.unknown_remark.Goals as goal

pub returns-in-Some : goal.returns-in-Some
returns-in-Some c =
    IfOk-weaker c.order_line_remark.result _ _
    (λ remark h. (Some c.in-Some.field-0, subst (λ (line : Option ℕ). IsLine c.args.text.now (Wants.Begin c.args.id) line) c.in-Some.is c.in_ok-first_line.ensures, h))
    c.order_line_remark.ensures

pub returns-in-None : goal.returns-in-None
returns-in-None c =
    IfOk-weaker c.order_line_remark-in-None.result _ _
    (λ remark h. (None, subst (λ (line : Option ℕ). IsLine c.args.text.now (Wants.Begin c.args.id) line) c.in-None.is c.in_ok-first_line.ensures, h))
    c.order_line_remark-in-None.ensures

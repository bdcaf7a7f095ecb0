use Rattle.std.proofs.Common.{ℕ, Option, None, Some, refl, subst}
use Rattle.std.proofs.lemmas.Result.{IfOk-weaker}
use Rattle.ob_explained_lines.specs.Lines.{IsLine}
use Rattle.ob_explained_lines.specs.declared.record_line.Wanted.TheVariants as Wants
use Rattle.ob_explained_records.proofs.order_place.place_in_order.Goals as goal

pub returns-in-Some : goal.returns-in-Some
returns-in-Some c =
    IfOk-weaker c.place_named.result _ _
    (λ place h. (Some c.in-Some.number, subst (λ (line : Option ℕ). IsLine c.args.text.now Wants.Order line) c.in-Some.is c.in_ok-number.ensures, h))
    c.place_named.ensures

pub returns-in-None : goal.returns-in-None
returns-in-None c = (None, subst (λ (line : Option ℕ). IsLine c.args.text.now Wants.Order line) c.in-None.is c.in_ok-number.ensures, refl)

use Rattle.std.proofs.Common.{ℕ, Option, None, Some, ap, refl, subst}
use Rattle.ob_explained_lines.specs.Lines.{IsLine}
use Rattle.ob_explained_lines.specs.declared.record_line.Wanted.TheVariants as Wants
use Rattle.ob_explained_records.proofs.order_place.place_of_end.Goals as goal

pub returns-in-Some : goal.returns-in-Some
returns-in-Some c =
    (Some c.in-Some.number, subst (λ (line : Option ℕ). IsLine c.args.text.now (Wants.End c.args.id) line) c.in-Some.is c.in_ok-number.ensures, ap Some c.place_of_word.ensures.place)

pub returns-in-None : goal.returns-in-None
returns-in-None c = (None, subst (λ (line : Option ℕ). IsLine c.args.text.now (Wants.End c.args.id) line) c.in-None.is c.in_ok-number.ensures, refl)

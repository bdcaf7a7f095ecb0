use Rattle.std.proofs.Common.{◌∙◌, refl, sym}
use Rattle.ob_command.proofs.CallPlaces.{split_as, unsplit}
use Rattle.ob_command.proofs.call_range.calls_in.Goals as goal

pub returns-in_err-first : goal.returns-in_err-first
returns-in_err-first c = c.from_residual.ensures ∙ sym (unsplit c.args.text.now c.split_once.result c.split_once.ensures.cases c.in_err-first.was)

pub returns-in_err-from : goal.returns-in_err-from
returns-in_err-from c =
    c.from_residual-in_err-from.ensures
    ∙ sym (split_as c.args.text.now c.split_once.result c.split_once.ensures.cases _ c.in_ok-first.was _ _ (sym c.place_number.ensures ∙ c.in_err-from.was) refl)

pub returns-in_err-to : goal.returns-in_err-to
returns-in_err-to c =
    c.from_residual-in_err-to.ensures
    ∙ sym (split_as c.args.text.now c.split_once.result c.split_once.ensures.cases _ c.in_ok-first.was _ _ (sym c.place_number.ensures ∙ c.in_ok-from.was)
    (sym c.place_number-2.ensures ∙ c.in_err-to.was))

pub returns : goal.returns
returns c =
    c.calls_between.ensures
    ∙ sym (split_as c.args.text.now c.split_once.result c.split_once.ensures.cases _ c.in_ok-first.was _ _ (sym c.place_number.ensures ∙ c.in_ok-from.was)
    (sym c.place_number-2.ensures ∙ c.in_ok-to.was))

use Rattle.std.proofs.Common.{sym, ◌∙◌, ap, option_map}
use Rattle.std.proofs.lemmas.Option.{same_Some}
use Rattle.ob_parser.specs.Reading.{kind_of}
use Rattle.ob_parser.proofs.Texts.{ident_spelled, number_spelled, number_limited}
use Rattle.ob_parser.proofs.parser.Parser.bytes.Goals as goal

pub returns-clause-spelling : goal.returns-clause-spelling
returns-clause-spelling g c = λ kind place spelt h. (let same = sym c.here.ensures.there ∙ h in cc)

pub returns-clause-ident : goal.returns-clause-ident
returns-clause-ident g c = λ h.
    ident_spelled c.here.ensures.spelled (same_Some _ _ (sym (ap (option_map kind_of) c.here.ensures.there) ∙ h))

pub returns-clause-digits : goal.returns-clause-digits
returns-clause-digits g c = λ h.
    number_spelled c.here.ensures.spelled (same_Some _ _ (sym (ap (option_map kind_of) c.here.ensures.there) ∙ h))

pub returns-clause-limit : goal.returns-clause-limit
returns-clause-limit g c = λ h.
    number_limited c.here.ensures.spelled (same_Some _ _ (sym (ap (option_map kind_of) c.here.ensures.there) ∙ h))

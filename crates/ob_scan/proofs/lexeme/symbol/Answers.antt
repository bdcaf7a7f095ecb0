use Rattle.std.proofs.lemmas.Bool.{false_from_ne_true}
use Rattle.ob_scan.proofs.Stands.{symbol_stands, with_equals_stands, stray_stands}
use Rattle.ob_scan.proofs.lexeme.symbol.Goals as goal

pub returns-in-Some-clause-token : goal.returns-in-Some-clause-token
returns-in-Some-clause-token c =
    with_equals_stands c.args.text.now c.args.start c.in-Some.kind c.in-Some.ensures.within.0
    (false_from_ne_true _ c.requires.no_letter) (false_from_ne_true _ c.requires.no_digit) c.in-Some.ensures.within.1
    c.in-Some.ensures.is

pub returns-in-Some-symbol_of-clause-token : goal.returns-in-Some-symbol_of-clause-token
returns-in-Some-symbol_of-clause-token c =
    symbol_stands c.args.text.now c.args.start c.in-Some-symbol_of.kind c.requires.within
    (false_from_ne_true _ c.requires.no_letter) (false_from_ne_true _ c.requires.no_digit) c.in-Some-symbol_of.ensures.is
    c.in_default.ensures.none

pub returns-in-None-clause-fault : goal.returns-in-None-clause-fault
returns-in-None-clause-fault c =
    stray_stands c.args.text.now c.args.start c.requires.within
    (false_from_ne_true _ c.requires.no_letter) (false_from_ne_true _ c.requires.no_digit) c.requires.no_blank
    c.in-None.ensures.none

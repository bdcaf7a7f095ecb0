use Rattle.std.proofs.Common.{arith}
use Rattle.ob_scan.proofs.Stands.{word_run, keyword_stands, name_stands, name_too_long}
use Rattle.ob_scan.proofs.lexeme.word.Goals as goal

pub overflow_add-end : goal.overflow_add-end
overflow_add-end c =
    let run = word_run c.args.text.now c.args.start c.count_letters_and_digits.result c.requires.within c.requires.letter c.count_letters_and_digits.ensures in
    omega (arith, run.within)

pub slice_bounds-keyword-end : goal.slice_bounds-keyword-end
slice_bounds-keyword-end c =
    let run = word_run c.args.text.now c.args.start c.count_letters_and_digits.result c.requires.within c.requires.letter c.count_letters_and_digits.ensures in
    omega (arith, run.within)

pub returns-in-None-clause-fault : goal.returns-in-None-clause-fault
returns-in-None-clause-fault c =
    let run = word_run c.args.text.now c.args.start c.count_letters_and_digits.result c.requires.within c.requires.letter c.count_letters_and_digits.ensures in
    name_too_long c.args.text.now c.args.start _ run c.requires.letter c.in-None.ensures.none c.if-end-start-gt-LONGEST_NAME.true

pub returns-in-Some-clause-token : goal.returns-in-Some-clause-token
returns-in-Some-clause-token c =
    let run = word_run c.args.text.now c.args.start c.count_letters_and_digits.result c.requires.within c.requires.letter c.count_letters_and_digits.ensures in
    keyword_stands c.args.text.now c.args.start _ run c.requires.letter c.in-Some.kind c.in-Some.ensures.is

pub returns-in-None-2-clause-token : goal.returns-in-None-2-clause-token
returns-in-None-2-clause-token c =
    let run = word_run c.args.text.now c.args.start c.count_letters_and_digits.result c.requires.within c.requires.letter c.count_letters_and_digits.ensures in
    name_stands c.args.text.now c.args.start _ run c.requires.letter c.in-None.ensures.none c.if-end-start-gt-LONGEST_NAME.false

use Rattle.std.proofs.Common.{arith}
use Rattle.std.specs.Char.{is_ascii_digit}
use Rattle.ob_scan.proofs.Runs.{run_counted, run_all}
use Rattle.ob_scan.proofs.Stands.{not_over, number_stands, number_too_large}
use Rattle.ob_scan.proofs.lexeme.number.Goals as goal

pub overflow_add-end : goal.overflow_add-end
overflow_add-end c =
    let run = run_counted c.args.text.now c.args.start c.count_digits.result is_ascii_digit c.requires.within c.requires.digit c.count_digits.ensures in
    omega (arith, run.within)

pub slice_bounds-is_too_large-end : goal.slice_bounds-is_too_large-end
slice_bounds-is_too_large-end c =
    let run = run_counted c.args.text.now c.args.start c.count_digits.result is_ascii_digit c.requires.within c.requires.digit c.count_digits.ensures in
    omega (arith, run.within)

pub is_too_large-requires : goal.is_too_large-requires
is_too_large-requires c =
    let run = run_counted c.args.text.now c.args.start c.count_digits.result is_ascii_digit c.requires.within c.requires.digit c.count_digits.ensures in
    run_all c.args.text.now c.args.start _ is_ascii_digit run c.requires.digit

pub returns-then-is_too_large-clause-fault : goal.returns-then-is_too_large-clause-fault
returns-then-is_too_large-clause-fault c =
    let run = run_counted c.args.text.now c.args.start c.count_digits.result is_ascii_digit c.requires.within c.requires.digit c.count_digits.ensures in
    number_too_large c.args.text.now c.args.start _ run c.requires.digit (c.is_too_large.ensures.0 c.if-is_too_large.true)

pub returns-clause-token : goal.returns-clause-token
returns-clause-token c =
    let run = run_counted c.args.text.now c.args.start c.count_digits.result is_ascii_digit c.requires.within c.requires.digit c.count_digits.ensures in
    number_stands c.args.text.now c.args.start _ run c.requires.digit (not_over c.is_too_large.ensures c.if-is_too_large.false)

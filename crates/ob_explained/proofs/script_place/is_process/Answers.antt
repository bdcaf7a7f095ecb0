use Rattle.std.proofs.Common.{◌≡◌, nat_le, length, rules, tests, true}
use Rattle.std.specs.Char.{is_ascii_digit}
use Rattle.std.specs.List.{list_all}
use Rattle.std.proofs.lemmas.Iterator.{YieldsList-from_slice}
use Rattle.std.proofs.lemmas.Iterator.Search.{all_from_yields_List}
use Rattle.ob_explained.proofs.script_place.is_process.Goals as goal

pub returns-then-word-le-PROCESS_DIGITS : goal.returns-then-word-le-PROCESS_DIGITS
returns-then-word-le-PROCESS_DIGITS c =
    let some : nat_le 1 (length c.args.word.now) ≡ true = search (rules, tests) in
    let few : nat_le (length c.args.word.now) 9 ≡ true = search (rules, tests) in
    let all : c.all.result ≡ list_all is_ascii_digit c.args.word.now =
    all_from_yields_List is_ascii_digit _ _ c.all.result c.all.ensures.ran (YieldsList-from_slice c.args.word.now cc) (λ x b q k. search (rules, tests)) in
    rw (some, few) all

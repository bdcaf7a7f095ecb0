use Rattle.std.specs.Ordering.{int_eq}
use Rattle.std.proofs.lemmas.Bool.Decides.{Decides-int_eq}
use Rattle.std.proofs.lemmas.Slice.Eq.{slice_eq-Decides}
use Rattle.ob_desk_floor.proofs.same_calls.same_words.Goals as goal

pub returns-clause-yes : goal.returns-clause-yes
returns-clause-yes c = (slice_eq-Decides {E = int_eq} Decides-int_eq c.args.words.now c.args.others.now c.eq.result c.eq.ensures).0

pub returns-clause-no : goal.returns-clause-no
returns-clause-no c =
    let eq = slice_eq-Decides {E = int_eq} Decides-int_eq c.args.words.now c.args.others.now c.eq.result c.eq.ensures in
    λ differs same. let yes = eq.1 same in absurd (cc)

use Rattle.std.proofs.Common.{◌≡◌, ◌+◌, ℕ, sym, subst, arith}
use Rattle.std.proofs.lemmas.Grind.{common_steps}
use Rattle.ob_explained.specs.Marks.{BeginsWord}
use Rattle.ob_explained.specs.ScriptPlaces.{second_place}
use Rattle.ob_explained.proofs.WordPlaces.{at_second}
use Rattle.ob_explained.proofs.script_place.second_place.Goals as goal

pub returns-clause-word : goal.returns-clause-word
returns-clause-word c =
    let here : c.blanks-first.result + c.word_length.result + c.blanks.result ≡ second_place c.args.line.now = grind (arith, common_steps) in
    subst (λ (k : ℕ). BeginsWord c.args.line.now 1 k) (sym here) (at_second c.args.line.now)

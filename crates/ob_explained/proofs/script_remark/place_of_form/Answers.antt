use Rattle.std.proofs.Common.{ℕ, List, sym, subst}
use Rattle.ob_explained.specs.Marks.{BeginsWord, HasProcess, MarksWord}
use Rattle.ob_explained.proofs.script_remark.place_of_form.Goals as goal

pub returns-clause-marked : goal.returns-clause-marked
returns-clause-marked c =
    let script = c.args.script.now in
    let text = c.script_line-begin.result.1.now in
    let at = c.form_place.result in
    let told = c.script_line-begin.ensures in
    let marks : (word : ℕ) → BeginsWord text word at → MarksWord script c.args.line word _ =
    λ word begins line is.
    let here : BeginsWord line word at = subst (λ (bytes : List ℕ). BeginsWord bytes word at) (told.counted line is) begins in
    (at, here, told.placed line at is here.within) in
    record {
      name = λ line is has. marks 1 (c.form_place.ensures.name (subst HasProcess (sym (told.counted line is)) has));
      process = λ line is none. marks 0 (c.form_place.ensures.process (λ has. none (subst HasProcess (told.counted line is) has)));
    }

use Rattle.std.proofs.Common.{◌++◌, sym, ap, ◌∙◌, map-id, string_bytes}
use Rattle.std.specs.List.{flat_map}
use Rattle.std.proofs.lemmas.Iterator.{YieldsList-from_chars}
use Rattle.std.proofs.lemmas.Iterator.Consumers.{YieldsList-end}
use Rattle.ob_answer_files.specs.ShownNames.{shown_character}
use Rattle.ob_answer_files.proofs.shown_name.push_name.Goals as goal

pub returns-clause-ok : goal.returns-clause-ok
returns-clause-ok c =
    let end = YieldsList-end (YieldsList-from_chars c.args.name.now c.utf8.name cc) c.loop-character.yielded _ c.loop-character.yielded_by _ _ c.in-None.is c.next.ensures.steps in
    c.loop-character.invariant
    ∙ ap (λ cs. string_bytes c.args.text.now ++ flat_map shown_character cs) (sym (map-id c.loop-character.yielded) ∙ end.0)

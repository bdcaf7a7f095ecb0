use Rattle.std.proofs.Common.{◌∷◌}
use Rattle.std.proofs.lemmas.Result.{on_ok_weaker}
use Rattle.ob_text_scripts.specs.Finish.{unnamed}
use Rattle.ob_text_scripts.proofs.Answering.{goes_on_alone, goes_on_named}
use Rattle.ob_text_scripts.proofs.finish.push_answer_of.Goals as goal

pub returns-in-Some : goal.returns-in-Some
returns-in-Some c =
    on_ok_weaker c.push_item.result (λ told rest. rw told (goes_on_named c.args.first.now c.in-Some._process c.in-Some.ensures rest c.args.text.now.items))
    c.push_item.ensures

pub returns-in-None : goal.returns-in-None
returns-in-None c = λ rest. goes_on_alone (c.args.first.now ∷ rest) c.args.text.now.items (unnamed c.in-None.ensures)

use Rattle.std.proofs.Common.{◌≡◌, ◌∷◌, [], rules}
use Rattle.std.proofs.lemmas.List.{nil_from_length}
use Rattle.ob_text_scripts.specs.Script.{blank, comment}
use Rattle.ob_text_scripts.proofs.script.line.read_line.Goals as goal

pub returns-in_default-clause-call : goal.returns-in_default-clause-call
returns-in_default-clause-call c =
    let none : c.args.words.now ≡ [] = nil_from_length _ c.in_default.ensures.cases in
    rw none blank

pub returns-then-begins_comment-clause-call : goal.returns-then-begins_comment-clause-call
returns-then-begins_comment-clause-call c =
    let parts : c.args.words.now ≡ c.in-Some.first.now ∷ c.in-Some.behind.now = search rules in
    let sign = c.begins_comment.ensures.0 c.if-begins_comment.true in
    rw (parts, sign.1) comment

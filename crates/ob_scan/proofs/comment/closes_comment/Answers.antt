use Rattle.std.proofs.Common.{codes, drop}
use Rattle.std.proofs.lemmas.Bool.Decides.{Decides-eqb}
use Rattle.std.proofs.lemmas.Slice.Eq.{starts_is}
use Rattle.ob_scan.proofs.Comments.{closes_is, closes_from}
use Rattle.ob_scan.proofs.comment.closes_comment.Goals as goal

pub returns : goal.returns
returns c =
    let bytes = c.args.bytes.now in
    let is = starts_is Decides-eqb bytes (codes "*)") c.starts_with.result c.starts_with.ensures.value in
    ((λ h. closes_from bytes (drop 2 bytes) (is.0 h)), (λ h. is.1 (drop 2 bytes) (closes_is h)))

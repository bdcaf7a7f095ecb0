use Rattle.std.proofs.Common.{codes, drop}
use Rattle.std.proofs.lemmas.Bool.Decides.{Decides-eqb}
use Rattle.std.proofs.lemmas.Slice.Eq.{starts_is}
use Rattle.ob_scan.proofs.Comments.{opens_is, opens_from}
use Rattle.ob_scan.proofs.comment.opens_comment.Goals as goal

pub returns : goal.returns
returns c =
    let bytes = c.args.bytes.now in
    let is = starts_is Decides-eqb bytes (codes "(*") c.starts_with.result c.starts_with.ensures.value in
    ((λ h. opens_from bytes (drop 2 bytes) (is.0 h)), (λ h. is.1 (drop 2 bytes) (opens_is h)))

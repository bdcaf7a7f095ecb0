use Rattle.std.proofs.Common.{ℕ, ap, string_bytes}
use Rattle.ob_explain_sentences.specs.Remarks.{at}
use Rattle.ob_explained_records.proofs.history_remark.told_form.Goals as goal

pub returns-in-Some : goal.returns-in-Some
returns-in-Some c =
    rw c.in-Some.is
    (record { marked = c.place_of_spot.ensures.marked; says = ap (λ (place : ℕ). at place (string_bytes c.in-Some.cause.sentence)) c.place_of_spot.ensures.place })

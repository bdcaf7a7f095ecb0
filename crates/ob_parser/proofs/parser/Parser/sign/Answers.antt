use Rattle.std.proofs.Common.{ℕ, suc, true, false, Some, sym, ◌∙◌, ap, subst}
use Rattle.ob_parser.specs.ParseFaults.{lexemes_of}
use Rattle.ob_parser.specs.Reading.{Reads}
use Rattle.ob_parser.specs.Forms as forms
use Rattle.ob_parser.specs.Answers.{IsAt}
use Rattle.ob_parser.proofs.Expressions.{sign_kind, reads_sign, reads_no_sign}
use Rattle.ob_parser.proofs.States.{at_here, here_at, place_there, stays, went_one, false_at, true_at}
use Rattle.ob_parser.proofs.parser.Parser.sign.Goals as goal
use Rattle.ob_parser.proofs.parser.Parser.sign.Goals.{else-not-is_minus-via-then-not-is_minus+else-not-at, else-not-is_minus-via-else-not-is_minus}

pub returns-then-not-at : goal.returns-then-not-at
returns-then-not-at g c =
    stays
    (λ _ _ w.
    reads_no_sign
    (λ is_minus there.
    elim is_minus as (λ b. IsAt (g.S.TokenSource.state c.args.self.now.source) (sign_kind b) → ⊥) [
      | true ↦ false_at c.if-not-is_minus.ensures.kind
      | false ↦ false_at c.if-not-at.ensures.kind
    ] (here_at w there)))

pub returns : goal.returns
returns g c =
    let here : IsAt (g.S.TokenSource.state c.args.self.now.source) (sign_kind c.at-is_minus.result) =
    elim c.else-not-is_minus.branch [
      | else-not-is_minus-via-then-not-is_minus+else-not-at w ↦ true_at w.if-not-at.ensures.kind ∙ ap (λ b. Some (sign_kind b)) (sym w.if-not-is_minus.true)
      | else-not-is_minus-via-else-not-is_minus w ↦ true_at w.if-not-is_minus.ensures.kind ∙ ap (λ b. Some (sign_kind b)) (sym w.if-not-is_minus.false)
    ] in
    went_one c.take-place.ensures.steps
    (λ source p w.
    (let P : ℕ → Type 0 = λ q. Reads forms.sign (lexemes_of source) p (Some (record { is_minus = c.at-is_minus.result; place = q })) (suc p) in
    subst P (sym (c.take-place.ensures.place ∙ place_there w)) (reads_sign c.at-is_minus.result (at_here w here))))

use Rattle.std.proofs.Common.{◌≡◌, ◌++◌, ◌∷◌, ◌<◌, ℕ, List, ap, length, string_bytes, subst, sym, ◌∙◌}
use Rattle.std.proofs.lemmas.Result.{IfOk-weaker}
use Rattle.ob_mendings.specs.Mendings.{IsMended, move_of}
use Rattle.ob_mendings.specs.Verdicts.{Finds, IsRight}
use Rattle.ob_mendings.specs.declared.origin.Move.{Move}
use Rattle.ob_slips.specs.Behind.{IsNext, IsTold, ends, goes_on, rights}
use Rattle.ob_slips.proofs.Moved.{moved}
use Rattle.ob_slips.proofs.further_faults.+told_on.Goals as goal

pub returns-then-stage-ge-MOST_MENDINGS : goal.returns-then-stage-ge-MOST_MENDINGS
returns-then-stage-ge-MOST_MENDINGS t c = IfOk-weaker c.more_faults.result _ _ (λ told is. rw is ends) c.more_faults.ensures

pub returns-in_default : goal.returns-in_default
returns-in_default t c = IfOk-weaker c.more_faults-in_default.result _ _ (λ told is. rw is ends) c.more_faults-in_default.ensures

pub returns-in_default-2 : goal.returns-in_default-2
returns-in_default-2 t c =
    let m = c.in-Some.mending in
    let whole = c.deref.result.now in
    let is_mended : IsMended c.args.stage.text.now m whole = subst (λ (text : List ℕ). IsMended c.args.stage.text.now m text) (sym c.deref.ensures.value) c.in_ok-text.ensures in
    let right : IsRight whole = rw c.in_default-2.is at c.in_ok-next.ensures in
    IfOk-weaker c.all_right.result _ _ (λ told is. rw is (rights m whole is_mended right)) c.all_right.ensures

pub returns : goal.returns
returns t c =
    let m = c.in-Some.mending in
    let f = c.in-Some-2.next in
    let s = c.args.stage in
    let whole = c.deref.result.now in
    let few : length s.moves.now < 9 = c.if-stage-ge-MOST_MENDINGS.false in
    let is_mended : IsMended s.text.now m whole = subst (λ (text : List ℕ). IsMended s.text.now m text) (sym c.deref.ensures.value) c.in_ok-text.ensures in
    let finds : Finds whole f = rw c.in-Some-2.is at c.in_ok-next.ensures in
    let text : c.deref-2.result.now ≡ whole = c.deref-2.ensures.value ∙ sym c.deref.ensures.value in
    let all : c.deref-3.result.now ≡ move_of m ∷ s.moves.now =
    c.deref-3.ensures.value ∙ c.in_ok-moves.ensures ∙ ap (λ (one : Move). one ∷ s.moves.now) c.moves.ensures in
    let told = string_bytes c.in_ok-told.told in
    let behind = string_bytes c.in_ok-behind.behind in
    let shown = moved (λ there. IsNext there s.text.now m f told) s.name.now s.own.now c.deref-2.result.now whole c.deref-3.result.now (move_of m ∷ s.moves.now)
    text all c.in_ok-told.ensures in
    let further = moved (λ there. IsTold there behind) s.name.now s.own.now c.deref-2.result.now whole c.deref-3.result.now (move_of m ∷ s.moves.now)
    text all c.in_ok-behind.ensures in
    let bytes : string_bytes c.push_str.new.self ≡ told ++ behind = c.in_ok-push_str.ensures.bytes ∙ ap (λ more. told ++ more) c.as_str.ensures.value in
    rw bytes (goes_on m whole f told behind few is_mended finds shown further)

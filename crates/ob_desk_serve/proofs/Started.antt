-- What workers handed back, one worker more.
use Rattle.std.proofs.Common.{◌≡◌, ◌∙◌, ◌++◌, ◌∷◌, [], Global, List, None, Option, Some, Vec, ap, map, sym}
use Rattle.std.proofs.lemmas.List.{append-nil, map-append}
use Rattle.std.proofs.lemmas.List.Elements.{filter_map-append}
use Rattle.ob_desk_floor.specs.declared.seat.CallAnswer.{CallAnswer}
use Rattle.ob_desk_serve.specs.declared.worker.Worked.{Worked}
use Rattle.ob_desk_serve.specs.NotAllEnded.{started}

abbrev itself : Option Worked → Option Worked
itself w = w

one_started : (workers : List (Option Worked)) (x : Option Worked) (w : Worked) → x ≡ Some w → started (workers ++ x ∷ []) ≡ started workers ++ w ∷ []
one_started workers x w is = ap (λ (y : Option Worked). started (workers ++ y ∷ [])) is ∙ filter_map-append itself workers (Some w ∷ [])

none_started : (workers : List (Option Worked)) (x : Option Worked) → x ≡ None → started (workers ++ x ∷ []) ≡ started workers
none_started workers x is = ap (λ (y : Option Worked). started (workers ++ y ∷ [])) is ∙ filter_map-append itself workers (None ∷ []) ∙ append-nil (started workers)

-- one that was started
pub one_more : {B : Type 0} (f : Worked → B) (workers : List (Option Worked)) (x : Option Worked) (w : Worked) (old new : List B) → x ≡ Some w → new ≡ old ++ f w ∷ [] → old ≡ map f (started workers) → new ≡ map f (started (workers ++ x ∷ []))
one_more {B} f workers x w old new is pushed so =
    pushed ∙ ap (λ (l : List B). l ++ f w ∷ []) so ∙ sym (map-append f (started workers) (w ∷ [])) ∙ ap (map f) (sym (one_started workers x w is))

pub one_list_more : (workers : List (Option Worked)) (x : Option Worked) (w : Worked) (old new : List (Vec CallAnswer Global)) → x ≡ Some w → new ≡ old ++ w.answers ∷ [] → map (λ (v : Vec CallAnswer Global). v.items) old ≡ map (λ (y : Worked). y.answers.items) (started workers) → map (λ (v : Vec CallAnswer Global). v.items) new ≡ map (λ (y : Worked). y.answers.items) (started (workers ++ x ∷ []))
one_list_more workers x w old new is pushed so =
    let items : Vec CallAnswer Global → List CallAnswer = λ v. v.items in
    one_more (λ (y : Worked). y.answers.items) workers x w (map items old) (map items new) is (ap (map items) pushed ∙ map-append items old (w.answers ∷ [])) so

-- one that was not
pub none_more : {B : Type 0} (f : Worked → B) (workers : List (Option Worked)) (x : Option Worked) (old : List B) → x ≡ None → old ≡ map f (started workers) → old ≡ map f (started (workers ++ x ∷ []))
none_more f workers x old is so = so ∙ ap (map f) (sym (none_started workers x is))

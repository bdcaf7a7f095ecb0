-- The text of code, place by place and procedure by procedure.
use Rattle.std.proofs.Common.{◌≡◌, ℕ, zero, suc, ◌+◌, ◌-◌, ◌<◌, ◌≤◌, List, [], ◌∷◌, ◌++◌, length, get_or, drop, Some, None, map, refl, sym, ap, ◌∙◌, arith, append_assoc, append-nil, add-one}
use Rattle.std.specs.Prelude.{slice_get}
use Rattle.std.proofs.lemmas.Option.{gets}
use Rattle.std.proofs.lemmas.Grind.{common_steps}
use Rattle.std.proofs.Math.Seq.{drop-cons}
use Rattle.std.proofs.lemmas.List.{get_or-map}
use Rattle.ob_code_words.specs.declared.instr.Instr.{Instr}
use Rattle.ob_object_compile.specs.Listing.{line_at, lines_from, heading_line, end_of, procedure_text, listing}

-- the lines from a place on begin with that of the instruction there
pub lines_from-more : (instructions : List Instr) (place to : ℕ) → place < to → lines_from instructions place (to - place) ≡ line_at place (slice_get instructions place) ++ lines_from instructions (place + 1) (to - (place + 1))
lines_from-more instructions place to h =
    let e : to - place ≡ suc (to - (place + 1)) = omega arith in ap (λ n. lines_from instructions place n) e

-- the text so far, one place on
pub line_more : (t t' whole : List ℕ) (instructions : List Instr) (place to : ℕ) → place < to → t' ≡ t ++ line_at place (slice_get instructions place) → t ++ lines_from instructions place (to - place) ≡ whole → t' ++ lines_from instructions (place + 1) (to - (place + 1)) ≡ whole
line_more t t' whole instructions place to h e so_far =
    let rest = lines_from instructions (place + 1) (to - (place + 1)) in
    let line = line_at place (slice_get instructions place) in
    ap (λ l. l ++ rest) e ∙ append_assoc t line rest ∙ ap (λ l. t ++ l) (sym (lines_from-more instructions place to h)) ∙ so_far

-- where there is an entry, and where there is none
pub drop_found : (xs : List ℕ) (k x : ℕ) → Some x ≡ slice_get xs k → drop k xs ≡ x ∷ drop (k + 1) xs
drop_found xs k x h =
    let within : k < length xs = grind (arith, gets) in
    let at : get_or xs k x ≡ x = grind (arith, gets) in
    drop-cons xs k x within ∙ ap (λ y. y ∷ drop (suc k) xs) at ∙ ap (λ n. x ∷ drop n xs) (sym (add-one k))

pub drop_past : (xs : List ℕ) (k : ℕ) → None ≡ slice_get xs k → drop k xs ≡ []
drop_past xs k h = let past : length xs ≤ k = grind (arith, gets) in grind (arith, common_steps)

drop_one : {A : Type 0} (xs : List A) (k : ℕ) → drop 1 (drop k xs) ≡ drop (suc k) xs
drop_one xs zero = refl
drop_one [] (suc k) = refl
drop_one (x ∷ xs) (suc k) = drop_one xs k

-- the heading and the lines of a procedure are its text
pub procedure_written : (t t' t'' name : List ℕ) (instructions : List Instr) (entries : List ℕ) (k entry from end : ℕ) → Some entry ≡ slice_get entries k → from ≡ entry → end ≡ end_of (drop (k + 1) entries) (length instructions) → t' ≡ t ++ heading_line name → t'' ≡ t' ++ lines_from instructions from (end - from) → t'' ≡ t ++ procedure_text instructions (drop k entries) name
procedure_written t t' t'' name instructions entries k entry from end found f e heading lines =
    let found_from = drop_found entries k entry found in
    lines
    ∙ ap (λ n. t' ++ lines_from instructions n (end - n)) f
    ∙ ap (λ l. l ++ lines_from instructions entry (end - entry)) heading
    ∙ append_assoc t (heading_line name) (lines_from instructions entry (end - entry))
    ∙ ap (λ n. t ++ (heading_line name ++ lines_from instructions entry (n - entry))) e
    ∙ ap (λ l. t ++ procedure_text instructions l name) (sym found_from)

-- there is no procedure of this number
pub procedure_missing : (t name : List ℕ) (instructions : List Instr) (entries : List ℕ) (k : ℕ) → None ≡ slice_get entries k → t ≡ t ++ procedure_text instructions (drop k entries) name
procedure_missing t name instructions entries k h =
    sym (append-nil t) ∙ ap (λ l. t ++ procedure_text instructions l name) (sym (drop_past entries k h))

-- the name that a place of the list has
pub name_at : {A : Type 0} (f : A → List ℕ) (xs : List A) (k : ℕ) (x : A) → k < length xs → x ≡ get_or xs k x → f x ≡ get_or (map f xs) k (f x)
name_at f xs k x h at = ap f at ∙ sym (get_or-map f xs k x (f x) h)

-- the text so far, one procedure on
pub procedure_more : (t t' whole : List ℕ) (instructions : List Instr) (entries : List ℕ) (names : List (List ℕ)) (k : ℕ) (name : List ℕ) → k < length names → name ≡ get_or names k name → t' ≡ t ++ procedure_text instructions (drop k entries) name → t ++ listing instructions (drop k entries) (drop k names) ≡ whole → t' ++ listing instructions (drop (k + 1) entries) (drop (k + 1) names) ≡ whole
procedure_more t t' whole instructions entries names k name h at e so_far =
    let text = procedure_text instructions (drop k entries) name in
    let rest = listing instructions (drop (k + 1) entries) (drop (k + 1) names) in
    let names_from : drop k names ≡ name ∷ drop (k + 1) names = drop-cons names k name h ∙ ap (λ y. y ∷ drop (suc k) names) (sym at) ∙ ap (λ n. name ∷ drop n names) (sym (add-one k)) in
    let entries_from : drop 1 (drop k entries) ≡ drop (k + 1) entries = drop_one entries k ∙ ap (λ n. drop n entries) (sym (add-one k)) in
    ap (λ l. l ++ rest) e ∙ append_assoc t text rest
    ∙ ap (λ l. t ++ l) (ap (λ l. text ++ listing instructions l (drop (k + 1) names)) (sym entries_from) ∙ ap (listing instructions (drop k entries)) (sym names_from))
    ∙ so_far

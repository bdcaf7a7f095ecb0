-- Where comments end: one by one, and some within another.
use Rattle.std.proofs.Common.{◌≡◌, ◌↔◌, IsTrue, Bool, true, false, ℕ, zero, suc, ◌+◌, ◌-◌, ◌<◌, ◌≤◌, List, [], ◌∷◌, length, drop, slice_range, get_or, refl, sym, ◌∙◌, ap, subst, arith, length-drop}
use Rattle.std.proofs.lemmas.Bool.{false≢true}
use Rattle.std.proofs.lemmas.List.{drop-drop, drop_more, drop_all, take_rest}
use Rattle.ob_scan.specs.Tokens.{OpensComment, opens, ClosesComment, closes, CommentEnds, close, nested, other}

-- the ways in which a comment ends
data Ends (text rest : List ℕ) : Type 0 where
  closed : text ≡ 42 ∷ 41 ∷ rest → Ends text rest
  inner : {inside behind : List ℕ} → text ≡ 40 ∷ 42 ∷ inside → CommentEnds inside behind → CommentEnds behind rest → Ends text rest
  goes_on : {byte : ℕ} {left : List ℕ} → text ≡ byte ∷ left →
      ¬ OpensComment (byte ∷ left) → ¬ ClosesComment (byte ∷ left) → CommentEnds left rest → Ends text rest

ends : {text rest : List ℕ} → CommentEnds text rest → Ends text rest
ends close = closed refl
ends (nested a b) = inner refl a b
ends (other o c a) = goes_on refl o c a

-- the first byte, and those behind it
abbrev pub head : List ℕ → ℕ
head [] = 0
head (byte ∷ bytes) = byte

abbrev pub tail : List ℕ → List ℕ
tail [] = []
tail (byte ∷ bytes) = bytes

-- a star is no parenthesis
star_is_no_parenthesis : (l m : List ℕ) → 42 ∷ l ≡ 40 ∷ m → ⊥
star_is_no_parenthesis l m e = let h : ◌≡◌ {A = ℕ} 42 40 = ap head e in omega arith

-- so many comments within one another end, and this rest is left
abbrev pub End : ℕ → List ℕ → List ℕ → Type 0
End zero text rest = text ≡ rest
End (suc n) text rest = (behind : List ℕ) × CommentEnds text behind × End n behind rest

-- a `*)` ends the innermost
ends_closed : {text rest : List ℕ} → Ends (42 ∷ 41 ∷ text) rest → text ≡ rest
ends_closed (closed e) = ap (λ l. tail (tail l)) e
ends_closed {text = text} (inner {inside = inside} e a b) = absurd (star_is_no_parenthesis (41 ∷ text) (42 ∷ inside) e)
ends_closed {text = text} (goes_on {byte = byte} {left = left} e o c a) =
    absurd (c (subst ClosesComment e closes))

pub end_closed : (n : ℕ) (text rest : List ℕ) → End (suc n) (42 ∷ 41 ∷ text) rest → End n text rest
end_closed n text rest (behind, a, more) =
    let P : List ℕ → Type 0 = λ l. End n l rest in
    subst P (sym (ends_closed (ends a))) more

pub closed_end : (n : ℕ) (text rest : List ℕ) → End n text rest → End (suc n) (42 ∷ 41 ∷ text) rest
closed_end n text rest more = (text, close, more)

-- a `(*` begins one more
ends_inner : {text rest : List ℕ} → Ends (40 ∷ 42 ∷ text) rest → (behind : List ℕ) × CommentEnds text behind × CommentEnds behind rest
ends_inner {text = text} {rest = rest} (closed e) = absurd (star_is_no_parenthesis (41 ∷ rest) (42 ∷ text) (sym e))
ends_inner {text = text} (inner {inside = inside} {behind = behind} e a b) =
    let P : List ℕ → Type 0 = λ l. CommentEnds l behind in
    (behind, subst P (sym (ap (λ l. tail (tail l)) e)) a, b)
ends_inner (goes_on e o c a) = absurd (o (subst OpensComment e opens))

pub end_opened : (n : ℕ) (text rest : List ℕ) → End (suc n) (40 ∷ 42 ∷ text) rest → End (suc (suc n)) text rest
end_opened n text rest (behind, a, more) =
    let x = ends_inner (ends a) in
    (x.0, x.1, (behind, x.2, more))

pub opened_end : (n : ℕ) (text rest : List ℕ) → End (suc (suc n)) text rest → End (suc n) (40 ∷ 42 ∷ text) rest
opened_end n text rest (inside, a, (behind, b, more)) = (behind, nested a b, more)

-- any other byte is passed
ends_other : {byte : ℕ} {text rest : List ℕ} → ¬ OpensComment (byte ∷ text) → ¬ ClosesComment (byte ∷ text) →
    Ends (byte ∷ text) rest → CommentEnds text rest
ends_other o c (closed e) = absurd (c (subst ClosesComment (sym e) closes))
ends_other o c (inner e a b) = absurd (o (subst OpensComment (sym e) opens))
ends_other {rest = rest} o c (goes_on e p d a) =
    let P : List ℕ → Type 0 = λ l. CommentEnds l rest in
    subst P (sym (ap tail e)) a

pub end_passed : (n byte : ℕ) (text rest : List ℕ) → ¬ OpensComment (byte ∷ text) → ¬ ClosesComment (byte ∷ text) →
    End (suc n) (byte ∷ text) rest → End (suc n) text rest
end_passed n byte text rest o c (behind, a, more) = (behind, ends_other o c (ends a), more)

pub passed_end : (n byte : ℕ) (text rest : List ℕ) → ¬ OpensComment (byte ∷ text) → ¬ ClosesComment (byte ∷ text) →
    End (suc n) text rest → End (suc n) (byte ∷ text) rest
passed_end n byte text rest o c (behind, a, more) = (behind, other o c a, more)

-- at the end of the text no comment ends
nothing_ends : {rest : List ℕ} → Ends [] rest → ⊥
nothing_ends (closed e) = cc
nothing_ends (inner e a b) = cc
nothing_ends (goes_on e o c a) = cc

pub end_nothing : (n : ℕ) (rest : List ℕ) → End (suc n) [] rest → ⊥
end_nothing n rest (behind, a, more) = nothing_ends (ends a)

-- a comment ends in one place
pub comment_ends_once : {text rest other_rest : List ℕ} → CommentEnds text rest → CommentEnds text other_rest → rest ≡ other_rest
comment_ends_once close b = ends_closed (ends b)
comment_ends_once {other_rest = last} (nested {behind = behind} a more) b =
    let x = ends_inner (ends b) in
    let P : List ℕ → Type 0 = λ l. CommentEnds l last in
    comment_ends_once more (subst P (sym (comment_ends_once a x.1)) x.2)
comment_ends_once (other o c a) b = comment_ends_once a (ends_other o c (ends b))

-- what stands behind a mark
pub opens_is : {text : List ℕ} → OpensComment text → text ≡ 40 ∷ 42 ∷ drop 2 text
opens_is opens = refl

pub closes_is : {text : List ℕ} → ClosesComment text → text ≡ 42 ∷ 41 ∷ drop 2 text
closes_is closes = refl

pub opens_from : (text rest : List ℕ) → text ≡ 40 ∷ 42 ∷ rest → OpensComment text
opens_from text rest e = subst OpensComment (sym e) opens

pub closes_from : (text rest : List ℕ) → text ≡ 42 ∷ 41 ∷ rest → ClosesComment text
closes_from text rest e = subst ClosesComment (sym e) closes

-- at this place so many comments are open, the outermost of them from this start on: what ends it, ends them all
pub record IsInComment (text : List ℕ) (start at depth : ℕ) : Type 0 where
  pub open_here : 0 < depth
  pub onward : (rest : List ℕ) → CommentEnds (drop start text) rest → End depth (drop at text) rest
  pub back : (rest : List ℕ) → End depth (drop at text) rest → CommentEnds (drop start text) rest

-- the text from a place on, behind a mark
drop_opened : (text : List ℕ) (at : ℕ) → OpensComment (drop at text) → drop at text ≡ 40 ∷ 42 ∷ drop (at + 2) text
drop_opened text at o = opens_is o ∙ ap (λ l. 40 ∷ 42 ∷ l) (drop-drop 2 at text)

drop_closed : (text : List ℕ) (at : ℕ) → ClosesComment (drop at text) → drop at text ≡ 42 ∷ 41 ∷ drop (at + 2) text
drop_closed text at c = closes_is c ∙ ap (λ l. 42 ∷ 41 ∷ l) (drop-drop 2 at text)

-- the bytes of a mark are there
two_within : (text rest : List ℕ) (at one two : ℕ) → drop at text ≡ one ∷ two ∷ rest → at + 2 ≤ length text
two_within text rest at one two e = let n = length-drop at text in let m = ap length e in omega arith

pub opened_within : (text : List ℕ) (at : ℕ) → OpensComment (drop at text) → at + 2 ≤ length text
opened_within text at o = two_within text (drop (at + 2) text) at 40 42 (drop_opened text at o)

pub closed_within : (text : List ℕ) (at : ℕ) → ClosesComment (drop at text) → at + 2 ≤ length text
closed_within text at c = two_within text (drop (at + 2) text) at 42 41 (drop_closed text at c)

-- how the comments that are open change
pub in_comment_start : (text : List ℕ) (start : ℕ) → IsInComment text start start 1
in_comment_start text start = record {
  open_here = omega arith;
  onward = λ rest c. (rest, c, refl);
  back = λ rest h. (let P : List ℕ → Type 0 = λ l. CommentEnds (drop start text) l in subst P h.2 h.1);
}

pub in_comment_opened : (text : List ℕ) (start at depth : ℕ) → IsInComment text start at depth → OpensComment (drop at text) →
    IsInComment text start (at + 2) (depth + 1)
in_comment_opened text start at zero i o = absurd (let h = i.open_here in omega arith)
in_comment_opened text start at (suc n) i o =
    let e = drop_opened text at o in
    let left = drop (at + 2) text in
    let P : List ℕ → List ℕ → Type 0 = λ rest l. End (suc n) l rest in
    let Q : List ℕ → ℕ → Type 0 = λ rest d. End d left rest in
    let d : suc (suc n) ≡ suc n + 1 = omega arith in
    record {
      open_here = omega arith;
      onward = λ rest c. subst (Q rest) d (end_opened n left rest (subst (P rest) e (i.onward rest c)));
      back = λ rest h. i.back rest (subst (P rest) (sym e) (opened_end n left rest (subst (Q rest) (sym d) h)));
    }

pub in_comment_closed : (text : List ℕ) (start at depth : ℕ) → IsInComment text start at depth → ClosesComment (drop at text) →
    1 < depth → IsInComment text start (at + 2) (depth - 1)
in_comment_closed text start at zero i c h = absurd (omega arith)
in_comment_closed text start at (suc n) i c h =
    let e = drop_closed text at c in
    let left = drop (at + 2) text in
    let P : List ℕ → List ℕ → Type 0 = λ rest l. End (suc n) l rest in
    let Q : List ℕ → ℕ → Type 0 = λ rest d. End d left rest in
    let d : n ≡ suc n - 1 = omega arith in
    record {
      open_here = omega arith;
      onward = λ rest k. subst (Q rest) d (end_closed n left rest (subst (P rest) e (i.onward rest k)));
      back = λ rest k. i.back rest (subst (P rest) (sym e) (closed_end n left rest (subst (Q rest) (sym d) k)));
    }

pub in_comment_done : (text : List ℕ) (start at depth : ℕ) → IsInComment text start at depth → ClosesComment (drop at text) →
    depth ≤ 1 → CommentEnds (drop start text) (drop (at + 2) text)
in_comment_done text start at zero i c h = absurd (let k = i.open_here in omega arith)
in_comment_done text start at (suc (suc n)) i c h = absurd (omega arith)
in_comment_done text start at (suc zero) i c h =
    let e = drop_closed text at c in
    let left = drop (at + 2) text in
    let P : List ℕ → Type 0 = λ l. End 1 l left in
    i.back left (subst P (sym e) (closed_end 0 left left refl))

pub in_comment_passed : (text : List ℕ) (start at depth : ℕ) → IsInComment text start at depth → at < length text →
    ¬ OpensComment (drop at text) → ¬ ClosesComment (drop at text) → IsInComment text start (at + 1) depth
in_comment_passed text start at zero i h o c = absurd (let k = i.open_here in omega arith)
in_comment_passed text start at (suc n) i h o c =
    let e = drop_more text at 0 h in
    let byte = get_or text at 0 in
    let left = drop (at + 1) text in
    let P : List ℕ → List ℕ → Type 0 = λ rest l. End (suc n) l rest in
    let p : ¬ OpensComment (byte ∷ left) = λ k. o (subst OpensComment (sym e) k) in
    let q : ¬ ClosesComment (byte ∷ left) = λ k. c (subst ClosesComment (sym e) k) in
    record {
      open_here = i.open_here;
      onward = λ rest k. end_passed n byte left rest p q (subst (P rest) e (i.onward rest k));
      back = λ rest k. i.back rest (subst (P rest) (sym e) (passed_end n byte left rest p q k));
    }

pub in_comment_end : (text : List ℕ) (start at depth : ℕ) → IsInComment text start at depth → length text ≤ at →
    (rest : List ℕ) → CommentEnds (drop start text) rest → ⊥
in_comment_end text start at zero i h rest k = let k = i.open_here in absurd (omega arith)
in_comment_end text start at (suc n) i h rest k =
    let P : List ℕ → Type 0 = λ l. End (suc n) l rest in
    end_nothing n rest (subst P (drop_all at text h) (i.onward rest k))

-- what the tests of what is left of a text say of it
pub left_is : (text : List ℕ) (at : ℕ) → slice_range text at (length text) ≡ drop at text
left_is text at = take_rest text at

pub left_yes : (P : List ℕ → Type 0) (text : List ℕ) (at : ℕ) (answer : Bool) →
    IsTrue answer ↔ P (slice_range text at (length text)) → answer ≡ true → P (drop at text)
left_yes P text at answer says h = subst P (left_is text at) (says.0 h)

pub left_no : (P : List ℕ → Type 0) (text : List ℕ) (at : ℕ) (answer : Bool) →
    IsTrue answer ↔ P (slice_range text at (length text)) → answer ≡ false → ¬ P (drop at text)
left_no P text at answer says h p = false≢true (sym h ∙ says.1 (subst P (sym (left_is text at)) p))

-- What lines lead to, one after the other: at most one thing, whatever lines between them say nothing.
use Rattle.std.proofs.Common.{◌≡◌, ◌∙◌, ℕ, ◌==◌, ◌||◌, not, cond, Bool, true, false, List, [], ◌∷◌, ◌++◌, Some, refl, sym, ap, subst}
use Rattle.std.proofs.lemmas.Option.{same_Some}
use Rattle.ob_meaning.specs.ByPositionStore.{Holds}
use Rattle.ob_meaning.specs.ByPositionValue.{Value}
use Rattle.ob_interface.specs.Call.{ObjectCall, Reply}
use Rattle.ob_text_reading.specs.HistoryLines.{is_said, said}
use Rattle.ob_text_reading.specs.Reading.{Heard, Leads, LeadsAs}
use Rattle.ob_text_values_reading.specs.LineKinds.{kind_of, kind_of_byte}
use Rattle.ob_text_values_reading.specs.declared.kind.LineKind.{LineKind}
use Rattle.ob_text_values_reading.specs.declared.kind.LineKind.TheVariants as Kinds
use Rattle.ob_text_values_reading.specs.declared.kind.Stage.TheVariants as Stages
use Rattle.ob_text_reading.proofs.OneEvent.{one_budget, one_event}
use Rattle.ob_text_reading.proofs.OpeningLines.{one_opening}
use Rattle.ob_text_reading.specs.Openings.{IsOpening}
use Rattle.ob_text_reading.specs.RecordLines.{Line}
use Rattle.ob_typing.specs.Program.{Program, Variable}
use Rattle.wf_history.specs.History.{Event}

module _ (program : Program) where
  -- the lines lead from one to the other
  pub data Steps : Heard → List Line → Heard → Type 0 where
    here : {h : Heard} → Steps h [] h
    next : {h i j : Heard} {line : Line} {ls : List Line} → Leads program h line i → Steps i ls j → Steps h (line ∷ ls) j

  pub joined : {h i j : Heard} {xs ys : List Line} → Steps h xs i → Steps i ys j → Steps h (xs ++ ys) j
  joined here s = s
  joined (next l r) s = next l (joined r s)

  -- the lines lead to one between
  pub record Parted (h : Heard) (xs ys : List Line) (j : Heard) : Type 0 where
    pub between : Heard
    pub first : Steps h xs between
    pub second : Steps between ys j

  pub parted : {h j : Heard} (xs ys : List Line) → Steps h (xs ++ ys) j → Parted h xs ys j
  parted {h} [] ys s = record { between = h; first = here; second = s }
  parted (x ∷ xs) ys (next l r) = let p = parted xs ys r in record { between = p.between; first = next l p.first; second = p.second }

  pub first_lead : {h j : Heard} {line : Line} {ls : List Line} → Steps h (line ∷ ls) j → (i : Heard) × Leads program h line i
  first_lead (next {i = i} l r) = (i, l)

  same_budget : (h : Heard) (a b : ℕ) → a ≡ b → ◌≡◌ {A = Heard} (record { stage = Stages.Budget; budget = Some a; held = h.held; events = h.events }) (record { stage = Stages.Budget; budget = Some b; held = h.held; events = h.events })
  same_budget h a b e = ap (λ (n : ℕ). record { stage = Stages.Budget; budget = Some n; held = h.held; events = h.events }) e

  one_as : (h i j : Heard) (line : Line) (kind : LineKind) → LeadsAs program h line kind i → LeadsAs program h line kind j → i ≡ j
  one_as h i j line Kinds.Comment a b = a ∙ sym b
  one_as h i j line Kinds.Title a b = a.2 ∙ sym b.2
  one_as h i j line Kinds.Count a b = a.2 ∙ sym b.2
  one_as h i j line Kinds.Budget a b = a.3 ∙ same_budget h a.0 b.0 (one_budget a.2 b.2) ∙ sym b.3
  one_as h i j line Kinds.Opening a b =
      let variable : a.variable ≡ b.variable = same_Some a.variable b.variable (sym a.own ∙ b.own) in
      let value : a.value ≡ b.value = one_opening (subst (λ (v : Variable). IsOpening v line a.value) variable a.says) b.says in
      a.after ∙ ap (λ (w : Value). record { stage = Stages.Openings; budget = h.budget; held = h.held ++ Holds w ∷ []; events = h.events }) value ∙ sym b.after
  one_as h i j line Kinds.Event a b =
      let same : a.e ≡ b.e = one_event _ _ _ a.says.next.form b.says.next.form in
      a.after ∙ ap (λ (e : Event ObjectCall Reply). record { stage = Stages.Events; budget = h.budget; held = h.held; events = h.events ++ e ∷ [] }) same ∙ sym b.after
  one_as h i j line Kinds.Applied a b = a.3 ∙ sym b.3
  one_as h i j line Kinds.Order a b = a.3 ∙ sym b.3
  one_as h i j line Kinds.Tail a b = a.2 ∙ sym b.2
  one_as h i j line Kinds.Other a b = absurd a

  pub one_end : {h i j : Heard} {ls : List Line} → Steps h ls i → Steps h ls j → i ≡ j
  one_end here here = refl
  one_end {h} {i} {j} (next {i = k} {line = line} {ls = ls} l r) (next {i = m} n s) =
      let same : m ≡ k = one_as h m k line (kind_of line) n l in
      one_end r (subst (λ (x : Heard). Steps x ls j) same s)

  -- ---- lines that say nothing

  comment_byte : (b : ℕ) (t : Bool) → (b == 35) ≡ t → not t ≡ false → kind_of_byte b ≡ Kinds.Comment
  comment_byte b true is e = rw is refl
  comment_byte b false is e = absurd (cc)

  pub comment_of : (line : Line) → is_said line ≡ false → kind_of line ≡ Kinds.Comment
  comment_of [] e = refl
  comment_of ([] ∷ ws) e = absurd (cc)
  comment_of ((b ∷ bytes) ∷ ws) e = comment_byte b (b == 35) refl e

  comment_stays : (h i : Heard) (line : Line) → is_said line ≡ false → Leads program h line i → i ≡ h
  comment_stays h i line e l = subst (λ (k : LineKind). LeadsAs program h line k i) (comment_of line e) l

  with_comment : (h j : Heard) (line : Line) (ls : List Line) → ((i : Heard) → Steps i (said ls) j → Steps i ls j) → (t : Bool) → is_said line ≡ t →
      Steps h (cond t (line ∷ said ls) (said ls)) j → Steps h (line ∷ ls) j
  with_comment h j line ls others true is (next {i = i} l r) = next l (others i r)
  with_comment h j line ls others false is r =
      next (subst (λ (k : LineKind). LeadsAs program h line k h) (sym (comment_of line is)) refl) (others h r)

  pub steps_of_said : (h j : Heard) (ls : List Line) → Steps h (said ls) j → Steps h ls j
  steps_of_said h j [] s = s
  steps_of_said h j (line ∷ ls) s = with_comment h j line ls (λ i r. steps_of_said i j ls r) (is_said line) refl s

  without_comment : (h i j : Heard) (line : Line) (ls : List Line) → Leads program h line i → Steps i (said ls) j → (t : Bool) → is_said line ≡ t →
      Steps h (cond t (line ∷ said ls) (said ls)) j
  without_comment h i j line ls l r true is = next l r
  without_comment h i j line ls l r false is = subst (λ (x : Heard). Steps x (said ls) j) (comment_stays h i line is l) r

  pub said_of_steps : (h j : Heard) (ls : List Line) → Steps h ls j → Steps h (said ls) j
  said_of_steps h j [] s = s
  said_of_steps h j (line ∷ ls) (next {i = i} l r) = without_comment h i j line ls l (said_of_steps i j ls r) (is_said line) refl

-- each line says something
pub data AreSaid : List Line → Type 0 where
  none : AreSaid []
  more : {line : Line} {ls : List Line} → is_said line ≡ true → AreSaid ls → AreSaid (line ∷ ls)

said_first : (line : Line) (ls : List Line) → AreSaid ls → (t : Bool) → is_said line ≡ t → AreSaid (cond t (line ∷ ls) ls)
said_first line ls others true is = more is others
said_first line ls others false is = others

pub said_alone : (ls : List Line) → AreSaid (said ls)
said_alone [] = none
said_alone (line ∷ ls) = said_first line (said ls) (said_alone ls) (is_said line) refl

-- what says something is of another kind
either : (t : Bool) {x y : LineKind} → (x ≡ Kinds.Comment → ⊥) → (y ≡ Kinds.Comment → ⊥) → cond t x y ≡ Kinds.Comment → ⊥
either true a b = a
either false a b = b

title_apart : Kinds.Title ≡ Kinds.Comment → ⊥
title_apart e = cc

count_apart : Kinds.Count ≡ Kinds.Comment → ⊥
count_apart e = cc

budget_apart : Kinds.Budget ≡ Kinds.Comment → ⊥
budget_apart e = cc

opening_apart : Kinds.Opening ≡ Kinds.Comment → ⊥
opening_apart e = cc

event_apart : Kinds.Event ≡ Kinds.Comment → ⊥
event_apart e = cc

applied_apart : Kinds.Applied ≡ Kinds.Comment → ⊥
applied_apart e = cc

order_apart : Kinds.Order ≡ Kinds.Comment → ⊥
order_apart e = cc

tail_apart : Kinds.Tail ≡ Kinds.Comment → ⊥
tail_apart e = cc

other_apart : Kinds.Other ≡ Kinds.Comment → ⊥
other_apart e = cc

byte_apart : (b : ℕ) (t : Bool) → (b == 35) ≡ t → not t ≡ true → kind_of_byte b ≡ Kinds.Comment → ⊥
byte_apart b true is e k = absurd (cc)
byte_apart b false is e k =
    either (b == 111) title_apart (either (b == 110) count_apart (either (b == 98) budget_apart (either (b == 73) opening_apart
    (either ((b == 66) || (b == 69)) event_apart (either (b == 65) applied_apart (either (b == 79) order_apart
    (either ((b == 83) || (b == 86)) tail_apart other_apart))))))) (rw is at k)

pub said_apart : (line : Line) → is_said line ≡ true → kind_of line ≡ Kinds.Comment → ⊥
said_apart [] e k = absurd (cc)
said_apart ([] ∷ ws) e k = other_apart k
said_apart ((b ∷ bytes) ∷ ws) e k = byte_apart b (b == 35) refl e k

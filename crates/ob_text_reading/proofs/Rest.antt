-- What lines are that lead somewhere: a history, or the first lines of one.
use Rattle.std.proofs.Common.{◌≡◌, ◌∙◌, ℕ, ◌<◌, ◌≤◌, zero, suc, ◌==◌, ◌||◌, Bool, true, false, eq-eqb, List, [], ◌∷◌, ◌++◌, ◌⊎◌, inl, inr, All, Option, Some, None, IsTrue, length, take, drop, slice_get, refl, sym, ap, ap₂, subst, arith, append_assoc, append-nil, add-one}
use Rattle.std.proofs.lemmas.Bool.{eqb-true}
use Rattle.std.proofs.lemmas.List.{length_push, take_all, take-append-drop}
use Rattle.std.proofs.lemmas.List.Elements.{All-cons, All-nil}
use Rattle.ob_checked.specs.Exports.{signatures}
use Rattle.ob_meaning.specs.ByPositionStore.{Activation, Holds}
use Rattle.ob_interface.specs.Call.{ObjectCall, Reply}
use Rattle.ob_text_reading.specs.HistoryLines as Lines
use Rattle.ob_text_reading.specs.HistoryLines.{AreEventLines, AtMostOne, HistoryTold, IsAnyCount, IsAnyTitle, IsFront, IsHistoryOf, IsHistoryPart, TellsBudget, TellsOpening, is_said}
use Rattle.ob_text_reading.specs.Reading.{Heard, LeadsAs, NamesCalls, at_stage, at_start, carried_in, is_opened, place, told_in}
use Rattle.ob_text_values_reading.specs.LineKinds.{kind_of}
use Rattle.ob_text_values_reading.specs.declared.kind.LineKind.{LineKind}
use Rattle.ob_text_values_reading.specs.declared.kind.LineKind.TheVariants as Kinds
use Rattle.ob_text_values_reading.specs.declared.kind.Stage.TheVariants as Stages
use Rattle.ob_text_reading.proofs.Steps.{AreSaid, Steps, here, more, next, said_apart}
use Rattle.ob_text_reading.specs.Openings as Openings
use Rattle.ob_text_reading.specs.Openings.{AreOpenings}
use Rattle.ob_text_reading.specs.RecordLines as Records
use Rattle.ob_text_reading.specs.RecordLines.{IsApplied, IsBudget, IsOrder, IsTail, Line}
use Rattle.ob_typing.specs.Program.{Program, Variable}
use Rattle.wf_history.specs.History.{Event}

-- the line of the budget, or none
pub data MayTell (before : Option ℕ) : List Line → Option ℕ → Type 0 where
  nothing : MayTell before [] before
  budget : {line : Line} {b : ℕ} → IsBudget line b → MayTell before (line ∷ []) (Some b)

nothing_told : {before after : Option ℕ} {ls : List Line} → MayTell before ls after → ls ≡ [] → after ≡ before
nothing_told nothing e = refl
nothing_told (budget h) e = absurd (cc)

at_first : {ls : List Line} {b : Option ℕ} → MayTell None ls b → TellsBudget ls b
at_first nothing = Lines.none
at_first (budget h) = Lines.told h

nothing_opened : {vs : List Variable} {ls : List Line} {held : Activation} → AreOpenings vs ls held → ls ≡ [] → held ≡ []
nothing_opened Openings.none e = refl
nothing_opened (Openings.more h hs) e = absurd (cc)

nothing_held : {vs : List Variable} {ls : List Line} {held : Activation} → AreOpenings vs ls held → held ≡ [] → ls ≡ []
nothing_held Openings.none e = refl
nothing_held (Openings.more h hs) e = absurd (cc)

drop_at : (vs : List Variable) (n : ℕ) (v : Variable) → slice_get vs n ≡ Some v → drop n vs ≡ v ∷ drop (suc n) vs
drop_at [] n v e = absurd (cc)
drop_at (x ∷ vs) zero v e = cc
drop_at (x ∷ vs) (suc n) v e = drop_at vs n v e

named_applied : {line : Line} → NamesCalls 65 line → IsApplied Lines.process_numbers line
named_applied h = subst (λ (l : Line). IsApplied Lines.process_numbers l) (sym h.parts) (Records.applied h.each)

named_order : {line : Line} (h : NamesCalls 79 line) → IsOrder Lines.process_numbers line h.ids
named_order h = subst (λ (l : Line). IsOrder Lines.process_numbers l h.ids) (sym h.parts) (Records.order h.each)

all_opened : (n m : ℕ) → ((suc n == 0) || (suc n == m)) ≡ true → suc n ≡ m
all_opened n m h = by_first (suc n == 0) refl h
  where
    by_first : (t : Bool) → (suc n == 0) ≡ t → (t || (suc n == m)) ≡ true → suc n ≡ m
    by_first true e h = absurd (let none : suc n ≡ 0 = eqb-true (suc n) 0 e in omega (arith, none))
    by_first false e h = eqb-true (suc n) m h

pub opened_all : (n m : ℕ) → n ≡ m → ((n == 0) || (n == m)) ≡ true
opened_all n m e = by_first (n == 0)
  where
    by_first : (t : Bool) → (t || (n == m)) ≡ true
    by_first true = refl
    by_first false = eq-eqb n m e

module _ (program : Program) where
  -- what lines are that lead from one to the other
  pub record Rest (h : Heard) (ls : List Line) (j : Heard) : Type 0 where
    pub title : List Line
    pub count : List Line
    pub third : List Line
    pub openings : List Line
    pub behind : List Line
    pub more : Activation
    pub parts : ls ≡ title ++ count ++ third ++ openings ++ behind
    pub titles : AtMostOne IsAnyTitle title
    pub counts : AtMostOne IsAnyCount count
    pub tells : MayTell h.budget third j.budget
    pub held : j.held ≡ h.held ++ more
    pub opens : AreOpenings (take (length more) (drop (length h.held) program.variables)) openings more
    pub lines : AreEventLines (signatures program) h.events behind j.events
    pub only : (behind ≡ []) ⊎ IsTrue (is_opened program.variables j.held)
    pub no_title : 1 ≤ place h.stage → title ≡ []
    pub no_count : 2 ≤ place h.stage → count ≡ []
    pub no_third : 3 ≤ place h.stage → third ≡ []
    pub no_openings : 5 ≤ place h.stage → openings ≡ []

  no_lines : (h : Heard) → Rest h [] h
  no_lines h =
      record {
        title = [];
        count = [];
        third = [];
        openings = [];
        behind = [];
        more = [];
        parts = refl;
        titles = Lines.none;
        counts = Lines.none;
        tells = nothing;
        held = sym (append-nil h.held);
        opens = Openings.none;
        lines = Lines.over;
        only = inl refl;
        no_title = λ e. refl;
        no_count = λ e. refl;
        no_third = λ e. refl;
        no_openings = λ e. refl;
      }

  -- behind the order nothing more is told
  only_tails : {h j : Heard} {ls : List Line} → Steps program h ls j → AreSaid ls → place h.stage ≡ 6 → All IsTail ls × (j ≡ h)
  only_tails here s e = (All-nil IsTail, refl)
  only_tails {h} {j} (next {i = i} {line = line} {ls = ls} l r) (more is s) e = by_kind (λ late. only_tails r s late) (kind_of line) refl l
    where
      by_kind : (place i.stage ≡ 6 → All IsTail ls × (j ≡ i)) → (kind : LineKind) → kind_of line ≡ kind → LeadsAs program h line kind i → All IsTail (line ∷ ls) × (j ≡ h)
      by_kind rest Kinds.Comment k a = absurd (said_apart line is k)
      by_kind rest Kinds.Title k a = absurd (let early = a.0 in omega (arith, early, e))
      by_kind rest Kinds.Count k a = absurd (let early = a.0 in omega (arith, early, e))
      by_kind rest Kinds.Budget k a = absurd (let early = a.1 in omega (arith, early, e))
      by_kind rest Kinds.Opening k a = absurd (let early = a.early in omega (arith, early, e))
      by_kind rest Kinds.Event k a = absurd (let early = a.early in omega (arith, early, e))
      by_kind rest Kinds.Applied k a = absurd (let early = a.0 in omega (arith, early, e))
      by_kind rest Kinds.Order k a = absurd (let early = a.0 in omega (arith, early, e))
      by_kind rest Kinds.Tail k a =
          let others = rest (ap (λ (x : Heard). place x.stage) a.2 ∙ e) in
          (All-cons IsTail line ls a.1 others.0, others.1 ∙ a.2)
      by_kind rest Kinds.Other k a = absurd a

  module _ (h : Heard) (line : Line) (ls : List Line) (j : Heard) where
    title_more : place h.stage < 1 → IsAnyTitle line → Rest (at_stage Stages.Title h) ls j → Rest h (line ∷ ls) j
    title_more early says r =
        record {
          title = line ∷ [];
          count = r.count;
          third = r.third;
          openings = r.openings;
          behind = r.behind;
          more = r.more;
          parts = ap (λ xs. line ∷ xs) (r.parts ∙ ap (λ xs. xs ++ r.count ++ r.third ++ r.openings ++ r.behind) (r.no_title (omega arith)));
          titles = Lines.one says;
          counts = r.counts;
          tells = r.tells;
          held = r.held;
          opens = r.opens;
          lines = r.lines;
          only = r.only;
          no_title = λ e. absurd (omega (arith, e, early));
          no_count = λ e. absurd (omega (arith, e, early));
          no_third = λ e. absurd (omega (arith, e, early));
          no_openings = λ e. absurd (omega (arith, e, early));
        }

    count_more : place h.stage < 2 → IsAnyCount line → Rest (at_stage Stages.Count h) ls j → Rest h (line ∷ ls) j
    count_more early says r =
        record {
          title = [];
          count = line ∷ [];
          third = r.third;
          openings = r.openings;
          behind = r.behind;
          more = r.more;
          parts = ap (λ xs. line ∷ xs) (r.parts ∙ ap₂ (λ xs ys. xs ++ ys ++ r.third ++ r.openings ++ r.behind) (r.no_title (omega arith)) (r.no_count (omega arith)));
          titles = Lines.none;
          counts = Lines.one says;
          tells = r.tells;
          held = r.held;
          opens = r.opens;
          lines = r.lines;
          only = r.only;
          no_title = λ e. refl;
          no_count = λ e. absurd (omega (arith, e, early));
          no_third = λ e. absurd (omega (arith, e, early));
          no_openings = λ e. absurd (omega (arith, e, early));
        }

    budget_more : (b : ℕ) → place h.stage < 3 → IsBudget line b → Rest (record { stage = Stages.Budget; budget = Some b; held = h.held; events = h.events }) ls j → Rest h (line ∷ ls) j
    budget_more b early says r =
        let no_third = r.no_third (omega arith) in
        record {
          title = [];
          count = [];
          third = line ∷ [];
          openings = r.openings;
          behind = r.behind;
          more = r.more;
          parts = ap (λ xs. line ∷ xs) (r.parts ∙ ap₂ (λ xs ys. xs ++ ys ++ r.third ++ r.openings ++ r.behind) (r.no_title (omega arith)) (r.no_count (omega arith))
              ∙ ap (λ xs. xs ++ r.openings ++ r.behind) no_third);
          titles = Lines.none;
          counts = Lines.none;
          tells = subst (λ (o : Option ℕ). MayTell h.budget (line ∷ []) o) (sym (nothing_told r.tells no_third)) (budget says);
          held = r.held;
          opens = r.opens;
          lines = r.lines;
          only = r.only;
          no_title = λ e. refl;
          no_count = λ e. refl;
          no_third = λ e. absurd (omega (arith, e, early));
          no_openings = λ e. absurd (omega (arith, e, early));
        }

    opening_more : (variable : Variable) (w : _) → place h.stage < 5 → slice_get program.variables (length h.held) ≡ Some variable → Openings.IsOpening variable line w →
        Rest (record { stage = Stages.Openings; budget = h.budget; held = h.held ++ Holds w ∷ []; events = h.events }) ls j → Rest h (line ∷ ls) j
    opening_more variable w early own says r =
        let no_third = r.no_third (omega arith) in
        let left : drop (length h.held) program.variables ≡ variable ∷ drop (suc (length h.held)) program.variables = drop_at program.variables (length h.held) variable own in
        let opens : AreOpenings (take (length r.more) (drop (suc (length h.held)) program.variables)) r.openings r.more =
        subst (λ (n : ℕ). AreOpenings (take (length r.more) (drop n program.variables)) r.openings r.more) (length_push h.held (Holds w) ∙ add-one (length h.held)) r.opens in
        record {
          title = [];
          count = [];
          third = [];
          openings = line ∷ r.openings;
          behind = r.behind;
          more = Holds w ∷ r.more;
          parts = ap (λ xs. line ∷ xs) (r.parts ∙ ap₂ (λ xs ys. xs ++ ys ++ r.third ++ r.openings ++ r.behind) (r.no_title (omega arith)) (r.no_count (omega arith))
              ∙ ap (λ xs. xs ++ r.openings ++ r.behind) no_third);
          titles = Lines.none;
          counts = Lines.none;
          tells = subst (λ (xs : List Line). MayTell h.budget xs j.budget) no_third r.tells;
          held = r.held ∙ append_assoc h.held (Holds w ∷ []) r.more;
          opens = subst (λ (vs : List Variable). AreOpenings (take (suc (length r.more)) vs) (line ∷ r.openings) (Holds w ∷ r.more)) (sym left) (Openings.more says opens);
          lines = r.lines;
          only = r.only;
          no_title = λ e. refl;
          no_count = λ e. refl;
          no_third = λ e. refl;
          no_openings = λ e. absurd (omega (arith, e, early));
        }

    -- one more line of events
    behind_more : (events : List (Event ObjectCall Reply)) → IsTrue (is_opened program.variables h.held) →
        (r : Rest (record { stage = Stages.Events; budget = h.budget; held = h.held; events = events }) ls j) →
        AreEventLines (signatures program) h.events (line ∷ r.behind) j.events → Rest h (line ∷ ls) j
    behind_more events opened r lines =
        let no_third = r.no_third (omega arith) in
        let no_openings = r.no_openings (omega arith) in
        let none_more : r.more ≡ [] = nothing_opened r.opens no_openings in
        let same : j.held ≡ h.held = r.held ∙ ap (λ xs. h.held ++ xs) none_more ∙ append-nil h.held in
        record {
          title = [];
          count = [];
          third = [];
          openings = [];
          behind = line ∷ r.behind;
          more = [];
          parts = ap (λ xs. line ∷ xs) (r.parts ∙ ap₂ (λ xs ys. xs ++ ys ++ r.third ++ r.openings ++ r.behind) (r.no_title (omega arith)) (r.no_count (omega arith))
              ∙ ap₂ (λ xs ys. xs ++ ys ++ r.behind) no_third no_openings);
          titles = Lines.none;
          counts = Lines.none;
          tells = subst (λ (xs : List Line). MayTell h.budget xs j.budget) no_third r.tells;
          held = same ∙ sym (append-nil h.held);
          opens = Openings.none;
          lines = lines;
          only = inr (subst (λ (a : Activation). IsTrue (is_opened program.variables a)) (sym same) opened);
          no_title = λ e. refl;
          no_count = λ e. refl;
          no_third = λ e. refl;
          no_openings = λ e. refl;
        }

    order_more : IsTrue (is_opened program.variables h.held) → NamesCalls 79 line → All IsTail ls → j ≡ at_stage Stages.Order h → Rest h (line ∷ ls) j
    order_more opened says tails is =
        rw is
        (record {
          title = [];
          count = [];
          third = [];
          openings = [];
          behind = line ∷ ls;
          more = [];
          parts = refl;
          titles = Lines.none;
          counts = Lines.none;
          tells = nothing;
          held = sym (append-nil h.held);
          opens = Openings.none;
          lines = Lines.order (named_order says) tails;
          only = inr opened;
          no_title = λ e. refl;
          no_count = λ e. refl;
          no_third = λ e. refl;
          no_openings = λ e. refl;
        })

  rest_of : {h j : Heard} {ls : List Line} → Steps program h ls j → AreSaid ls → place h.stage < 6 → Rest h ls j
  rest_of {h} here s e = no_lines h
  rest_of {h} {j} (next {i = i} {line = line} {ls = ls} l r) (more is s) e = by_kind (λ early. rest_of r s early) (kind_of line) refl l
    where
      others : (place i.stage < 6 → Rest i ls j) → (x : Heard) → i ≡ x → place x.stage < 6 → Rest x ls j
      others rest x same early = subst (λ (y : Heard). Rest y ls j) same (rest (subst (λ (y : Heard). place y.stage < 6) (sym same) early))

      by_kind : (place i.stage < 6 → Rest i ls j) → (kind : LineKind) → kind_of line ≡ kind → LeadsAs program h line kind i → Rest h (line ∷ ls) j
      by_kind rest Kinds.Comment k a = absurd (said_apart line is k)
      by_kind rest Kinds.Title k a = title_more h line ls j a.0 a.1 (others rest _ a.2 (omega arith))
      by_kind rest Kinds.Count k a = count_more h line ls j a.0 a.1 (others rest _ a.2 (omega arith))
      by_kind rest Kinds.Budget k a = budget_more h line ls j a.0 a.1 a.2 (others rest _ a.3 (omega arith))
      by_kind rest Kinds.Opening k a = opening_more h line ls j a.variable a.value a.early a.own a.says (others rest _ a.after (omega arith))
      by_kind rest Kinds.Event k a =
          let behind = others rest _ a.after (omega arith) in
          behind_more h line ls j (h.events ++ a.e ∷ []) a.opened behind (Lines.event a.says behind.lines)
      by_kind rest Kinds.Applied k a =
          let behind = others rest _ a.3 (omega arith) in
          behind_more h line ls j h.events a.1 behind (Lines.applied (named_applied a.2) behind.lines)
      by_kind rest Kinds.Order k a =
          let tails = only_tails r s (ap (λ (x : Heard). place x.stage) a.3) in
          order_more h line ls j a.1 a.2 tails.0 (tails.1 ∙ a.3)
      by_kind rest Kinds.Tail k a = absurd (let late = a.0 in omega (arith, late, e))
      by_kind rest Kinds.Other k a = absurd a

  -- ---- from the start

  front_of : {ls : List Line} {j : Heard} (r : Rest at_start ls j) → IsFront (r.title ++ r.count ++ r.third) j.budget
  front_of r =
      record { title = r.title; count = r.count; third = r.third; parts = refl; titles = r.titles; counts = r.counts; tells = at_first r.tells }

  in_three : {ls : List Line} {j : Heard} (r : Rest at_start ls j) → ls ≡ (r.title ++ r.count ++ r.third) ++ r.openings ++ r.behind
  in_three r = r.parts

  opening_of : (ls : List Line) (held : Activation) → AreOpenings (take (length held) program.variables) ls held → IsTrue (is_opened program.variables held) →
      TellsOpening program.variables ls (carried_in held)
  opening_of ls [] opens opened = rw (nothing_held opens refl) Lines.none
  opening_of [] (w ∷ held) opens opened = absurd (let e = nothing_opened opens refl in cc)
  opening_of (line ∷ ls) (w ∷ held) opens opened =
      let all : suc (length held) ≡ length program.variables = all_opened (length held) (length program.variables) opened in
      Lines.told (subst (λ (vs : List Variable). AreOpenings vs (line ∷ ls) (w ∷ held)) (take_all (suc (length held)) program.variables (omega (arith, all))) opens)

  module _ (ls : List Line) (j : Heard) (s : Steps program at_start ls j) (says : AreSaid ls) where
    all_lines : Rest at_start ls j
    all_lines = rest_of s says (omega arith)

    opens_all : AreOpenings (take (length j.held) program.variables) all_lines.openings j.held
    opens_all = subst (λ (a : Activation). AreOpenings (take (length a) program.variables) all_lines.openings a) (sym all_lines.held) all_lines.opens

    -- where no opening is missing, the lines are a history
    pub whole_history : IsTrue (is_opened program.variables j.held) → IsHistoryOf program ls (told_in j)
    whole_history opened =
        record {
          front = all_lines.title ++ all_lines.count ++ all_lines.third;
          openings = all_lines.openings;
          behind = all_lines.behind;
          parts = in_three all_lines;
          fronts = front_of all_lines;
          opening = opening_of all_lines.openings j.held opens_all opened;
          tells = all_lines.lines;
        }

    opened_lines : all_lines.behind ≡ [] → IsHistoryPart program ls
    opened_lines none_behind =
        let parts : ls ≡ (all_lines.title ++ all_lines.count ++ all_lines.third) ++ all_lines.openings =
        in_three all_lines ∙ ap (λ xs. ((all_lines.title ++ all_lines.count ++ all_lines.third) ++ all_lines.openings) ++ xs) none_behind
        ∙ append-nil ((all_lines.title ++ all_lines.count ++ all_lines.third) ++ all_lines.openings) in
        subst (λ (xs : List Line). IsHistoryPart program xs) (sym parts)
        (Lines.opened (take (length j.held) program.variables) (drop (length j.held) program.variables) (sym (take-append-drop (length j.held) program.variables))
        (front_of all_lines) opens_all)

    -- and else they are the first lines of one
    pub history_part : IsHistoryPart program ls
    history_part = elim all_lines.only [ inl none_behind ↦ opened_lines none_behind | inr opened ↦ Lines.whole (whole_history opened) ]

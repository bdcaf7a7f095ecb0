-- Places at which all replies are to be seen.
use Rattle.std.proofs.Common.{◌≡◌, refl, sym, ap, ◌∙◌, subst, ℕ, ◌+◌, ◌<◌, ◌≤◌, List, [], ◌∷◌, ◌++◌, length, get_or, set, map, Some, arith, inl, inr}
use Rattle.std.proofs.lemmas.Bool.{cases_eq}
use Rattle.std.proofs.lemmas.Option.{slice_get_within}
use Rattle.std.proofs.lemmas.List.Elements.{Contains-push}
use Rattle.std.specs.List.{slice_get, Contains}
use Rattle.wf_history.proofs.Positions.{place_push, place_left, place_of, contains_at, one_item}
use Rattle.wf_outcomes.specs.declared.seen.Found.{Found}
use Rattle.wf_outcomes.specs.Merges.{Configuration}
use Rattle.wf_outcomes.specs.Explored.{Kept, kept_in, IsWorded}
use Rattle.wf_outcomes.specs.Meetings.{AreMarks, AreMet, AreTelling, IsMarked, IsMet, IsPlaced}
use Rattle.wf_outcomes.proofs.OutcomesLists.{map_place, place_map}
use Rattle.wf_outcomes.proofs.Making.{set_other, set_same}

-- as many calls of the process are made at both, on the same state
pub record IsAlike {State : Type 0} (process : ℕ) (one other : Configuration State) : Type 0 where
  pub within : process < length one.counts
  pub count : get_or one.counts process 0 ≡ get_or other.counts process 0
  pub state : one.state ≡ other.state

-- one of the places is alike for the process
pub record IsToldAt {State : Type 0} (found : List (Kept State)) (places : List ℕ) (process : ℕ) (here : Configuration State) : Type 0 where
  pub row : ℕ
  pub place : ℕ
  pub listed : slice_get places row ≡ Some place
  pub one : Kept State
  pub there : slice_get found place ≡ Some one
  pub alike : IsAlike process one.here here

abbrev pub AreTold : {State : Type 0} → List (Kept State) → List ℕ → Type 0
AreTold {State} found places = (k : ℕ) (e : Kept State) (process : ℕ) → slice_get found k ≡ Some e → process < length e.here.counts → IsToldAt found places process e.here

-- places for words are places for states
module _ {State Meaning : Type 0} (meaning : State → Meaning) (words_of : Meaning → List ℕ) (told_apart : (a b : Meaning) → words_of a ≡ words_of b → a ≡ b) where
  pub are_told : (keys : List (Found State)) (places : List ℕ) → ((f : Found State) → Contains keys f → IsWorded meaning words_of f) → AreTelling keys places (length keys) → AreTold (map (kept_in meaning) keys) places
  are_told keys places worded t k e process at within =
      let p = map_place (kept_in meaning) keys k e at in
      let inside : process < length p.0.counts.items = subst (λ (x : Kept Meaning). process < length x.here.counts) (sym p.2) within in
      let m = t.met k process p.0 (slice_get_within keys k p.0 p.1) p.1 inside in
      let one = worded m.one (contains_at keys m.place m.one m.there) in
      let two = worded p.0 (contains_at keys k p.0 p.1) in
      let same = told_apart (meaning m.one.kept.value.state) (meaning p.0.kept.value.state) (sym one ∙ m.alike.words ∙ two) in
      record {
        row = m.row;
        place = m.place;
        listed = m.listed;
        one = kept_in meaning m.one;
        there = place_map (kept_in meaning) keys m.place m.one m.there;
        alike = subst (λ (x : Kept Meaning). IsAlike process (kept_in meaning m.one).here x.here) p.2 (record { within = m.alike.within; count = m.alike.count; state = same });
      }

-- more places
placed_there : (places more : List ℕ) (place : ℕ) → IsPlaced places more place → Contains more place
placed_there places more place w = elim w [
  | inl old ↦ subst (λ (l : List ℕ). Contains l place) (sym old.1) old.0
  | inr new ↦ subst (λ (l : List ℕ). Contains l place) (sym new) (Contains-push places place)
]

placed_left : (places more : List ℕ) (place : ℕ) → IsPlaced places more place → (row k : ℕ) → slice_get places row ≡ Some k → slice_get more row ≡ Some k
placed_left places more place w row k at = elim w [
  | inl old ↦ ap (λ (l : List ℕ). slice_get l row) old.1 ∙ at
  | inr new ↦ ap (λ (l : List ℕ). slice_get l row) new ∙ place_left places (place ∷ []) row k at
]

placed_kept : (places more : List ℕ) (place : ℕ) → IsPlaced places more place → (k : ℕ) → Contains places k → Contains more k
placed_kept places more place w k c = let p = place_of places k c in contains_at more p.0 k (placed_left places more place w p.0 k p.1)

-- marks behind one more place
pub still_marks : (marks more_marks places more : List ℕ) (place : ℕ) → AreMarks marks places → IsPlaced places more place → IsMarked marks more_marks place → AreMarks more_marks more
still_marks marks more_marks places more place are w marked row m at = elim (marked row m at) [
  | inl old ↦ let p = place_of marks m old in placed_kept places more place w m (are p.0 m p.1)
  | inr now ↦ subst (λ (k : ℕ). Contains more k) (sym now) (placed_there places more place w)
]

-- no mark so far, and no place
pub no_marks : (marks places : List ℕ) → marks ≡ [] → AreMarks marks places
no_marks marks places none row m at = let e : slice_get [] row ≡ Some m = ap (λ (l : List ℕ). slice_get l row) (sym none) ∙ at in absurd (cc)

module _ {State : Type 0} (found : List (Found State)) where
  pub nothing_told : (places : List ℕ) → places ≡ [] → AreTelling found places 0
  nothing_told places none = record {
    within = λ row k at. let e : slice_get [] row ≡ Some k = ap (λ (l : List ℕ). slice_get l row) (sym none) ∙ at in absurd (cc);
    met = λ k process here lt at inside. absurd (omega (arith, lt));
  }

  met_more : (places more : List ℕ) (place : ℕ) → IsPlaced places more place → (process : ℕ) (here : Found State) → IsMet found places process here → IsMet found more process here
  met_more places more place w process here m = record { row = m.row; place = m.place; listed = placed_left places more place w m.row m.place m.listed; one = m.one; there = m.there; alike = m.alike }

  module _ (place : ℕ) (here : Found State) (at : slice_get found place ≡ Some here) where
    -- where the configuration itself is among the places
    met_itself : (places : List ℕ) → Contains places place → (process : ℕ) → process < length here.counts.items → IsMet found places process here
    met_itself places c process inside =
        let p = place_of places place c in
        record { row = p.0; place = place; listed = p.1; one = here; there = at; alike = record { within = inside; count = refl; words = refl } }

    -- no process so far
    pub met_none : (places : List ℕ) → AreMet found places here 0
    met_none places process lt inside = absurd (omega (arith, lt))

    -- one process more, that was met
    pub met_old : (places : List ℕ) (process : ℕ) → AreMet found places here process → IsMet found places process here → AreMet found places here (process + 1)
    met_old places process are m other lt inside = elim (cases_eq other process) [
      | inl same ↦ subst (λ (q : ℕ). IsMet found places q here) (sym same) m
      | inr less ↦ are other (omega (arith, lt, less)) inside
    ]

    -- one process more, and the place is one of the places now
    pub met_new : (places more : List ℕ) (process : ℕ) → AreMet found places here process → IsPlaced places more place → AreMet found more here (process + 1)
    met_new places more process are w other lt inside = elim (cases_eq other process) [
      | inl same ↦ met_itself more (placed_there places more place w) other inside
      | inr less ↦ met_more places more place w other here (are other (omega (arith, lt, less)) inside)
    ]

    -- the places tell of as many configurations as before
    pub telling_more : (places more : List ℕ) → AreTelling found places place → IsPlaced places more place → AreTelling found more place
    telling_more places more t w = record {
      within = λ row k there. elim w [
        | inl old ↦ t.within row k (ap (λ (l : List ℕ). slice_get l row) (sym old.1) ∙ there)
        | inr new ↦ elim (place_push places place row k (ap (λ (l : List ℕ). slice_get l row) (sym new) ∙ there)) [
          | inl before ↦ t.within row k before
          | inr now ↦ subst (λ (x : ℕ). x < length found) now.1 (slice_get_within found place here at)
        ]
      ];
      met = λ k process one lt there inside. met_more places more place w process one (t.met k process one lt there inside);
    }

    -- and of one more, where all its processes are met
    pub telling_next : (places : List ℕ) (bound : ℕ) → AreTelling found places place → AreMet found places here bound → length here.counts.items ≤ bound → AreTelling found places (place + 1)
    telling_next places bound t are all = record {
      within = t.within;
      met = λ k process one lt there inside. elim (cases_eq k place) [
        | inl same ↦
            let is : here ≡ one = one_item found place here one at (ap (slice_get found) (sym same) ∙ there) in
            let own : process < length here.counts.items = subst (λ (x : Found State). process < length x.counts.items) (sym is) inside in
            subst (λ (x : Found State). IsMet found places process x) is (are process (omega (arith, own, all)) own)
        | inr less ↦ t.met k process one (omega (arith, lt, less)) there inside
      ];
    }

-- what is marked
pub marked_none : (marks : List ℕ) (place : ℕ) → IsMarked marks marks place
marked_none marks place row m at = inl (contains_at marks row m at)

pub marked_more : (marks so_far : List ℕ) (place : ℕ) → IsMarked marks so_far place → (more : List ℕ) → more ≡ so_far ++ place ∷ [] → IsMarked marks more place
marked_more marks so_far place h more is row m at = elim (place_push so_far place row m (ap (λ (l : List ℕ). slice_get l row) (sym is) ∙ at)) [
  | inl old ↦ h row m old
  | inr now ↦ inr (sym now.1)
]

pub marked_set : (marks so_far : List ℕ) (place : ℕ) → IsMarked marks so_far place → (row : ℕ) → IsMarked marks (set so_far row place) place
marked_set marks so_far place h row k m at = elim (cases_eq k row) [
  | inl here ↦ inr (set_same so_far row place m (ap (slice_get (set so_far row place)) (sym here) ∙ at))
  | inr other ↦ h k m (sym (set_other so_far row k place other) ∙ at)
]

-- a configuration's processes before this one are met
pub record IsMeeting {State : Type 0} (found : List (Found State)) (place : ℕ) (here : Found State) (marks places : List ℕ) (process : ℕ) : Type 0 where
  pub telling : AreTelling found places place
  pub marks_are : AreMarks marks places
  pub met : AreMet found places here process

module _ {State : Type 0} (found : List (Found State)) (place : ℕ) (here : Found State) (at : slice_get found place ≡ Some here) (marks places : List ℕ) where
  pub meeting_begun : AreTelling found places place → AreMarks marks places → IsMeeting found place here marks places 0
  meeting_begun t m = record { telling = t; marks_are = m; met = met_none found place here at places }

  module _ (process : ℕ) (h : IsMeeting found place here marks places process) where
    pub meeting_old : IsMet found places process here → IsMeeting found place here marks places (process + 1)
    meeting_old m = record { telling = h.telling; marks_are = h.marks_are; met = met_old found place here at places process h.met m }

    pub meeting_new : (more_marks more : List ℕ) → IsPlaced places more place → AreMarks more_marks more → IsMeeting found place here more_marks more (process + 1)
    meeting_new more_marks more w m = record { telling = telling_more found place here at places more h.telling w; marks_are = m; met = met_new found place here at places more process h.met w }

    pub meeting_done : length here.counts.items ≤ process → AreTelling found places (place + 1)
    meeting_done all = telling_next found place here at places process h.telling h.met all

-- all configurations are gone over
pub told_all : {State : Type 0} (found : List (Found State)) (places : List ℕ) (bound : ℕ) → AreTelling found places bound → length found ≤ bound → AreTelling found places (length found)
told_all found places bound t all = record {
  within = t.within;
  met = λ k process here lt at inside. t.met k process here (omega (arith, lt, all)) at inside;
}

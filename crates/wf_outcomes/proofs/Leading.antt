-- Where a call leads on, as a place.
use Rattle.std.proofs.Common.{◌≡◌, refl, sym, ◌∙◌, subst, ℕ, List, length, map, Option, Some, MatchOption, IfSome}
use Rattle.std.proofs.lemmas.List.{length-replicate}
use Rattle.std.proofs.lemmas.List.Quantifiers.{position-Some}
use Rattle.std.proofs.lemmas.Option.{slice_get-get_or, MatchOption-at_some}
use Rattle.std.specs.List.{slice_get, Contains, position}
use Rattle.wf_history.proofs.Positions.{contains_at, one_item}
use Rattle.wf_history.specs.declared.event.CallId.{CallId}
use Rattle.wf_outcomes.specs.declared.seen.Found.{Found}
use Rattle.wf_outcomes.specs.Explored.{Kept, kept_in, HasNoStep, IsExplored, IsOnlyStepWith, IsWorded}
use Rattle.wf_outcomes.specs.Merges.{Configuration, IsStep, Leads, none, more}
use Rattle.wf_outcomes.specs.Outcomes.{IsAtEnd, LeadsOn}
use Rattle.wf_outcomes.proofs.Growing.{size_step}
use Rattle.wf_outcomes.proofs.Keeping.{found_eq, same_here, some_at}
use Rattle.wf_outcomes.proofs.OutcomesLists.{place_map}

module _ {State Call Reply : Type 0} (Effect : Call → State → State → Reply → Type 0) (scripts : List (List Call)) where
  size_leads : {c e : Configuration State} {ids : List CallId} → Leads Effect scripts c ids e → length e.counts ≡ length c.counts
  size_leads none = refl
  size_leads (more {c} {d} {e} {id} {ids} reply s l) = size_leads l ∙ size_step Effect scripts c d id reply s

  module _ (opening : State) (found : List (Kept State)) where
    -- each process has its count
    pub sizes : IsExplored Effect scripts opening found → (place : ℕ) (e : Kept State) → slice_get found place ≡ Some e → length e.here.counts ≡ length scripts
    sizes h place e at = let r = h.reached place e at in size_leads r.1 ∙ length-replicate (length scripts) 0

  module _ (found : List (Kept State)) (place process : ℕ) (here : Kept State) (at : slice_get found place ≡ Some here) where
    pub at_end : HasNoStep Effect scripts here.here process → IsAtEnd Effect scripts found place process
    at_end never e there = subst (λ (x : Kept State). HasNoStep Effect scripts x.here process) (one_item found place here e at there) never

    pub leads_on : (reply : Reply) (d : Configuration State) → IsOnlyStepWith Effect scripts here.here process reply d → (to : ℕ) (after : Kept State) → slice_get found to ≡ Some after → after.here ≡ d →
        LeadsOn Effect scripts found place process reply to
    leads_on reply d only to after there same = record {
      here = here;
      there = at;
      after = after;
      at = there;
      id = only.0.id;
      own = only.0.own;
      step = subst (λ (x : Configuration State). IsStep Effect scripts here.here only.0.id reply x) (sym same)
          (subst (λ (r : Reply). IsStep Effect scripts here.here only.0.id r d) only.1 only.0.step);
    }

-- where a configuration was found that has the same words
module _ {State Meaning : Type 0} (meaning : State → Meaning) (words_of : Meaning → List ℕ) (told_apart : (a b : Meaning) → words_of a ≡ words_of b → a ≡ b) where
  pub found_at : (keys : List (Found State)) → ((f : Found State) → Contains keys f → IsWorded meaning words_of f) → (x : Found State) → IsWorded meaning words_of x →
      (k : ℕ) → position (found_eq x) keys ≡ Some k → (after : Kept Meaning) × (slice_get (map (kept_in meaning) keys) k ≡ Some after) × (after.here ≡ (kept_in meaning x).here)
  found_at keys worded x is k at =
      let p = position-Some (found_eq x) keys k x at in
      let f = Rattle.std.specs.Prelude.get_or keys k x in
      let there = slice_get-get_or keys k x p.0 in (
        kept_in meaning f,
        place_map (kept_in meaning) keys k f there,
        same_here meaning words_of told_apart x f is (worded f (contains_at keys k f there)) p.1,
      )

-- what is said of two that are there
module _ {A B : Type 0} (o : Option (A × B)) (a : A) (b : B) (is : o ≡ Some (a, b)) where
  pub both_match : (P : Type 0) (Q : A × B → Type 0) → MatchOption o P Q → Q (a, b)
  both_match P Q h = MatchOption-at_some P Q (a, b) is h

  pub both_there : (Q : A × B → Type 0) → IfSome o Q → Q (a, b)
  both_there Q h = some_at Q o (a, b) is h

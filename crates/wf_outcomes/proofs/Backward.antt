-- Going back along first calls.
use Rattle.std.proofs.Common.{◌≡◌, refl, sym, ap, ◌∙◌, subst, ℕ, ◌+◌, ◌<◌, zero, suc, List, [], ◌∷◌, ◌++◌, length, get_or, set, reverse, Some, arith, inl, inr, get_or-set_same}
use Rattle.std.proofs.lemmas.List.{reverse-append}
use Rattle.std.proofs.lemmas.Option.{slice_get_within}
use Rattle.std.specs.List.{slice_get}
use Rattle.wf_history.specs.declared.event.CallId.{CallId}
use Rattle.wf_history.proofs.Positions.{one_item, same_call}
use Rattle.std.proofs.lemmas.Bool.{cases_eq, cases_lt}
use Rattle.wf_outcomes.specs.Merges.{Configuration, total, Leads, none, more, start}
use Rattle.wf_outcomes.specs.Explored.{Kept, IsExplored}
use Rattle.wf_outcomes.specs.Outcomes.{AlwaysGood, AreGood, IsFirstBad, IsFirstPlace, LeadsToPlace}
use Rattle.wf_outcomes.proofs.Growing.{sum_leads}

module _ {State Call Reply : Type 0} (Effect : Call → State → State → Reply → Type 0) (scripts : List (List Call)) (found : List (Kept State)) (target : Configuration State) where
  -- calls, the last one first, that lead from a place to a configuration
  abbrev pub IsBack : ℕ → List CallId → Type 0
  IsBack at back = (e : Kept State) × (slice_get found at ≡ Some e) × Leads Effect scripts e.here (reverse back) target

  pub back_none : (at : ℕ) (e : Kept State) → slice_get found at ≡ Some e → e.here ≡ target → (back : List CallId) → back ≡ [] → IsBack at back
  back_none at e there is back empty =
      (e, there, subst (λ (l : List CallId). Leads Effect scripts e.here (reverse l) target) (sym empty) (subst (λ (c : Configuration State). Leads Effect scripts e.here [] c) is none))

  module _ (opening : State) (h : IsExplored Effect scripts opening found) (at : ℕ) (back : List CallId) (b : IsBack at back) where
    pub back_start : at ≡ 0 → Leads Effect scripts (start Effect scripts opening) (reverse back) target
    back_start zero_is =
        let same = one_item found 0 b.0 h.first (ap (slice_get found) (sym zero_is) ∙ b.1) h.begun in
        subst (λ (c : Configuration State). Leads Effect scripts c (reverse back) target) (ap (λ (x : Kept State). x.here) same ∙ h.opens) b.2

    module _ (one : Kept State) (there : slice_get found at ≡ Some one) (positive : 0 < at) where
      pub back_more : (id : CallId) → id.process ≡ one.by → id.number ≡ get_or one.here.counts one.by 0 → (after : List CallId) → after ≡ back ++ id ∷ [] → IsBack one.from after
      back_more id process number after is =
          let o = h.came at one positive there in
          let s = o.step in
          let same : one ≡ b.0 = one_item found at one b.0 there b.1 in
          let counted : get_or one.here.counts one.by 0 ≡ o.id.number =
          ap (λ (l : List ℕ). get_or l one.by 0) s.counts ∙ ap (λ (p : ℕ). get_or (set o.before.here.counts o.id.process o.id.number) p 0) (sym o.own) ∙ get_or-set_same o.before.here.counts o.id.process o.id.number 0 s.process in
          let named : o.id ≡ id = same_call o.id id (o.own ∙ sym process) (sym (number ∙ counted)) in
          let turned : id ∷ reverse back ≡ reverse after = sym (ap reverse is ∙ reverse-append back (id ∷ [])) in (
            o.before,
            o.there,
            subst (λ (l : List CallId). Leads Effect scripts o.before.here l target) turned
                (subst (λ (i : CallId). Leads Effect scripts o.before.here (i ∷ reverse back) target) named
                (more o.reply s (subst (λ (x : Kept State). Leads Effect scripts x.here (reverse back) target) (sym same) b.2))),
          )

module _ {State Call Reply : Type 0} (Effect : Call → State → State → Reply → Type 0) (scripts : List (List Call)) (found : List (Kept State)) (place : ℕ) where
  pub earlier : (opening : State) → IsExplored Effect scripts opening found → (one : Kept State) → slice_get found place ≡ Some one → 0 < place → one.from < place
  earlier opening h one there positive = let o = h.came place one positive there in o.earlier

  -- calls, the last one first, that lead from one place to another
  abbrev pub IsBackFrom : ℕ → List CallId → Type 0
  IsBackFrom at back = (t : Kept State) × (slice_get found place ≡ Some t) × IsBack Effect scripts found t.here at back

  pub from_none : place < length found → (back : List CallId) → back ≡ [] → IsBackFrom place back
  from_none within back empty = let s = some_at found place within in (s.0, s.1, back_none Effect scripts found s.0.here place s.0 s.1 refl back empty)
    where
      some_at : (items : List (Kept State)) (k : ℕ) → k < length items → (t : Kept State) × (slice_get items k ≡ Some t)
      some_at [] k lt = absurd (omega arith)
      some_at (x ∷ items) zero lt = (x, refl)
      some_at (x ∷ items) (suc k) lt = some_at items k (omega arith)

  module _ (opening : State) (h : IsExplored Effect scripts opening found) (at : ℕ) (back : List CallId) (b : IsBackFrom at back) where
    pub from_start : at ≡ 0 → LeadsToPlace Effect scripts opening found (reverse back) place
    from_start zero_is = (b.0, b.1, back_start Effect scripts found b.0.here opening h at back b.2 zero_is)

    module _ (one : Kept State) (there : slice_get found at ≡ Some one) (positive : 0 < at) where
      pub from_more : (id : CallId) → id.process ≡ one.by → id.number ≡ get_or one.here.counts one.by 0 → (after : List CallId) → after ≡ back ++ id ∷ [] → IsBackFrom one.from after
      from_more id process number after is = (b.0, b.1, back_more Effect scripts found b.0.here opening h at back b.2 one there positive id process number after is)

-- what holds so far, and at one more place
pub good_more : {State : Type 0} (IsGood : State → Type 0) (found : List (Kept State)) (bound : ℕ) → AreGood IsGood found bound → (e : Kept State) → slice_get found bound ≡ Some e → IsGood e.here.state → AreGood IsGood found (bound + 1)
good_more {State} IsGood found bound h e at good k f lt there =
    elim (cases_eq k bound) [
      | inl same ↦ subst (λ (x : Kept State). IsGood x.here.state) (one_item found bound e f at (ap (slice_get found) (sym same) ∙ there)) good
      | inr other ↦ h k f (omega (arith, lt, other)) there
    ]

module _ {State Call Reply : Type 0} (Effect : Call → State → State → Reply → Type 0) (scripts : List (List Call)) (opening : State) (found : List (Kept State)) (h : IsExplored Effect scripts opening found) (IsGood : State → Type 0) where
  -- what holds at each place holds in all that can be reached
  pub all_good : AreGood IsGood found (length found) → AlwaysGood Effect scripts opening IsGood
  all_good all c reached =
      let f = h.complete c reached in
      subst (λ (x : Configuration State). IsGood x.state) f.3 (all f.0 f.1 (slice_get_within found f.0 f.1 f.2) f.2)

  -- the first place at which a property fails
  pub first_bad_is : (place : ℕ) → IsFirstPlace IsGood found place → (path : List CallId) → LeadsToPlace Effect scripts opening found path place → IsFirstBad Effect scripts opening found IsGood place path
  first_bad_is place first path led =
      let it = first.0 in
      let there = first.1 in
      let front = first.3 in
      let leads = subst (λ (e : Kept State). Leads Effect scripts (start Effect scripts opening) path e.here) (one_item found place led.0 it led.1 there) led.2 in
      record {
        it = it;
        there = there;
        fails = first.2;
        leads = leads;
        shortest = λ ids c other bad.
            let f = h.complete c (ids, other) in
            let one = sum_leads Effect scripts leads in
            let two = sum_leads Effect scripts other in
            let same : total f.1.here.counts ≡ total c.counts = ap (λ (x : Configuration State). total x.counts) f.3 in
            elim (cases_lt f.0 place) [
              | inl early ↦ absurd (bad (subst (λ (x : Configuration State). IsGood x.state) f.3 (front f.0 f.1 early f.2)))
              | inr late ↦ let le = h.breadth place f.0 it f.1 late there f.2 in omega (arith, le, one, two, same)
            ];
      }

-- What is told on a way through the graph, and the other way round.
use Rattle.std.proofs.Common.{◌≡◌, refl, sym, ap, ◌∙◌, subst, ℕ, ◌+◌, ◌<◌, zero, suc, List, [], ◌∷◌, ◌++◌, length, get_or, set, map, Option, Some, None, option_map, arith}
use Rattle.std.proofs.lemmas.List.{length-append, length-map}
use Rattle.std.proofs.lemmas.Option.{same_Some, slice_get_within, MatchOption-at_none, MatchOption-at_some}
use Rattle.std.specs.List.{slice_get}
use Rattle.wf_history.proofs.Positions.{one_item, same_call}
use Rattle.wf_history.specs.declared.event.CallId.{CallId}
use Rattle.wf_whole_outcomes.specs.Graph.{Spot, AreApart, edge_from, next_from, spot_on}
use Rattle.wf_whole_outcomes.specs.Layers.{walk}
use Rattle.wf_whole_outcomes.specs.Nodes.{first_spot}
use Rattle.wf_whole_outcomes.specs.declared.edges.Edge.{Edge}
use Rattle.wf_whole_outcomes.proofs.Noding.{same_spot}
use Rattle.wf_outcomes.specs.Explored.{Kept, IsExplored}
use Rattle.wf_outcomes.specs.Merges.{Configuration, IsStep}
use Rattle.wf_outcomes.specs.Outcomes.{IsAtEnd}
use Rattle.wf_outcomes.proofs.OutcomesLists.{same_configuration}
use Rattle.wf_whole_outcomes.specs.OutcomeGraph.{AreRows, IsEdge, SaysEdge}
use Rattle.wf_whole_outcomes.specs.Leaves.{named}
use Rattle.wf_whole_outcomes.specs.Tellings.{Telling, IsTold, Tells, none, more, replies_to, silence}
use Rattle.wf_whole_outcomes.proofs.Numbering.{length_row, map_all, map_push, map_row, map_set, rows_same}

pub same_telling : {State Reply : Type 0} (a b : Telling State Reply) → a.replies ≡ b.replies → a.state ≡ b.state → a ≡ b
same_telling {State} {Reply} a b replies state =
    ap (λ (r : List (List Reply)). record { replies = r; state = a.state }) replies ∙ ap (λ (s : State). record { replies = b.replies; state = s }) state

module _ {State Call Reply : Type 0} (Effect : Call → State → State → Reply → Type 0)
    (determined : (call : Call) (before after other : State) (reply answer : Reply) → Effect call before after reply → Effect call before other answer → (after ≡ other) × (reply ≡ answer))
    (scripts : List (List Call)) (opening : State) (found : List (Kept State)) (explored : IsExplored Effect scripts opening found)
    (rows : List (List (Option Edge))) (replies : List Reply) (right : AreRows Effect scripts found replies (length found) rows) (apart : AreApart replies)
    (sizes : (place : ℕ) (e : Kept State) → slice_get found place ≡ Some e → length e.here.counts ≡ length scripts) where
  -- the place has the state and the counts, and the numbers are those of the replies
  pub record Stands (s : Spot) (t : Telling State Reply) : Type 0 where
    pub it : Kept State
    pub at : slice_get found s.place ≡ Some it
    pub state : it.here.state ≡ t.state
    pub counts : it.here.counts ≡ map length t.replies
    pub said : map (map (slice_get replies)) s.said ≡ map (map Some) t.replies

  pub stands_first : Stands (first_spot (length scripts)) (silence Effect scripts opening)
  stands_first = record {
    it = explored.first;
    at = explored.begun;
    state = ap (λ (c : Configuration State). c.state) explored.opens;
    counts = ap (λ (c : Configuration State). c.counts) explored.opens ∙ sym (map_all length (length scripts) []);
    said = map_all (map (slice_get replies)) (length scripts) [] ∙ sym (map_all (map Some) (length scripts) []);
  }

  -- one telling has one spot
  pub one_spot : (s u : Spot) (t : Telling State Reply) → Stands s t → Stands u t → s ≡ u
  one_spot s u t a b =
      let place : s.place ≡ u.place = explored.once s.place u.place a.it b.it a.at b.at (same_configuration (a.counts ∙ sym b.counts) (a.state ∙ sym b.state)) in
      let said : s.said ≡ u.said = rows_same replies apart s.said u.said t.replies a.said b.said in
      same_spot s u place said

  module _ (s : Spot) (t : Telling State Reply) (h : Stands s t) (process : ℕ) where
    -- the call that is next
    abbrev next_id : CallId
    next_id = record { process = process; number = length (replies_to t process) + 1 }

    own_said : map (slice_get replies) (get_or s.said process []) ≡ map Some (replies_to t process)
    own_said = sym (map_row (slice_get replies) s.said process) ∙ ap (λ (l : List (List (Option Reply))). get_or l process []) h.said ∙ map_row Some t.replies process

    own_count : get_or h.it.here.counts process 0 ≡ length (replies_to t process)
    own_count = ap (λ (l : List ℕ). get_or l process 0) h.counts ∙ length_row t.replies process

    within_replies : length h.it.here.counts ≡ length t.replies
    within_replies = ap length h.counts ∙ length-map t.replies length

    module _ (e : Edge) (is : IsEdge Effect scripts found replies s.place process e) where
      -- what is told behind the edge
      abbrev told_on : Telling State Reply
      told_on = record { replies = set t.replies process (replies_to t process ++ is.reply ∷ []); state = is.leads.after.here.state }

      here_is : is.leads.here ≡ h.it
      here_is = one_item found s.place is.leads.here h.it is.leads.there h.at

      pub stands_on : Stands (spot_on s process e) told_on
      stands_on = record {
        it = is.leads.after;
        at = is.leads.at;
        state = refl;
        counts =
            let step = is.leads.step in
            let old : is.leads.here.here.counts ≡ h.it.here.counts = ap (λ (k : Kept State). k.here.counts) here_is in
            let number : is.leads.id.number ≡ length (replies_to t process ++ is.reply ∷ []) =
            step.number ∙ ap (λ (l : List ℕ). get_or l is.leads.id.process 0 + 1) old ∙ ap (λ (p : ℕ). get_or h.it.here.counts p 0 + 1) is.leads.own ∙ ap (λ (n : ℕ). n + 1) own_count
            ∙ sym (length-append (replies_to t process) (is.reply ∷ [])) in
            step.counts ∙ ap (λ (l : List ℕ). set l is.leads.id.process is.leads.id.number) (old ∙ h.counts)
            ∙ ap (λ (p : ℕ). set (map length t.replies) p is.leads.id.number) is.leads.own ∙ ap (set (map length t.replies) process) number
            ∙ sym (map_set length t.replies process (replies_to t process ++ is.reply ∷ []));
        said =
            map_set (map (slice_get replies)) s.said process (get_or s.said process [] ++ e.reply ∷ [])
            ∙ ap (set (map (map (slice_get replies)) s.said) process)
            (map_push (slice_get replies) (get_or s.said process []) e.reply ∙ ap (λ (l : List (Option Reply)). l ++ slice_get replies e.reply ∷ []) own_said
            ∙ ap (λ (o : Option Reply). map Some (replies_to t process) ++ o ∷ []) is.numbered ∙ sym (map_push Some (replies_to t process) is.reply))
            ∙ ap (λ (l : List (List (Option Reply))). set l process (map Some (replies_to t process ++ is.reply ∷ []))) h.said
            ∙ sym (map_set (map Some) t.replies process (replies_to t process ++ is.reply ∷ []));
      }

      pub told_next : IsTold Effect scripts t next_id told_on
      told_next =
          let step = is.leads.step in
          let old : is.leads.here.here.counts ≡ h.it.here.counts = ap (λ (k : Kept State). k.here.counts) here_is in
          record {
            call = step.call;
            reply = is.reply;
            process = let p = step.process in let own = is.leads.own in let size = within_replies in let e = ap length old in omega (arith, p, own, size, e);
            listed =
                ap (λ (n : ℕ). slice_get (get_or scripts process []) n) (sym (ap (λ (l : List ℕ). get_or l process 0) old ∙ own_count))
                ∙ subst (λ (p : ℕ). slice_get (get_or scripts p []) (get_or is.leads.here.here.counts p 0) ≡ Some step.call) is.leads.own step.listed;
            number = refl;
            effect = subst (λ (x : State). Effect step.call x is.leads.after.here.state is.reply) (ap (λ (k : Kept State). k.here.state) here_is ∙ h.state) step.effect;
            replies = refl;
          }

    -- what a row says of the process
    says : process < length scripts → SaysEdge Effect scripts found replies s.place process (edge_from rows s.place process)
    says own = let within = slice_get_within found s.place h.it h.at in (right.each s.place within).each process own

    -- a step of the graph is told
    pub on_graph : (u : Spot) → next_from rows s process ≡ Some u → (v : Telling State Reply) × Stands u v × IsTold Effect scripts t next_id v
    on_graph u leads = by (edge_from rows s.place process) refl leads
      where
        by : (o : Option Edge) → edge_from rows s.place process ≡ o → option_map (spot_on s process) o ≡ Some u → (v : Telling State Reply) × Stands u v × IsTold Effect scripts t next_id v
        by None at to = absurd (cc)
        by (Some e) at to =
            let row = right.each s.place (slice_get_within found s.place h.it h.at) in
            let own = in_row (get_or rows s.place []) process e at in
            let size = row.size in
            let is = MatchOption-at_some (IsAtEnd Effect scripts found s.place process) (IsEdge Effect scripts found replies s.place process) e at (says (omega (arith, own, size))) in
            (told_on e is, subst (λ (x : Spot). Stands x (told_on e is)) (same_Some (spot_on s process e) u to) (stands_on e is), told_next e is)
          where
            in_row : (row : List (Option Edge)) (p : ℕ) (e : Edge) → get_or row p None ≡ Some e → p < length row
            in_row [] p e h = absurd (cc)
            in_row (x ∷ row) zero e h = omega arith
            in_row (x ∷ row) (suc p) e h = let r = in_row row p e h in omega (arith, r)

    -- what is told is a step of the graph
    pub on_telling : (id : CallId) (v : Telling State Reply) → id.process ≡ process → IsTold Effect scripts t id v → (u : Spot) × (next_from rows s process ≡ Some u) × Stands u v × (id ≡ next_id)
    unfolding told_next
    on_telling id v own told = by (edge_from rows s.place process) refl
      where
        is_id : id ≡ next_id
        is_id = same_call id next_id own (told.number ∙ ap (λ (p : ℕ). length (replies_to t p) + 1) own)

        in_range : process < length scripts
        in_range =
            let size = sizes s.place h.it h.at in
            let inside = told.process in
            let also = within_replies in
            omega (arith, size, inside, also, own)

        listed_here : slice_get (get_or scripts process []) (length (replies_to t process)) ≡ Some told.call
        listed_here = subst (λ (p : ℕ). slice_get (get_or scripts p []) (length (replies_to t p)) ≡ Some told.call) own told.listed

        -- the same call as a step of configurations
        step_here : IsStep Effect scripts h.it.here next_id told.reply (record { counts = set h.it.here.counts process (length (replies_to t process) + 1); state = v.state })
        step_here = record {
          call = told.call;
          process = let inside = told.process in let size = within_replies in omega (arith, inside, size, own);
          listed = ap (slice_get (get_or scripts process [])) own_count ∙ listed_here;
          number = ap (λ (n : ℕ). n + 1) (sym own_count);
          effect = subst (λ (x : State). Effect told.call x v.state told.reply) (sym h.state) told.effect;
          counts = refl;
        }

        by : (o : Option Edge) → edge_from rows s.place process ≡ o → (u : Spot) × (next_from rows s process ≡ Some u) × Stands u v × (id ≡ next_id)
        by None at =
            let end = MatchOption-at_none (IsAtEnd Effect scripts found s.place process) (IsEdge Effect scripts found replies s.place process) at (says in_range) in
            absurd (end h.it h.at next_id told.reply (record { counts = set h.it.here.counts process (length (replies_to t process) + 1); state = v.state }) refl step_here)
        by (Some e) at =
            let is = MatchOption-at_some (IsAtEnd Effect scripts found s.place process) (IsEdge Effect scripts found replies s.place process) e at (says in_range) in
            let other = told_next e is in
            let call : other.call ≡ told.call = same_Some other.call told.call (sym other.listed ∙ listed_here) in
            let both = determined told.call t.state is.leads.after.here.state v.state is.reply told.reply (subst (λ (x : Call). Effect x t.state is.leads.after.here.state is.reply) call other.effect) told.effect in
            let v_is : told_on e is ≡ v = same_telling (told_on e is) v
            (ap (λ (r : Reply). set t.replies process (replies_to t process ++ r ∷ [])) both.1 ∙ sym (told.replies ∙ ap (λ (p : ℕ). set t.replies p (replies_to t p ++ told.reply ∷ [])) own)) both.0 in
            (spot_on s process e, ap (option_map (spot_on s process)) at, subst (λ (x : Telling State Reply). Stands (spot_on s process e) x) v_is (stands_on e is), is_id)

  -- how many calls of each process are told behind a step
  counts_on : (t v : Telling State Reply) (process : ℕ) → IsTold Effect scripts t (record { process = process; number = length (replies_to t process) + 1 }) v →
      map length v.replies ≡ set (map length t.replies) process (get_or (map length t.replies) process 0 + 1)
  counts_on t v process told =
      ap (map length) told.replies ∙ map_set length t.replies process (replies_to t process ++ told.reply ∷ [])
      ∙ ap (set (map length t.replies) process) (length-append (replies_to t process) (told.reply ∷ []) ∙ ap (λ (n : ℕ). n + 1) (sym (length_row t.replies process)))

  -- ways and what is told on them
  pub walk_told : (s : Spot) (t : Telling State Reply) → Stands s t → (way : List ℕ) (u : Spot) → walk (next_from rows) (Some s) way ≡ Some u →
      (v : Telling State Reply) × Stands u v × Tells Effect scripts t (named (map length t.replies) way) v
  walk_told s t h [] u leads = (t, subst (λ (x : Spot). Stands x t) (same_Some s u leads) h, none)
  walk_told s t h (p ∷ way) u leads = by (λ b v stands to. walk_told b v stands way u to) (next_from rows s p) refl leads
    where
      lost : (w : List ℕ) → walk (next_from rows) None w ≡ None
      lost [] = refl
      lost (x ∷ w) = lost w

      by : ((b : Spot) (v : Telling State Reply) → Stands b v → walk (next_from rows) (Some b) way ≡ Some u → (w : Telling State Reply) × Stands u w × Tells Effect scripts v (named (map length v.replies) way) w) →
          (o : Option Spot) → next_from rows s p ≡ o → walk (next_from rows) o way ≡ Some u → (v : Telling State Reply) × Stands u v × Tells Effect scripts t (named (map length t.replies) (p ∷ way)) v
      by onward None at to = let e = sym (lost way) ∙ to in absurd (cc)
      by onward (Some b) at to =
          let one = on_graph s t h p b at in
          let rest = onward b one.0 one.1 to in
          let counts = counts_on t one.0 p one.2 in
          let id : ◌≡◌ {A = CallId} (record { process = p; number = length (replies_to t p) + 1 }) (record { process = p; number = get_or (map length t.replies) p 0 + 1 }) =
          ap (λ (n : ℕ). record { process = p; number = n + 1 }) (sym (length_row t.replies p)) in (
            rest.0,
            rest.1,
            subst (λ (i : CallId). Tells Effect scripts t (i ∷ named (set (map length t.replies) p (get_or (map length t.replies) p 0 + 1)) way) rest.0) id
                (more one.2 (subst (λ (c : List ℕ). Tells Effect scripts one.0 (named c way) rest.0) counts rest.2)),
          )

  pub told_walk : (s : Spot) {t v : Telling State Reply} {ids : List CallId} → Stands s t → Tells Effect scripts t ids v →
      (way : List ℕ) × (u : Spot) × (walk (next_from rows) (Some s) way ≡ Some u) × Stands u v × (ids ≡ named (map length t.replies) way)
  told_walk s h none = ([], s, refl, h, refl)
  told_walk s h (more {t} {u} {v} {id} {ids} told l) =
      let one = on_telling s t h id.process id u refl told in
      let rest = told_walk one.0 one.2 l in
      let counts = counts_on t u id.process (subst (λ (i : CallId). IsTold Effect scripts t i u) one.3 told) in
      let first : id ≡ record { process = id.process; number = get_or (map length t.replies) id.process 0 + 1 } =
      one.3 ∙ ap (λ (n : ℕ). record { process = id.process; number = n + 1 }) (sym (length_row t.replies id.process)) in (
        id.process ∷ rest.0,
        rest.1,
        ap (λ (o : Option Spot). walk (next_from rows) o rest.0) one.1 ∙ rest.2,
        rest.3,
        ap (λ (i : CallId). i ∷ ids) first ∙ ap (λ (l : List CallId). record { process = id.process; number = get_or (map length t.replies) id.process 0 + 1 } ∷ l) (rest.4 ∙ ap (λ (c : List ℕ). named c rest.0) counts),
      )

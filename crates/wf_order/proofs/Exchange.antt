-- A path to a configuration that is done, changed so that it begins with another call.
use Rattle.std.proofs.Common.{◌≡◌, refl, sym, ap, ◌∙◌, subst, ℕ, ◌+◌, ◌<◌, ◌≤◌, zero, suc, List, [], ◌∷◌, length, get_or, set, Some, arith, inl, inr, length-set, get_or-set_same, get_or-set_other}
use Rattle.std.proofs.lemmas.Bool.{cases_eq}
use Rattle.std.specs.List.{slice_get, Contains}
use Rattle.wf_history.specs.declared.event.CallId.{CallId}
use Rattle.wf_history.specs.History.{Event, Begin, End, Before, before, IsHistory}
use Rattle.wf_history.specs.Legal.{HasBegun}
use Rattle.wf_history.proofs.Positions.{same_call, contains_at, split_twice, places_of_split}
use Rattle.wf_history.proofs.Once.{one_call}
use Rattle.wf_order.specs.Steps.{Configuration, IsTaken, IsStep, Leads, none, more, IsDone}
use Rattle.wf_order.specs.Rules.{EndsFirst, ComesFirst, ends, open_ones, IsIdle, IsOpen, IsReading, IsSilent, Passes, none_passed, one_passed}
use Rattle.wf_order.proofs.Completeness.{before_own, ends_before}
use Rattle.wf_order.proofs.Lists.{same_configuration}
use Rattle.wf_order.proofs.Soundness.{taken_more, taken_not, taken_back}

set_swap : (xs : List ℕ) (p q x y : ℕ) → (p ≡ q → ⊥) → set (set xs p x) q y ≡ set (set xs q y) p x
set_swap [] p q x y ne = refl
set_swap (a ∷ xs) zero zero x y ne = absurd (ne refl)
set_swap (a ∷ xs) zero (suc q) x y ne = refl
set_swap (a ∷ xs) (suc p) zero x y ne = refl
set_swap (a ∷ xs) (suc p) (suc q) x y ne = ap (λ (l : List ℕ). a ∷ l) (set_swap xs p q x y (λ e. ne (ap suc e)))

module _ {State Call Reply : Type 0} (Effect : Call → State → State → Reply → Type 0) (history : List (Event Call Reply)) where
  -- so many steps lead to a configuration that is done
  pub record IsHopeful (steps : ℕ) (c : Configuration State) : Type 0 where
    pub ids : List CallId
    pub last : Configuration State
    pub path : Leads Effect history c ids last
    pub done : IsDone Effect history last
    pub size : length ids ≡ steps

  pub hope_more : (steps : ℕ) (c d : Configuration State) (id : CallId) → IsStep Effect history c id d → IsHopeful steps d → IsHopeful (suc steps) c
  hope_more steps c d id s h = record { ids = id ∷ h.ids; last = h.last; path = more s h.path; done = h.done; size = ap suc h.size }

  -- a call may come next, as far as the counts of its own process go
  pub record IsNext (counts : List ℕ) (id : CallId) : Type 0 where
    pub process : id.process < length counts
    pub number : id.number ≡ get_or counts id.process 0 + 1

  next_kept : (counts : List ℕ) (s id : CallId) → (s.process ≡ id.process → ⊥) → IsNext counts s → IsNext (set counts id.process id.number) s
  next_kept counts s id ne h =
      let size = length-set counts id.process id.number in
      let same = get_or-set_other counts id.process s.process id.number 0 ne in
      let process = h.process in
      let number = h.number in
      record { process = omega (arith, size, process); number = omega (arith, same, number) }

  next_is : (counts : List ℕ) (s id : CallId) → s.process ≡ id.process → IsNext counts s → id.number ≡ get_or counts id.process 0 + 1 → id ≡ s
  next_is counts s id e h number =
      let own = h.number in
      let same : get_or counts s.process 0 ≡ get_or counts id.process 0 = ap (λ (p : ℕ). get_or counts p 0) e in
      same_call id s (sym e) (omega (arith, own, same, number))

  -- a silent call comes first
  module _ (s : CallId) (quiet : IsSilent Effect history s) where
    silent_moved : {c e : Configuration State} {ids : List CallId} → Leads Effect history c ids e → IsDone Effect history e → IsNext c.counts s →
        (n : ℕ) × (length ids ≡ suc n) × IsHopeful n (record { counts = set c.counts s.process s.number; state = c.state })
    silent_moved (none {c}) done next = absurd (taken_not c.counts s next.process next.number (done s quiet.reply quiet.ended))
    silent_moved (more {c} {d} {e} {id} {ids} t l) done next =
        elim (cases_eq s.process id.process) [
          | inl own ↦
              let same = next_is c.counts s id own next t.number in
              let effect : Effect t.call c.state d.state quiet.reply =
              subst (λ (r : Reply). Effect t.call c.state d.state r) (sym (t.agrees quiet.reply (subst (λ (i : CallId). Contains history (End i quiet.reply)) (sym same) quiet.ended))) t.effect in
              let leaves = quiet.leaves t.call c.state d.state (subst (λ (i : CallId). HasBegun history i t.call) same t.begun) effect in
              let there : d ≡ record { counts = set c.counts s.process s.number; state = c.state } =
              same_configuration (t.counts ∙ ap (λ (i : CallId). set c.counts i.process i.number) same) (sym leaves) in
              (length ids, refl, subst (λ (x : Configuration State). IsHopeful (length ids) x) there (record { ids = ids; last = e; path = l; done = done; size = refl }))
          | inr ne ↦
              let later = next_kept c.counts s id ne next in
              let r = silent_moved l done (subst (λ (xs : List ℕ). IsNext xs s) (sym t.counts) later) in
              let size = length-set c.counts s.process s.number in
              let process = t.process in
              let step : IsStep Effect history (record { counts = set c.counts s.process s.number; state = c.state }) id (record { counts = set d.counts s.process s.number; state = d.state }) =
              record {
                call = t.call;
                begun = t.begun;
                process = omega (arith, size, process);
                number = t.number ∙ ap (λ (n : ℕ). n + 1) (sym (get_or-set_other c.counts s.process id.process s.number 0 (λ e. ne (sym e))));
                earlier = λ a bef. taken_more c.counts s next.process next.number a (t.earlier a bef);
                reply = t.reply;
                effect = t.effect;
                agrees = t.agrees;
                counts = ap (λ (xs : List ℕ). set xs s.process s.number) t.counts ∙ set_swap c.counts id.process s.process id.number s.number (λ e. ne (sym e));
              } in
              (suc r.0, ap suc r.1, hope_more r.0 _ _ id step r.2)
        ]

    -- Law: of a configuration from which steps lead to one that is done, that goes on after a silent call, too.
    pub silent_first : (n : ℕ) (c d : Configuration State) → IsHopeful (suc n) c → IsStep Effect history c s d → IsHopeful n d
    silent_first n c d h t =
        let r = silent_moved h.path h.done (record { process = t.process; number = t.number }) in
        let size = h.size in
        let same : r.0 ≡ n = let e = r.1 in omega (arith, size, e) in
        let effect : Effect t.call c.state d.state quiet.reply = subst (λ (r : Reply). Effect t.call c.state d.state r) (sym (t.agrees quiet.reply quiet.ended)) t.effect in
        let there : d ≡ record { counts = set c.counts s.process s.number; state = c.state } = same_configuration t.counts (sym (quiet.leaves t.call c.state d.state t.begun effect)) in
        subst (λ (x : Configuration State). IsHopeful n x) (sym there) (subst (λ (m : ℕ). IsHopeful m (record { counts = set c.counts s.process s.number; state = c.state })) same r.2)

  -- a call that only reads comes first, if it comes at all
  module _ (s : CallId) (reads : IsReading Effect history s) where
    reading_moved : {c e : Configuration State} {ids : List CallId} → Leads Effect history c ids e → IsDone Effect history e → IsNext c.counts s →
        (n : ℕ) × (n ≤ length ids) × IsHopeful n (record { counts = set c.counts s.process s.number; state = c.state })
    reading_moved (none {c}) done next = (
      0,
      omega arith,
      record {
        ids = [];
        last = record { counts = set c.counts s.process s.number; state = c.state };
        path = none;
        done = λ id reply ended. taken_more c.counts s next.process next.number id (done id reply ended);
        size = refl;
      },
    )
    reading_moved (more {c} {d} {e} {id} {ids} t l) done next =
        elim (cases_eq s.process id.process) [
          | inl own ↦
              let same = next_is c.counts s id own next t.number in
              let leaves = reads t.call c.state d.state t.reply (subst (λ (i : CallId). HasBegun history i t.call) same t.begun) t.effect in
              let there : d ≡ record { counts = set c.counts s.process s.number; state = c.state } =
              same_configuration (t.counts ∙ ap (λ (i : CallId). set c.counts i.process i.number) same) (sym leaves) in
              (length ids, omega arith, subst (λ (x : Configuration State). IsHopeful (length ids) x) there (record { ids = ids; last = e; path = l; done = done; size = refl }))
          | inr ne ↦
              let later = next_kept c.counts s id ne next in
              let r = reading_moved l done (subst (λ (xs : List ℕ). IsNext xs s) (sym t.counts) later) in
              let size = length-set c.counts s.process s.number in
              let process = t.process in
              let le = r.1 in
              let step : IsStep Effect history (record { counts = set c.counts s.process s.number; state = c.state }) id (record { counts = set d.counts s.process s.number; state = d.state }) =
              record {
                call = t.call;
                begun = t.begun;
                process = omega (arith, size, process);
                number = t.number ∙ ap (λ (n : ℕ). n + 1) (sym (get_or-set_other c.counts s.process id.process s.number 0 (λ e. ne (sym e))));
                earlier = λ a bef. taken_more c.counts s next.process next.number a (t.earlier a bef);
                reply = t.reply;
                effect = t.effect;
                agrees = t.agrees;
                counts = ap (λ (xs : List ℕ). set xs s.process s.number) t.counts ∙ set_swap c.counts id.process s.process id.number s.number (λ e. ne (sym e));
              } in
              (suc r.0, omega (arith, le), hope_more r.0 _ _ id step r.2)
        ]

    -- Law: of a configuration from which steps lead to one that is done, that goes on after a call that only reads, too.
    pub reading_first : (n : ℕ) (c d : Configuration State) → IsHopeful n c → IsStep Effect history c s d → (m : ℕ) × (m ≤ n) × IsHopeful m d
    reading_first n c d h t =
        let r = reading_moved h.path h.done (record { process = t.process; number = t.number }) in
        let size = h.size in
        let le = r.1 in
        let there : d ≡ record { counts = set c.counts s.process s.number; state = c.state } = same_configuration t.counts (sym (reads t.call c.state d.state t.reply t.begun t.effect)) in
        (r.0, omega (arith, size, le), subst (λ (x : Configuration State). IsHopeful r.0 x) (sym there) r.2)

  -- Law: and after some of them, too.
  pub passes_first : (n : ℕ) {c d : Configuration State} {ids : List CallId} → Passes Effect history c ids d → IsHopeful n c → (m : ℕ) × (m ≤ n) × IsHopeful m d
  passes_first n none_passed h = (n, omega arith, h)
  passes_first n (one_passed {c} {d} {e} {id} {ids} t reads l) h =
      let first = reading_first id reads n c d h t in
      let rest = passes_first first.0 l first.2 in
      let a = first.1 in
      let b = rest.1 in
      (rest.0, omega (arith, a, b), rest.2)

  -- what is after the later end of two is after the earlier one
  pub ends_sooner : (a b x : CallId) → EndsFirst history a b → Before history b x → Before history a x
  ends_sooner a b x first (before reply call front between last h) =
      let places = places_of_split history front between last (End b reply) (Begin x call) h in
      let less = first.later (length front) reply places.0 in
      let r = split_twice history first.place (length front + suc (length between)) (End a first.reply) (Begin x call) (omega (arith, less)) first.at places.1 in
      before first.reply call r.0 r.1 r.2 r.3

  -- two calls of which one comes first are not the same
  pub first_apart : (a b : CallId) → ComesFirst history a b → a ≡ b → ⊥
  first_apart a b (ends first) same =
      let less = first.later first.place first.reply (subst (λ (i : CallId). slice_get history first.place ≡ Some (End i first.reply)) same first.at) in
      omega (arith, less)
  first_apart a b (open_ones _ _ less) same =
      let e : a.process ≡ b.process = ap (λ (i : CallId). i.process) same in
      omega (arith, less, e)

  -- of two equal calls the one that comes first is taken first
  module _ (whole : IsHistory history) (a b : CallId) (call : Call) (a_begun : HasBegun history a call) (b_begun : HasBegun history b call)
      (apart : a.process ≡ b.process → ⊥) (first : ComesFirst history a b) (agree : (f : EndsFirst history a b) (other : Reply) → Contains history (End b other) → other ≡ f.reply) where
    a_ended : (f : EndsFirst history a b) → Contains history (End a f.reply)
    a_ended f = contains_at history f.place (End a f.reply) f.at

    -- what is taken after b, where a is not, is not behind b
    not_behind_other : (counts taken : List ℕ) (x : CallId) → IsNext counts a → IsNext counts b → taken ≡ set counts b.process b.number → ((y : CallId) → Before history y x → IsTaken taken y) → Before history b x → ⊥
    not_behind_other counts taken x next_a next_b is earlier bef = by first
      where
        by : ComesFirst history a b → ⊥
        by (ends f) =
            elim (taken_back counts b next_b.process next_b.number a (subst (λ (xs : List ℕ). IsTaken xs a) is (earlier a (ends_sooner a b x f bef)))) [
              | inl old ↦ taken_not counts a next_a.process next_a.number old
              | inr same ↦ apart (ap (λ (y : CallId). y.process) (sym same))
            ]
        by (open_ones _ over _) = let e = ends_before history bef in over e.0 e.1

    -- a configuration that is done with b in the place of a
    done_instead : (counts taken : List ℕ) (s : State) → IsNext counts a → IsNext counts b → taken ≡ set counts b.process b.number → IsDone Effect history (record { counts = taken; state = s }) →
        IsHopeful 0 (record { counts = set counts a.process a.number; state = s })
    done_instead counts taken s next_a next_b is done = by first
      where
        by : ComesFirst history a b → IsHopeful 0 (record { counts = set counts a.process a.number; state = s })
        by (ends f) =
            elim (taken_back counts b next_b.process next_b.number a (subst (λ (xs : List ℕ). IsTaken xs a) is (done a f.reply (a_ended f)))) [
              | inl old ↦ absurd (taken_not counts a next_a.process next_a.number old)
              | inr same ↦ absurd (apart (ap (λ (x : CallId). x.process) (sym same)))
            ]
        by (open_ones _ over _) = record {
          ids = [];
          last = record { counts = set counts a.process a.number; state = s };
          path = none;
          done = λ id reply ended. elim (taken_back counts b next_b.process next_b.number id (subst (λ (xs : List ℕ). IsTaken xs id) is (done id reply ended))) [
            | inl old ↦ taken_more counts a next_a.process next_a.number id old
            | inr same ↦ absurd (over reply (subst (λ (i : CallId). Contains history (End i reply)) (sym same) ended))
          ];
          size = refl;
        }

    -- b in the place of a has the reply that it has in the history
    agrees_instead : (reply : Reply) → ((other : Reply) → Contains history (End a other) → other ≡ reply) → (other : Reply) → Contains history (End b other) → other ≡ reply
    agrees_instead reply agrees other ended = by first
      where
        by : ComesFirst history a b → other ≡ reply
        by (ends f) = agree f other ended ∙ agrees f.reply (a_ended f)
        by (open_ones _ over _) = absurd (over other ended)

    alike_moved : {c e : Configuration State} {ids : List CallId} → Leads Effect history c ids e → IsDone Effect history e →
        (counts : List ℕ) → IsNext counts a → IsNext counts b → ((x : CallId) → Before history x b → IsTaken counts x) → c.counts ≡ set counts b.process b.number →
        IsHopeful (length ids) (record { counts = set counts a.process a.number; state = c.state })
    alike_moved (none {c}) done counts next_a next_b earlier is = done_instead counts c.counts c.state next_a next_b is done
    alike_moved (more {c} {d} {e} {id} {ids} t l) done counts next_a next_b earlier is =
        let number : id.number ≡ get_or (set counts b.process b.number) id.process 0 + 1 = t.number ∙ ap (λ (xs : List ℕ). get_or xs id.process 0 + 1) is in
        let not_behind : Before history b id → ⊥ =
        not_behind_other counts c.counts id next_a next_b is t.earlier in
        let not_own : b.process ≡ id.process → ⊥ =
        λ own.
        let here : get_or (set counts b.process b.number) id.process 0 ≡ b.number = ap (λ (p : ℕ). get_or (set counts b.process b.number) p 0) (sym own) ∙ get_or-set_same counts b.process b.number 0 next_b.process in
        let positive = next_b.number in
        not_behind (subst (λ (x : CallId). Before history x id) (same_call (record { process = id.process; number = b.number }) b (sym own) refl)
        (before_own history whole id t.call b.number t.begun (omega (arith, positive)) (omega (arith, number, here)))) in
        let size_b = length-set counts b.process b.number in
        let size_a = length-set counts a.process a.number in
        let size : length c.counts ≡ length counts = ap length is ∙ size_b in
        let process = t.process in
        let within : id.process < length counts = omega (arith, size, process) in
        let own_number : id.number ≡ get_or counts id.process 0 + 1 = number ∙ ap (λ (n : ℕ). n + 1) (get_or-set_other counts b.process id.process b.number 0 (λ e. not_own (sym e))) in
        elim (cases_eq a.process id.process) [
          | inl own ↦
              let same = next_is counts a id own next_a own_number in
              let same_begun : HasBegun history a t.call = subst (λ (i : CallId). HasBegun history i t.call) same t.begun in
              let is_call = one_call history whole a call t.call a_begun same_begun in
              let after_b = next_kept counts b a (λ e. apart (sym e)) next_b in
              let there : d.counts ≡ set (set counts a.process a.number) b.process b.number =
              t.counts ∙ ap (λ (xs : List ℕ). set xs id.process id.number) is ∙ ap (λ (i : CallId). set (set counts b.process b.number) i.process i.number) same ∙ set_swap counts b.process a.process b.number a.number (λ e. apart (sym e)) in
              let step : IsStep Effect history (record { counts = set counts a.process a.number; state = c.state }) b d =
              record {
                call = t.call;
                begun = subst (λ (x : Call). HasBegun history b x) is_call b_begun;
                process = after_b.process;
                number = after_b.number;
                earlier = λ x bef. taken_more counts a next_a.process next_a.number x (earlier x bef);
                reply = t.reply;
                effect = t.effect;
                agrees = agrees_instead t.reply (λ other ended. t.agrees other (subst (λ (i : CallId). Contains history (End i other)) (sym same) ended));
                counts = there;
              } in
              hope_more (length ids) _ d b step (record { ids = ids; last = e; path = l; done = done; size = refl })
          | inr ne ↦
              let step : IsStep Effect history (record { counts = set counts a.process a.number; state = c.state }) id (record { counts = set (set counts id.process id.number) a.process a.number; state = d.state }) =
              record {
                call = t.call;
                begun = t.begun;
                process = omega (arith, size_a, within);
                number = own_number ∙ ap (λ (n : ℕ). n + 1) (sym (get_or-set_other counts a.process id.process a.number 0 (λ e. ne (sym e))));
                earlier = λ x bef. elim (taken_back counts b next_b.process next_b.number x (subst (λ (xs : List ℕ). IsTaken xs x) is (t.earlier x bef))) [
                  | inl old ↦ taken_more counts a next_a.process next_a.number x old
                  | inr same ↦ absurd (not_behind (subst (λ (y : CallId). Before history y id) (sym same) bef))
                ];
                reply = t.reply;
                effect = t.effect;
                agrees = t.agrees;
                counts = set_swap counts id.process a.process id.number a.number (λ e. ne (sym e));
              } in
              let there : d.counts ≡ set (set counts id.process id.number) b.process b.number =
              t.counts ∙ ap (λ (xs : List ℕ). set xs id.process id.number) is ∙ set_swap counts b.process id.process b.number id.number not_own in
              let r = alike_moved l done (set counts id.process id.number) (next_kept counts a id ne next_a) (next_kept counts b id not_own next_b)
              (λ x bef. taken_more counts id within own_number x (earlier x bef)) there in
              hope_more (length ids) _ _ id step r
        ]

  -- Law: of a configuration from which steps lead to one that is done, where one of them is by a call that is equal to one
  -- that comes first and may be taken as well, that goes on after that one, too.
  pub alike_first : (whole : IsHistory history)
      (determined : (call : Call) (before after other : State) (reply answer : Reply) → Effect call before after reply → Effect call before other answer → (after ≡ other) × (reply ≡ answer))
      (n : ℕ) (c d e : Configuration State) (b : CallId) → IsStep Effect history c b e → IsHopeful n e →
      (a : CallId) (call : Call) → IsStep Effect history c a d → HasBegun history a call → HasBegun history b call → ComesFirst history a b → IsHopeful n d
  alike_first whole determined n c d e b t h a call s a_begun b_begun first =
      let s_call : s.call ≡ call = one_call history whole a s.call call s.begun a_begun in
      let t_call : t.call ≡ call = one_call history whole b t.call call t.begun b_begun in
      let both = determined call c.state d.state e.state s.reply t.reply
      (subst (λ (x : Call). Effect x c.state d.state s.reply) s_call s.effect) (subst (λ (x : Call). Effect x c.state e.state t.reply) t_call t.effect) in
      let next_a : IsNext c.counts a = record { process = s.process; number = s.number } in
      let next_b : IsNext c.counts b = record { process = t.process; number = t.number } in
      let apart : a.process ≡ b.process → ⊥ =
      λ own. first_apart a b first (next_is c.counts b a (sym own) next_b s.number) in
      let r = alike_moved whole a b call a_begun b_begun apart first (λ f other over. t.agrees other over ∙ sym both.1 ∙ sym (s.agrees f.reply (contains_at history f.place (End a f.reply) f.at)))
      h.path h.done c.counts next_a next_b t.earlier t.counts in
      let there : d ≡ record { counts = set c.counts a.process a.number; state = e.state } = same_configuration s.counts both.0 in
      subst (λ (x : Configuration State). IsHopeful n x) (sym there) (subst (λ (m : ℕ). IsHopeful m (record { counts = set c.counts a.process a.number; state = e.state })) h.size r)

  -- without a call that does not end
  module _ (whole : IsHistory history) (x : CallId) (opened : IsOpen history x) where
    not_behind_open : (a : CallId) → Before history x a → ⊥
    not_behind_open a bef = let e = ends_before history bef in opened e.0 e.1

    -- a step behind it
    module _ (c d f : Configuration State) (id : CallId) (next : IsNext c.counts x) (is : d.counts ≡ set c.counts x.process x.number) (t : IsStep Effect history d id f) where
      step_number : id.number ≡ get_or (set c.counts x.process x.number) id.process 0 + 1
      step_number = t.number ∙ ap (λ (xs : List ℕ). get_or xs id.process 0 + 1) is

      -- is of another process
      pub not_own : x.process ≡ id.process → ⊥
      not_own own =
          let number = step_number in
          let here : get_or (set c.counts x.process x.number) id.process 0 ≡ x.number = ap (λ (p : ℕ). get_or (set c.counts x.process x.number) p 0) (sym own) ∙ get_or-set_same c.counts x.process x.number 0 next.process in
          let positive = next.number in
          not_behind_open id (subst (λ (y : CallId). Before history y id) (same_call (record { process = id.process; number = x.number }) x (sym own) refl)
          (before_own history whole id t.call x.number t.begun (omega (arith, positive)) (omega (arith, number, here))))

      pub own_within : id.process < length c.counts
      own_within =
          let size : length d.counts ≡ length c.counts = ap length is ∙ length-set c.counts x.process x.number in
          let process = t.process in
          omega (arith, size, process)

      pub own_number : id.number ≡ get_or c.counts id.process 0 + 1
      own_number = step_number ∙ ap (λ (n : ℕ). n + 1) (get_or-set_other c.counts x.process id.process x.number 0 (λ e. not_own (sym e)))

      pub own_earlier : (a : CallId) → Before history a id → IsTaken c.counts a
      own_earlier a bef = elim (taken_back c.counts x next.process next.number a (subst (λ (xs : List ℕ). IsTaken xs a) is (t.earlier a bef))) [
        | inl old ↦ old
        | inr same ↦ absurd (not_behind_open id (subst (λ (y : CallId). Before history y id) (sym same) bef))
      ]

      -- comes without it, where it leads to a state then
      pub step_without : (after : State) (reply : Reply) → Effect t.call c.state after reply → ((other : Reply) → Contains history (End id other) → other ≡ reply) →
          IsStep Effect history c id (record { counts = set c.counts id.process id.number; state = after })
      step_without after reply effect agrees = record {
        call = t.call;
        begun = t.begun;
        process = own_within;
        number = own_number;
        earlier = own_earlier;
        reply = reply;
        effect = effect;
        agrees = agrees;
        counts = refl;
      }

      pub counts_behind : f.counts ≡ set (set c.counts id.process id.number) x.process x.number
      counts_behind = t.counts ∙ ap (λ (xs : List ℕ). set xs id.process id.number) is ∙ set_swap c.counts x.process id.process x.number id.number not_own

    done_without : (c d : Configuration State) → IsNext c.counts x → d.counts ≡ set c.counts x.process x.number → IsDone Effect history d → IsDone Effect history c
    done_without c d next is done = λ id reply ended. elim (taken_back c.counts x next.process next.number id (subst (λ (xs : List ℕ). IsTaken xs id) is (done id reply ended))) [
      | inl old ↦ old
      | inr same ↦ absurd (opened reply (subst (λ (i : CallId). Contains history (End i reply)) (sym same) ended))
    ]

    pub without_moved : {d e : Configuration State} {ids : List CallId} → Leads Effect history d ids e → IsDone Effect history e →
        (c : Configuration State) → IsNext c.counts x → d.counts ≡ set c.counts x.process x.number → d.state ≡ c.state → IsHopeful (length ids) c
    without_moved (none {c = d}) done c next is same = record { ids = []; last = c; path = none; done = done_without c d next is done; size = refl }
    without_moved (more {c = d} {d = f} {e} {id} {ids} t l) done c next is same =
        let step = step_without c d f id next is t f.state t.reply (subst (λ (s : State). Effect t.call s f.state t.reply) same t.effect) t.agrees in
        let r = without_moved l done (record { counts = set c.counts id.process id.number; state = f.state }) (next_kept c.counts x id (not_own c d f id next is t) next) (counts_behind c d f id next is t) refl in
        hope_more (length ids) c _ id step r

  -- an open call that comes behind another one, and leaves the state, comes before it
  swapped : (whole : IsHistory history) (x : CallId) (opened : IsOpen history x) (c d e : Configuration State) (id : CallId) (s : IsStep Effect history c x d) → IsStep Effect history d id e → IsOpen history id → e.state ≡ d.state →
      (n : ℕ) → IsHopeful n e → IsHopeful (suc n) c
  swapped whole x opened c d e id s t opened_other same n h =
      let next : IsNext c.counts x = record { process = s.process; number = s.number } in
      let ne = not_own whole x opened c d e id next s.counts t in
      let front : Configuration State = record { counts = set c.counts id.process id.number; state = c.state } in
      let size = length-set c.counts id.process id.number in
      let process = s.process in
      let step : IsStep Effect history front x (record { counts = set (set c.counts id.process id.number) x.process x.number; state = d.state }) =
      record {
        call = s.call;
        begun = s.begun;
        process = omega (arith, size, process);
        number = s.number ∙ ap (λ (n : ℕ). n + 1) (sym (get_or-set_other c.counts id.process x.process id.number 0 ne));
        earlier = λ a bef. taken_more c.counts id (own_within whole x opened c d e id next s.counts t) (own_number whole x opened c d e id next s.counts t) a (s.earlier a bef);
        reply = s.reply;
        effect = s.effect;
        agrees = s.agrees;
        counts = refl;
      } in
      let there : e ≡ record { counts = set (set c.counts id.process id.number) x.process x.number; state = d.state } = same_configuration (counts_behind whole x opened c d e id next s.counts t) same in
      let r = hope_more n front _ x step (subst (λ (y : Configuration State). IsHopeful n y) there h) in
      let own : IsNext c.counts id = record { process = own_within whole x opened c d e id next s.counts t; number = own_number whole x opened c d e id next s.counts t } in
      subst (λ (k : ℕ). IsHopeful k c) r.size (without_moved whole id opened_other r.path r.done c own refl refl)

  idle_moved : (whole : IsHistory history) (c : Configuration State) (x : CallId) {d e : Configuration State} {ids : List CallId} → Leads Effect history d ids e → IsDone Effect history e → IsStep Effect history c x d → IsIdle Effect history c x d → IsHopeful (length ids) c
  idle_moved whole c x (none {c = d}) done s idle =
      record { ids = []; last = c; path = none; done = done_without whole x idle.opened c d (record { process = s.process; number = s.number }) s.counts done; size = refl }
  idle_moved whole c x (more {c = d} {d = f} {e} {id} {ids} t l) done s idle =
      let next : IsNext c.counts x = record { process = s.process; number = s.number } in
      elim (idle.without id f t) [
        | inl leaves ↦ swapped whole x idle.opened c d f id s t leaves.0 leaves.1 (length ids) (record { ids = ids; last = e; path = l; done = done; size = refl })
        | inr alike ↦
            hope_more (length ids) c alike.0 id alike.1
            (without_moved whole x idle.opened l done alike.0 (subst (λ (xs : List ℕ). IsNext xs x) (sym alike.1.counts) (next_kept c.counts x id (not_own whole x idle.opened c d f id next s.counts t) next))
            (counts_behind whole x idle.opened c d f id next s.counts t ∙ ap (λ (xs : List ℕ). set xs x.process x.number) (sym alike.1.counts)) (sym alike.2))
      ]

  -- Law: of a configuration that an idle call leads to, and from which steps lead to one that is done, the one before goes on, too.
  pub without_idle : (whole : IsHistory history) (n : ℕ) (c d : Configuration State) (id : CallId) → IsStep Effect history c id d → IsIdle Effect history c id d → IsHopeful n d → IsHopeful n c
  without_idle whole n c d id s idle h = subst (λ (k : ℕ). IsHopeful k c) h.size (idle_moved whole c id h.path h.done s idle)

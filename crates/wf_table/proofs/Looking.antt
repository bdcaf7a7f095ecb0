-- The own block while its process looks at the others and fetches: it stays as it is.
use Rattle.std.proofs.Common.{◌≡◌, ℕ, ◌+◌, ◌<◌, Bool, true, false, List, [], length, refl, sym, ◌∙◌, arith}
use Rattle.std.specs.Prelude.{ℤ, pos, ◌%◌}
use Rattle.std.specs.List.{All}
use Rattle.std.proofs.lemmas.List.{append-nil}
use Rattle.std.proofs.lemmas.List.Elements.{All-weaker, All-nil}
use Rattle.ob_interface.specs.Call.{ObjectCall, Reply}
use Rattle.wf_history.specs.declared.event.CallId.{CallId}
use Rattle.wf_history.specs.History.{Event}
use Rattle.wf_table.specs.declared.process.Label.{Label}
use Rattle.wf_table.specs.declared.process.Label.TheVariants.{Mine, Seen, Fetch, Check2, Commit, Keep}
use Rattle.wf_table.specs.declared.process.Sizes.{Sizes}
use Rattle.wf_table.specs.Meaning.{Meaning}
use Rattle.wf_table.specs.StepTable.{Process, toggle_in}
use Rattle.wf_table.specs.Marks.{applied_in}
use Rattle.wf_table.specs.Helping.{looked_at}
use Rattle.wf_table.specs.Order.{applied_count}
use Rattle.wf_table.specs.HelpAndOrder.{phase}
use Rattle.wf_table.specs.Contents.{RootHolds}
use Rattle.wf_table.specs.Helps.{Witness, calls_of, Works, IsPacked}
use Rattle.wf_table.specs.Labels.{holding, holds_variables, at_keep}
use Rattle.wf_table.proofs.HelpOrders.{upto_all}
use Rattle.wf_table.proofs.HelpIds.{made_below-skip}

-- labels at which the own block stands as it is
abbrev pub waits : Label → Bool
waits Mine = true
waits Seen = true
waits Fetch = true
waits Check2 = true
waits Commit = true
waits _ = false

waits_keeps : (l : Label) → waits l ≡ true → at_keep l ≡ false
waits_keeps Keep e = absurd (cc)
waits_keeps l e = refl

waits_holds : (l : Label) → waits l ≡ true → holds_variables l ≡ true
waits_holds Mine e = refl
waits_holds Seen e = refl
waits_holds Fetch e = refl
waits_holds Check2 e = refl
waits_holds Commit e = refl
waits_holds l e = absurd (cc)

waits_none : (l : Label) → waits l ≡ true → holding l ≡ false
waits_none Mine e = refl
waits_none Seen e = refl
waits_none Fetch e = refl
waits_none Check2 e = refl
waits_none Commit e = refl
waits_none l e = absurd (cc)

waits_works : {Run : Type 0} (l : Label) (m : Meaning Run) (z : Sizes) (own : List ℤ) (w : Witness) (q : Process Run) → waits l ≡ true → Works l m z own w q
waits_works Mine m z own w q e = tt
waits_works Seen m z own w q e = tt
waits_works Fetch m z own w q e = tt
waits_works Check2 m z own w q e = tt
waits_works Commit m z own w q e = tt
waits_works l m z own w q e = absurd (cc)

pub below_more : (j : ℕ) (ids : List CallId) → All (λ id. id.process < j) ids → All (λ id. id.process < j + 1) ids
below_more j ids h = All-weaker (λ (id : CallId). id.process < j) (λ (id : CallId). id.process < j + 1) (λ id lt. omega (arith, lt)) ids h

module _ {Run : Type 0} (m : Meaning Run) (lawful : List ℤ → Type 0) (fits : ObjectCall → Type 0) (z : Sizes) (opening : List ℤ) (history : List (Event ObjectCall Reply)) (order : List CallId) (flips : List ℕ) (linked : Bool) (root : List ℤ) where
  abbrev pub Packed : List ℤ → Label → Process Run → Witness → Type 0
  Packed own l q w = IsPacked m lawful fits z opening history order flips linked root own l q w

  -- as many are looked at
  pub moves : (own : List ℤ) (l l' : Label) (q q' : Process Run) (w : Witness) → waits l ≡ true → waits l' ≡ true → looked_at (phase l') q'.registers.j ≡ looked_at (phase l) q.registers.j → Packed own l q w → Packed own l' q' w
  moves own l l' q q' w here there same h = record {
    listed = rw same h.listed;
    current = λ on. rw same (h.current on);
    parts = record {
      replies = λ k i lt less apart. h.parts.replies k i lt less (λ e. (let no = waits_keeps l here in absurd (cc)));
      toggles = h.parts.toggles;
    };
    variables = λ _. h.variables (waits_holds l here);
    passed = λ e. (let no = waits_none l' there in absurd (cc));
    works = waits_works l' m z own w q' there;
  }

  -- one more is looked at, whose toggle is the root's
  pub passes : (own : List ℤ) (q q' : Process Run) (w : Witness) → q'.registers.j ≡ q.registers.j + 1 → (linked ≡ true → toggle_in z own q.registers.j ≡ toggle_in z root q.registers.j) → Packed own Seen q w → Packed own Seen q' w
  passes own q q' w one same h = record {
    listed = record {
      within = h.listed.within;
      copied = h.listed.copied;
      below = rw one (below_more q.registers.j w.helped h.listed.below);
      made = h.listed.made;
    };
    current = λ on. (let now = h.current on in rw one (record {
      before = now.before;
      helped = now.helped ∙ sym (made_below-skip z root own flips q.registers.j (sym (same on)));
    }));
    parts = record { replies = λ k i lt less apart. h.parts.replies k i lt less (λ e. absurd (cc)); toggles = h.parts.toggles };
    variables = h.variables;
    passed = λ e. absurd (cc);
    works = tt;
  }

  -- behind a whole copy the own block holds what the root does
  pub copies : (own : List ℤ) (q : Process Run) → own ≡ root → order ≡ applied_in history → RootHolds m lawful z opening history order root → ((k : ℕ) → k < z.processes → toggle_in z root k ≡ pos (applied_count order k % 2)) → (w : Witness) × Packed own Mine q w
  copies own q same one holds toggles =
      let w : Witness = record { length = length history; before = order; helped = []; words = holds.words; last = holds.last; number = 0; call = record { export = 0; arguments = [] }; count = 0 } in
      let all : calls_of w ≡ order = append-nil order in (
        w,
        record {
          listed = record {
            within = omega arith;
            copied = one ∙ sym (upto_all history);
            below = All-nil (λ (id : CallId). id.process < 0);
            made = rw all holds.made;
          };
          current = λ on. record { before = refl; helped = refl };
          parts = record {
            replies = λ k i lt less apart. rw (same, all) (holds.replies k i lt less);
            toggles = λ k lt. rw (same, all) (toggles k lt);
          };
          variables = λ _. rw same holds.variables;
          passed = λ e. absurd (cc);
          works = tt;
        },
      )

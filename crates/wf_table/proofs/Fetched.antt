-- Fetched front: the words that a linked process has fetched are those of the announcement, which doesn't move.
use Rattle.std.proofs.Common.{◌≡◌, ◌≢◌, ℕ, ◌+◌, ◌<◌, Bool, true, false, List, length, set, refl, sym, ap, ◌∙◌, arith, cond, inl, inr, subst, int_eq}
use Rattle.std.specs.Prelude.{ℤ, pos, nat_eq, nat_lt}
use Rattle.std.proofs.lemmas.Bool.{cases_eq, eqb-true, false≢true}
use Rattle.std.proofs.lemmas.List.{get_or-set_same, get_or-set_other}
use Rattle.ll_cell.specs.Cell.{Cell, is_linked, word_at, announcement_of, exchanged}
use Rattle.wf_table.specs.declared.engine_turn.EngineTurn.{EngineTurn}
use Rattle.wf_table.specs.declared.engine_turn.EngineTurn.TheVariants.{On, Returned, Trapped, Stuck}
use Rattle.wf_table.specs.declared.process.Label.{Label}
use Rattle.wf_table.specs.declared.process.Label.TheVariants.{Next, Post, Flip, Try, Link, Load, Store, Check1, Mine, Seen, Fetch, Check2, Save, Enter, Body, Undo, Keep, Commit, Read, Take, Give}
use Rattle.wf_table.specs.Labels.{fetching}
use Rattle.wf_table.specs.declared.process.Sizes.{Sizes}
use Rattle.wf_table.specs.Meaning.{Meaning}
use Rattle.wf_table.specs.StepTable.{Process, Change, Nothing, Own, Refill, Announce, Links, Exchanges, cell_after, row, after_body, body_turn, block_words, own_block, toggle_in, announced_toggle, at}
use Rattle.wf_table.proofs.KeepsLinks.{cleared}
use Rattle.wf_table.specs.Helps.{words_fetched, HasFetched}

-- no link stands after an exchange
pub no_link : (c : Cell) (p k : ℕ) → is_linked (exchanged c p) k ≡ false
no_link c p k = cleared (length c.linked) k

-- another process gets no link
pub linked_before : (c : Cell) (p k : ℕ) (change : Change) → k ≢ p → is_linked (cell_after c p change) k ≡ true → is_linked c k ≡ true
linked_before c p k Nothing d e = e
linked_before c p k (Own i w) d e = e
linked_before c p k (Refill ws) d e = e
linked_before c p k (Announce i w) d e = e
linked_before c p k Links d e = sym (get_or-set_other c.linked p k true false d) ∙ e
linked_before c p k Exchanges d given =
    (elim (is_linked c p) as (λ b. is_linked (cond b (exchanged c p) c) k ≡ true → is_linked c k ≡ true) [ true ↦ λ e. absurd (false≢true (sym (no_link c p k) ∙ e)) | false ↦ λ e. e ]) given

-- a row that announces
abbrev pub announces : Label → Bool
announces Post = true
announces Flip = true
announces _ = false

none_fetched : (z : Sizes) (l : Label) (i : ℕ) → fetching l ≡ false → words_fetched z l i ≡ 0
none_fetched z Fetch i e = absurd (cc)
none_fetched z Check2 i e = absurd (cc)
none_fetched z l i e = refl

pub some_fetched : (z : Sizes) (l : Label) (i k : ℕ) → k < words_fetched z l i → fetching l ≡ true
some_fetched z Fetch i k lt = refl
some_fetched z Check2 i k lt = refl
some_fetched z l i k lt = absurd (omega (arith, lt))

label_or : (b : Bool) (x y : Label) → fetching x ≡ false → fetching y ≡ false → fetching (cond b x y) ≡ false
label_or true x y e f = e
label_or false x y e f = f

module _ {Run : Type 0} (m : Meaning Run) (z : Sizes) (c : Cell) (p : ℕ) (q : Process Run) where
  process_or : (b : Bool) (x y : Process Run) → fetching x.label ≡ false → fetching y.label ≡ false → fetching (cond b x y).label ≡ false
  process_or true x y e f = e
  process_or false x y e f = f

  same_announcement : (l : Label) (j : ℕ) → (announces l ≡ true → j ≢ p) → announcement_of (cell_after c p (row l m z c p q).change) j ≡ announcement_of c j
  same_announcement Post j d = get_or-set_other c.announcements p j _ _ (d refl)
  same_announcement Flip j d = get_or-set_other c.announcements p j _ _ (d refl)
  same_announcement Commit j d = elim (is_linked c p) as (λ b. announcement_of (cond b (exchanged c p) c) j ≡ announcement_of c j) [ true ↦ refl | false ↦ refl ]
  same_announcement l j d = refl

  -- another process that is served neither posts nor flips
  pub others_fetched : (l : Label) (k : ℕ) (o : Process Run) → k ≢ p → (announces l ≡ true → is_linked c k ≡ true → fetching o.label ≡ true → o.registers.j ≢ p) → HasFetched z c (is_linked c k) o → HasFetched z (cell_after c p (row l m z c p q).change) (is_linked (cell_after c p (row l m z c p q).change) k) o
  others_fetched l k o d apart h = record {
    front = λ on i lt. (let linked = linked_before c p k (row l m z c p q).change d on in
        h.front linked i lt ∙ sym (ap (λ (ws : List ℤ). word_at ws i) (same_announcement l o.registers.j (λ e. apart e linked (some_fetched z o.label o.registers.i i lt)))));
  }

  body_fetches : (t : EngineTurn) (x : Process Run) → fetching x.label ≡ false → fetching (after_body z t x).label ≡ false
  body_fetches On x e = e
  body_fetches Returned x e = refl
  body_fetches (Trapped k) x e = label_or (nat_eq z.variables 0) Keep Undo refl refl
  body_fetches Stuck x e = e

  row_fetches : (l : Label) → q.label ≡ l → l ≢ Seen → l ≢ Fetch → fetching (row l m z c p q).process.label ≡ false
  row_fetches Next is d f = process_or (nat_lt q.begun (length q.calls)) _ _ refl (ap (λ (l : Label). fetching l) is)
  row_fetches Post is d f = label_or (nat_eq (q.registers.i + 1) z.arguments) Flip q.label refl (ap (λ (l : Label). fetching l) is)
  row_fetches Flip is d f = refl
  row_fetches Try is d f = process_or (nat_eq q.registers.round 2) _ _ refl refl
  row_fetches Link is d f = refl
  row_fetches Load is d f = refl
  row_fetches Store is d f = label_or (nat_eq (q.registers.i + 1) (block_words z)) Check1 Load refl refl
  row_fetches Check1 is d f = process_or (is_linked c p) _ _ refl refl
  row_fetches Mine is d f = process_or (int_eq (toggle_in z (own_block c p) p) (announced_toggle z c p)) _ _ refl refl
  row_fetches Seen is d f = absurd (d refl)
  row_fetches Fetch is d f = absurd (f refl)
  row_fetches Check2 is d f = process_or (is_linked c p) _ _ (label_or (nat_eq z.variables 0) Enter Save refl refl) refl
  row_fetches Save is d f = label_or (nat_eq (q.registers.i + 1) z.variables) Enter q.label refl (ap (λ (l : Label). fetching l) is)
  row_fetches Enter is d f = refl
  row_fetches Body is d f = body_fetches (body_turn m z c p q).turn _ (ap (λ (l : Label). fetching l) is)
  row_fetches Undo is d f = process_or (nat_eq (q.registers.i + 1) z.variables) _ _ refl refl
  row_fetches Keep is d f = process_or (nat_eq (q.registers.i + 1) (z.replies + 2)) _ _ refl refl
  row_fetches Commit is d f = process_or (is_linked c p) _ _ refl refl
  row_fetches Read is d f = refl
  row_fetches Take is d f = label_or (nat_eq (q.registers.i + 1) (z.replies + 1)) Give q.label refl (ap (λ (l : Label). fetching l) is)
  row_fetches Give is d f = refl

  quiet : (l : Label) (c' : Cell) (linked : Bool) (x : Process Run) → fetching x.label ≡ false → HasFetched z c' linked x
  quiet l c' linked x none = record { front = λ on k lt. absurd (omega (arith, lt, none_fetched z x.label x.registers.i none)) }

  starts_fetching : (a b : Bool) (l : Label) → l ≡ Seen → HasFetched z c (is_linked c p) (cond a (record q { label = Commit }) (cond b (record q { label = l; registers = record q.registers { j = q.registers.j + 1 } }) (at 0 Fetch q)))
  starts_fetching true b l is = quiet Seen c (is_linked c p) _ refl
  starts_fetching false true l is = quiet Seen c (is_linked c p) _ (ap (λ (k : Label). fetching k) is)
  starts_fetching false false l is = record { front = λ on k lt. absurd (omega (arith, lt)) }

  fetched_more : (k : ℕ) → is_linked c p ≡ true → q.label ≡ Fetch → q.registers.i < length q.list → HasFetched z c (is_linked c p) q → k < q.registers.i + 1 → word_at (set q.list q.registers.i (word_at (announcement_of c q.registers.j) q.registers.i)) k ≡ word_at (announcement_of c q.registers.j) k
  fetched_more k on is here h lt =
      elim (cases_eq k q.registers.i) [
        | inl e ↦ subst (λ (n : ℕ). word_at (set q.list q.registers.i (word_at (announcement_of c q.registers.j) q.registers.i)) n ≡ word_at (announcement_of c q.registers.j) n) (sym e) (get_or-set_same q.list q.registers.i (word_at (announcement_of c q.registers.j) q.registers.i) (pos 0) here)
        | inr d ↦ get_or-set_other q.list q.registers.i k (word_at (announcement_of c q.registers.j) q.registers.i) (pos 0) d ∙ h.front on k (omega (arith, lt, d, ap (λ (l : Label). words_fetched z l q.registers.i) is))
      ]

  goes_fetching : (b : Bool) → nat_eq (q.registers.i + 1) z.arguments ≡ b → (l : Label) → l ≡ Fetch → q.label ≡ Fetch → q.registers.i < length q.list → q.registers.i < z.arguments → HasFetched z c (is_linked c p) q → HasFetched z c (is_linked c p) (at (q.registers.i + 1) (cond b Check2 l) (record q { list = set q.list q.registers.i (word_at (announcement_of c q.registers.j) q.registers.i) }))
  goes_fetching true last l is at here lt h = record { front = λ on k less. fetched_more k on at here h (omega (arith, less, eqb-true (q.registers.i + 1) z.arguments last)) }
  goes_fetching false last l is at here lt h = record { front = λ on k less. fetched_more k on at here h (omega (arith, less, ap (λ (n : Label). words_fetched z n (q.registers.i + 1)) is)) }

  pub own_fetched : (l : Label) → q.label ≡ l → (l ≡ Fetch → (q.registers.i < length q.list) × (q.registers.i < z.arguments)) → HasFetched z c (is_linked c p) q → HasFetched z (cell_after c p (row l m z c p q).change) (is_linked (cell_after c p (row l m z c p q).change) p) (row l m z c p q).process
  own_fetched Seen is places h = starts_fetching (nat_eq q.registers.j z.processes) (int_eq (announced_toggle z c q.registers.j) (toggle_in z (own_block c p) q.registers.j)) q.label is
  own_fetched Fetch is places h = goes_fetching (nat_eq (q.registers.i + 1) z.arguments) refl q.label is is (places refl).0 (places refl).1 h
  own_fetched l is places h = quiet l _ _ _ (row_fetches l is (λ e. absurd (cc)) (λ e. absurd (cc)))

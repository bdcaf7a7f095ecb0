-- Schedules read word by word.
use Rattle.std.proofs.Common.{◌≡◌, ℕ, ◌+◌, ◌-◌, ◌<◌, ◌≤◌, zero, suc, Bor, List, [], ◌∷◌, ◌++◌, length, map, take, get_or, refl, sym, ◌∙◌, ap, subst, arith}
use Rattle.std.proofs.lemmas.List.{get_or-map, length-map, take_all, take_more}
use Rattle.std.proofs.lemmas.Option.{slice_get_read}
use Rattle.ob_text_words.specs.Words.{Word}
use Rattle.ob_text_words.specs.Schedule.{AreItems, FailsAtItem, HasNoForm, HasNoProcess, IsItem, IsScheduleFault, item_words, more, none, process_of}
use Rattle.ob_text_words.specs.declared.item.Item.{Item}
use Rattle.ob_text_words.proofs.ItemReading.{one_item}
use Rattle.ob_text_words.specs.declared.schedule_texts.ScheduleFault.TheVariants as Faults

module _ (processes : ℕ) where
  AreItems-append : (ws vs : List Word) (xs ys : List Item) → AreItems processes ws xs → AreItems processes vs ys → AreItems processes (ws ++ vs) (xs ++ ys)
  AreItems-append ws vs xs ys none h = h
  AreItems-append ws vs xs ys (more {ws = ws'} {items = items} i below hs) h = more i below (AreItems-append ws' vs items ys hs h)

  pub AreItems-more : (ws : List Word) (i : ℕ) (word : Word) (items : List Item) (item : Item) → i < length ws → word ≡ get_or ws i word →
      IsItem word item → process_of item < processes → AreItems processes (take i ws) items → AreItems processes (take (i + 1) ws) (items ++ item ∷ [])
  AreItems-more ws i word items item within at says below so_far =
      rw (take_more ws i word, ← at) (AreItems-append (take i ws) (word ∷ []) items (item ∷ []) so_far (more says below none))

  -- at each place of words that say items stands one of a process that there is
  item_at : (ws : List Word) (items : List Item) (i : ℕ) (d : Word) → i < length ws → AreItems processes ws items →
      (item : Item) × IsItem (get_or ws i d) item × (process_of item < processes)
  item_at ws items i d within none = absurd (omega arith)
  item_at ws items zero d within (more {item = item} says below hs) = (item, says, below)
  item_at ws items (suc i) d within (more {ws = ws'} {items = items'} says below hs) = item_at ws' items' i d (omega arith) hs

  module _ (text : List ℕ) (i : ℕ) (word : Word) (items : List Item) (within : i < length (item_words text)) (at : word ≡ get_or (item_words text) i word) (so_far : AreItems processes (take i (item_words text)) items) where
    fails_here : (IsFault : Word → Type 0) → IsFault word → FailsAtItem processes text (i + 1) IsFault
    fails_here IsFault h =
        let same : i + 1 - 1 ≡ i = omega arith in
        record {
          word = word;
          counted = omega arith;
          here = rw same (slice_get_read _ _ i word refl within at);
          fails = h;
          items = items;
          before = rw same so_far;
        }

    pub no_form_here : (number : ℕ) → number ≡ i + 1 → ((item : Item) → IsItem word item → ⊥) → IsScheduleFault processes text (Faults.Form number)
    no_form_here number n misfit =
        record {
          stands = rw n (fails_here (HasNoForm processes) misfit);
          none = λ s all h. let p = item_at (item_words text) all i word within h in misfit p.0 (subst (λ (w : Word). IsItem w p.0) (sym at) p.1);
        }

    pub no_process_here : (number : ℕ) → number ≡ i + 1 → (item : Item) → IsItem word item → processes ≤ process_of item → IsScheduleFault processes text (Faults.Process number)
    no_process_here number n item says past =
        record {
          stands = rw n (fails_here (HasNoProcess processes) (record { item = item; says = says; past = past }));
          none = λ s all h.
              let p = item_at (item_words text) all i word within h in
              let same : process_of p.0 ≡ process_of item = ap process_of (one_item (subst (λ (w : Word). IsItem w p.0) (sym at) p.1) says) in
              absurd (omega (arith, p.2));
        }

  -- a text is the schedule of one list of items at most
  pub one_schedule : {ws : List Word} {xs ys : List Item} → AreItems processes ws xs → AreItems processes ws ys → xs ≡ ys
  one_schedule none none = refl
  one_schedule (more i below h) (more j below' k) =
      let first = one_item i j in
      let rest = one_schedule h k in
      cc

  -- words that are read in place
  module _ (text : List ℕ) (ws : List (Bor Word)) (same : map (λ w. w.now) ws ≡ item_words text) where
    module _ (i : ℕ) (word d : Bor Word) (within : i < length ws) (at : word ≡ get_or ws i d) where
      within_text : i < length (item_words text)
      within_text = rw (← same, length-map) within

      at_text : word.now ≡ get_or (item_words text) i word.now
      at_text = ap (λ (w : Bor Word). w.now) at ∙ sym (get_or-map (λ (w : Bor Word). w.now) ws i d word.now within) ∙ ap (λ (us : List Word). get_or us i word.now) same

      module _ (items : List Item) (so_far : AreItems processes (take i (map (λ w. w.now) ws)) items) where
        so_far_text : AreItems processes (take i (item_words text)) items
        so_far_text = subst (λ (us : List Word). AreItems processes (take i us) items) same so_far

        pub no_form_at : ((item : Item) → IsItem word.now item → ⊥) → IsScheduleFault processes text (Faults.Form (i + 1))
        no_form_at misfit = no_form_here text i word.now items within_text at_text so_far_text (i + 1) refl misfit

        pub no_process_at : (item : Item) → IsItem word.now item → processes ≤ process_of item → IsScheduleFault processes text (Faults.Process (i + 1))
        no_process_at item says past = no_process_here text i word.now items within_text at_text so_far_text (i + 1) refl item says past

        pub item_more_at : (item : Item) → IsItem word.now item → process_of item < processes
            → AreItems processes (take (i + 1) (map (λ w. w.now) ws)) (items ++ item ∷ [])
        item_more_at item says below =
            subst (λ (us : List Word). AreItems processes (take (i + 1) us) (items ++ item ∷ [])) (sym same)
            (AreItems-more (item_words text) i word.now items item within_text at_text says below so_far_text)

    pub all_items : (n : ℕ) (items : List Item) → length ws ≤ n → AreItems processes (take n (map (λ w. w.now) ws)) items → AreItems processes (item_words text) items
    all_items n items past so_far =
        subst (λ (us : List Word). AreItems processes us items)
        (take_all n (map (λ (w : Bor Word). w.now) ws) (omega (arith, past, length-map ws (λ (w : Bor Word). w.now))) ∙ same) so_far

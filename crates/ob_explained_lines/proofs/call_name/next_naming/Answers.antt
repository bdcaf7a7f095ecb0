use Rattle.std.proofs.Common.{◌≡◌, ◌∙◌, ◌+◌, ◌-◌, ℕ, Bor, List, None, Some, ap, drop, length, map, refl, rules, subst, sym, take}
use Rattle.std.proofs.lemmas.List.{drop-map, take_rest}
use Rattle.ob_text_words.specs.Words.{Word}
use Rattle.ob_explained_lines.specs.CallNames.{IsFirstNaming, NamesNone}
use Rattle.ob_explained_lines.proofs.call_name.next_naming.Goals as goal

-- the words behind a place
behind : (ws : List (Bor Word)) (n : ℕ) → map (λ (w : Bor Word). w.now) (take (length ws - n) (drop n ws)) ≡ drop n (map (λ (w : Bor Word). w.now) ws)
behind ws n = ap (map (λ (w : Bor Word). w.now)) (take_rest ws n) ∙ sym (drop-map (λ (w : Bor Word). w.now) n ws)

pub returns-in_err-first : goal.returns-in_err-first
returns-in_err-first c = record { first = None; is_first = c.in_err-first.ensures.place; next = search rules }

pub returns-in_err-next : goal.returns-in_err-next
returns-in_err-next c =
    record {
      first = Some c.in_ok-first.first;
      is_first = c.in_ok-first.ensures.place;
      next = (None, subst (λ (ws : List Word). NamesNone ws c.args.id) (behind c.args.words.now (c.in_ok-first.first + 1)) c.in_err-next.ensures.place, search rules);
    }

pub returns : goal.returns
returns c =
    record {
      first = Some c.in_ok-first.first;
      is_first = c.in_ok-first.ensures.place;
      next = (
        Some c.in_ok-next.next,
        subst (λ (ws : List Word). IsFirstNaming ws c.args.id c.in_ok-next.next) (behind c.args.words.now (c.in_ok-first.first + 1)) c.in_ok-next.ensures.place,
        refl,
      );
    }

-- The token that opens a construct: where it may stand, and where it is too deep. Each lemma once, over any form.
use Rattle.std.proofs.Common.{◌≡◌, ℕ, suc, ◌<◌, ◌≤◌, true, false, List, [], ◌++◌, drop, Some, sym, ◌∙◌, ap, subst, arith, take, length, nat_le, refl, option_map}
use Rattle.std.specs.List.{Contains}
use Rattle.std.proofs.lemmas.Bool.{lt-leb, le-leb}
use Rattle.std.proofs.lemmas.List.Elements.{Contains-append_left}
use Rattle.ob_scan.specs.declared.token.Kind.{Kind}
use Rattle.ob_scan.specs.Lexemes.{place_of}
use Rattle.ob_parser.specs.declared.parser.ParseFault.{ParseFault}
use Rattle.ob_parser.specs.declared.parser.ParseFault.TheVariants.{TooDeep}
use Rattle.ob_grammar.specs.Grammar.{Lexemes, TakesAt}
use Rattle.ob_grammar.specs.Limits.{deepest_nesting}
use Rattle.ob_grammar.specs.EndNamesAndNesting.{Breach, too_deep, opening}
use Rattle.ob_parser.specs.Reading.{Form, breaks, Refuses, kind_at, place_at}
use Rattle.ob_parser.specs.Forms.{token, opens, both}
use Rattle.ob_scan.specs.Tokens.{TokenizedText}
use Rattle.ob_scan.specs.Sources.{State, Stands}
use Rattle.ob_parser.specs.ParseFaults.{lexemes_of, HasPlace}
use Rattle.ob_parser.specs.Answers.{IsAt, place_here, Went, Fails}
use Rattle.ob_parser.proofs.Steps.{Leads, Fills, takes_same, takes_at_only, same_place, same_before, drop_before, kind_within, alive_here, shorter, lexeme_there}
use Rattle.ob_parser.proofs.States.{at_here, place_there}

pub not_deep : {n : ℕ} → n < deepest_nesting → (place : ℕ) → opening n place ≡ []
not_deep {n = n} h place = let e : nat_le deepest_nesting n ≡ false = lt-leb deepest_nesting n h in rw e refl

deep_there : (n : ℕ) → deepest_nesting ≤ n → (place : ℕ) → Contains (opening n place) (too_deep place)
deep_there n h place = let e : nat_le deepest_nesting n ≡ true = le-leb deepest_nesting n h in rw e (0, omega arith, refl)

-- a construct that is too deep is among what breaks a condition in a phrase that begins with it
deep_first : (n : ℕ) → deepest_nesting ≤ n → {breaches : List Breach} {place here : ℕ} (after : List Breach) →
    breaches ≡ opening n place ++ after → place ≡ here → Contains breaches (too_deep here)
deep_first n h {place = place} {here = here} after e f =
    let P : List Breach → Type 0 = λ bs. Contains bs (too_deep here) in
    let Q : ℕ → Type 0 = λ k. Contains (opening n place ++ after) (too_deep k) in
    subst P (sym e) (subst Q f (Contains-append_left (opening n place) after (too_deep place) (deep_there n h place)))

-- a token that opens a construct where it may
pub went_opens : {n : ℕ} {kind : Kind} {s t : State} {place : ℕ} → n < deepest_nesting → Went (token kind) s place t → Went (opens n kind) s place t
went_opens {place = place} h w =
    record {
      kept = w.kept;
      onward = w.onward;
      reads = λ source p at.
          (let m = w.reads source p at in
          let r = m.2 in
          (m.0, m.1, record { order = r.order; within = r.within; sound = r.sound; only = r.only; kept = not_deep h place }));
    }

-- the token at p, with any tokens behind it
taken : {kind : Kind} (tokens : Lexemes) (p : ℕ) → kind_at tokens p ≡ Some kind → (l : Lexemes) →
    TakesAt kind (place_at 0 tokens p) (drop p (take (suc p) tokens ++ l)) l
taken {kind = kind} tokens p here l =
    let below : suc p ≤ length tokens = (let k = kind_within tokens p kind here in omega arith) in
    let same = same_before tokens (suc p) l below in
    let other : Lexemes = take (suc p) tokens ++ l in
    let P : Lexemes → Type 0 = λ rest. TakesAt kind (place_at 0 tokens p) (drop p other) rest in
    let Q : ℕ → Type 0 = λ place. TakesAt kind place (drop p other) (drop (suc p) other) in
    let at : p < suc p = omega arith in
    subst P (drop_before tokens (suc p) l below) (subst Q (same_place same at) (takes_same other here same))

-- a phrase that would begin with a construct too deep
pub refuses_deep : {A B : Type 0} {F : Form A} {G : Form B} {kind : Kind} {tokens : Lexemes} {p n : ℕ} {f : ℕ × B → A} →
    Leads F tokens p (both (opens n kind) G) p f → Fills F → Fills G → deepest_nesting ≤ n → kind_at tokens p ≡ Some kind →
    Refuses F tokens p (breaks (too_deep (place_at 0 tokens p))) p
refuses_deep {F = F} {G = G} {kind = kind} {tokens = tokens} {p = p} {n = n} {f = f} leads fills inner many here = record {
  order = omega arith;
  never = λ other same y rest d stops.
      (let m = leads.onto other same y rest d stops in
      let at : p < suc p = omega arith in
      let place = (takes_at_only other p m.2.1).1 ∙ same_place same at in
      deep_first n many (G.breaches m.0.1) (ap F.breaches m.1 ∙ leads.breaches m.0) place);
  within = λ h. h;
  alive = alive_here tokens p fills;
  there = λ breach. kind_within tokens p kind here;
  reached = λ breach h. record {
    more = inner.more;
    tree = f (place_at 0 tokens p, inner.tree);
    derives = λ rest.
        (let l : Lexemes = inner.more ++ rest in
        let below : suc p ≤ length tokens = (let k = kind_within tokens p kind here in omega arith) in
        leads.into (take (suc p) tokens ++ l) (shorter (omega arith) (same_before tokens (suc p) l below)) (place_at 0 tokens p, inner.tree) rest
        (l, taken tokens p here l, inner.derives rest));
  };
}

-- the token that stands here opens a construct too deep
pub fails_deep : {A B : Type 0} {F : Form A} {G : Form B} {kind : Kind} {n : ℕ} {f : ℕ × B → A} (s : State) {e : ParseFault} →
    e ≡ TooDeep (place_here s) →
    ((source : TokenizedText) (p : ℕ) → Stands s source p → Leads F (lexemes_of source) p (both (opens n kind) G) p f) →
    Fills F → Fills G → deepest_nesting ≤ n → IsAt s kind → Fails F s e s
fails_deep {F = F} s e leads fills inner many here =
    let P : ParseFault → Type 0 = λ d. Fails F s d s in
    subst P (sym e)
    (record {
      kept = refl;
      refuses = λ source p w.
          (let there = at_here w here in
          let tokens = lexemes_of source in
          let Q : ℕ → Type 0 = λ k. (i : ℕ) × HasPlace tokens i k × Refuses F tokens p (breaks (too_deep k)) i in
          subst Q (sym (place_there w))
          (p, ap (option_map place_of) (lexeme_there tokens p there).1, refuses_deep (leads source p w) fills inner many there));
    })

-- The words behind a command, one after the other, where they have no fault.
use Rattle.std.proofs.Common.{◌≡◌, ◌∙◌, ℕ, refl, ap, ap₂, List, [], ◌∷◌, fold, false, Option, Some, None}
use Rattle.clap.specs.Walk.{Held, Walk, Step, Row, Text, walked, idle, option, value, plain_word, finished, settled, word_met, to_positional, arg_by_index, after_step}
use Rattle.clap.specs.Kinds.{Kinds, or_else}
use Rattle.clap.specs.Faults.{walk_fault, settle_fault, defaults_fault, check_fault, turn_fault, step_fault}
use Rattle.clap.specs.Simple.{Shape}
use Rattle.ob_command.specs.CommandLine.{is_option}
use Rattle.ob_command_laws.proofs.PlainWords.{no_dashes, no_long, no_short}

abbrev pub ending : Shape → Held → Kinds
ending s h = or_else (settle_fault s.rules s.args_override_self h) (or_else (defaults_fault (settled s.rules h).rows s.rules)
    (check_fault s (finished s.rules h) false))

-- from here on the words have no fault, and leave these rows
pub record Goes (s : Shape) (w : Walk) (words : List Text) (rows : List Row) : Type 0 where
  pub no_fault : or_else (walk_fault s [] w words) (ending s (fold (walked s.rules []) w words).held) ≡ []
  pub leaves : finished s.rules (fold (walked s.rules []) w words).held ≡ rows

pub stepped : (s : Shape) (w : Walk) (word : Text) → turn_fault s [] w word ≡ [] → (next : Walk) → walked s.rules [] w word ≡ next
    → (words : List Text) (rows : List Row) → Goes s next words rows → Goes s w (word ∷ words) rows
unfolding walk_fault
stepped s w word none next is words rows goes = record {
  no_fault = ap₂ (λ ks (w' : Walk). or_else (or_else ks (walk_fault s [] w' words)) (ending s (fold (walked s.rules []) w' words).held)) none is ∙ goes.no_fault;
  leaves = ap (λ (w' : Walk). finished s.rules (fold (walked s.rules []) w' words).held) is ∙ goes.leaves;
}

-- between two words, where no option waits for its value
module _ (s : Shape) (held : List Row) (pending : Option (Text × List Text)) (position : ℕ) where
  abbrev pub here : Held
  here = record { rows = held; pending = pending; skip = 0 }

  abbrev pub state : Walk
  state = record { held = here; waiting = idle; position = position; is_trailing = false; stopped = None }

  met_name : (word : Text) → is_option word ≡ false → word_met s.rules [] false idle position word here ≡ (here, value)
  met_name word h =
      let dashes = no_dashes word h in
      let long = no_long word h in
      let short = no_short word h in
      rw (dashes, long, short) refl

  turn_name : (word : Text) → is_option word ≡ false → turn_fault s [] state word ≡ step_fault s position here value
  turn_name word h =
      let dashes = no_dashes word h in
      let long = no_long word h in
      let short = no_short word h in
      rw (dashes, long, short) refl

  after_name : (word : Text) → is_option word ≡ false → walked s.rules [] state word ≡ to_positional s.rules (arg_by_index s.rules position) word state here
  unfolding walked
  after_name word h = ap (λ (m : Held × Step). after_step s.rules word state m.0 m.1) (met_name word h)

  pub named : (word : Text) → is_option word ≡ false → step_fault s position here value ≡ []
      → (next : Walk) → to_positional s.rules (arg_by_index s.rules position) word state here ≡ next
      → (words : List Text) (rows : List Row) → Goes s next words rows → Goes s state (word ∷ words) rows
  named word h none next is = stepped s state word (turn_name word h ∙ none) next (after_name word h ∙ is)

  -- where the option of this id waits for its value
  module _ (id : Text) where
    abbrev pub waits : Walk
    waits = record state { waiting = option id }

    turn_value : (word : Text) → is_option word ≡ false → turn_fault s [] waits word ≡ []
    turn_value word h =
        let dashes = no_dashes word h in
        let long = no_long word h in
        let short = no_short word h in
        rw (dashes, long, short) refl

    met_value : (word : Text) → is_option word ≡ false → word_met s.rules [] false (option id) position word here ≡ plain_word s.rules (option id) word here
    met_value word h =
        let dashes = no_dashes word h in
        let long = no_long word h in
        let short = no_short word h in
        rw (dashes, long, short) refl

    after_value : (word : Text) → is_option word ≡ false
        → walked s.rules [] waits word ≡ after_step s.rules word waits (plain_word s.rules (option id) word here).0 (plain_word s.rules (option id) word here).1
    unfolding walked
    after_value word h = ap (λ (m : Held × Step). after_step s.rules word waits m.0 m.1) (met_value word h)

    pub valued : (word : Text) → is_option word ≡ false → (next : Walk)
        → after_step s.rules word waits (plain_word s.rules (option id) word here).0 (plain_word s.rules (option id) word here).1 ≡ next
        → (words : List Text) (rows : List Row) → Goes s next words rows → Goes s waits (word ∷ words) rows
    valued word h next is = stepped s waits word (turn_value word h) next (after_value word h ∙ is)

-- an option, and behind it its value, which is no option
pub optioned : (s : Shape) (w : Walk) (flag id v : Text) (held : List Row) (position : ℕ) → turn_fault s [] w flag ≡ []
    → walked s.rules [] w flag ≡ waits s held (Some (id, [])) position id → is_option v ≡ false
    → after_step s.rules v (waits s held (Some (id, [])) position id) (plain_word s.rules (option id) v (here s held (Some (id, [])) position)).0
    (plain_word s.rules (option id) v (here s held (Some (id, [])) position)).1 ≡ state s held (Some (id, v ∷ [])) position
    → (words : List Text) (rows : List Row) → Goes s (state s held (Some (id, v ∷ [])) position) words rows → Goes s w (flag ∷ v ∷ words) rows
optioned s w flag id v held position none meets no_v is words rows goes =
    stepped s w flag none _ meets (v ∷ words) rows (valued s held (Some (id, [])) position id v no_v _ is words rows goes)

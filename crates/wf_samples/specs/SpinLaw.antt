-- The spinning engine meets the law: its one turn is told by the first word.
use Rattle.std.proofs.Common.{◌≡◌, ℕ, zero, suc, ◌<◌, ◌≤◌, ◌^◌, Bool, true, false, cond, List, [], length, replicate, set, ◌∷◌, refl, sym, ap, ◌∙◌, arith, int_eq, subst}
use Rattle.std.specs.Prelude.{ℤ, pos, Some, int_lt}
use Rattle.std.proofs.lemmas.List.{get_or-replicate, length-replicate}
use Rattle.std.proofs.lemmas.Option.{same_Some}
use Rattle.ll_cell.specs.Cell.{word_at}
use Rattle.ob_interface.specs.declared.scalar.Scalar.{Scalar}
use Rattle.ob_interface.specs.Call.{ObjectCall, Reply, Answers, Trapped}
use Rattle.wf_table.specs.declared.engine_turn.EngineTurn.{EngineTurn}
use Rattle.wf_table.specs.declared.engine_turn.EngineTurn.TheVariants as Turn
use Rattle.wf_table.specs.Meaning.{Turned, after_turn, steps, body, values_in}
use Rattle.wf_table.specs.Law.{IsLawful, TouchesOneWord, HasReturned, HasTrapped, Reaches, ReachesTrap}
use Rattle.wf_samples.specs.Words.{argument_of}
use Rattle.wf_samples.specs.Spin.{turn_by, turn_at, outcome_by, Spins, spin, IsNoWord, HasRoom}

abbrev turned : EngineTurn → List ℤ → List ℤ → Turned (List ℤ)
turned t run block = record { turn = t; run = run; block = block }

-- a step that leaves run and block as they are, and what comes behind it
one_step : (t : EngineTurn) (run block : List ℤ) (after : Turned (List ℤ)) → (t ≡ Turn.On → after ≡ turned Turn.On run block) → after_turn t (turned t run block) after ≡ turned t run block
one_step Turn.On run block after h = h refl
one_step Turn.Returned run block after h = refl
one_step (Turn.Trapped k) run block after h = refl
one_step Turn.Stuck run block after h = refl

-- any number of steps comes to the first one
all_steps : (words n : ℕ) (run block : List ℤ) → steps (spin words) (suc n) run block ≡ turned (turn_at (word_at run 0)) run block
all_steps words zero run block = one_step (turn_at (word_at run 0)) run block (turned Turn.On run block) (λ e. refl)
all_steps words (suc n) run block = one_step (turn_at (word_at run 0)) run block (steps (spin words) (suc n) run block) (λ e. all_steps words n run block ∙ ap (λ (t : EngineTurn). turned t run block) e)

-- no word is read or written
untouched : (turn : EngineTurn) (run other : List ℤ) (w : ℤ) → length other ≡ 0 → turned turn run other ≡ turned turn run (set other 0 w)
untouched turn run [] w none = refl
untouched turn run (v ∷ rest) w none = absurd (omega (arith, none))

touches : (words : ℕ) (run block : List ℤ) → length block ≡ 0 → TouchesOneWord (spin words) run block
touches words run block none = record { place = 0; same = λ other long is. untouched (turn_at (word_at run 0)) run other (word_at block 0) (long ∙ none) }

abbrev is_0 : ObjectCall → Bool
is_0 c = int_eq (argument_of c.arguments) (pos 0)

abbrev is_below : ObjectCall → Bool
is_below c = int_lt (argument_of c.arguments) (pos 0)

returned_by : (a b : Bool) (block : List ℤ) → turn_by a b ≡ Turn.Returned → outcome_by a b block ≡ Some (block, Answers [])
returned_by true b block h = refl
returned_by false true block h = absurd (cc)
returned_by false false block h = absurd (cc)

trapped_by : (a b : Bool) (block : List ℤ) (k : ℕ) → turn_by a b ≡ Turn.Trapped k → (7 ≡ k) × (outcome_by a b block ≡ Some (block, Trapped 7))
trapped_by true b block k h = absurd (cc)
trapped_by false true block k h = let seven : 7 ≡ k = cc in (seven, refl)
trapped_by false false block k h = absurd (cc)

moves_by : (a b : Bool) → turn_by a b ≡ Turn.Stuck → ⊥
moves_by true b h = cc
moves_by false true h = cc
moves_by false false h = cc

returns_by : (a b : Bool) (block after : List ℤ) (values : List Scalar) → outcome_by a b block ≡ Some (after, Answers values) → (turn_by a b ≡ Turn.Returned) × (block ≡ after) × (Answers [] ≡ Answers values)
returns_by true b block after values h = let same = same_Some _ _ h in (refl, ap (λ (x : List ℤ × Reply). x.0) same, ap (λ (x : List ℤ × Reply). x.1) same)
returns_by false true block after values h = let apart : Trapped 7 ≡ Answers values = ap (λ (x : List ℤ × Reply). x.1) (same_Some _ _ h) in absurd (cc)
returns_by false false block after values h = absurd (cc)

traps_by : (a b : Bool) (block after : List ℤ) (k : ℕ) → outcome_by a b block ≡ Some (after, Trapped k) → (turn_by a b ≡ Turn.Trapped k) × (block ≡ after)
traps_by true b block after k h = let apart : Answers [] ≡ Trapped k = ap (λ (x : List ℤ × Reply). x.1) (same_Some _ _ h) in absurd (cc)
traps_by false true block after k h =
    let same = same_Some _ _ h in
    let replies : Trapped 7 ≡ Trapped k = ap (λ (x : List ℤ × Reply). x.1) same in
    let seven : 7 ≡ k = cc in (ap Turn.Trapped seven, ap (λ (x : List ℤ × Reply). x.0) same)
traps_by false false block after k h = absurd (cc)

few : (b : Bool) → length (values_in (cond b (Answers []) (Trapped 7))) ≤ 8
few true = omega arith
few false = omega arith

module _ (words : ℕ) (some : 0 < words) where
  abbrev said : ObjectCall → List ℤ
  said c = replicate words (argument_of c.arguments)

  -- the body of a call, behind its first step
  body_is : (block : List ℤ) (c : ObjectCall) (n : ℕ) → body (spin words) (suc n) block c ≡ turned (turn_by (is_0 c) (is_below c)) (said c) block
  body_is block c n = all_steps words n (said c) block ∙ ap (λ (w : ℤ). turned (turn_at w) (said c) block) (get_or-replicate words 0 (argument_of c.arguments) (pos 0) some)

  turn_is : (block : List ℤ) (c : ObjectCall) (n : ℕ) → (body (spin words) (suc n) block c).turn ≡ turn_by (is_0 c) (is_below c)
  turn_is block c n = ap (λ (t : Turned (List ℤ)). t.turn) (body_is block c n)

  returned : (block : List ℤ) (c : ObjectCall) (n : ℕ) → (body (spin words) n block c).turn ≡ Turn.Returned → HasReturned (spin words) Spins block c (body (spin words) n block c)
  returned block c zero h = absurd (cc)
  returned block c (suc n) h =
      subst (λ (t : Turned (List ℤ)). HasReturned (spin words) Spins block c t) (sym (body_is block c n))
      (record { values = []; effect = ∣ returned_by (is_0 c) (is_below c) block (sym (turn_is block c n) ∙ h) ∣₁; reply = refl; rest = λ i le lt. absurd (omega (arith, lt)) })

  trapped : (block : List ℤ) (c : ObjectCall) (n k : ℕ) → (body (spin words) n block c).turn ≡ Turn.Trapped k → HasTrapped (spin words) Spins block c k
  trapped block c zero k h = absurd (cc)
  trapped block c (suc n) k h =
      let found = trapped_by (is_0 c) (is_below c) block k (sym (turn_is block c n) ∙ h) in
      subst (λ (j : ℕ). HasTrapped (spin words) Spins block c j) found.0 (record { number = omega arith; effect = ∣ found.1 ∣₁; reply = refl })

  not_stuck : (block : List ℤ) (c : ObjectCall) (n : ℕ) → (body (spin words) n block c).turn ≡ Turn.Stuck → ⊥
  not_stuck block c zero h = cc
  not_stuck block c (suc n) h = moves_by (is_0 c) (is_below c) (sym (turn_is block c n) ∙ h)

  returns : (block : List ℤ) (c : ObjectCall) (after : List ℤ) (values : List Scalar) → Spins c block after (Answers values) → Reaches (spin words) block c after values
  returns block c after values h =
      let found = returns_by (is_0 c) (is_below c) block after values h in
      record { count = 1; turn = turn_is block c 0 ∙ found.0; block_is = ap (λ (t : Turned (List ℤ)). t.block) (body_is block c 0) ∙ found.1; reply = found.2 }

  traps : (block : List ℤ) (c : ObjectCall) (after : List ℤ) (k : ℕ) → Spins c block after (Trapped k) → ReachesTrap (spin words) block c after k
  traps block c after k h =
      let found = traps_by (is_0 c) (is_below c) block after k h in
      let first = trapped block c 1 k (turn_is block c 0 ∙ found.0) in
      record { count = 1; turn = turn_is block c 0 ∙ found.0; block_is = found.1; reply = first.reply }

  stays : (a b : Bool) (block after : List ℤ) (reply : Reply) → outcome_by a b block ≡ Some (after, reply) → block ≡ after
  stays true b block after reply h = ap (λ (x : List ℤ × Reply). x.0) (same_Some _ _ h)
  stays false true block after reply h = ap (λ (x : List ℤ × Reply). x.0) (same_Some _ _ h)
  stays false false block after reply h = absurd (cc)

  pub spin_lawful : words < 2 ^ 32 → IsLawful (spin words) IsNoWord (λ _. Unit {0}) (HasRoom words) Spins
  spin_lawful less = record {
    has_argument = some;
    few_variables = omega arith;
    few_replies = omega arith;
    few_arguments = less;
    length_lay = λ call fits. length-replicate words (argument_of call.arguments);
    length_step = λ run block ready long. refl;
    length_lawful = λ block h. h;
    few_values = λ c ws fits long. few (int_eq (word_at ws 0) (pos 0));
    start_ready = λ ws long. long;
    step_ready = λ run block ready long. ready;
    stuck_run = λ run block ready long stuck. refl;
    stuck_block = λ run block ready long stuck. refl;
    one_word = λ run block ready long. touches words run block long;
    effect_lawful = λ b c b' a lawful fits e. ap length (sym (stays (is_0 c) (is_below c) b b' a e)) ∙ lawful;
    returned = λ b c n lawful fits h. returned b c n h;
    trapped = λ b c n k lawful fits h. trapped b c n k h;
    never_stuck = λ b c n lawful fits h. not_stuck b c n h;
    returns = λ b c b' values lawful fits e. returns b c b' values e;
    traps = λ b c b' k lawful fits e. traps b c b' k e;
  }

-- The adder meets the law.
use Rattle.std.proofs.Common.{◌≡◌, ℕ, zero, suc, ◌≤◌, Bool, true, false, cond, List, [], ◌∷◌, length, refl, sym, ap, ◌∙◌, arith, length-set, int_eq}
use Rattle.std.specs.Prelude.{ℤ, pos, slice_set}
use Rattle.std.specs.Int.{int_wrapping_add, w64}
use Rattle.ll_cell.specs.Cell.{word_at}
use Rattle.ob_interface.specs.declared.scalar.Scalar.{Scalar}
use Rattle.ob_interface.specs.Call.{ObjectCall, Reply, Answers, Trapped}
use Rattle.wf_table.specs.declared.engine_turn.EngineTurn.TheVariants as Turn
use Rattle.wf_table.specs.Meaning.{Turned, body, values_in}
use Rattle.wf_table.specs.Law.{IsLawful, TouchesOneWord, HasReturned, Reaches}
use Rattle.wf_samples.specs.Words.{argument_of, scalar_in}
use Rattle.wf_samples.specs.declared.adder.AdderRun.{AdderRun}
use Rattle.wf_samples.specs.Adder.{adder, Adds, IsOneWord, sum_of}

abbrev turned : (sum argument : ℤ) → List ℤ → Turned AdderRun
turned sum argument block = record { turn = Turn.Returned; run = record { argument = argument; sum = sum }; block = slice_set block 0 sum }

returned : (b : List ℤ) (c : ObjectCall) (n : ℕ) → (body adder n b c).turn ≡ Turn.Returned → HasReturned adder Adds b c (body adder n b c)
returned b c zero h = absurd (cc)
returned b c (suc n) h = record { values = scalar_in (sum_of b (argument_of c.arguments)) ∷ []; effect = ∣ refl ∣₁; reply = refl; rest = λ i le lt. absurd (omega (arith, le, lt)) }

no_trap_turn : (b : List ℤ) (c : ObjectCall) (n k : ℕ) → (body adder n b c).turn ≡ Turn.Trapped k → ⊥
no_trap_turn b c zero k h = cc
no_trap_turn b c (suc n) k h = cc

not_stuck : (b : List ℤ) (c : ObjectCall) (n : ℕ) → (body adder n b c).turn ≡ Turn.Stuck → ⊥
not_stuck b c zero h = cc
not_stuck b c (suc n) h = cc

no_trap : {A : Type 0} (b : List ℤ) (c : ObjectCall) (b' : List ℤ) (k : ℕ) → Adds c b b' (Trapped k) → A
no_trap b c b' k e = let apart : Answers (scalar_in (sum_of b (argument_of c.arguments)) ∷ []) ≡ Trapped k = ap (λ (x : List ℤ × Reply). x.1) e in absurd (cc)

returns : (b : List ℤ) (c : ObjectCall) (b' : List ℤ) (values : List Scalar) → Adds c b b' (Answers values) → Reaches adder b c b' values
returns b c b' values e = record { count = 1; turn = refl; block_is = ap (λ (x : List ℤ × Reply). x.0) e; reply = ap (λ (x : List ℤ × Reply). x.1) e }

-- the one word is read and written
touches : (run : AdderRun) (b : List ℤ) → length b ≡ 1 → TouchesOneWord adder run b
touches run [] long = absurd (omega (arith, long))
touches run (w ∷ rest) long = record {
  place = 0;
  same = λ other as_long is. ap (λ (v : ℤ). turned (int_wrapping_add w64 v run.argument) run.argument other) is;
}

-- what a reply reads as
few : (b : Bool) (word : ℤ) → length (values_in (cond b (Answers (scalar_in word ∷ [])) (Trapped 1))) ≤ 8
few true word = omega arith
few false word = omega arith

pub adder_lawful : IsLawful adder IsOneWord (λ _. Unit {0}) (λ _. Unit {0}) Adds
adder_lawful = record {
  has_argument = omega arith;
  few_variables = omega arith;
  few_replies = omega arith;
  few_arguments = omega arith;
  length_lay = λ call fits. refl;
  length_step = λ run block ready long. length-set block 0 _;
  length_lawful = λ block h. h;
  few_values = λ c words fits long. few (int_eq (word_at words 0) (pos 0)) (word_at words 1);
  start_ready = λ words long. tt;
  step_ready = λ run block ready long. tt;
  stuck_run = λ run block ready long stuck. absurd (cc);
  stuck_block = λ run block ready long stuck. absurd (cc);
  one_word = λ run block ready long. touches run block long;
  effect_lawful = λ b c b' a lawful fits e. ap length (sym (ap (λ (x : List ℤ × Reply). x.0) e)) ∙ length-set b 0 _ ∙ lawful;
  returned = λ b c n lawful fits h. returned b c n h;
  trapped = λ b c n k lawful fits h. absurd (no_trap_turn b c n k h);
  never_stuck = λ b c n lawful fits h. not_stuck b c n h;
  returns = λ b c b' values lawful fits e. returns b c b' values e;
  traps = λ b c b' k lawful fits e. no_trap b c b' k e;
}

-- Rows of worked programs, by computation.
use Rattle.std.proofs.Common.{◌≡◌, refl, ℤ, pos, negsuc, true, false, [], ◌∷◌, Some, None}
use Rattle.std.specs.Prelude as Prelude
use Rattle.ob_interface.specs.declared.scalar.Scalar.TheVariants.{Int, Bool}
use Rattle.ob_meaning.specs.ByPositionValue.{Value, Single, Parts, no_part, part}
use Rattle.ob_meaning.specs.ByPositionStore.{Holds, Activation}
use Rattle.ob_code_scheme.specs.Types.{address, variables_scope}
use Rattle.ob_code_scheme.specs.Temporaries.{stack_words}
use Rattle.ob_code_scheme.specs.Layout.{variable_words, word_of, encoded, decoded, layout_of}
use Rattle.ob_code_words.specs.declared.instr.Instr.TheVariants.{Literal, Global, Local, Field, Index, Get, Put, Add, Subtract, Greater, GreaterOrEqual, Jump, JumpIfFalse, Call, Frame, Return, Turn}
use Rattle.ob_code_machine.specs.Machine.{Returned, Trapped}
use Rattle.ob_code_scheme.specs.Scheme.{code_of}
use Rattle.ob_code_scheme.proofs.Samples.{run, meant, answered, failed, Agree, end_at, start, element_field, down, up, counter, forever, sharing, division, logic, choosing, handing, filling, height_of}

-- ---- an element's field

field_words : variable_words element_field.variables ≡ 7
field_words = refl

field_word : address (variables_scope element_field.variables ∷ []) (record { activation = 0; position = 0; path = 2 ∷ 1 ∷ [] }) ≡ 5
field_word = refl

field_behind : word_of element_field.variables 1 ≡ 6
field_behind = refl

field_layout : layout_of element_field ≡ record { variables = element_field.variables; frames = 2 ∷ []; stack_words = 328 }
field_layout = refl

field_code : (code_of element_field).instructions ≡ Frame 0 ∷ Local 1 ∷ Get ∷ Global 0 ∷ Local 0 ∷ Get ∷ Index 3 2 ∷ Field 1 ∷ Get ∷ Put ∷ Return ∷ []
field_code = refl

abbrev one_record : ℤ → Prelude.Bool → Value
one_record p q = Parts (part (Single (Int p)) (part (Single (Bool q)) no_part))

abbrev field_state : Activation
field_state =
    Holds (Parts (part (one_record (pos 3) false) (part (one_record (pos 4) false) (part (one_record (pos 5) true) no_part)))) ∷ Holds (Single (Int (pos 7))) ∷ []

field_encoded : encoded field_state ≡ pos 3 ∷ pos 0 ∷ pos 4 ∷ pos 0 ∷ pos 5 ∷ pos 1 ∷ pos 7 ∷ []
field_encoded = refl

field_decoded : decoded element_field.variables (encoded field_state) ≡ Some field_state
field_decoded = refl

field_not_decoded : decoded element_field.variables (pos 3 ∷ pos 2 ∷ pos 4 ∷ pos 0 ∷ pos 5 ∷ pos 1 ∷ pos 7 ∷ []) ≡ None
field_not_decoded = refl

field_run : run element_field 0 (Int (pos 2) ∷ []) 0 field_state 11 ≡ Returned (encoded field_state) (pos 1 ∷ [])
field_run = refl

field_means : meant element_field 0 (Int (pos 2) ∷ []) 0 field_state ≡ answered field_state (Bool true ∷ [])
field_means = refl

field_outside : run element_field 0 (Int (pos 3) ∷ []) 0 field_state 7 ≡ Trapped 2
field_outside = refl

field_below : Agree element_field 0 (Int (negsuc 0) ∷ []) 0 field_state
field_below = refl

-- ---- calls

down_code : (code_of down).instructions ≡ Frame 0 ∷ Local 0 ∷ Get ∷ Literal (pos 1) ∷ Greater ∷ JumpIfFalse 11 ∷ Local 0 ∷ Get ∷ Literal (pos 1) ∷ Subtract ∷ Call 0 1 ∷ Return ∷ []
down_code = refl

down_stack : stack_words down.procedures ≡ 200
down_stack = refl

down_done : run down 0 (Int (pos 3) ∷ []) 2 [] 31 ≡ Returned [] []
down_done = refl

down_ends : end_at down 0 (Int (pos 3) ∷ []) 2 [] 31 ≡ (false, true)
down_ends = refl

down_64 : run down 0 (Int (pos 64) ∷ []) 63 [] 763 ≡ Returned [] []
down_64 = refl

down_64_ends : end_at down 0 (Int (pos 64) ∷ []) 63 [] 763 ≡ (false, true)
down_64_ends = refl

down_64_means : meant down 0 (Int (pos 64) ∷ []) 63 [] ≡ answered [] []
down_64_means = refl

-- 64 activations take 63 turns, since the call from outside takes none; trap 4 comes before trap 5
down_64_no_turn : run down 0 (Int (pos 64) ∷ []) 62 [] 693 ≡ Trapped 5
down_64_no_turn = refl

down_64_no_turn_means : meant down 0 (Int (pos 64) ∷ []) 62 [] ≡ failed [] 5
down_64_no_turn_means = refl

down_65 : run down 0 (Int (pos 65) ∷ []) 63 [] 704 ≡ Trapped 4
down_65 = refl

down_65_ends : end_at down 0 (Int (pos 65) ∷ []) 63 [] 704 ≡ (false, true)
down_65_ends = refl

down_65_means : meant down 0 (Int (pos 65) ∷ []) 63 [] ≡ failed [] 4
down_65_means = refl

down_no_turn : run down 0 (Int (pos 3) ∷ []) 1 [] 22 ≡ Trapped 5
down_no_turn = refl

-- ---- REPEAT

up_code : (code_of up).instructions ≡ Frame 0 ∷ Turn ∷ Global 0 ∷ Global 0 ∷ Get ∷ Literal (pos 1) ∷ Add ∷ Put ∷ Global 0 ∷ Get ∷ Local 0 ∷ Get ∷ GreaterOrEqual ∷ JumpIfFalse 1 ∷ Return ∷ []
up_code = refl

abbrev up_state : ℤ → Activation
up_state z = Holds (Single (Int z)) ∷ []

up_done : run up 0 (Int (pos 3) ∷ []) 3 (up_state (pos 0)) 41 ≡ Returned (pos 3 ∷ []) []
up_done = refl

up_ends : end_at up 0 (Int (pos 3) ∷ []) 3 (up_state (pos 0)) 41 ≡ (false, true)
up_ends = refl

-- with 3 turns each: to 3; one round more than is needed; trap 5, which changes nothing; one round whatever holds
up_means_3 : meant up 0 (Int (pos 3) ∷ []) 3 (up_state (pos 0)) ≡ answered (up_state (pos 3)) []
up_means_3 = refl

up_means_again : meant up 0 (Int (pos 3) ∷ []) 3 (up_state (pos 3)) ≡ answered (up_state (pos 4)) []
up_means_again = refl

up_means_8 : meant up 0 (Int (pos 8) ∷ []) 3 (up_state (pos 4)) ≡ failed (up_state (pos 4)) 5
up_means_8 = refl

up_means_0 : meant up 0 (Int (pos 0) ∷ []) 3 (up_state (pos 4)) ≡ answered (up_state (pos 5)) []
up_means_0 = refl

up_agree_3 : Agree up 0 (Int (pos 3) ∷ []) 3 (up_state (pos 0))
up_agree_3 = refl

up_agree_8 : Agree up 0 (Int (pos 8) ∷ []) 3 (up_state (pos 4))
up_agree_8 = refl

up_agree_no_turn : Agree up 0 (Int (pos 0) ∷ []) 0 (up_state (pos 4))
up_agree_no_turn = refl

-- ---- the counter

counter_code : code_of counter ≡ record { instructions = Frame 0 ∷ Global 0 ∷ Global 0 ∷ Get ∷ Literal (pos 1) ∷ Add ∷ Put ∷ Return ∷ Frame 0 ∷ Local 0 ∷ Get ∷ Global 0 ∷ Get ∷ Put ∷ Return ∷ []; entries = 0 ∷ 8 ∷ [] }
counter_code = refl

counter_stack : stack_words counter.procedures ≡ 264
counter_stack = refl

-- ---- a loop without an end, with 5 turns

forever_code : (code_of forever).instructions ≡ Frame 0 ∷ Literal (pos 1) ∷ JumpIfFalse 5 ∷ Turn ∷ Jump 1 ∷ Return ∷ []
forever_code = refl

forever_trap : run forever 0 [] 5 [] 24 ≡ Trapped 5
forever_trap = refl

forever_means : meant forever 0 [] 5 [] ≡ failed [] 5
forever_means = refl

forever_ends : end_at forever 0 [] 5 [] 24 ≡ (false, true)
forever_ends = refl

forever_agree : Agree forever 0 [] 5 []
forever_agree = refl

-- ---- source and code side by side

sharing_agree : Agree sharing 2 [] 3 (start sharing)
sharing_agree = refl

sharing_means : meant sharing 2 [] 3 (start sharing) ≡ answered (Holds (Single (Int (pos 2))) ∷ Holds (Parts (part (Single (Int (pos 8))) (part (Single (Int (pos 7))) no_part))) ∷ []) (Int (pos 2) ∷ Int (pos 8) ∷ [])
sharing_means = refl

sharing_no_turn : Agree sharing 2 [] 2 (start sharing)
sharing_no_turn = refl

division_agree : Agree division 0 (Int (negsuc 6) ∷ Int (pos 2) ∷ []) 0 []
division_agree = refl

division_least : Agree division 0 (Int (negsuc 2147483647) ∷ Int (pos 1) ∷ []) 0 []
division_least = refl

division_by_zero : Agree division 0 (Int (pos 7) ∷ Int (pos 0) ∷ []) 0 []
division_by_zero = refl

logic_decided : Agree logic 0 [] 0 []
logic_decided = refl

logic_trap : Agree logic 1 [] 0 []
logic_trap = refl

logic_chain : Agree logic 2 [] 0 []
logic_chain = refl

logic_chain_means : meant logic 2 [] 0 [] ≡ answered [] (Bool true ∷ [])
logic_chain_means = refl

choosing_below : Agree choosing 0 (Int (negsuc 3) ∷ []) 0 []
choosing_below = refl

choosing_below_means : meant choosing 0 (Int (negsuc 3) ∷ []) 0 [] ≡ answered [] (Int (negsuc 4) ∷ [])
choosing_below_means = refl

choosing_zero : Agree choosing 0 (Int (pos 0) ∷ []) 0 []
choosing_zero = refl

choosing_above : Agree choosing 0 (Int (pos 3) ∷ []) 0 []
choosing_above = refl

sum_done : Agree choosing 1 (Int (pos 3) ∷ []) 3 []
sum_done = refl

sum_means : meant choosing 1 (Int (pos 3) ∷ []) 3 [] ≡ answered [] (Int (pos 33) ∷ [])
sum_means = refl

sum_outside : Agree choosing 1 (Int (pos 4) ∷ []) 9 []
sum_outside = refl

sum_no_turn : Agree choosing 1 (Int (pos 3) ∷ []) 2 []
sum_no_turn = refl

-- three rounds of 6 turns each: one of WHILE, a call, two of REPEAT, and a call in each of these
handing_done : Agree handing 2 (Int (pos 2) ∷ []) 18 (start handing)
handing_done = refl

handing_means : meant handing 2 (Int (pos 2) ∷ []) 18 (start handing) ≡ answered (Holds (Parts (part (one_record (pos 6) true) (part (one_record (pos 6) true) no_part))) ∷ Holds (Single (Int (pos 3))) ∷ []) (Int (pos 2) ∷ [])
handing_means = refl

handing_no_turn : Agree handing 2 (Int (pos 2) ∷ []) 17 (start handing)
handing_no_turn = refl

handing_no_turn_means : meant handing 2 (Int (pos 2) ∷ []) 17 (start handing) ≡ failed (start handing) 5
handing_no_turn_means = refl

-- ---- the stack is filled and not passed: 8 words of results, and 64 frames of 8 words

filling_stack : stack_words filling.procedures ≡ 520
filling_stack = refl

filling_full : height_of (run filling 0 [] 63 [] 127) ≡ Some 520
filling_full = refl

filling_trap : run filling 0 [] 63 [] 128 ≡ Trapped 4
filling_trap = refl

filling_agree : Agree filling 0 [] 63 []
filling_agree = refl

-- What is owed of memory: the words of a store that fits its scopes, what is read there, what a store into a place changes, and what
-- a position that comes or goes changes.
use Rattle.std.specs.Prelude.{◌≡◌, ◌≢◌, ℕ, suc, pred, ◌+◌, ◌<◌, ◌≤◌, ℤ, pos, List, [], ◌∷◌, ◌++◌, length, take, drop, replicate, slice_set, slice_index_or, Some}
use Rattle.ob_interface.specs.declared.scalar.Scalar.{Scalar}
use Rattle.ob_interface.specs.declared.scalar.ScalarType.{ScalarType}
use Rattle.ob_typing.specs.Program.{DataType, Simple, OfModule, Own, Slot, Parameter, Variable}
use Rattle.ob_meaning.specs.ByPositionValue.{Single, initial}
use Rattle.ob_meaning.specs.ByPositionStore.{Place, Refers, Held, Activation, Store, activation_at, running, held_at, place_owned, place_of_slot, further_in, value_at, stored}
use Rattle.ob_meaning.specs.ByPositionStatements.{begun}
use Rattle.ob_meaning.specs.ByPositionObject.{results_begun}
use Rattle.ob_code_scheme.specs.Types.{words, inner, Holding, Referring, Scope, extent, word_in, space_at, type_at, variables_scope, results_scope, scope_of, base, total, scope_at, address, IsScalarOf, IsValueOf, IsPath, IsPlaceIn, IsPlace, FitsActivation, Fits, IsStateOf}
use Rattle.ob_code_scheme.specs.WellFormed.{HasPosition}
use Rattle.ob_code_scheme.specs.Layout.{variable_words, word_of, word, flat, encoded, decoded}
use Rattle.ob_code_words.specs.Words.{Gives}
use Rattle.ob_code_words.specs.Effect.{word_at, put_at}
use Rattle.ob_code_scheme.specs.Image.{Scopes, all, position_words, store_words}

-- ---- how many words there are

-- of scopes alone: where the running position is, and where its words begin
pub record Based (scopes : Scopes) : Type 0 where
  pub count : length (all scopes) ≡ suc (suc (length scopes.lower))
  pub own_is : scope_at (all scopes) (suc (length scopes.lower)) ≡ scopes.own
  pub base_is : base (all scopes) (suc (length scopes.lower)) ≡ extent scopes.globals + total scopes.lower
  pub total_is : total (all scopes) ≡ extent scopes.globals + (total scopes.lower + extent scopes.own)

abbrev pub Bases : Type 0
Bases = (scopes : Scopes) → Based scopes

-- of a store that fits: the block has the words of the first scope, the stack those of the others, and together they are all
pub record Measured (scopes : Scopes) (store : Store) : Type 0 where
  pub count : running store ≡ suc (length scopes.lower)
  pub block : length (position_words (all scopes) (activation_at store 0)) ≡ extent scopes.globals
  pub stack : length (store_words (all scopes) (drop 1 store)) ≡ total scopes.lower + extent scopes.own
  pub parts : store_words (all scopes) store ≡ position_words (all scopes) (activation_at store 0) ++ store_words (all scopes) (drop 1 store)

abbrev pub Lengths : Type 0
Lengths = (scopes : Scopes) (store : Store) → Fits (all scopes) store → Measured scopes store

-- the same of any scopes: as many words as they have, and as many positions
abbrev pub TotalLengths : Type 0
TotalLengths =
    (scopes : List Scope) (store : Store) → Fits scopes store → (length (store_words scopes store) ≡ total scopes) × (length store ≡ length scopes)

-- of one activation
abbrev pub PositionLengths : Type 0
PositionLengths =
    (scopes : List Scope) (k : ℕ) (scope : Scope) (a : Activation) → FitsActivation scopes k scope a → (length (position_words scopes a) ≡ extent scope) × (length a ≡ length scope)

-- the words of a place lie within those of the scopes; so an address is no more than all words, and less where the place has words
abbrev pub Reaches : Type 0
Reaches =
    (scopes : List Scope) (place : Place) (type : DataType) → IsPlace scopes place type → address scopes place + words type ≤ total scopes

-- ---- a scalar place

-- its value is a scalar of its type, and the word at its address is that scalar's
pub record Looked (scopes : List Scope) (store : Store) (place : Place) (t : ScalarType) : Type 0 where
  pub value : Scalar
  pub value_is : value_at store place ≡ Single value
  pub typed : IsScalarOf t value
  pub below : address scopes place < length (store_words scopes store)
  pub word_is : slice_index_or (store_words scopes store) (address scopes place) (pos 0) ≡ word value

abbrev pub Looks : Type 0
Looks =
    (scopes : List Scope) (store : Store) (place : Place) (t : ScalarType) → Fits scopes store → IsPlace scopes place (Simple t) → Looked scopes store place t

-- a scalar of its type that is stored there changes this one word of them all, and the store fits again
pub record Changed (scopes : List Scope) (store : Store) (place : Place) (s : Scalar) : Type 0 where
  pub fits : Fits scopes (stored store place (Single s))
  pub words_are : store_words scopes (stored store place (Single s)) ≡ slice_set (store_words scopes store) (address scopes place) (word s)

abbrev pub Changes : Type 0
Changes =
    (scopes : List Scope) (store : Store) (place : Place) (t : ScalarType) (s : Scalar) → Fits scopes store → IsPlace scopes place (Simple t) → IsScalarOf t s →
    Changed scopes store place s

-- ---- a position that holds the place of others

-- the first word of position j of activation k
abbrev pub first_word : List Scope → (k j : ℕ) → ℕ
first_word scopes k j = base scopes k + word_in (scope_at scopes k) j

-- it refers to a place of its type, of an activation below, and its word is that place's address
pub record Referred (scopes : List Scope) (store : Store) (k j : ℕ) (type : DataType) : Type 0 where
  pub place : Place
  pub held_is : held_at (activation_at store k) j ≡ Refers place
  pub lower : place.activation < k
  pub is_place : IsPlace scopes place type
  pub below : first_word scopes k j < length (store_words scopes store)
  pub word_is : slice_index_or (store_words scopes store) (first_word scopes k j) (pos 0) ≡ pos (address scopes place)

abbrev pub Refer : Type 0
Refer =
    (scopes : List Scope) (store : Store) (k j : ℕ) (type : DataType) → Fits scopes store → space_at (scope_at scopes k) j ≡ Referring type → Referred scopes store k j type

-- ---- the place of a variable

-- of each variable it is a place of the variable's type. A store that fits has no VAR parameter among the module's variables
abbrev pub VariablePlaces : Type 0
VariablePlaces =
    (scopes : Scopes) (store : Store) (slot : Slot) → Fits (all scopes) store → HasPosition (scope_of scopes.globals scopes.own slot.owner) slot.position →
    IsPlace (all scopes) (place_of_slot store slot) (type_at (scope_of scopes.globals scopes.own slot.owner) slot.position)

-- the address of a variable of the module: a word of the block
abbrev pub GlobalAddresses : Type 0
GlobalAddresses =
    (scopes : Scopes) (store : Store) (position : ℕ) → address (all scopes) (place_owned OfModule store position) ≡ word_in scopes.globals position

-- the address of word w of the running procedure's frame
abbrev pub own_word : Scopes → ℕ → ℕ
own_word scopes position = extent scopes.globals + total scopes.lower + word_in scopes.own position

-- of an own variable, or of a value parameter
abbrev pub OwnAddresses : Type 0
OwnAddresses =
    (scopes : Scopes) (store : Store) (position : ℕ) (type : DataType) → Fits (all scopes) store →
    HasPosition scopes.own position → space_at scopes.own position ≡ Holding type →
    address (all scopes) (place_owned Own store position) ≡ own_word scopes position

-- of a VAR parameter the word is the address of the place that it stands for
pub record OwnReferred (scopes : Scopes) (store : Store) (position : ℕ) : Type 0 where
  pub below : own_word scopes position < length (store_words (all scopes) store)
  pub word_is : slice_index_or (store_words (all scopes) store) (own_word scopes position) (pos 0) ≡ pos (address (all scopes) (place_owned Own store position))

abbrev pub OwnReferences : Type 0
OwnReferences =
    (scopes : Scopes) (store : Store) (position : ℕ) (type : DataType) → Fits (all scopes) store → space_at scopes.own position ≡ Referring type → OwnReferred scopes store position

-- ---- a place further in

abbrev pub FurtherPlaces : Type 0
FurtherPlaces =
    (scopes : List Scope) (place : Place) (from to : DataType) (path : List ℕ) → IsPlace scopes place from → IsPath from path to → IsPlace scopes (further_in place path) to

abbrev pub FurtherAddresses : Type 0
FurtherAddresses =
    (scopes : List Scope) (place : Place) (from : DataType) (path : List ℕ) → IsPlace scopes place from →
    address scopes (further_in place path) ≡ address scopes place + inner from path

-- ---- a position more, and one less

-- the scopes where a procedure with this scope was called
abbrev pub entered : Scopes → Scope → Scopes
entered scopes own = record {
  globals = scopes.globals;
  lower = scopes.lower ++ scopes.own ∷ [];
  own = own;
}

-- places stay places, and keep their addresses
abbrev pub PlacesStay : Type 0
PlacesStay =
    (scopes : List Scope) (own : Scope) (place : Place) (type : DataType) → IsPlace scopes place type →
    IsPlace (scopes ++ own ∷ []) place type × (address (scopes ++ own ∷ []) place ≡ address scopes place)

-- a last activation that fits its scope: the block stays, and its words come behind those of the stack
pub record Grown (scopes : Scopes) (own : Scope) (store : Store) (a : Activation) : Type 0 where
  pub fits : Fits (all (entered scopes own)) (store ++ a ∷ [])
  pub block : position_words (all (entered scopes own)) (activation_at (store ++ a ∷ []) 0) ≡ position_words (all scopes) (activation_at store 0)
  pub stack : store_words (all (entered scopes own)) (drop 1 (store ++ a ∷ [])) ≡ store_words (all scopes) (drop 1 store) ++ position_words (all scopes) a

abbrev pub Grows : Type 0
Grows =
    (scopes : Scopes) (own : Scope) (store : Store) (a : Activation) → Fits (all scopes) store → FitsActivation (all scopes) (length (all scopes)) own a → Grown scopes own store a

-- without the last activation: the block stays, and the stack is cut where the last frame began
pub record Shrunk (scopes : Scopes) (own : Scope) (store : Store) : Type 0 where
  pub fits : Fits (all scopes) (take (pred (length store)) store)
  pub block : position_words (all scopes) (activation_at (take (pred (length store)) store) 0) ≡ position_words (all (entered scopes own)) (activation_at store 0)
  pub stack : store_words (all scopes) (drop 1 (take (pred (length store)) store)) ≡ take (total (entered scopes own).lower) (store_words (all (entered scopes own)) (drop 1 store))

abbrev pub Shrinks : Type 0
Shrinks =
    (scopes : Scopes) (own : Scope) (store : Store) → Fits (all (entered scopes own)) store → Shrunk scopes own store

-- ---- what variables begin as

abbrev pub InitialFits : Type 0
InitialFits =
    (type : DataType) → IsValueOf type (initial type) × (flat (initial type) ≡ replicate (words type) (pos 0))

-- variables at their beginning, behind what was handed over
abbrev pub BegunFits : Type 0
BegunFits =
    (scopes : List Scope) (k : ℕ) (scope : Scope) (handed : List Held) (variables : List Variable) → FitsActivation scopes k scope handed →
    FitsActivation scopes k (scope ++ variables_scope variables) (handed ++ begun variables)
    × (position_words scopes (handed ++ begun variables) ≡ position_words scopes handed ++ replicate (variable_words variables) (pos 0))

-- the results of a call from outside
abbrev pub ResultsFit : Type 0
ResultsFit =
    (scopes : List Scope) (k : ℕ) (parameters : List Parameter) →
    FitsActivation scopes k (results_scope parameters) (results_begun parameters)
    × (position_words scopes (results_begun parameters) ≡ replicate (extent (results_scope parameters)) (pos 0))

-- ---- states

-- a state is a first activation that fits, and its words are those of the state
abbrev pub StatesFit : Type 0
StatesFit =
    (scopes : List Scope) (variables : List Variable) (state : Activation) → IsStateOf variables state →
    FitsActivation scopes 0 (variables_scope variables) state × (position_words scopes state ≡ encoded state)

-- and the other way round
abbrev pub FirstIsState : Type 0
FirstIsState =
    (scopes : List Scope) (store : Store) (variables : List Variable) → Fits scopes store → scope_at scopes 0 ≡ variables_scope variables →
    IsStateOf variables (activation_at store 0) × (position_words scopes (activation_at store 0) ≡ encoded (activation_at store 0))

abbrev pub Encodes : Type 0
Encodes =
    (variables : List Variable) (state : Activation) → IsStateOf variables state →
    Fits (variables_scope variables ∷ []) (state ∷ []) × (store_words (variables_scope variables ∷ []) (state ∷ []) ≡ encoded state)

abbrev pub EncodedLengths : Type 0
EncodedLengths =
    (variables : List Variable) (state : Activation) → IsStateOf variables state → length (encoded state) ≡ variable_words variables

-- a state is read back from its words
abbrev pub DecodesEncoded : Type 0
DecodesEncoded =
    (variables : List Variable) (state : Activation) → IsStateOf variables state → decoded variables (encoded state) ≡ Some state

-- what is read is a state, and the words were its own
abbrev pub EncodesDecoded : Type 0
EncodesDecoded =
    (variables : List Variable) (ws : List ℤ) (state : Activation) → decoded variables ws ≡ Some state → IsStateOf variables state × (encoded state ≡ ws)

-- ---- places of the module that don't overlap share no word

-- one path begins with the other
abbrev pub Begins : (whole start : List ℕ) → Type 0
Begins whole [] = Unit {0}
Begins [] (i ∷ start) = ⊥
Begins (j ∷ whole) (i ∷ start) = (j ≡ i) × Begins whole start

-- the first word of a part of a variable
abbrev pub part_word : List Variable → ℕ → List ℕ → ℕ
part_word variables position path =
    word_of variables position + inner (type_at (variables_scope variables) position) path

-- parts of two variables, or of one where neither is within the other
abbrev pub PlacesApart : Type 0
PlacesApart =
    (variables : List Variable) (m n : ℕ) (p q : List ℕ) (s t : DataType) →
    IsPlaceIn (variables_scope variables) m p s → IsPlaceIn (variables_scope variables) n q t →
    (m ≡ n → Begins p q → ⊥) → (m ≡ n → Begins q p → ⊥) →
    (x y : ℕ) → x < words s → y < words t → part_word variables m p + x ≢ part_word variables n q + y

-- ---- what the machine reads and writes where block and stack are these words, below the temporaries

abbrev pub WordAt : Type 0
WordAt =
    (block stack temps : List ℤ) (a : ℕ) → a < length (block ++ stack) → word_at block (stack ++ temps) (pos a) ≡ Gives (slice_index_or (block ++ stack) a (pos 0))

abbrev pub PutAt : Type 0
PutAt =
    (block stack temps after_block after_stack : List ℤ) (a : ℕ) (w : ℤ) → a < length (block ++ stack) →
    length after_block ≡ length block → after_block ++ after_stack ≡ slice_set (block ++ stack) a w →
    put_at block (stack ++ temps) (pos a) w ≡ Gives (after_block, after_stack ++ temps)

-- ---- all of it

pub record MemoryHolds : Type 0 where
  pub bases : Bases
  pub lengths : Lengths
  pub total_lengths : TotalLengths
  pub position_lengths : PositionLengths
  pub reaches : Reaches
  pub looks : Looks
  pub changes : Changes
  pub refer : Refer
  pub variable_places : VariablePlaces
  pub global_addresses : GlobalAddresses
  pub own_addresses : OwnAddresses
  pub own_references : OwnReferences
  pub further_places : FurtherPlaces
  pub further_addresses : FurtherAddresses
  pub places_stay : PlacesStay
  pub grows : Grows
  pub shrinks : Shrinks
  pub initial_fits : InitialFits
  pub begun_fits : BegunFits
  pub results_fit : ResultsFit
  pub states_fit : StatesFit
  pub first_is_state : FirstIsState
  pub encodes : Encodes
  pub encoded_lengths : EncodedLengths
  pub decodes_encoded : DecodesEncoded
  pub encodes_decoded : EncodesDecoded
  pub places_apart : PlacesApart
  pub word_at : WordAt
  pub put_at : PutAt
